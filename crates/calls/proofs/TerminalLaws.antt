-- A terminal's enter: where question 14 gets a yes it is enter; elsewhere it is refused, by 5 or by 14.
--
--   terminal-entered   ==  where question 14 gets a yes, a terminal's enter answers and leaves what enter does
--   unlaid-terminal-entered, no-terminal-entered, terminal-entered-many  ==  bytes that are not laid out are refused by 5; a register of 6 to 8 rows is by 14
--   terminal-cases     ==  what holds of enter's outcome and of these two refusals holds of its outcome
--   terminal-entered-refused  ==  where a question gets a no, it answers the number, and nothing changes
--   terminal-entered-length  ==  the slice keeps its length
use mathlib.Core.Path.{◌≡◌, refl, sym, ap, subst}
use mathlib.Core.List.{List}
use mathlib.Core.Bool.{true, false}
use mathlib.Core.Logic.{◌⊎◌, inl, inr}
use Prim.Native.Nat.{ℕ, suc, ◌≤◌}
use lib.ListN.{length}
use Rattle.permutations.proofs.BoolLaws.{yes_or_no}
use Rattle.grids.specs.Questions.{first_no, question14}
use Rattle.grids.proofs.TerminalLaws.{after-yes, after-no, after_stop, many-rows}
use Rattle.layout.specs.Layout.{decode, laid_out}
use Rattle.calls.specs.Entries.{least_in}
use Rattle.calls.specs.Calls.{Outcome, refusal, answered, question5, enter_into, enter_questions, enter_register, entered, terminal_enter_questions, terminal_enter_register, terminal_entered}
use Rattle.calls.proofs.RefusalLaws.{answered-refused}
use Rattle.calls.proofs.CallLaws.{entered-length}

module _ (b : List ℕ) (c : ℕ) (g : List ℕ) where
  pub terminal-entered : (question14 (decode b).shape.rows).answer ≡ true → terminal_entered b c g ≡ entered b c g
  unfolding terminal_entered terminal_enter_register terminal_enter_questions entered enter_register
  terminal-entered e = ap (λ (k : ℕ). answered k b (enter_into (decode b) c (least_in (decode b).shape g))) (after-yes _ (enter_questions b (decode b) c g (least_in (decode b).shape g)) e)

  pub terminal-entered-refused : (k : ℕ) → first_no (terminal_enter_questions b (decode b) c g (least_in (decode b).shape g)) ≡ suc k → terminal_entered b c g ≡ refusal (suc k) b
  unfolding terminal_entered terminal_enter_register
  terminal-entered-refused k e = answered-refused _ k b _ e

  pub unlaid-terminal-entered : laid_out b ≡ false → terminal_entered b c g ≡ refusal 5 b
  unfolding terminal_enter_questions enter_questions question5
  unlaid-terminal-entered e = terminal-entered-refused 4 (after_stop _ (question5 b) _ e)

  pub no-terminal-entered : laid_out b ≡ true → (question14 (decode b).shape.rows).answer ≡ false → terminal_entered b c g ≡ refusal 14 b
  unfolding terminal_enter_questions enter_questions question5 question14
  no-terminal-entered e h = terminal-entered-refused 13 (after-no _ (question5 b) _ e h)

  pub terminal-entered-many : laid_out b ≡ true → 6 ≤ (decode b).shape.rows → (decode b).shape.rows ≤ 8 → terminal_entered b c g ≡ refusal 14 b
  terminal-entered-many e x y = no-terminal-entered e (many-rows _ x y)

  pub terminal-cases : (P : Outcome → Type 0) → P (entered b c g) → P (refusal 5 b) → P (refusal 14 b) → P (terminal_entered b c g)
  terminal-cases P p x y = go (yes_or_no (question14 (decode b).shape.rows).answer) (yes_or_no (laid_out b))
    where
      go : ((question14 (decode b).shape.rows).answer ≡ true) ⊎ ((question14 (decode b).shape.rows).answer ≡ false) → (laid_out b ≡ true) ⊎ (laid_out b ≡ false) → P (terminal_entered b c g)
      go (inl e) l = subst P (sym (terminal-entered e)) p
      go (inr h) (inl e) = subst P (sym (no-terminal-entered e h)) y
      go (inr h) (inr e) = subst P (sym (unlaid-terminal-entered e)) x

  pub terminal-entered-length : length (terminal_entered b c g).bytes ≡ length b
  terminal-entered-length = terminal-cases (λ o. length o.bytes ≡ length b) (entered-length b c g) refl refl
