-- Laws of the numbers.
--
--   no-some  ==  what a match tells of a no: its number is not 0
--   handed-as, handed-on  ==  what `?` hands on is the no, and has its number
--   no-is, yes-is  ==  what a match tells: the number that a contract speaks of
use Rattle.std.proofs.Common.{Result, Ok, Err}
use Rattle.std.specs.Result.{IsErr, IsErrAnd}
use mathlib.Core.Path.{◌≡◌, sym, ap, ◌∙◌}
use Prim.Native.Nat.{ℕ}
use native.Mathlib.Omega.{arith}
use Rattle.refusals.specs.declared.Refusal.{Refusal}
use Rattle.refusals.specs.declared.Refusal.TheVariants.{Rows, Columns, Top, Capacity, Layout, Length, Cell, Bounds, Full, NotHeld, TerminalRows, Client, Holding}
use Rattle.refusals.specs.Numbers.{refusal_number, asked_number}

refusal-some : (x : Refusal) → refusal_number x ≡ 0 → ⊥
refusal-some Rows e = omega arith
refusal-some Columns e = omega arith
refusal-some Top e = omega arith
refusal-some Capacity e = omega arith
refusal-some Layout e = omega arith
refusal-some Length e = omega arith
refusal-some Cell e = omega arith
refusal-some Bounds e = omega arith
refusal-some Full e = omega arith
refusal-some NotHeld e = omega arith
refusal-some TerminalRows e = omega arith
refusal-some Client e = omega arith
refusal-some Holding e = omega arith

-- what `?` hands on
pub handed-as : {A : Type 0} (P : Result A Refusal → Type 0) (r : Result A Refusal) (x : Refusal) → IsErr r × IsErrAnd r (λ y. y ≡ x) → P (Err x) → P r
handed-as P (Ok y) x h p = absurd h.1
handed-as P (Err y) x h p = rw h.1 p

pub handed-on : {A : Type 0} (r : Result A Refusal) (x : Refusal) {k : ℕ} → IsErr r × IsErrAnd r (λ y. y ≡ x) → refusal_number x ≡ k → asked_number r ≡ k
handed-on (Ok y) x h e = absurd h.1
handed-on (Err y) x h e = ap refusal_number h.1 ∙ e

module _ {A : Type 0} {a : Result A Refusal} where
  pub no-is : {x : Refusal} {k : ℕ} → a ≡ Err x → asked_number a ≡ k → refusal_number x ≡ k
  no-is d e = sym (ap asked_number d) ∙ e

  pub yes-is : {y : A} {k : ℕ} → a ≡ Ok y → asked_number a ≡ k → 0 ≡ k
  yes-is d e = sym (ap asked_number d) ∙ e

  pub no-some : {x : Refusal} → a ≡ Err x → refusal_number x ≡ 0 → ⊥
  no-some {x = x} d = refusal-some x
