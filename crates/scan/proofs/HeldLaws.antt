-- The holdings of a line, as the loop over them finds them.
--
--   HeldTo b at k laid none  ==  laid says whether the first k fields from `at` on are laid out, none whether they end as those of 0 do
--   held_start, held_next    ==  of no field, and of one more
--   held-decides             ==  at the end: the holdings are laid out
use mathlib.Core.Path.{◌≡◌, refl, sym, ap, ◌∙◌}
use mathlib.Core.List.{List}
use mathlib.Core.Bool.{Bool, true, true≢false, not, ◌&&◌}
use mathlib.Core.Logic.{◌↔◌}
use Prim.Native.Nat.{ℕ, ◌+◌, ◌*◌, ◌<◌}
use native.Mathlib.Omega.{arith}
use borrow.Author.Count.{below_more}
use borrow.Author.Tests.{not-true}
use lib.ListN.{get_or}
use Rattle.permutations.proofs.BoolLaws.{and_yes, yes_and, refuted}
use Rattle.layout.specs.Layout.{clients}
use Rattle.scan.specs.Holdings.{HoldingBytes, NoneBytes, HoldingsLaid, is_holding, is_none}
use Rattle.scan.proofs.HoldingLaws.{holding-decides, none-decides}

pub record HeldTo (b : List ℕ) (at k : ℕ) (laid none : Bool) : Type 0 where
  pub all_laid : (laid ≡ true) ↔ ((i : ℕ) → i < k → HoldingBytes (get_or b (at + 3 * i) 0) (get_or b (at + 3 * i + 1) 0) (get_or b (at + 3 * i + 2) 0))
  pub all_none : (none ≡ true) ↔ ((i : ℕ) → i < k → NoneBytes (get_or b (at + 3 * i + 1) 0) (get_or b (at + 3 * i + 2) 0))

-- a test of what holds below k, and one of what holds at k
one_more : (P : ℕ → Type 0) {k : ℕ} {r s q : Bool} → (r ≡ true) ↔ ((i : ℕ) → i < k → P i) → (s ≡ true) ↔ P k → q ≡ (r && s) → (q ≡ true) ↔ ((i : ℕ) → i < k + 1 → P i)
one_more P {k} {r} {s} d e f = (
  λ y. let p = and_yes r s (sym f ∙ y) in below_more P k (d.0 p.0) (e.0 p.1),
  λ p. f ∙ yes_and r s (d.1 (λ i h. p i (omega arith))) (e.1 (p k (omega arith))),
)

pub held_start : (b : List ℕ) (at : ℕ) → HeldTo b at 0 true true
held_start b at = record { all_laid = (λ e i h. absurd (omega arith), λ p. refl); all_none = (λ e i h. absurd (omega arith), λ p. refl) }

module _ {b : List ℕ} {at k : ℕ} {laid none : Bool} (h : HeldTo b at k laid none) where
  pub held_next : ((i : ℕ) → get_or b i 0 < 256) → {l n : Bool} → l ≡ (laid && is_holding (get_or b (at + 3 * k) 0) (get_or b (at + 3 * k + 1) 0) (get_or b (at + 3 * k + 2) 0)) →
      n ≡ (none && is_none (get_or b (at + 3 * k + 1) 0) (get_or b (at + 3 * k + 2) 0)) → HeldTo b at (k + 1) l n
  held_next low e f = record {
    all_laid = one_more (λ i. HoldingBytes (get_or b (at + 3 * i) 0) (get_or b (at + 3 * i + 1) 0) (get_or b (at + 3 * i + 2) 0)) h.all_laid (holding-decides _ _ _ (low _) (low _) (low _)) e;
    all_none = one_more (λ i. NoneBytes (get_or b (at + 3 * i + 1) 0) (get_or b (at + 3 * i + 2) 0)) h.all_none (none-decides _ _) f;
  }

  pub held-decides : k ≡ clients → ((laid && not none) ≡ true) ↔ HoldingsLaid b at
  held-decides z = (to, back)
    where
      to : (laid && not none) ≡ true → HoldingsLaid b at
      to e =
          let p = and_yes laid (not none) e in
          record {
            fields_laid = λ i c. h.all_laid.0 p.0 i (omega arith);
            some-held = λ a. true≢false (sym (h.all_none.1 (λ i c. a i (omega arith))) ∙ not-true none p.1);
          }

      back : HoldingsLaid b at → (laid && not none) ≡ true
      back w =
          yes_and laid (not none) (h.all_laid.1 (λ i c. w.fields_laid i (omega arith)))
          (ap not (refuted none h.all_none (λ a. w.some-held (λ i c. a i (omega arith)))))
