-- What prune answers, on all arguments.
--
--   PruneCase m n top low high, prune-case  ==  what prune finds: a question gets a no, some grid in the bounds has allperm, or none has
--   prune-pass         ==  every question gets a yes exactly for bounds within the limits
--   prune-small        ==  the first no is at most 8
--   prune-asked        ==  within the limits it is that of questions 6, 7 and 8
--   some-decides       ==  the test of some grid in the bounds with allperm decides it
--   pruned-refused     ==  where one gets a no: its number, count 0, and the slices as sent
--   pruned-some        ==  where some grid in the bounds has allperm: 0, the values removed, and the new bounds
--   pruned-none        ==  where none has it: 102, count 0, and the slices as sent
--   says_some, says_none  ==  prune's number is 0 where every question gets a yes and some grid in the bounds has allperm, 102 where none has
--   pruned-is-bounds   ==  bounds that prune leaves with 0 are bounds
--   prunes             ==  the outcome determined meets prune's contract
--   bounds-bytes       ==  bounds within the limits are bytes
--   prune-exact        ==  demand 2's sentence on prune, of every program that meets its contract
--   prunes-refused     ==  what meets it refuses so
--   prune-one-row      ==  with one row nothing is removed
--   least-same-bounds  ==  a least grid lies in the new bounds exactly if it lies in the old
--   none-in-bounds     ==  where no grid in the bounds has allperm, no grid with allperm lies in them
use mathlib.Core.Path.{◌≡◌, refl, ap, ◌∙◌}
use mathlib.Core.List.{List}
use mathlib.Core.Bool.{true, false}
use mathlib.Core.Logic.{◌↔◌}
use Prim.Native.Nat.{ℕ, zero, suc, ◌*◌, ◌≤◌, ◌<◌}
use native.Mathlib.Omega.{arith}
use lib.Dec.{ltb}
use Rattle.permutations.proofs.BoolLaws.{decided, refuted}
use Rattle.grids.specs.Questions.{first_no, Limits, question1, question2, question3, question6, question7}
use Rattle.grids.specs.Least.{IsLeast}
use Rattle.grids.proofs.QuestionLaws.{Numbered, first_no-has, first-no-zero, limits-asked, limits-pass}
use Rattle.grids.specs.Lent.{Bytes}
use Rattle.grids.proofs.LentLaws.{limits-few, capped-bytes, limits-lent}
use Rattle.bounds.specs.Bounds.{IsBounds, in_bounds}
use Rattle.bounds.specs.Kept.{Obeyed, obeyed, kept_low, kept_high, removed}
use Rattle.bounds.specs.Allperm.{Allperm, allperm}
use Rattle.bounds.specs.Prune.{Pruned, pruned_to, question8, bounds_questions, prune_questions, pruned_yes, pruned}
use Rattle.bounds.specs.Demand2.{Exact, PruneProgram, PruneExact, Prunes, MeetsPrune}
use Rattle.bounds.proofs.BoundsLaws.{in_bounds-decides, bounds-asked, bounds-numbered}
use Rattle.bounds.proofs.KeptLaws.{length-kept_low, length-kept_high, obeyed-decides, obeyed-ends, kept-is-bounds, pruned-same, all-kept}
use Rattle.bounds.proofs.Extremal.{obeyed-extremal, kept-extremal, kept-exactly}
use Rattle.bounds.proofs.AllpermLaws.{allperm-decides, allperm-directed, allperm-one-row, least-allperm}

-- what prune finds: a question gets a no, some grid in the bounds has allperm, or none has
pub data PruneCase (m n top : ℕ) (low high : List ℕ) : Type 0 where
  refused : (k : ℕ) → first_no (prune_questions m n top low high) ≡ suc k → PruneCase m n top low high
  some : first_no (prune_questions m n top low high) ≡ 0 → Obeyed (Allperm m n) (m * n) top low high → PruneCase m n top low high
  none : first_no (prune_questions m n top low high) ≡ 0 → (Obeyed (Allperm m n) (m * n) top low high → ⊥) → PruneCase m n top low high

module _ (m n top : ℕ) (low high : List ℕ) where
  prune-numbered : Numbered (prune_questions m n top low high)
  unfolding question1 question2 question3
  prune-numbered = (omega arith, (omega arith, (omega arith, bounds-numbered (m * n) top low high)))

  -- every question gets a yes exactly for bounds within the limits
  pub prune-pass : (first_no (prune_questions m n top low high) ≡ 0) ↔ (Limits m n top × IsBounds (m * n) top low high)
  prune-pass =
      let z = first-no-zero (prune_questions m n top low high) prune-numbered in
      let l = limits-asked m n top (bounds_questions (m * n) top low high) in
      let b = bounds-asked (m * n) top low high in
      (λ e. let h = l.0 (z.0 e) in (h.0, b.0 h.1), λ h. z.1 (l.1 (h.0, b.1 h.1)))

  pub prune-small : first_no (prune_questions m n top low high) ≤ 8
  unfolding question1 question2 question3 bounds_questions question6 question7 question8
  prune-small =
      first_no-has (λ k. k ≤ 8) (prune_questions m n top low high) (omega arith) (omega arith, (omega arith, (omega arith, (omega arith, (omega arith, (omega arith, tt))))))

  pub prune-asked : Limits m n top → first_no (prune_questions m n top low high) ≡ first_no (bounds_questions (m * n) top low high)
  prune-asked l = limits-pass m n top (bounds_questions (m * n) top low high) l

  asked-bounds : first_no (prune_questions m n top low high) ≡ 0 → IsBounds (m * n) top low high
  asked-bounds e = (prune-pass.0 e).1

  pub some-decides : (obeyed (allperm m n) (m * n) top low high ≡ true) ↔ Obeyed (Allperm m n) (m * n) top low high
  some-decides = obeyed-decides (Allperm m n) (allperm m n) (allperm-decides m n) (m * n) top low high

  pub prune-case : PruneCase m n top low high
  prune-case = go (first_no (prune_questions m n top low high)) refl
    where
      asked : first_no (prune_questions m n top low high) ≡ 0 → Dec (Obeyed (Allperm m n) (m * n) top low high) → PruneCase m n top low high
      asked e (yes o) = some e o
      asked e (no h) = none e h

      go : (k : ℕ) → first_no (prune_questions m n top low high) ≡ k → PruneCase m n top low high
      go zero e = asked e (decided (obeyed (allperm m n) (m * n) top low high) some-decides)
      go (suc k) e = refused k e

  pruned_yes-some : obeyed (allperm m n) (m * n) top low high ≡ true →
      pruned_yes m n top low high ≡ record {
        number = 0;
        count = removed (allperm m n) (m * n) top low high;
        low = kept_low (allperm m n) (m * n) top low high;
        high = kept_high (allperm m n) (m * n) top low high;
      }
  unfolding pruned_yes
  pruned_yes-some t = rw (t, pruned_yes)

  pruned_yes-none : obeyed (allperm m n) (m * n) top low high ≡ false → pruned_yes m n top low high ≡ record { number = 102; count = 0; low = low; high = high }
  unfolding pruned_yes
  pruned_yes-none t = rw (t, pruned_yes)

  pub pruned-refused : (k : ℕ) → first_no (prune_questions m n top low high) ≡ suc k → pruned m n top low high ≡ record { number = suc k; count = 0; low = low; high = high }
  unfolding pruned
  pruned-refused k e = rw (e, pruned)

  module _ (e : first_no (prune_questions m n top low high) ≡ 0) where
    pub pruned-some : Obeyed (Allperm m n) (m * n) top low high →
        pruned m n top low high ≡ record {
          number = 0;
          count = removed (allperm m n) (m * n) top low high;
          low = kept_low (allperm m n) (m * n) top low high;
          high = kept_high (allperm m n) (m * n) top low high;
        }
    unfolding pruned
    pruned-some o = rw (e, pruned) (pruned_yes-some (some-decides.1 o))

    pub pruned-none : (Obeyed (Allperm m n) (m * n) top low high → ⊥) → pruned m n top low high ≡ record { number = 102; count = 0; low = low; high = high }
    unfolding pruned
    pruned-none h = rw (e, pruned) (pruned_yes-none (refuted _ some-decides h))

    exactly : Exact m n top low high (pruned m n top low high)
    exactly = record {
      some = λ o.
          rw (pruned-some o)
          (record {
            number_is = refl;
            low-size = length-kept_low (allperm m n) (m * n) top low high;
            high-size = length-kept_high (allperm m n) (m * n) top low high;
            exact = kept-exactly (Allperm m n) (λ k. ltb k n) (m * n) (allperm-directed m n) top low high (asked-bounds e) (allperm m n) (allperm-decides m n) o;
            ends = λ k b. let d = obeyed-ends (Allperm m n) (allperm m n) (allperm-decides m n) (m * n) top low high o k b in (d.low-kept, d.high-kept);
            counts = refl;
          });
      none = λ h. rw (pruned-none h) (record { number_is = refl; counts = refl; low-kept = refl; high-kept = refl });
    }

  -- prune says 0 where some grid in the bounds has allperm, 102 where none has, and else the number of a question
  pub says_some : (pruned m n top low high).number ≡ 0 → (first_no (prune_questions m n top low high) ≡ 0) × Obeyed (Allperm m n) (m * n) top low high
  says_some z = go prune-case
    where
      go : PruneCase m n top low high → (first_no (prune_questions m n top low high) ≡ 0) × Obeyed (Allperm m n) (m * n) top low high
      go (refused k e) = absurd (omega (arith, ap (λ (p : Pruned). p.number) (pruned-refused k e)))
      go (some e o) = (e, o)
      go (none e h) = absurd (omega (arith, ap (λ (p : Pruned). p.number) (pruned-none e h)))

  pub says_none : (pruned m n top low high).number ≡ 102 → (first_no (prune_questions m n top low high) ≡ 0) × (Obeyed (Allperm m n) (m * n) top low high → ⊥)
  says_none z = go prune-case
    where
      go : PruneCase m n top low high → (first_no (prune_questions m n top low high) ≡ 0) × (Obeyed (Allperm m n) (m * n) top low high → ⊥)
      go (refused k e) = absurd (omega (arith, ap (λ (p : Pruned). p.number) (pruned-refused k e), prune-small))
      go (some e o) = absurd (omega (arith, ap (λ (p : Pruned). p.number) (pruned-some e o)))
      go (none e h) = (e, h)

  pub pruned-is-bounds : (pruned m n top low high).number ≡ 0 → IsBounds (m * n) top (pruned m n top low high).low (pruned m n top low high).high
  pruned-is-bounds z =
      let w = says_some z in
      rw (pruned-some w.0 w.1) (kept-is-bounds (Allperm m n) (allperm m n) (allperm-decides m n) (m * n) top low high w.1)

  pub least-same-bounds : Obeyed (Allperm m n) (m * n) top low high → (g r : List ℕ) → IsLeast m n g r →
      in_bounds (m * n) top (kept_low (allperm m n) (m * n) top low high) (kept_high (allperm m n) (m * n) top low high) r ≡ in_bounds (m * n) top low high r
  least-same-bounds o g r l = pruned-same (Allperm m n) (allperm m n) (allperm-decides m n) (m * n) top low high o r (least-allperm m n g r l)

  pub none-in-bounds : (Obeyed (Allperm m n) (m * n) top low high → ⊥) → (r : List ℕ) → Allperm m n r → in_bounds (m * n) top low high r ≡ true → ⊥
  none-in-bounds h r a t = h (record { example = r; inside = (in_bounds-decides (m * n) top low high r).0 t; obeys = a })

pub prunes : (m n top : ℕ) (low high : List ℕ) (r : Pruned) → r ≡ pruned m n top low high → Prunes m n top low high r
prunes m n top low high r e = record { determined = e; exactly = λ l b. rw e (exactly m n top low high ((prune-pass m n top low high).1 (l, b))) }

pub bounds-bytes : (m n top : ℕ) (low high : List ℕ) → Limits m n top → IsBounds (m * n) top low high → Bytes low × Bytes high
bounds-bytes m n top low high l b =
    let few : m * n < 10000000 = omega (arith, limits-few m n top l) in
    (capped-bytes (m * n) top low few (omega (arith, l.top-limit)) b.low-size b.low-cap, capped-bytes (m * n) top high few (omega (arith, l.top-limit)) b.high-size b.high-cap)

pub prune-exact : (f : PruneProgram) → MeetsPrune f → PruneExact f
unfolding PruneExact MeetsPrune
prune-exact f c m n top low high l b =
    let w = bounds-bytes m n top low high l b in
    (c m n top low high (limits-lent m n top low high l w.0 w.1)).exactly l b

pub prune-one-row : (n top : ℕ) (low high : List ℕ) → first_no (prune_questions 1 n top low high) ≡ 0 →
    pruned 1 n top low high ≡ record { number = 0; count = 0; low = low; high = high }
prune-one-row n top low high e =
    let ok = asked-bounds 1 n top low high e in
    let o = (obeyed-extremal (Allperm 1 n) (λ k. ltb k n) (1 * n) (allperm-directed 1 n) top low high ok).1 (allperm-one-row n _) in
    let same = all-kept (Allperm 1 n) (allperm 1 n) (allperm-decides 1 n) (1 * n) top low high ok λ k v b f.
    (kept-extremal (Allperm 1 n) (λ k. ltb k n) (1 * n) (allperm-directed 1 n) top low high ok k v b).1 (f.0, f.1, f.2, allperm-one-row n _) in
    pruned-some 1 n top low high e o ∙ rw (same.0, same.1, same.2)

pub prunes-refused : (m n top : ℕ) (low high : List ℕ) (r : Pruned) → Prunes m n top low high r → (k : ℕ) → first_no (prune_questions m n top low high) ≡ suc k →
    r ≡ pruned_to (suc k) 0 low high
prunes-refused m n top low high r p k e = p.determined ∙ pruned-refused m n top low high k e
