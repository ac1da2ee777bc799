-- What the code of prune finds, and what it answers from it.
--
--   order-fails, order-holds  ==  a further low and high are not in order, or are
--   Spans a b s          ==  s is the number of values that rank within a to b
--   span_counts          ==  it is counted by the numbers a and b
--   removed-at-first     ==  no cell, no value removed
--   span-falls, cell-removed  ==  of the spans of a cell, the old and the new: the difference, and the values removed with one cell more
-- The first no of two bounds:
--   InOrder low high     ==  each low is at most its high
--   bounds-lengths-no, bounds-cells-no, bounds-order-no  ==  those before get a yes, this one a no: 6, 7, 8
--   bounds-yes           ==  each gets a yes
-- The answers of prune:
--   prune-limits-no, prune-bounds-no  ==  a question gets a no: one of 1 to 3, one of 6 to 8
--   prune-yes, prune-passed  ==  no question gets a no
--   refused-as           ==  what `?` hands on is the refusal
--   prune-size           ==  past the questions: there are at most 128 cells
--   narrow-ready         ==  the arguments fit narrow
--   prune-none           ==  narrow says no: 102
--   Wrote m n top low high low' high'  ==  narrow says yes, and has written low' and high'
--   sizes-fit, removed-ready  ==  what it wrote fits the calls after it
--   prune-some           ==  with the values removed and the new bounds: 0
use Rattle.std.proofs.Common.{Result, Ok, Err}
use Rattle.std.specs.Result.{IsErr, IsErrAnd}
use Rattle.refusals.specs.declared.Refusal.{Refusal}
use Rattle.refusals.specs.Numbers.{asked_number}
use Rattle.refusals.proofs.NumberLaws.{yes-is}
use Rattle.grids.proofs.QuestionSteps.{passed}
use Rattle.bounds.specs.declared.prune.NotPruned.{NotPruned}
use Rattle.bounds.specs.declared.prune.NotPruned.TheVariants.{Refused}
use mathlib.Core.Path.{◌≡◌, refl, sym, ap, ◌∙◌}
use mathlib.Core.List.Memᴰ
use mathlib.Core.List.{List, [], ◌∷◌, foldr}
use mathlib.Core.Bool.{Bool, true, false, ◌&&◌, and-true}
use mathlib.Core.Logic.{◌↔◌}
use Prim.Native.Nat.{ℕ, zero, suc, ◌+◌, ◌*◌, ◌-◌, ◌≤◌, ◌<◌}
use native.Mathlib.Decide.{dec_lt}
use native.Mathlib.Nat.{add-zero, zero-add}
use native.Mathlib.Numerals.{add-one}
use native.Mathlib.Omega.{arith}
use lib.ListN.{length, get_or}
use lib.Dec.{leb}
use borrow.Author.Tests.{leb-true, le-leb}
use Rattle.permutations.specs.Lists.{tabulate, numbers, select}
use Rattle.permutations.proofs.BoolLaws.{and_yes, refuted}
use Rattle.permutations.proofs.ListLaws.{length-numbers}
use Rattle.permutations.proofs.SelectLaws.{select_yes, select_no, length-select}
use Rattle.grids.specs.Order.{rank}
use Rattle.grids.specs.Asked.{limits_no}
use Rattle.grids.specs.Questions.{first_no, Limits, question6, question7}
use Rattle.grids.proofs.QuestionLaws.{first_no-pass, first_no-stop, all_two, lengths-asked, limits-refuse, size_fits}
use Rattle.bounds.specs.Bounds.{IsBounds, ranks_within, between}
use Rattle.bounds.specs.Kept.{Obeyed, kept_low, kept_high, removed}
use Rattle.bounds.specs.Allperm.{Allperm, allperm}
use Rattle.bounds.specs.Rows.{cell_at, Values}
use Rattle.bounds.specs.Narrowed.{row_of, AllLead, Narrowed, NarrowOutcome, NarrowSizes, Inside, removed_by}
use Rattle.bounds.specs.Prune.{question8, bounds_questions, prune_questions, pruned_to}
use Rattle.bounds.specs.Demand2.{Prunes}
use Rattle.bounds.proofs.BoundsLaws.{bounds-wider, order-asked, ranks-within, between-fewer}
use Rattle.bounds.proofs.PruneLaws.{prune-pass, prune-asked, pruned-refused, pruned-some, pruned-none, prunes}
use Rattle.bounds.proofs.NarrowedLaws.{narrowed-obeyed, narrowed_low, narrowed-high, narrowed-inside, narrowed-removed}

-- ---- what `?` hands on

pub refused-as : (P : Result ℕ NotPruned → Type 0) (r : Result ℕ NotPruned) (x : Refusal) → IsErr r × IsErrAnd r (λ y. y ≡ Refused x) → P (Err (Refused x)) → P r
refused-as P (Ok y) x h p = absurd h.1
refused-as P (Err y) x h p = rw h.1 p

-- ---- question 8

pub order-fails : (b : Bool) (x y : ℕ) → y < x → false ≡ (b && leb x y)
order-fails b x y h = sym (refuted (b && leb x y) (λ e. leb-true x y (and_yes b (leb x y) e).1, λ k. absurd (omega arith)) (λ k. omega arith))

pub order-holds : (b : Bool) (x y : ℕ) → x ≤ y → b ≡ (b && leb x y)
order-holds b x y h = rw (le-leb x y h) (sym (and-true b))

-- ---- the values between two bounds

-- values rank by their numbers; only the span says so
rank-number : (a b : ℕ) → (rank a ≤ rank b) ↔ (a ≤ b)
unfolding rank
rank-number a b = (λ h. h, λ h. h)

module _ (a b : ℕ) where
  number-within : (v : ℕ) → (ranks_within a b v ≡ true) ↔ ((a ≤ v) × (v ≤ b))
  number-within v = (
    λ t. let w = (ranks-within a b v).0 t in ((rank-number a v).0 w.0, (rank-number v b).0 w.1),
    λ h. (ranks-within a b v).1 ((rank-number a v).1 h.0, (rank-number v b).1 h.1),
  )

  -- of the n numbers from s on, those that rank within a to b
  abbrev Count : ℕ → ℕ → ℕ → Type 0
  Count s n c = length (select (ranks_within a b) (tabulate s n (λ i. i))) ≡ c

  count_yes : (s n c : ℕ) → a ≤ s → s ≤ b → Count (suc s) n c → Count s (suc n) (suc c)
  unfolding tabulate
  count_yes s n c h k e = ap length (select_yes (ranks_within a b) s (tabulate (suc s) n (λ i. i)) ((number-within s).1 (h, k))) ∙ ap suc e

  count_no : (s n c : ℕ) → ((a ≤ s) × (s ≤ b) → ⊥) → Count (suc s) n c → Count s (suc n) c
  unfolding tabulate
  count_no s n c h e =
      ap length (select_no (ranks_within a b) s (tabulate (suc s) n (λ i. i)) (refuted (ranks_within a b s) (number-within s) h)) ∙ e

  -- from a on, and from before a on
  count-rest : (s n : ℕ) → a ≤ s → b < s + n → Count s n (b + 1 - s)
  unfolding tabulate select
  count-rest s zero h k = omega arith
  count-rest s (suc n) h k = go (dec_lt b s) (count-rest (suc s) n (omega arith) (omega arith))
    where
      go : Dec (b < s) → Count (suc s) n (b + 1 - suc s) → Count s (suc n) (b + 1 - s)
      go (yes l) e = let z : b + 1 - suc s ≡ b + 1 - s = omega arith in count_no s n (b + 1 - s) (λ w. omega arith) (e ∙ z)
      go (no l) e = let z : suc (b + 1 - suc s) ≡ b + 1 - s = omega arith in count_yes s n (b + 1 - suc s) h (omega arith) e ∙ z

  count-all : (s n : ℕ) → s ≤ a → a ≤ b → b < s + n → Count s n (b + 1 - a)
  count-all s zero h ab k = absurd (omega arith)
  count-all s (suc n) h ab k = go (dec_lt s a) (count-all (suc s) n)
    where
      go : Dec (s < a) → (suc s ≤ a → a ≤ b → b < suc s + n → Count (suc s) n (b + 1 - a)) → Count s (suc n) (b + 1 - a)
      go (yes l) ih = count_no s n (b + 1 - a) (λ w. omega arith) (ih l ab (omega arith))
      go (no l) ih = let z : b + 1 - s ≡ b + 1 - a = omega arith in count-rest s (suc n) (omega arith) k ∙ z

-- s is the number of values that rank within a to b
abbrev pub Spans : ℕ → ℕ → ℕ → Type 0
Spans a b s = (top : ℕ) → a ≤ top → b ≤ top → s ≡ length (between top a b)

pub span_counts : (a b : ℕ) → rank a ≤ rank b → (a ≤ b) × Spans a b (b - a + 1)
unfolding between numbers
span_counts a b h =
    let ab = (rank-number a b).0 h in
    (ab, λ top at bt. let e = count-all a b 0 (suc top) (omega arith) ab (omega arith) in omega arith)

-- ---- the values removed

sum_more : (s n : ℕ) (f : ℕ → ℕ) → foldr ◌+◌ 0 (tabulate s (suc n) f) ≡ foldr ◌+◌ 0 (tabulate s n f) + f (s + n)
unfolding tabulate
sum_more s zero f = rw (add-zero s) (omega arith)
sum_more s (suc n) f = let e : s + suc n ≡ suc s + n = omega arith in rw e (omega (arith, sum_more (suc s) n f))

pub removed-at-first : (top : ℕ) (low high lows highs : List ℕ) → 0 ≡ removed_by 0 top low high lows highs
unfolding removed_by tabulate
removed-at-first top low high lows highs = refl

removed-more : (k top : ℕ) (low high lows highs : List ℕ) → removed_by (k + 1) top low high lows highs
    ≡ removed_by k top low high lows highs + (length (between top (get_or low k 0) (get_or high k 0)) - length (between top (get_or lows k 0) (get_or highs k 0)))
unfolding removed_by
removed-more k top low high lows highs = rw (add-one k) (sum_more 0 k _ ∙ rw (zero-add k))

-- s and t are the spans of the old and of the new bounds of cell k
module _ (size top : ℕ) (low high lows highs : List ℕ) (i : Inside size top low high lows highs) (k s t : ℕ) (b : k < size)
    (old : Spans (get_or low k 0) (get_or high k 0) s) (new : Spans (get_or lows k 0) (get_or highs k 0) t) where
  old-span : s ≡ length (between top (get_or low k 0) (get_or high k 0))
  old-span = old top (i.old.low-cap k b) (i.old.high-cap k b)

  new-span : t ≡ length (between top (get_or lows k 0) (get_or highs k 0))
  new-span = new top (i.new.low-cap k b) (i.new.high-cap k b)

  pub span-falls : (t ≤ s) × (s ≤ top + 1)
  unfolding between
  span-falls =
      let f = between-fewer top (get_or low k 0) (get_or high k 0) (get_or lows k 0) (get_or highs k 0) (i.above k b) (i.below k b) in
      let m = length-select (ranks_within (get_or low k 0) (get_or high k 0)) (numbers (suc top)) in
      (omega (arith, old-span, new-span), omega (arith, old-span, length-numbers (suc top)))

  pub cell-removed : (count : ℕ) → count ≡ removed_by k top low high lows highs → count + (s - t) ≡ removed_by (k + 1) top low high lows highs
  cell-removed count e = rw (old-span, new-span, e, removed-more k top low high lows highs)

-- ---- questions 6, 7 and 8

abbrev pub InOrder : List ℕ → List ℕ → Type 0
InOrder low high = (k : ℕ) → k < length low → rank (get_or low k 0) ≤ rank (get_or high k 0)

module _ (size top : ℕ) (low high : List ℕ) where
  lengths-decide : ((question6 size (low ∷ high ∷ [])).answer ≡ true) ↔ ((length low ≡ size) × (length high ≡ size))
  lengths-decide =
      let a = lengths-asked size (low ∷ high ∷ []) in
      (λ e. (a.0 e low (Memᴰ.head refl), a.0 e high (Memᴰ.tail (Memᴰ.head refl))), λ h. a.1 (all_two (λ s. length s ≡ size) low high h.0 h.1))

  pub bounds-lengths-no : ((length low ≡ size) × (length high ≡ size) → ⊥) → 6 ≡ first_no (bounds_questions size top low high)
  unfolding bounds_questions question6
  bounds-lengths-no h = sym (first_no-stop (question6 size (low ∷ high ∷ [])) _ (refuted (question6 size (low ∷ high ∷ [])).answer lengths-decide h))

  module _ (sizes : (length low ≡ size) × (length high ≡ size)) where
    past-lengths : first_no (bounds_questions size top low high) ≡ first_no (question7 top (low ∷ high ∷ []) ∷ question8 size low high ∷ [])
    unfolding bounds_questions
    past-lengths = first_no-pass (question6 size (low ∷ high ∷ [])) _ (lengths-decide.1 sizes)

    pub bounds-cells-no : (question7 top (low ∷ high ∷ [])).answer ≡ false → 7 ≡ first_no (bounds_questions size top low high)
    unfolding question7
    bounds-cells-no e = sym (past-lengths ∙ first_no-stop (question7 top (low ∷ high ∷ [])) _ e)

    -- past question 7
    module _ (e : (question7 top (low ∷ high ∷ [])).answer ≡ true) where
      past-cells : first_no (bounds_questions size top low high) ≡ first_no (question8 size low high ∷ [])
      past-cells = past-lengths ∙ first_no-pass (question7 top (low ∷ high ∷ [])) _ e

      pub bounds-order-no : (InOrder low high → ⊥) → 8 ≡ first_no (bounds_questions size top low high)
      unfolding question8
      bounds-order-no f =
          let e : (question8 size low high).answer ≡ false = rw (← sizes.0) (refuted (question8 (length low) low high).answer (order-asked (length low) low high) f) in
          sym (past-cells ∙ first_no-stop (question8 size low high) [] e)

      pub bounds-yes : InOrder low high → 0 ≡ first_no (bounds_questions size top low high)
      unfolding first_no
      bounds-yes f =
          let e : (question8 size low high).answer ≡ true = rw (← sizes.0) ((order-asked (length low) low high).1 f) in
          sym (past-cells ∙ first_no-pass (question8 size low high) [] e)

-- ---- the call

-- no question gets a no, and narrow wrote low' and high'
pub record Wrote (m n top : ℕ) (low high low' high' : List ℕ) : Type 0 where
  pub asked : first_no (prune_questions m n top low high) ≡ 0
  pub narrowed : NarrowOutcome true m n low high low' high'

module _ (m n top : ℕ) (low high : List ℕ) where
  refused : (k : ℕ) → first_no (prune_questions m n top low high) ≡ k → (k ≡ 0 → ⊥) → Prunes m n top low high (pruned_to k 0 low high)
  refused zero e h = absurd (h refl)
  refused (suc k) e h = prunes m n top low high _ (sym (pruned-refused m n top low high k e))

  pub prune-limits-no : (k : ℕ) → k ≡ limits_no m n top → (k ≡ 0 → ⊥) → Prunes m n top low high (pruned_to k 0 low high)
  prune-limits-no k found h = refused k (limits-refuse m n top _ (λ z. h (found ∙ z)) ∙ sym found) h

  -- k is the first no of the bounds
  module _ (l : Limits m n top) (k : ℕ) (found : k ≡ first_no (bounds_questions (m * n) top low high)) where
    pub prune-bounds-no : (k ≡ 0 → ⊥) → Prunes m n top low high (pruned_to k 0 low high)
    prune-bounds-no h = refused k (prune-asked m n top low high l ∙ sym found) h

    pub prune-yes : k ≡ 0 → first_no (prune_questions m n top low high) ≡ 0
    prune-yes z = prune-asked m n top low high l ∙ sym found ∙ z

  pub prune-passed : {A B : Type 0} {r : Result A Refusal} {s : Result B Refusal} {x : A} {y : B} → r ≡ Ok x → asked_number r ≡ limits_no m n top →
      s ≡ Ok y → asked_number s ≡ first_no (bounds_questions (m * n) top low high) → first_no (prune_questions m n top low high) ≡ 0
  prune-passed a b c d = prune-yes (passed m n top a b) _ (yes-is c d) refl

  -- past the questions
  module _ (e : first_no (prune_questions m n top low high) ≡ 0) where
    limits : Limits m n top
    limits = ((prune-pass m n top low high).0 e).0

    bounds : IsBounds (m * n) top low high
    bounds = ((prune-pass m n top low high).0 e).1

    pub prune-size : m * n ≤ 128
    prune-size = size_fits m n limits.rows-limits.1 limits.column-limits.1

    pub narrow-ready : (x y : List ℕ) → length x ≡ m * n → length y ≡ m * n → NarrowSizes m n low high x y × Values (m * n) 15 (cell_at high)
    narrow-ready x y hx hy = (
      record {
        rows-limits = limits.rows-limits;
        column-limits = limits.column-limits;
        low-size = bounds.low-size;
        high-size = bounds.high-size;
        new-low-size = hx;
        new-high-size = hy;
      },
      (bounds-wider limits.top-limit bounds).high-cap,
    )

    -- narrow says no
    pub prune-none : (t : Bool) (low' high' : List ℕ) → NarrowOutcome t m n low high low' high' → t ≡ false → Prunes m n top low high (pruned_to 102 0 low high)
    prune-none t low' high' w f =
        let no : AllLead m n (row_of n low 0) high → ⊥ = rw f at w in
        prunes m n top low high _ (sym (pruned-none m n top low high e (λ o. no ((narrowed-obeyed m n top low high limits.rows-limits.0 bounds).1 o))))

module _ {m n top : ℕ} {low high low' high' : List ℕ} (w : Wrote m n top low high low' high') where
  some-row : 1 ≤ m
  some-row = (limits m n top low high w.asked).rows-limits.0

  old-bounds : IsBounds (m * n) top low high
  old-bounds = bounds m n top low high w.asked

  result : Narrowed m n top low high low' high'
  result = w.narrowed top old-bounds

  pub sizes-fit : (length low ≡ length low') × (length high ≡ length high')
  sizes-fit = (sym result.low-size, sym result.high-size)

  inside : (cap : ℕ) → top ≤ cap → Inside (length low) cap low high low' high'
  inside cap h =
      let b = bounds-wider h old-bounds in
      rw old-bounds.low-size (narrowed-inside m n cap low high some-row b low' high' (w.narrowed cap b))

  pub removed-ready : (length low ≤ 128) × Inside (length low) 15 low high low' high'
  removed-ready = (omega (arith, old-bounds.low-size, prune-size m n top low high w.asked), inside 15 (limits m n top low high w.asked).top-limit)

  pub prune-some : {count : ℕ} → ((cap : ℕ) → Inside (length low) cap low high low' high' → count ≡ removed_by (length low) cap low high low' high') →
      Prunes m n top low high (pruned_to 0 count low' high')
  prune-some {count} counted = prunes m n top low high _ (rw (ec, el, eh) (sym (pruned-some m n top low high w.asked obeyed)))
    where
      obeyed : Obeyed (Allperm m n) (m * n) top low high
      obeyed = (narrowed-obeyed m n top low high some-row old-bounds).0 result.leads

      ec : count ≡ removed (allperm m n) (m * n) top low high
      ec = counted top (inside top (omega arith)) ∙ rw old-bounds.low-size (sym (narrowed-removed m n top low high some-row old-bounds low' high' result))

      el : low' ≡ kept_low (allperm m n) (m * n) top low high
      el = sym (narrowed_low m n top low high some-row old-bounds low' high' result)

      eh : high' ≡ kept_high (allperm m n) (m * n) top low high
      eh = sym (narrowed-high m n top low high some-row old-bounds low' high' result)
