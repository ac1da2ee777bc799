-- The steps of the code that prunes row 0 with each other row in turn.
--
--   Replaced a k xs ys zs, part-replaced  ==  zs is xs with ys in the place of its k entries from a on
--   row-part, first_part  ==  a row of bounds, as a part of the list
--   part-size        ==  the length of such a part
--   row-pruned-ext   ==  only the values in the columns count
--   lowered-both     ==  highs lowered by one rule and then by another
--   Progress i m n low high low' high'  ==  the rows before row i are pruned with row 0
--   narrow_next, narrow-all  ==  a row further, and at the end
--   RowFits i n low high low' high', row_fits  ==  row 0 and row i are within the lists
--   narrow-fails     ==  a row that the lows of row 0 do not lead
use mathlib.Core.Path.{◌≡◌, refl, sym, ap, ◌∙◌}
use mathlib.Core.List.{List, ◌++◌}
use mathlib.Core.Bool.{true, false}
use mathlib.Core.Logic.{◌↔◌}
use Prim.Native.Nat.{ℕ, ◌+◌, ◌*◌, ◌-◌, ◌≤◌, ◌<◌}
use native.Mathlib.Nat.{zero-mul, one-mul, suc-mul, mul-le-mul_right}
use native.Mathlib.Decide.{ℕ_discrete}
use native.Mathlib.Omega.{arith}
use lib.ListN.{length, get_or, take, drop, get_or-append}
use lib.Seq.{length-take-le, get_or-take, get_or-drop, get_or-append-add}
use lib.Arith.{digits_lt}
use borrow.Rule.Slice.PartMut.{same_len_mid, mid_len}
use Rattle.grids.specs.Order.{rank}
use Rattle.grids.proofs.QuestionLaws.{size_fits}
use Rattle.bounds.specs.Bounds.{IsBounds}
use Rattle.bounds.specs.Rows.{cell_at, put, Leads, Raised, Lowered, RowPruned, RowOutcome}
use Rattle.bounds.specs.Narrowed.{row_of, AllLead, Narrowed, NarrowSizes}
use Rattle.bounds.proofs.LeadsLaws.{put_self, put-ext, leads-ext}

-- ---- parts of lists

pub record Replaced (a k : ℕ) (xs ys zs : List ℕ) : Type 0 where
  pub size : length zs ≡ length xs
  pub before : (t : ℕ) → t < a → get_or zs t 0 ≡ get_or xs t 0
  pub inside : (j : ℕ) → j < k → get_or zs (a + j) 0 ≡ get_or ys j 0
  pub after : (t : ℕ) → a + k ≤ t → get_or zs t 0 ≡ get_or xs t 0

pub part-replaced : (a k : ℕ) (xs ys : List ℕ) → a + k ≤ length xs → length ys ≡ k → Replaced a k xs ys (take a xs ++ (ys ++ drop k (drop a xs)))
part-replaced a k xs ys h e = record {
  size = same_len_mid a k xs ys (e ∙ sym middle);
  before = λ t b. get_or-append (take a xs) _ 0 t (omega (arith, front)) ∙ get_or-take a xs t 0 b;
  inside = λ j b. at_front j ∙ get_or-append ys _ 0 j (omega arith);
  after = λ t b. past t b;
}
  where
    front : length (take a xs) ≡ a
    front = length-take-le a xs (omega arith)

    middle : length (take k (drop a xs)) ≡ k
    middle = let q : a + k - a ≡ k = omega arith in rw q at (mid_len a (a + k) xs h)

    at_front : (j : ℕ) → get_or (take a xs ++ (ys ++ drop k (drop a xs))) (a + j) 0 ≡ get_or (ys ++ drop k (drop a xs)) j 0
    at_front j = rw front at (get_or-append-add (take a xs) (ys ++ drop k (drop a xs)) j 0)

    past : (t : ℕ) → a + k ≤ t → get_or (take a xs ++ (ys ++ drop k (drop a xs))) t 0 ≡ get_or xs t 0
    past t b =
        let q : a + (k + (t - a - k)) ≡ t = omega arith in
        rw q at
        (at_front (k + (t - a - k))
        ∙ rw e at (get_or-append-add ys (drop k (drop a xs)) (t - a - k) 0)
        ∙ get_or-drop k (drop a xs) (t - a - k) 0
        ∙ get_or-drop a xs (k + (t - a - k)) 0)

module _ (i n : ℕ) (l : List ℕ) where
  pub row-part : (j : ℕ) → j < n → cell_at (take (i * n + n - i * n) (drop (i * n) l)) j ≡ row_of n l i j
  row-part j b = get_or-take (i * n + n - i * n) (drop (i * n) l) j 0 (omega arith) ∙ get_or-drop (i * n) l j 0

  pub part-size : i * n + n ≤ length l → length (take (i * n + n - i * n) (drop (i * n) l)) ≡ n
  part-size h = mid_len (i * n) (i * n + n) l h ∙ omega arith

pub first_part : (n : ℕ) (l : List ℕ) (j : ℕ) → j < n → cell_at (take n l) j ≡ row_of n l 0 j
first_part n l j b = let q : 0 * n + j ≡ j = omega (arith, zero-mul n) in get_or-take n l j 0 b ∙ ap (cell_at l) (sym q)

-- ---- one row more

abbrev Same : ℕ → (ℕ → ℕ) → (ℕ → ℕ) → Type 0
Same n u v = (j : ℕ) → j < n → u j ≡ v j

pub row-pruned-ext : (n top : ℕ) (x l y h h' l' u m w g g' m' : ℕ → ℕ) → Same n x u → Same n l m → Same n y w → Same n h g → Same n h' g' → Same n l' m' →
    RowPruned n top x l y h h' l' → RowPruned n top u m w g g' m'
row-pruned-ext n top x l y h h' l' u m w g g' m' ex el ey eh eh' el' p = record {
  leads = leads-ext n x u y w ex ey p.leads;
  raised = record {
    within = λ c cn. rw (← (el' c cn)) (p.raised.within c cn);
    exact = λ c v cn vt vy.
        let f = p.raised.exact c v cn vt (rw (ey c cn) vy) in
        rw (← (el c cn), ← (el' c cn)) (
          λ q. f.0 (q.0, leads-ext n u x (put w c v) (put y c v) (λ j b. sym (ex j b)) (λ j b. put-ext w y c v j (sym (ey j b))) q.1),
          λ q. let r = f.1 q in (r.0, leads-ext n x u (put y c v) (put w c v) ex (λ j b. put-ext y w c v j (ey j b)) r.1),
        );
  };
  lowered = record {
    within = λ c cn. rw (← (eh' c cn)) (p.lowered.within c cn);
    exact = λ c v cn vt vx.
        let f = p.lowered.exact c v cn vt (rw (ex c cn) vx) in
        rw (← (eh c cn), ← (eh' c cn)) (
          λ q. f.0 (q.0, leads-ext n (put u c v) (put x c v) w y (λ j b. put-ext u x c v j (sym (ex j b))) (λ j b. sym (ey j b)) q.1),
          λ q. let r = f.1 q in (r.0, leads-ext n (put x c v) (put u c v) y w (λ j b. put-ext x u c v j (ex j b)) ey r.1),
        );
  };
}

pub lowered-both : (R S T : (ℕ → ℕ) → Type 0) (n top : ℕ) (x h h' h'' : ℕ → ℕ) → ((z : ℕ → ℕ) → T z ↔ (R z × S z)) → Lowered R n top x h h' → Lowered S n top x h' h'' → Lowered T n top x h h''
lowered-both R S T n top x h h' h'' both r s = record {
  within = s.within;
  exact = λ c v cn vt vx.
      let f = r.exact c v cn vt vx in
      let g = s.exact c v cn vt vx in
      let t = both (put x c v) in
      (λ q. let w = t.0 q.1 in g.0 (f.0 (q.0, w.0), w.1), λ q. let a = g.1 q in let b = f.1 a.0 in (b.0, t.1 (b.1, a.1)));
}

-- ---- the rows so far

pub record Progress (i m n : ℕ) (low high low' high' : List ℕ) : Type 0 where
  pub from : 1 ≤ i
  pub to : i ≤ m
  pub low-size : length low' ≡ m * n
  pub high-size : length high' ≡ m * n
  pub narrowed : (top : ℕ) → IsBounds (m * n) top low high → Narrowed i n top low high low' high'
  -- from row i on the lows are as they were
  pub rest : (k : ℕ) → i * n ≤ k → get_or low' k 0 ≡ get_or low k 0

-- row 0 and row i are within the lists
pub record RowFits (i n : ℕ) (low high low' high' : List ℕ) : Type 0 where
  pub first-low : n ≤ length low
  pub first-high : n ≤ length high'
  pub old-high : i * n + n ≤ length high
  pub new-low : i * n + n ≤ length low'
  pub small : i * n + n ≤ 128

module _ {i m n : ℕ} {low high low' high' old-low old-high : List ℕ} (s : NarrowSizes m n low high old-low old-high) (p : Progress i m n low high low' high') (im : i < m) where
  row_within : i * n + n ≤ m * n
  row_within = omega (arith, mul-le-mul_right n im, suc-mul i n)

  first-within : n ≤ i * n
  first-within = omega (arith, rw (one-mul n) at (mul-le-mul_right n p.from))

  pub row_fits : RowFits i n low high low' high'
  row_fits = record {
    first-low = omega (arith, s.low-size, row_within);
    first-high = omega (arith, p.high-size, row_within);
    old-high = omega (arith, s.high-size, row_within);
    new-low = omega (arith, p.low-size, row_within);
    small = omega (arith, row_within, size_fits m n s.rows-limits.1 s.column-limits.1);
  }

  -- row i of the new lows is still that of the old
  row-low : (j : ℕ) → j < n → cell_at (take (i * n + n - i * n) (drop (i * n) low')) j ≡ row_of n low i j
  row-low j jn = row-part i n low' j jn ∙ p.rest (i * n + j) (omega arith)

  pub narrow-fails : (highs lows : ℕ → ℕ) → RowOutcome false (length (take n low)) (cell_at (take n low)) (cell_at (take (i * n + n - i * n) (drop (i * n) low')))
      (cell_at (take (i * n + n - i * n) (drop (i * n) high))) (cell_at (take n high')) highs lows → AllLead m n (row_of n low 0) high → ⊥
  unfolding RowOutcome
  narrow-fails highs lows f all =
      f (rw (length-take-le n low (omega (arith, s.low-size, row_within)))
      (leads-ext n (row_of n low 0) _ (row_of n high i) _ (λ j b. sym (first_part n low j b)) (λ j b. sym (row-part i n high j b)) (all i p.from im)))

  module _ (highs lows : List ℕ) (he : length highs ≡ length (take n high')) (le : length lows ≡ length (take (i * n + n - i * n) (drop (i * n) low')))
      (f : RowOutcome true (length (take n low)) (cell_at (take n low)) (cell_at (take (i * n + n - i * n) (drop (i * n) low')))
      (cell_at (take (i * n + n - i * n) (drop (i * n) high))) (cell_at (take n high')) (cell_at highs) (cell_at lows)) where
    new-low : List ℕ
    new-low = take (i * n) low' ++ (lows ++ drop (i * n + n - i * n) (drop (i * n) low'))

    new-high : List ℕ
    new-high = highs ++ drop n high'

    low-replaced : Replaced (i * n) n low' lows new-low
    unfolding new-low
    low-replaced = let q : i * n + n - i * n ≡ n = omega arith in rw q (part-replaced (i * n) n low' lows row_fits.new-low (le ∙ part-size i n low' row_fits.new-low))

    high-replaced : Replaced 0 n high' highs new-high
    unfolding new-high
    high-replaced = part-replaced 0 n high' highs (omega (arith, row_fits.first-high)) (he ∙ length-take-le n high' row_fits.first-high)

    module _ (top : ℕ) (b : IsBounds (m * n) top low high) where
      old : Narrowed i n top low high low' high'
      old = p.narrowed top b

      ordered : (j : ℕ) → j < n → rank (row_of n low 0 j) ≤ rank (row_of n high' 0 j)
      ordered j jn =
          (old.lowered.exact j (row_of n low 0 j) jn (b.low-cap (0 * n + j) (digits_lt (omega arith) jn)) (omega arith)).0 (
            b.in_order (0 * n + j) (digits_lt (omega arith) jn),
            λ r r0 ri. leads-ext n (row_of n low 0) _ (row_of n high r) (row_of n high r) (λ k c. sym (put_self (row_of n low 0) j k)) (λ k c. refl) (old.leads r r0 ri),
          )

      row : RowPruned n top (row_of n low 0) (row_of n low i) (row_of n high i) (row_of n high' 0) (row_of n new-high 0) (row_of n new-low i)
      unfolding RowOutcome
      row =
          let g = rw (length-take-le n low (omega (arith, s.low-size, row_within))) at f in
          row-pruned-ext n top (cell_at (take n low)) (cell_at (take (i * n + n - i * n) (drop (i * n) low'))) (cell_at (take (i * n + n - i * n) (drop (i * n) high)))
          (cell_at (take n high')) (cell_at highs) (cell_at lows) _ _ _ _ _ _ (first_part n low) row-low (row-part i n high) (first_part n high')
          (λ j jn. let q : 0 * n + j ≡ 0 + j = omega (arith, zero-mul n) in rw q (sym (high-replaced.inside j jn))) (λ j jn. sym (low-replaced.inside j jn))
          (g top (λ j jn. rw (first_part n low j jn) (b.low-cap (0 * n + j) (digits_lt (omega arith) jn)))
          (λ j jn. rw (row-low j jn) (b.low-cap (i * n + j) (digits_lt im jn)))
          (λ j jn. rw (row-part i n high j jn) (b.high-cap (i * n + j) (digits_lt im jn)))
          (λ j jn. rw (first_part n high' j jn) (old.lowered.within j jn)) (λ j jn. rw (first_part n low j jn, first_part n high' j jn) (ordered j jn)))

      -- a row is one of those before, or row i
      before-or-here : (P : ℕ → Type 0) → ((r : ℕ) → 0 < r → r < i → P r) → P i → (r : ℕ) → 0 < r → r < i + 1 → P r
      before-or-here P h k r r0 ri = go (ℕ_discrete r i)
        where
          go : Dec (r ≡ i) → P r
          go (yes e) = rw e k
          go (no ne) = h r r0 (omega arith)

      narrowed-next : Narrowed (i + 1) n top low high new-low new-high
      narrowed-next = record {
        leads = before-or-here (λ r. Leads n (row_of n low 0) (row_of n high r)) old.leads row.leads;
        raised = before-or-here (λ r. Raised (Leads n (row_of n low 0)) n top (row_of n high r) (row_of n low r) (row_of n new-low r)) earlier row.raised;
        lowered = lowered-both (λ z. AllLead i n z high) (λ z. Leads n z (row_of n high i)) (λ z. AllLead (i + 1) n z high) n top (row_of n low 0) (row_of n high 0) (row_of n high' 0)
            (row_of n new-high 0) both old.lowered row.lowered;
        low-size = low-replaced.size ∙ old.low-size;
        high-size = high-replaced.size ∙ old.high-size;
        low-kept = λ k kn. low-replaced.before k (omega (arith, first-within)) ∙ old.low-kept k kn;
        high-kept = λ k nk. high-replaced.after k (omega arith) ∙ old.high-kept k nk;
      }
        where
          earlier : (r : ℕ) → 0 < r → r < i → Raised (Leads n (row_of n low 0)) n top (row_of n high r) (row_of n low r) (row_of n new-low r)
          earlier r r0 ri =
              let o = old.raised r r0 ri in
              let e : (c : ℕ) → c < n → row_of n new-low r c ≡ row_of n low' r c = λ c cn. low-replaced.before (r * n + c) (digits_lt ri cn) in
              record { within = λ c cn. rw (e c cn) (o.within c cn); exact = λ c v cn vt vy. rw (e c cn) (o.exact c v cn vt vy) }

          both : (z : ℕ → ℕ) → AllLead (i + 1) n z high ↔ (AllLead i n z high × Leads n z (row_of n high i))
          both z = (λ h. (λ r r0 ri. h r r0 (omega arith), h i p.from (omega arith)), λ q. before-or-here (λ r. Leads n z (row_of n high r)) q.0 q.1)

    pub narrow_next : Progress (i + 1) m n low high (take (i * n) low' ++ (lows ++ drop (i * n + n - i * n) (drop (i * n) low'))) (highs ++ drop n high')
    unfolding new-low new-high
    narrow_next = record {
      from = omega arith;
      to = omega arith;
      low-size = low-replaced.size ∙ p.low-size;
      high-size = high-replaced.size ∙ p.high-size;
      narrowed = narrowed-next;
      rest = λ k nk. low-replaced.after k (omega (arith, suc-mul i n)) ∙ p.rest k (omega (arith, suc-mul i n));
    }

pub narrow-all : {i m n : ℕ} {low high low' high' : List ℕ} → Progress i m n low high low' high' → m ≤ i → (top : ℕ) → IsBounds (m * n) top low high → Narrowed m n top low high low' high'
narrow-all {i} {m} p h top b = let e : i ≡ m = omega (arith, p.to) in rw e at (p.narrowed top b)
