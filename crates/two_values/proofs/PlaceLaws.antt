-- The steps of `place`, which follows the rows that can come next one after another.
--
--   Started, Following  ==  how the search stands before position t: once a row was followed, and before
--   candidate-key   ==  the key of the row at position t, placed next
--   following-first ==  at first
--   following-skip  ==  past a row that is not followed
--   followed-stands ==  how the search stands in the branch of the row at position t
--   followed-back   ==  what is returned where the search goes back to where a symmetry began
--   following-next  ==  past a row whose branch was searched
--   followed-all    ==  at the end: the branch is searched
--   Turn            ==  all that holds before a turn of the loop of `place`, whatever was the best before it
--   turn-first, turn-skip, turn-stands, turn-back, turn-next, turn-all  ==  these steps, of a turn
--   standing-small, standing-fits, standing-row  ==  the numbers of columns, their powers of 2, and those of a row are within the tables
--   known-still, set-still  ==  what is known of the best stays, where its number is written again
--   cut             ==  where the best's next row is lower than all that can come next, the branch is searched
use mathlib.Core.Path.{◌≡◌, refl, sym, ap, ◌∙◌}
use mathlib.Core.List.{List}
use mathlib.Core.Bool.{Bool, true, false, true≢false}
use mathlib.Core.Logic.{◌⊎◌, inl, inr}
use Prim.Native.Nat.{ℕ, suc, ◌+◌, ◌≤◌, ◌<◌}
use native.Mathlib.Decide.{ℕ_discrete, dec_lt}
use native.Mathlib.Omega.{arith}
use native.Mathlib.Numerals.{add-one}
use lib.ListN.{length, get_or, set, take, length-set}
use lib.Seq.{get_or-take, get_or-set_same, get_or-set_other}
use Rattle.permutations.specs.Rows.{RowPermutation}
use Rattle.permutations.specs.Permutations.{swapped}
use Rattle.permutations.specs.Padded.{IsPadded}
use Rattle.permutations.specs.Rows.{row_numbers}
use Rattle.permutations.specs.Numbered.{Lists}
use Rattle.permutations.proofs.SwapLaws.{at-whole, swapped-whole}
use Rattle.grids.specs.Order.{◌≼◌, ◌≺◌}
use Rattle.grids.specs.Grids.{cell, arrangement}
use Rattle.grids.proofs.OrderLaws.{≼_refl, ≼_trans}
use Rattle.branches.specs.Branches.{Begins, Covers}
use Rattle.branches.proofs.BranchLaws.{covers-next, covers-agree, covers-lower, placed-stay, placed-next}
use Rattle.branches.proofs.BranchSymmetry.{covers-alike}
use Rattle.branches.proofs.LeadingRows.{leading-is}
use Rattle.two_values.specs.declared.search.Found.{Found}
use Rattle.two_values.specs.TwoValues.{places_after, key, column_order, sorted_rows}
use Rattle.two_values.specs.Tables.{Below16, PowersFit, Refined, RowKeys}
use Rattle.two_values.specs.Search.{Next, Marked, Left, Symmetries, CoveredRows, Spreads, Known, Follows, Lowest, Cuts, Lowers, Rekeyed, Standing, Alike, Outcome}
use Rattle.two_values.proofs.SortedRows.{order-permutation, sorted-decides, sorted-covered}
use Rattle.two_values.proofs.RefinedLaws.{places-agree, places-are, refined-places}
use Rattle.two_values.proofs.KeyLaws.{row-keys-are}
use Rattle.two_values.proofs.PlaceSums.{powers-fit}
use Rattle.two_values.proofs.KeyedRows.{key-agree, key-lower, key-same, same_key, rows-fewer, rows-swapped}

pub record Started (m n : ℕ) (g : List ℕ) (low k : ℕ) (p : List ℕ) (fresh : Bool) (before : Found) (keys : List ℕ) (picked : List Bool) (least t : ℕ) (now : Found) (covered : List Bool) : Type 0 where
  pub known : Known m n g low now
  pub leading : sorted_rows k n g (row_numbers now.best) ≡ sorted_rows k n g p
  pub least-key : key n g low k (row_numbers now.best) ≡ least
  pub lower : fresh ≡ false → sorted_rows m n g (row_numbers now.best) ≼ sorted_rows m n g (row_numbers before.best)
  pub from : ((fresh ≡ false) × (row_numbers now.best ≡ row_numbers before.best)) ⊎ Begins k p (row_numbers now.best)
  pub tried : Begins k p (row_numbers now.best) → (s : ℕ) × (k ≤ s) × (s < t) × Marked p keys least picked s × (get_or p s 0 ≡ get_or (row_numbers now.best) k 0)
  pub covers : (s : ℕ) → k ≤ s → s < t → Marked p keys least picked s → Covers m n g (suc k) (swapped p k s) (sorted_rows m n g (row_numbers now.best))
  pub rows : CoveredRows m n g k p (sorted_rows m n g (row_numbers now.best)) covered

pub record Following (m n : ℕ) (g : List ℕ) (low k : ℕ) (p : List ℕ) (fresh : Bool) (before : Found) (keys : List ℕ) (picked : List Bool) (least t : ℕ) (new : Bool) (now : Found) (covered : List Bool) : Type 0 where
  pub first : k ≤ t
  pub back : k ≤ now.back
  pub size : length covered ≡ 8
  pub keys-size : length now.keys ≡ 8
  pub placed-keys : (i : ℕ) → i < k → get_or now.keys i 0 ≡ key n g low i p
  pub next-key : get_or now.keys k 0 ≡ least
  pub untried : new ≡ true → (s : ℕ) → k ≤ s → s < t → Marked p keys least picked s → ⊥
  pub uncovered : new ≡ true → (r : ℕ) → get_or covered r false ≡ false
  pub lowering : new ≡ true → fresh ≡ false → least < get_or before.keys k 0
  pub started : new ≡ false → Started m n g low k p fresh before keys picked least t now covered
  pub symmetries : Symmetries m n g now.kept.maps now.kept.count

-- whatever else changed, the best, its columns and the numbers of its rows did not
pub known-still : (m n : ℕ) (g : List ℕ) (low : ℕ) (f r : Found) → r.best ≡ f.best → r.after ≡ f.after → ((i : ℕ) → get_or r.keys i 0 ≡ get_or f.keys i 0) →
    Known m n g low f → Known m n g low r
known-still m n g low f r b a keys h = record {
  rows = rw b h.rows;
  keys = λ i im. keys i ∙ h.keys i im ∙ ap (λ (o : RowPermutation). key n g low i (row_numbers o)) (sym b);
  places = rw (b, a) h.places;
}

-- an outcome depends on the best before alone
outcome-for : (m n : ℕ) (g : List ℕ) (low k : ℕ) (p : List ℕ) (fresh : Bool) (before old f : Found) → before.best ≡ old.best → Outcome m n g low k p fresh before f → Outcome m n g low k p fresh old f
outcome-for m n g low k p fresh before old f e h = record {
  known = h.known;
  keys-size = h.keys-size;
  leading = h.leading;
  lower = rw (← e) h.lower;
  from = rw (← e) h.from;
  covers = h.covers;
  alike = h.alike;
  symmetries = h.symmetries;
}

pub set-still : (l : List ℕ) (k v : ℕ) → v ≡ get_or l k 0 → k < length l → (i : ℕ) → get_or (set l k v) i 0 ≡ get_or l i 0
set-still l k v e h i = go (ℕ_discrete i k)
  where
    go : Dec (i ≡ k) → get_or (set l k v) i 0 ≡ get_or l i 0
    go (yes z) = rw z (get_or-set_same l k v 0 h ∙ e)
    go (no z) = get_or-set_other l k i v 0 z

-- only an order's first m rows matter
first_of : (m n : ℕ) (g p q : List ℕ) → arrangement m n (take m p) q g ≡ arrangement m n p q g
first_of m n g p q = leading-is n g (take m p) q p q m (λ i j im jn. ap (λ (r : ℕ). cell n g r (get_or q j 0)) (get_or-take m p i 0 im))

own : (m n : ℕ) (g p : List ℕ) → arrangement m n p (column_order m n g p) g ≡ sorted_rows m n g p
unfolding sorted_rows
own m n g p = refl

module _ (m n : ℕ) (g : List ℕ) (low : ℕ) (x y : List ℕ) (k : ℕ) (P : RowPermutation) (a : List ℕ) (fresh : Bool) (before : Found) (s : Standing m n g low x y k P a fresh before)
    (km : k < m) where
  abbrev p : List ℕ
  p = row_numbers P

  o : IsPadded 8 m (row_numbers P)
  o = s.rows.whole

  m8 : m ≤ 8
  m8 = s.tables.rows_fit

  stay : (t : ℕ) → k ≤ t → (i : ℕ) → i < k → get_or (swapped p k t) i 0 ≡ get_or p i 0
  stay t kt i ik = placed-stay m n g k p m8 km o t kt i ik

  next_row : (t : ℕ) → t < m → get_or (swapped p k t) k 0 ≡ get_or p t 0
  next_row t tm = placed-next m n g k p m8 km o t tm

  once : (i j : ℕ) → i < m → j < m → get_or p i 0 ≡ get_or p j 0 → i ≡ j
  once i j im jm e = o.permutation.once i j im jm (get_or-take m p i 0 im ∙ e ∙ sym (get_or-take m p j 0 jm))

  -- the laws of keys, for two orders of all rows
  lower-key : (q r : List ℕ) → IsPadded 8 m q → IsPadded 8 m r → sorted_rows k n g q ≡ sorted_rows k n g r → key n g low k q < key n g low k r → sorted_rows (suc k) n g q ≺ sorted_rows (suc k) n g r
  lower-key q r oq or = key-lower m n g low k q r s.tables.columns-fit s.tables.size s.tables.two (at-whole 8 m q oq k km) (at-whole 8 m r or k km)

  equal-key : (q r : List ℕ) → IsPadded 8 m q → IsPadded 8 m r → sorted_rows k n g q ≡ sorted_rows k n g r → key n g low k q ≡ key n g low k r → sorted_rows (suc k) n g q ≡ sorted_rows (suc k) n g r
  equal-key q r oq or = key-same m n g low k q r s.tables.columns-fit s.tables.size s.tables.two (at-whole 8 m q oq k km) (at-whole 8 m r or k km)

  key_of : (i : ℕ) → i < m → (q r : List ℕ) → IsPadded 8 m q → IsPadded 8 m r → sorted_rows (suc i) n g q ≡ sorted_rows (suc i) n g r → key n g low i q ≡ key n g low i r
  key_of i im q r oq or = same_key m n g low i q r s.tables.columns-fit s.tables.size s.tables.two (at-whole 8 m q oq i im) (at-whole 8 m r or i im)

  swapped_rows : (t : ℕ) → t < m → IsPadded 8 m (swapped p k t)
  swapped_rows t tm = swapped-whole 8 m p k t m8 km tm o

  same-lead : (t : ℕ) → k ≤ t → sorted_rows k n g (swapped p k t) ≡ sorted_rows k n g p
  same-lead t kt = rows-swapped m n g k p t m8 km o kt

  module _ (keys : List ℕ) (rk : RowKeys x a keys) where
    pub candidate-key : (t : ℕ) → k ≤ t → t < m → get_or keys (get_or p t 0) 0 ≡ key n g low k (swapped p k t)
    candidate-key t kt tm =
        rw (next_row t tm) at
        (row-keys-are m n g low k (swapped p k t) x a keys s.tables.columns-fit m8 (at-whole 8 m (swapped p k t) (swapped_rows t tm) k km) s.tables.by-columns
        (λ c c16. s.places.holds c c16 ∙ places-agree k n g p (swapped p k t) (λ i ik. sym (stay t kt i ik)) c) rk)

    -- a best whose next row has a lesser key covers the branch
    higher : (t : ℕ) → k ≤ t → t < m → (best : List ℕ) → IsPadded 8 m best → sorted_rows k n g best ≡ sorted_rows k n g p → key n g low k best < get_or keys (get_or p t 0) 0 →
        Covers m n g (suc k) (swapped p k t) (sorted_rows m n g best)
    higher t kt tm best ob e l =
        sorted-covered m n g (suc k) (swapped p k t) best km
        (lower-key best (swapped p k t) ob (swapped_rows t tm) (e ∙ sym (same-lead t kt)) (rw (candidate-key t kt tm) at l))

    pub cut : (least known : ℕ) (b : Bool) (r : Found) → Lowest m k p keys least → known ≡ get_or before.keys k 0 → Cuts fresh known least b → b ≡ true → Rekeyed m k known before r →
        Outcome m n g low k p fresh before r
    cut least known b r low-is e c y rk' = record {
      known = k';
      keys-size = rw rk'.keys (length-set before.keys k known ∙ s.keys-size);
      leading = rw rk'.best f.leading;
      lower = λ z. rw rk'.best (≼_refl (sorted_rows m n g (row_numbers before.best)));
      from = inl ((c.yes y).0, ap row_numbers rk'.best);
      covers = λ z. covers-next m n g k p m8 km o (sorted_rows m n g (row_numbers r.best)) λ t kt tm.
          higher t kt tm (row_numbers r.best) k'.rows.whole (rw rk'.best f.leading)
          (let l = low-is.no_more t kt tm in
          let v = (c.yes y).1 in
          let w : key n g low k (row_numbers r.best) ≡ known = rw rk'.best (sym (f.known.keys k km) ∙ sym e) in
          omega arith);
      alike = λ z. let w = rk'.back in absurd (omega arith);
      symmetries = rw rk'.kept s.symmetries;
    }
      where
        f : Follows m n g low k p before
        f = s.follows (c.yes y).0

        k' : Known m n g low r
        k' = known-still m n g low before r rk'.best rk'.after (λ i. ap (λ (l : List ℕ). get_or l i 0) rk'.keys ∙ set-still before.keys k known e (rw s.keys-size (omega arith)) i) f.known

    pub following-first : (picked : List Bool) (least known : ℕ) (b new : Bool) (now : Found) (covered : List Bool) → known ≡ get_or before.keys k 0 → Cuts fresh known least b → b ≡ false →
        Lowers fresh known least new → Rekeyed m k least before now → length covered ≡ 8 → ((r : ℕ) → get_or covered r false ≡ false) → Following m n g low k p fresh before keys picked least k new now covered
    unfolding CoveredRows
    following-first picked least known b new now covered e c y l rk' size zero = record {
      first = omega arith;
      back = let w = rk'.back in omega arith;
      size = size;
      keys-size = rw rk'.keys (length-set before.keys k least ∙ s.keys-size);
      placed-keys = λ i ik. rw rk'.keys (get_or-set_other before.keys k i least 0 (omega arith) ∙ s.keys i ik);
      next-key = rw rk'.keys (get_or-set_same before.keys k least 0 (rw s.keys-size (omega arith)));
      untried = λ z t kt tk. absurd (omega arith);
      uncovered = λ z. zero;
      lowering = λ z w. let v = l.yes z w in omega arith;
      started = started;
      symmetries = rw rk'.kept s.symmetries;
    }
      where
        started : new ≡ false → Started m n g low k p fresh before keys picked least k now covered
        started z = record {
          known = k';
          leading = rw rk'.best f.leading;
          least-key = rw rk'.best (sym (f.known.keys k km) ∙ sym same);
          lower = λ w. rw rk'.best (≼_refl (sorted_rows m n g (row_numbers before.best)));
          from = inl ((l.no z).0, ap row_numbers rk'.best);
          tried = λ w. absurd (f.apart (rw rk'.best at w));
          covers = λ t kt tk. absurd (omega arith);
          rows = λ t kt tm nz. absurd (true≢false (sym nz ∙ zero (get_or p t 0)));
        }
          where
            f : Follows m n g low k p before
            f = s.follows (l.no z).0

            same : least ≡ get_or before.keys k 0
            same = let u = (l.no z).1 in let v = c.no y (l.no z).0 in omega arith

            k' : Known m n g low now
            k' = known-still m n g low before now rk'.best rk'.after
                (λ i. ap (λ (q : List ℕ). get_or q i 0) rk'.keys ∙ set-still before.keys k least same (rw s.keys-size (omega arith)) i) f.known

  module _ (keys : List ℕ) (picked : List Bool) (least t : ℕ) (new : Bool) (now : Found) (covered : List Bool) (tm : t < m) (h : Following m n g low k p fresh before keys picked least t new now covered) where
    pub following-skip : (Marked p keys least picked t → get_or covered (get_or p t 0) false ≡ true) → Following m n g low k p fresh before keys picked least (t + 1) new now covered
    unfolding CoveredRows
    following-skip passed = record {
      first = omega (arith, h.first);
      back = h.back;
      size = h.size;
      keys-size = h.keys-size;
      placed-keys = h.placed-keys;
      next-key = h.next-key;
      untried = λ z u ku ut. untried z u ku ut (ℕ_discrete u t);
      uncovered = h.uncovered;
      lowering = h.lowering;
      started = λ z. let d = h.started z in record {
        known = d.known;
        leading = d.leading;
        least-key = d.least-key;
        lower = d.lower;
        from = d.from;
        tried = λ w. let e = d.tried w in (e.0, e.1, omega (arith, e.2), e.3, e.4);
        covers = λ u ku ut nz. covers d u ku ut nz (ℕ_discrete u t);
        rows = d.rows;
      };
      symmetries = h.symmetries;
    }
      where
        untried : new ≡ true → (u : ℕ) → k ≤ u → u < t + 1 → Dec (u ≡ t) → Marked p keys least picked u → ⊥
        untried z u ku ut (no e) w = h.untried z u ku (omega arith) w
        untried z u ku ut (yes e) w = true≢false (sym (passed (rw e at w)) ∙ h.uncovered z (get_or p t 0))

        covers : Started m n g low k p fresh before keys picked least t now covered → (u : ℕ) → k ≤ u → u < t + 1 → Marked p keys least picked u → Dec (u ≡ t) →
            Covers m n g (suc k) (swapped p k u) (sorted_rows m n g (row_numbers now.best))
        covers d u ku ut nz (no e) = d.covers u ku (omega arith) nz
        covers d u ku ut nz (yes e) = rw e (d.rows t h.first tm (passed (rw e at nz)))

    -- the row at position t is followed: the order with it next
    module _ (rk : RowKeys x a keys) (marked : Marked p keys least picked t) (Q : RowPermutation) (lists : Lists (swapped p k t) P.size Q) where
      kt : k ≤ t
      kt = h.first

      q : List ℕ
      q = swapped p k t

      oq : IsPadded 8 m q
      unfolding q
      oq = swapped_rows t tm

      q-stays : (i : ℕ) → i < k → get_or q i 0 ≡ get_or p i 0
      unfolding q
      q-stays i ik = stay t kt i ik

      q-next : get_or q k 0 ≡ get_or p t 0
      unfolding q
      q-next = next_row t tm

      q-lead : sorted_rows k n g q ≡ sorted_rows k n g p
      unfolding q
      q-lead = same-lead t kt

      q-key : key n g low k q ≡ least
      unfolding q
      q-key = sym (candidate-key keys rk t kt tm) ∙ marked.has-least

      earlier-key : (i : ℕ) → i < k → key n g low i q ≡ key n g low i p
      earlier-key i ik = key-agree n g low i q p (λ j ji. q-stays j (omega arith))

      begins-fewer : (l : List ℕ) → Begins (suc k) q l → Begins k p l
      unfolding Begins
      begins-fewer l b i ik = b i (omega arith) ∙ q-stays i ik

      begins-last : (l : List ℕ) → Begins (suc k) q l → get_or l k 0 ≡ get_or p t 0
      unfolding Begins
      begins-last l b = b k (omega arith) ∙ q-next

      pub followed-stands : (row : ℕ) → row ≡ get_or p t 0 → (b : List ℕ) → Refined y row a b → Standing m n g low x y (suc k) Q b new now
      unfolding q
      followed-stands row e b r = record {
        tables = s.tables;
        placed-fits = km;
        rows = record { whole = rw lists.numbers oq; size = lists.size ∙ s.rows.size };
        places = record { size = r.size; holds = λ c c16. rw lists.numbers (places c c16) };
        keys-size = h.keys-size;
        keys = λ i ik. rw lists.numbers (keys-are i ik (ℕ_discrete i k));
        follows = λ z. rw lists.numbers (follows (h.started z));
        symmetries = h.symmetries;
      }
        where
          places : (c : ℕ) → c < 16 → get_or b c 0 ≡ places_after (suc k) n g q c
          places =
              refined-places m k n g q y a b low s.tables.columns-fit m8 s.tables.size s.tables.two (at-whole 8 m q oq k km) s.tables.by_rows
              (λ c c16. s.places.holds c c16 ∙ places-agree k n g p q (λ i ik. sym (q-stays i ik)) c) (rw (q-next, ← e) r)

          keys-are : (i : ℕ) → i < suc k → Dec (i ≡ k) → get_or now.keys i 0 ≡ key n g low i q
          keys-are i ik (yes z) = rw z (h.next-key ∙ sym q-key)
          keys-are i ik (no z) = h.placed-keys i (omega arith) ∙ sym (earlier-key i (omega arith))

          follows : Started m n g low k p fresh before keys picked least t now covered → Follows m n g low (suc k) q now
          follows d = record {
            known = d.known;
            leading = equal-key (row_numbers now.best) q d.known.rows.whole oq (d.leading ∙ sym q-lead) (d.least-key ∙ sym q-key);
            apart = λ w. apart (d.tried (begins-fewer (row_numbers now.best) w)) (last w);
          }
            where
              last : Begins (suc k) q (row_numbers now.best) → get_or (row_numbers now.best) k 0 ≡ get_or p t 0
              last w = begins-last (row_numbers now.best) w

              apart : (u : ℕ) × (k ≤ u) × (u < t) × Marked p keys least picked u × (get_or p u 0 ≡ get_or (row_numbers now.best) k 0) → get_or (row_numbers now.best) k 0 ≡ get_or p t 0 → ⊥
              apart z w = let e = once z.0 t (omega (arith, z.2)) tm (z.4 ∙ w) in omega (arith, z.2)

      -- the search of its branch found f
      module _ (f : Found) (found : Outcome m n g low (k + 1) (row_numbers Q) new now f) where
        out : Outcome m n g low (suc k) q new now f
        unfolding q
        out = rw (lists.numbers, add-one) at found

        best : List ℕ
        best = row_numbers f.best

        ob : IsPadded 8 m best
        unfolding best
        ob = out.known.rows.whole

        lead : sorted_rows k n g best ≡ sorted_rows k n g p
        unfolding best
        lead = rows-fewer n g best q k (suc k) (omega arith) out.leading ∙ q-lead

        best_key : key n g low k best ≡ least
        unfolding best
        best_key = key_of k km best q ob oq out.leading ∙ q-key

        earlier : (i : ℕ) → i < k → key n g low i best ≡ key n g low i p
        unfolding best
        earlier i ik = key_of i (omega arith) best q ob oq (rows-fewer n g best q (suc i) (suc k) (omega arith) out.leading) ∙ earlier-key i ik

        lower : fresh ≡ false → sorted_rows m n g best ≼ sorted_rows m n g (row_numbers before.best)
        unfolding best
        lower z = go new refl
          where
            go : (b : Bool) → new ≡ b → sorted_rows m n g (row_numbers f.best) ≼ sorted_rows m n g (row_numbers before.best)
            go true e =
                let w = s.follows z in
                let l = h.lowering e z in
                let u = w.known.keys k km in
                sorted-decides m (suc k) n g best (row_numbers before.best) km
                (lower-key best (row_numbers before.best) ob w.known.rows.whole (lead ∙ sym w.leading) (let v = best_key in omega arith))
            go false e =
                ≼_trans (sorted_rows m n g (row_numbers f.best)) (sorted_rows m n g (row_numbers now.best)) (sorted_rows m n g (row_numbers before.best)) (out.lower e) ((h.started e).lower z)

        from : ((fresh ≡ false) × (best ≡ row_numbers before.best)) ⊎ Begins k p best
        unfolding best
        from = go out.from
          where
            go : ((new ≡ false) × (row_numbers f.best ≡ row_numbers now.best)) ⊎ Begins (suc k) q (row_numbers f.best) →
                ((fresh ≡ false) × (row_numbers f.best ≡ row_numbers before.best)) ⊎ Begins k p (row_numbers f.best)
            go (inr b) = inr (begins-fewer (row_numbers f.best) b)
            go (inl e) = rw e.1 (h.started e.0).from

        pub followed-back : f.back < k → Outcome m n g low k p fresh before f
        unfolding best Begins
        followed-back b = record {
          known = out.known;
          keys-size = out.keys-size;
          leading = lead;
          lower = lower;
          from = from;
          covers = λ z. absurd (omega arith);
          alike = λ z. let w = out.alike (omega arith) in record {
            rows = w.rows;
            row-permutation = w.row-permutation;
            begins = begins-fewer w.rows w.begins;
            gives = w.gives;
            agrees = w.agrees;
            parts = w.parts;
          };
          symmetries = out.symmetries;
        }

        -- the best's next row was tried: those of the rows before t, or the row at t itself
        tried : Begins k p best → (u : ℕ) × (k ≤ u) × (u < t + 1) × Marked p keys least picked u × (get_or p u 0 ≡ get_or best k 0)
        unfolding best
        tried b = go out.from
          where
            go : ((new ≡ false) × (row_numbers f.best ≡ row_numbers now.best)) ⊎ Begins (suc k) q (row_numbers f.best) →
                (u : ℕ) × (k ≤ u) × (u < t + 1) × Marked p keys least picked u × (get_or p u 0 ≡ get_or (row_numbers f.best) k 0)
            go (inr w) = (t, kt, omega arith, marked, sym (begins-last (row_numbers f.best) w))
            go (inl e) = let d = (h.started e.0).tried (rw e.1 at b) in (d.0, d.1, omega (arith, d.2), d.3, d.4 ∙ ap (λ (l : List ℕ). get_or l k 0) (sym e.1))

        -- what covers a branch for the best at hand covers it for the new one
        still : new ≡ false → (u : ℕ) → Covers m n g (suc k) (swapped p k u) (sorted_rows m n g (row_numbers now.best)) → Covers m n g (suc k) (swapped p k u) (sorted_rows m n g best)
        unfolding best
        still e u = covers-lower m n g (suc k) (swapped p k u) (sorted_rows m n g (row_numbers now.best)) (sorted_rows m n g (row_numbers f.best)) (out.lower e)

        -- an arrangement of the branch equals the best's, which begins with the same k rows and goes on with a row tried before
        copied : Alike m n g (suc k) q best k → (u : ℕ) → k ≤ u → u < m → get_or p u 0 ≡ get_or best k 0 → Covers m n g (suc k) (swapped p k u) (sorted_rows m n g best) → Covers m n g (suc k) q (sorted_rows m n g best)
        unfolding Begins
        copied w u ku um e c =
            covers-agree m n g (suc k) w.rows q (sorted_rows m n g best) (λ i ik. sym (w.begins i ik))
            (covers-alike m n g (suc k) (take m best) (column_order m n g best) w.rows (column_order m n g w.rows) (sorted_rows m n g best) km ob.permutation (order-permutation m n g best)
            w.row-permutation (order-permutation m n g w.rows) same
            (covers-agree m n g (suc k) (swapped p k u) (take m best) (sorted_rows m n g best) (λ i ik. get_or-take m best i 0 (omega arith) ∙ go i ik (ℕ_discrete i k)) c))
          where
            same : arrangement m n (take m best) (column_order m n g best) g ≡ arrangement m n w.rows (column_order m n g w.rows) g
            same = first_of m n g best (column_order m n g best) ∙ own m n g best ∙ sym w.gives ∙ sym (own m n g w.rows)

            go : (i : ℕ) → i < suc k → Dec (i ≡ k) → get_or best i 0 ≡ get_or (swapped p k u) i 0
            go i ik (yes z) = rw z (sym e ∙ sym (next_row u um))
            go i ik (no z) = sym (w.agrees i (omega arith)) ∙ w.begins i ik ∙ q-stays i (omega arith) ∙ sym (stay u ku i (omega arith))

        this : k ≤ f.back → Covers m n g (suc k) q (sorted_rows m n g best)
        unfolding best Begins
        this kb = go (dec_lt k f.back)
          where
            go : Dec (k < f.back) → Covers m n g (suc k) q (sorted_rows m n g (row_numbers f.best))
            go (yes l) = out.covers l
            go (no l) = let w : f.back ≡ k = omega arith in by (rw w at (out.alike (omega arith)))
              where
                by : Alike m n g (suc k) q (row_numbers f.best) k → Covers m n g (suc k) q (sorted_rows m n g (row_numbers f.best))
                by w = choose out.from
                  where
                    begins : Begins k p (row_numbers f.best)
                    begins i ik = sym (w.agrees i ik) ∙ w.begins i (omega arith) ∙ q-stays i ik

                    choose : ((new ≡ false) × (row_numbers f.best ≡ row_numbers now.best)) ⊎ Begins (suc k) q (row_numbers f.best) → Covers m n g (suc k) q (sorted_rows m n g (row_numbers f.best))
                    choose (inr b) = absurd (w.parts (w.begins k (omega arith) ∙ sym (b k (omega arith))))
                    choose (inl e) =
                        let d = h.started e.0 in
                        let z = d.tried (rw e.1 at begins) in
                        copied w z.0 z.1 (omega (arith, z.2)) (z.4 ∙ ap (λ (l : List ℕ). get_or l k 0) (sym e.1)) (still e.0 z.0 (d.covers z.0 z.1 z.2 z.3))

        pub following-next : (row : ℕ) → row ≡ get_or p t 0 → (covered' : List Bool) → Spreads m n g k p (set covered row true) covered' → k ≤ f.back →
            Following m n g low k p fresh before keys picked least (t + 1) false f covered'
        unfolding best q CoveredRows
        following-next row e covered' spread kb = record {
          first = omega arith;
          back = kb;
          size = spread.size;
          keys-size = out.keys-size;
          placed-keys = λ i ik. out.known.keys i (omega arith) ∙ earlier i ik;
          next-key = out.known.keys k km ∙ best_key;
          untried = λ z. absurd (true≢false (sym z));
          uncovered = λ z. absurd (true≢false (sym z));
          lowering = λ z. absurd (true≢false (sym z));
          started = λ z. record {
            known = out.known;
            leading = lead;
            least-key = best_key;
            lower = lower;
            from = from;
            tried = tried;
            covers = λ u ku ut nz. covers u ku ut nz (ℕ_discrete u t);
            rows = spread.covers (sorted_rows m n g (row_numbers f.best)) (λ u ku um nz. rows u ku um nz (ℕ_discrete (get_or p u 0) row));
          };
          symmetries = out.symmetries;
        }
          where
            covers : (u : ℕ) → k ≤ u → u < t + 1 → Marked p keys least picked u → Dec (u ≡ t) → Covers m n g (suc k) (swapped p k u) (sorted_rows m n g (row_numbers f.best))
            covers u ku ut nz (yes z) = rw z (this kb)
            covers u ku ut nz (no z) = go new refl
              where
                go : (b : Bool) → new ≡ b → Covers m n g (suc k) (swapped p k u) (sorted_rows m n g (row_numbers f.best))
                go true w = absurd (h.untried w u ku (omega arith) nz)
                go false w = still w u ((h.started w).covers u ku (omega arith) nz)

            rows : (u : ℕ) → k ≤ u → u < m → get_or (set covered row true) (get_or p u 0) false ≡ true → Dec (get_or p u 0 ≡ row) → Covers m n g (suc k) (swapped p k u) (sorted_rows m n g (row_numbers f.best))
            rows u ku um nz (yes z) = let w : u ≡ t = once u t um tm (z ∙ e) in rw w (this kb)
            rows u ku um nz (no z) = go new refl
              where
                nz' : get_or covered (get_or p u 0) false ≡ true
                nz' = sym (get_or-set_other covered row (get_or p u 0) true false z) ∙ nz

                go : (b : Bool) → new ≡ b → Covers m n g (suc k) (swapped p k u) (sorted_rows m n g (row_numbers f.best))
                go true w = absurd (true≢false (sym nz' ∙ h.uncovered w (get_or p u 0)))
                go false w = still w u ((h.started w).rows u ku um nz')

  pub followed-all : (keys : List ℕ) → RowKeys x a keys → (picked : List Bool) (least t : ℕ) (new : Bool) (now : Found) (covered : List Bool) → m ≤ t → Lowest m k p keys least → Left m n g k p keys least picked →
      Following m n g low k p fresh before keys picked least t new now covered → Outcome m n g low k p fresh before now
  unfolding Next
  followed-all keys rk picked least t new now covered mt low-is chosen h = go new refl
    where
      go : (b : Bool) → new ≡ b → Outcome m n g low k p fresh before now
      go true e =
          let r = low-is.reached in
          let c = chosen.as-good r.0 r.1 r.2 r.3 in
          absurd (h.untried e c.0 c.1 (omega (arith, c.2)) c.3)
      go false e = record {
        known = d.known;
        keys-size = h.keys-size;
        leading = d.leading;
        lower = d.lower;
        from = d.from;
        covers = λ z. covers-next m n g k p m8 km o (sorted_rows m n g (row_numbers now.best)) (λ u ku um. each u ku um (ℕ_discrete (get_or keys (get_or p u 0) 0) least));
        alike = λ z. let w = h.back in absurd (omega arith);
        symmetries = h.symmetries;
      }
        where
          d : Started m n g low k p fresh before keys picked least t now covered
          d = h.started e

          each : (u : ℕ) → k ≤ u → u < m → Dec (get_or keys (get_or p u 0) 0 ≡ least) → Covers m n g (suc k) (swapped p k u) (sorted_rows m n g (row_numbers now.best))
          each u ku um (yes z) =
              let c = chosen.as-good u ku um z in
              c.4 (sorted_rows m n g (row_numbers now.best)) (d.covers c.0 c.1 (omega (arith, c.2)) c.3)
          each u ku um (no z) =
              higher keys rk u ku um (row_numbers now.best) d.known.rows.whole d.leading (let w = low-is.no_more u ku um in let v = d.least-key in omega arith)

-- ---- within the tables

pub standing-small : (m n : ℕ) (g : List ℕ) (low : ℕ) (x y : List ℕ) (k : ℕ) (P : RowPermutation) (a : List ℕ) (fresh : Bool) (f : Found) → Standing m n g low x y k P a fresh f → Below16 a
standing-small m n g low x y k P a fresh f s = (places-are k n g (row_numbers P) a s.tables.columns-fit s.places.size s.places.holds).small

pub standing-fits : (m n : ℕ) (g : List ℕ) (low : ℕ) (x y : List ℕ) (k : ℕ) (P : RowPermutation) (a : List ℕ) (fresh : Bool) (f : Found) → Standing m n g low x y k P a fresh f → PowersFit a
standing-fits m n g low x y k P a fresh f s = powers-fit k n g (row_numbers P) a s.tables.columns-fit s.places

pub standing-row : (m n : ℕ) (g : List ℕ) (low : ℕ) (x y : List ℕ) (k : ℕ) (P : RowPermutation) (a : List ℕ) (fresh : Bool) (f : Found) → Standing m n g low x y k P a fresh f → (t : ℕ) → t < m →
    (row : ℕ) → row ≡ get_or (row_numbers P) t 0 → row < 8
standing-row m n g low x y k P a fresh f s t tm row e = let w = at-whole 8 m (row_numbers P) s.rows.whole t tm in let v = s.tables.rows_fit in omega arith

-- ---- the loop of `place`

pub record Turn (m n : ℕ) (g : List ℕ) (low : ℕ) (x y : List ℕ) (k : ℕ) (P : RowPermutation) (a : List ℕ) (fresh : Bool) (keys : List ℕ) (least : ℕ) (picked : List Bool) (start : Found) (t : ℕ) (new : Bool) (now : Found)
    (covered : List Bool) : Type 0 where
  pub before : Found
  pub stands : Standing m n g low x y k P a fresh before
  pub within : k < m
  pub row-keys : RowKeys x a keys
  pub lowest : Lowest m k (row_numbers P) keys least
  pub chosen : Left m n g k (row_numbers P) keys least picked
  pub same-best : before.best ≡ start.best
  pub following : Following m n g low k (row_numbers P) fresh before keys picked least t new now covered

module _ (m n : ℕ) (g : List ℕ) (low : ℕ) (x y : List ℕ) (k : ℕ) (P : RowPermutation) (a : List ℕ) (fresh : Bool) (keys : List ℕ) (least : ℕ) (picked : List Bool) where
  pub turn-first : (before start : Found) (known : ℕ) (b new : Bool) (covered : List Bool) → Standing m n g low x y k P a fresh before → k < m → RowKeys x a keys → Lowest m k (row_numbers P) keys least →
      Left m n g k (row_numbers P) keys least picked → known ≡ get_or before.keys k 0 → Cuts fresh known least b → b ≡ false → Lowers fresh known least new → Rekeyed m k least before start → length covered ≡ 8 →
      ((r : ℕ) → get_or covered r false ≡ false) → Turn m n g low x y k P a fresh keys least picked start k new start covered
  turn-first before start known b new covered s km rk l c e cuts y lowers rk' size zero = record {
    before = before;
    stands = s;
    within = km;
    row-keys = rk;
    lowest = l;
    chosen = c;
    same-best = sym rk'.best;
    following = following-first m n g low x _ k P a fresh before s km keys rk picked least known b new start covered e cuts y lowers rk' size zero;
  }

  module _ (start : Found) (t : ℕ) (new : Bool) (now : Found) (covered : List Bool) (tm : t < m) (h : Turn m n g low x y k P a fresh keys least picked start t new now covered) where
    -- the next turn, from what holds before it
    turned : (t' : ℕ) (new' : Bool) (now' : Found) (covered' : List Bool) → Following m n g low k (row_numbers P) fresh h.before keys picked least t' new' now' covered' →
        Turn m n g low x y k P a fresh keys least picked start t' new' now' covered'
    turned t' new' now' covered' f = record {
      before = h.before;
      stands = h.stands;
      within = h.within;
      row-keys = h.row-keys;
      lowest = h.lowest;
      chosen = h.chosen;
      same-best = h.same-best;
      following = f;
    }

    pub turn-skip : (row : ℕ) → row ≡ get_or (row_numbers P) t 0 → (Marked (row_numbers P) keys least picked t → get_or covered row false ≡ true) → Turn m n g low x y k P a fresh keys least picked start (t + 1) new now covered
    turn-skip row e passed =
        turned (t + 1) new now covered
        (following-skip m n g low x y k P a fresh h.before h.stands h.within keys picked least t new now covered tm h.following (λ w. rw (← e) (passed w)))

    module _ (row : ℕ) (e : row ≡ get_or (row_numbers P) t 0) (has-least : get_or keys row 0 ≡ least) (is-picked : get_or picked t false ≡ true) (Q : RowPermutation) (lists : Lists (swapped (row_numbers P) k t) P.size Q) where
      marked : Marked (row_numbers P) keys least picked t
      marked = record { has-least = rw (← e) has-least; stays = is-picked }

      pub turn-stands : (c : List ℕ) → Refined y row a c → Standing m n g low x y (k + 1) Q c new now
      turn-stands c r =
          rw add-one
          (followed-stands m n g low x y k P a fresh h.before h.stands h.within keys picked least t new now covered tm h.following h.row-keys marked Q lists row e c r)

      pub turn-back : (out : Found) → Outcome m n g low (k + 1) (row_numbers Q) new now out → out.back < k → (old : Found) → start.best ≡ old.best → Outcome m n g low k (row_numbers P) fresh old out
      turn-back out o l old same =
          outcome-for m n g low k (row_numbers P) fresh h.before old out (h.same-best ∙ same)
          (followed-back m n g low x y k P a fresh h.before h.stands h.within keys picked least t new now covered tm h.following h.row-keys marked Q lists out o l)

      pub turn-next : (out : Found) → Outcome m n g low (k + 1) (row_numbers Q) new now out → (out.back < k → ⊥) → (covered' : List Bool) → Spreads m n g k (row_numbers P) (set covered row true) covered' →
          Turn m n g low x y k P a fresh keys least picked start (t + 1) false out covered'
      turn-next out o l covered' spread =
          turned (t + 1) false out covered'
          (following-next m n g low x y k P a fresh h.before h.stands h.within keys picked least t new now covered tm h.following h.row-keys marked Q lists out o row e covered' spread
          (omega arith))

  pub turn-all : (start : Found) (t : ℕ) (new : Bool) (now : Found) (covered : List Bool) → m ≤ t → Turn m n g low x y k P a fresh keys least picked start t new now covered → (old : Found) → start.best ≡ old.best →
      Outcome m n g low k (row_numbers P) fresh old now
  turn-all start t new now covered mt h old same =
      outcome-for m n g low k (row_numbers P) fresh h.before old now (h.same-best ∙ same)
      (followed-all m n g low x y k P a fresh h.before h.stands h.within keys h.row-keys picked least t new now covered mt h.lowest h.chosen h.following)
