-- The steps of `place`, which follows the rows that can come next one after another.
--
--   Started, Following  ==  how the search stands before position t: once a row was followed, and before
--   keys_with-ready, keys_with-are, keys_with-size  ==  keys with one at a position are ready as before, are those with it written, and are eight
--   known-still     ==  what is known of the best stays, whatever else changed
--   next-alike      ==  two rows that give the least next row give the same sorted rows
--   cut             ==  where the best's next row is lower than all that can come next, the branch is searched
--   following-first ==  at first
--   following-skip  ==  past a row that is not followed
--   followed-stands ==  how the search stands in the branch of the row at position t
--   followed-back   ==  what is returned where the search goes back to where a symmetry began
--   following-next  ==  past a row whose branch was searched
--   followed-all    ==  at the end: the branch is searched
use Rattle.std.proofs.Common.{◌≡◌, ℕ, suc, ◌+◌, ◌<◌, ◌≤◌, Bool, true, false, Option, None, Some, ◌⊎◌, List, length, get_or, take, set, sym, refl, ap, ◌∙◌, inl, inr, true≢false, arith, length-set, get_or-set_other, get_or-take, get_or-set_same}
use native.Mathlib.Decide.{ℕ_discrete, dec_lt}
use Rattle.permutations.specs.declared.rows.RowNumber.{RowNumber}
use Rattle.permutations.specs.Permutations.{swapped}
use Rattle.permutations.specs.Padded.{IsPadded}
use Rattle.permutations.proofs.SwapLaws.{at-whole, swapped-whole}
use Rattle.grids.specs.Order.{◌≼◌, ◌≺◌}
use Rattle.grids.specs.Grids.{cell, arrangement}
use Rattle.grids.proofs.OrderLaws.{≼_refl, ≼_trans, ≼-antisymm, ≼-dec}
use Rattle.branches.specs.Branches.{Begins, Covers, Next, IsNext}
use Rattle.branches.specs.SortedRows.{places_after, column_order, sorted_rows, Refined, IsApart}
use Rattle.branches.specs.Keys.{Small, key}
use Rattle.branches.proofs.BranchLaws.{covers-next, covers-agree, covers-lower, placed-stay, placed-next}
use Rattle.branches.proofs.BranchSymmetry.{covers-alike}
use Rattle.branches.proofs.LeadingRows.{leading-is}
use Rattle.branches.proofs.BitLaws.{cell-inside}
use Rattle.branches.proofs.SortedRows.{order-permutation, sorted-decides, sorted-covered}
use Rattle.branches.proofs.RefinedLaws.{places-agree, refined-places}
use Rattle.branches.proofs.KeyedRows.{key-agree, key-lower, key-same, same_key, rows-fewer, rows-swapped}
use Rattle.search.specs.declared.node.Node.{Node}
use Rattle.search.specs.declared.node.Candidates.{Candidates}
use Rattle.search.specs.declared.found.Found.{Found}
use Rattle.search.specs.RowSets.{HasRow, RowsFrom, Thins}
use Rattle.search.specs.Tables.{entry}
use Rattle.search.specs.Search.{keys_of, is_ready, keys_with, rows_of, Symmetries, CoveredRows, SpreadsWith, Known, Follows, Standing, NextRows, Cuts, Lowers, Alike, Outcome}

pub record Started (m n : ℕ) (g : List ℕ) (two : Bool) (low k : ℕ) (p : List ℕ) (fresh : Bool) (before : Found) (chosen t : ℕ) (now : Found) (covered : ℕ) : Type 0 where
  pub known : Known m n g two low now
  pub leading : sorted_rows k n g (rows_of now.best) ≡ sorted_rows k n g p
  pub next : (u : ℕ) → IsNext m n g k p u → sorted_rows (suc k) n g (rows_of now.best) ≡ sorted_rows (suc k) n g (swapped p k u)
  pub lower : fresh ≡ false → sorted_rows m n g (rows_of now.best) ≼ sorted_rows m n g (rows_of before.best)
  pub from : ((fresh ≡ false) × (rows_of now.best ≡ rows_of before.best)) ⊎ Begins k p (rows_of now.best)
  pub tried : Begins k p (rows_of now.best) → (s : ℕ) × (k ≤ s) × (s < t) × HasRow chosen (get_or p s 0) × (get_or p s 0 ≡ get_or (rows_of now.best) k 0)
  pub covers : (s : ℕ) → k ≤ s → s < t → HasRow chosen (get_or p s 0) → Covers m n g (suc k) (swapped p k s) (sorted_rows m n g (rows_of now.best))
  pub rows : CoveredRows m n g k p (sorted_rows m n g (rows_of now.best)) covered

pub record Following (m n : ℕ) (g : List ℕ) (two : Bool) (low k : ℕ) (p : List ℕ) (fresh : Bool) (before : Found) (chosen t : ℕ) (new : Bool) (now : Found) (covered : ℕ) : Type 0 where
  pub first : k ≤ t
  pub back : now.back ≡ m
  pub keys-size : length (keys_of now.keys) ≡ 8
  pub ready : two ≡ true → is_ready now.keys ≡ true
  pub placed-keys : two ≡ true → (i : ℕ) → i < k → get_or (keys_of now.keys) i 0 ≡ key two n g low i p
  pub next-key : two ≡ true → (u : ℕ) → IsNext m n g k p u → get_or (keys_of now.keys) k 0 ≡ key two n g low k (swapped p k u)
  pub untried : new ≡ true → (s : ℕ) → k ≤ s → s < t → HasRow chosen (get_or p s 0) → ⊥
  pub uncovered : new ≡ true → (r : ℕ) → HasRow covered r → ⊥
  pub lowering : new ≡ true → fresh ≡ false → (u : ℕ) → IsNext m n g k p u → sorted_rows (suc k) n g (swapped p k u) ≺ sorted_rows (suc k) n g (rows_of before.best)
  pub started : new ≡ false → Started m n g two low k p fresh before chosen t now covered
  pub pairs : IsApart m n g now.apart
  pub symmetries : Symmetries m n g (rows_of now.symmetries.maps) now.symmetries.count

-- keys with one at a position
module _ (i v : ℕ) where
  pub keys_with-ready : (k : Option (List ℕ)) → is_ready (keys_with k i v) ≡ is_ready k
  keys_with-ready (Some l) = refl
  keys_with-ready None = refl

  pub keys_with-are : (k : Option (List ℕ)) → is_ready k ≡ true → keys_of (keys_with k i v) ≡ set (keys_of k) i v
  keys_with-are (Some l) e = refl
  keys_with-are None e = absurd (true≢false (sym e))

  pub keys_with-size : (k : Option (List ℕ)) → length (keys_of k) ≡ 8 → length (keys_of (keys_with k i v)) ≡ 8
  keys_with-size (Some l) e = length-set l i v ∙ e
  keys_with-size None e = e

-- whatever else changed, the best, its columns and the keys of its rows did not
pub known-still : {m n : ℕ} {g : List ℕ} {two : Bool} {low : ℕ} (f r : Found) → r.best ≡ f.best → r.after.counts ≡ f.after.counts → keys_of r.keys ≡ keys_of f.keys → (is_ready r.keys ≡ true → is_ready f.keys ≡ true) →
    Known m n g two low f → Known m n g two low r
known-still {m} {n} {g} {two} {low} f r b a keys ready h = record {
  rows = rw b h.rows;
  keys = λ z i im. ap (λ (l : List ℕ). get_or l i 0) keys ∙ h.keys (ready z) i im ∙ ap (λ (o : List RowNumber). key two n g low i (rows_of o)) (sym b);
  places = rw (b, a) h.places;
}

-- an outcome depends on the best before alone
pub outcome-for : {m n : ℕ} {g : List ℕ} {two : Bool} {low k : ℕ} {p : List ℕ} {fresh : Bool} (before old f : Found) → before.best ≡ old.best → Outcome m n g two low k p fresh before f →
    Outcome m n g two low k p fresh old f
outcome-for before old f e h = record {
  known = h.known;
  keys-size = h.keys-size;
  ready = h.ready;
  leading = h.leading;
  lower = rw (← e) h.lower;
  from = rw (← e) h.from;
  covers = h.covers;
  alike = h.alike;
  back = h.back;
  pairs = h.pairs;
  symmetries = h.symmetries;
}

-- only an order's first m rows matter
first_of : (m n : ℕ) (g p q : List ℕ) → arrangement m n (take m p) q g ≡ arrangement m n p q g
first_of m n g p q = leading-is n g (take m p) q p q m (λ i j im jn. ap (λ (r : ℕ). cell n g r (get_or q j 0)) (get_or-take m p i 0 im))

own : (m n : ℕ) (g p : List ℕ) → arrangement m n p (column_order m n g p) g ≡ sorted_rows m n g p
unfolding sorted_rows
own m n g p = refl

module _ {m n : ℕ} {g : List ℕ} {two : Bool} {low : ℕ} {y w x : List ℕ} {node : Node} {before : Found} (s : Standing m n g two low y w x node before) (km : node.placed < m) where
  abbrev k : ℕ
  k = node.placed

  abbrev p : List ℕ
  p = rows_of node.rows

  abbrev fresh : Bool
  fresh = node.fresh

  o : IsPadded 8 m (rows_of node.rows)
  o = s.rows

  m8 : m ≤ 8
  m8 = s.tables.rows_fit

  stay : (t : ℕ) → k ≤ t → (i : ℕ) → i < k → get_or (swapped p k t) i 0 ≡ get_or p i 0
  stay t kt i ik = placed-stay m n g k p m8 km o t kt i ik

  next_row : (t : ℕ) → t < m → get_or (swapped p k t) k 0 ≡ get_or p t 0
  next_row t tm = placed-next m n g k p m8 km o t tm

  once : (i j : ℕ) → i < m → j < m → get_or p i 0 ≡ get_or p j 0 → i ≡ j
  once i j im jm e = o.permutation.once i j im jm (get_or-take m p i 0 im ∙ e ∙ sym (get_or-take m p j 0 jm))

  -- the laws of keys, for two orders of all rows
  lower-key : (q r : List ℕ) → IsPadded 8 m q → IsPadded 8 m r → sorted_rows k n g q ≡ sorted_rows k n g r → key two n g low k q < key two n g low k r → sorted_rows (suc k) n g q ≺ sorted_rows (suc k) n g r
  lower-key q r oq or = key-lower two m n g low k q r s.tables.columns-fit s.tables.size s.tables.valued (at-whole 8 m q oq k km) (at-whole 8 m r or k km)

  equal-key : (q r : List ℕ) → IsPadded 8 m q → IsPadded 8 m r → sorted_rows k n g q ≡ sorted_rows k n g r → key two n g low k q ≡ key two n g low k r → sorted_rows (suc k) n g q ≡ sorted_rows (suc k) n g r
  equal-key q r oq or = key-same two m n g low k q r s.tables.columns-fit s.tables.size s.tables.valued (at-whole 8 m q oq k km) (at-whole 8 m r or k km)

  key_of : (i : ℕ) → i < m → (q r : List ℕ) → IsPadded 8 m q → IsPadded 8 m r → sorted_rows (suc i) n g q ≡ sorted_rows (suc i) n g r → key two n g low i q ≡ key two n g low i r
  key_of i im q r oq or = same_key two m n g low i q r s.tables.columns-fit s.tables.size s.tables.valued (at-whole 8 m q oq i im) (at-whole 8 m r or i im)

  swapped_rows : (t : ℕ) → t < m → IsPadded 8 m (swapped p k t)
  swapped_rows t tm = swapped-whole 8 m p k t m8 km tm o

  same-lead : (t : ℕ) → k ≤ t → sorted_rows k n g (swapped p k t) ≡ sorted_rows k n g p
  same-lead t kt = rows-swapped m n g k p t m8 km o kt

  -- the sorted rows with the row at position t placed next
  abbrev rows-with : ℕ → List ℕ
  rows-with t = sorted_rows (suc k) n g (swapped p k t)

  pub next-alike : (t u : ℕ) → IsNext m n g k p t → IsNext m n g k p u → rows-with t ≡ rows-with u
  next-alike t u a b = ≼-antisymm (rows-with t) (rows-with u) (a.least u b.left b.within) (b.least t a.left a.within)

  -- a best whose sorted rows come before those of the least next row covers every branch
  covered-by : (best : List ℕ) (t : ℕ) → IsNext m n g k p t → sorted_rows (suc k) n g best ≺ rows-with t → (u : ℕ) → k ≤ u → u < m → Covers m n g (suc k) (swapped p k u) (sorted_rows m n g best)
  covered-by best t h l u ku um = sorted-covered m n g (suc k) (swapped p k u) best km (λ e. l (≼_trans (rows-with t) (rows-with u) (sorted_rows (suc k) n g best) (h.least u ku um) e))

  -- what gives no least next row comes after what does
  covered-other : (best : List ℕ) (t : ℕ) → IsNext m n g k p t → sorted_rows (suc k) n g best ≡ rows-with t → (u : ℕ) → k ≤ u → u < m → (IsNext m n g k p u → ⊥) →
      Covers m n g (suc k) (swapped p k u) (sorted_rows m n g best)
  covered-other best t h e u ku um no-next = sorted-covered m n g (suc k) (swapped p k u) best km (rw e (λ l. no-next (record { left = ku; within = um; least = λ v kv vm. ≼_trans (rows-with u) (rows-with t) (rows-with v) l (h.least v kv vm) })))

  module _ (c : Candidates) (next : NextRows m n g two low y node c) where
    abbrev first_next : ℕ
    first_next = next.some.0

    is-first : IsNext m n g k p first_next
    is-first = next.some.1

    first-order : IsPadded 8 m (swapped p k first_next)
    first-order = swapped_rows first_next is-first.within

    -- of a best that is known and ready, where the search is not fresh
    module _ (f : Follows m n g two low k p before) (z : fresh ≡ false) (ready : is_ready before.keys ≡ true) (known : ℕ) (e : known ≡ get_or (keys_of before.keys) k 0) where
      held : List ℕ
      held = rows_of before.best

      leads : sorted_rows k n g held ≡ sorted_rows k n g (swapped p k first_next)
      unfolding held
      leads = f.leading ∙ sym (same-lead first_next is-first.left)

      known-key : known ≡ key two n g low k held
      unfolding held
      known-key = e ∙ f.known.keys ready k km

      next-is : c.key ≡ key two n g low k (swapped p k first_next)
      next-is = next.key-known z first_next is-first

      pub key-before : known < c.key → sorted_rows (suc k) n g (rows_of before.best) ≺ rows-with first_next
      unfolding held
      key-before l = lower-key (rows_of before.best) (swapped p k first_next) f.known.rows first-order leads (omega (arith, known-key, next-is))

      pub key-after : c.key < known → rows-with first_next ≺ sorted_rows (suc k) n g (rows_of before.best)
      unfolding held
      key-after l = lower-key (swapped p k first_next) (rows_of before.best) first-order f.known.rows (sym leads) (omega (arith, known-key, next-is))

      pub key-equal : c.key ≡ known → sorted_rows (suc k) n g (rows_of before.best) ≡ rows-with first_next
      unfolding held
      key-equal l = equal-key (rows_of before.best) (swapped p k first_next) f.known.rows first-order leads (omega (arith, known-key, next-is))

    pub cut : (known : ℕ) (b : Bool) → (fresh ≡ false → is_ready before.keys ≡ true) → known ≡ get_or (keys_of before.keys) k 0 → Cuts fresh known c.key b → b ≡ true → Outcome m n g two low k p fresh before before
    cut known b ready e cuts said = record {
      known = f.known;
      keys-size = s.keys-size;
      ready = s.ready;
      leading = f.leading;
      lower = λ z. ≼_refl (sorted_rows m n g (rows_of before.best));
      from = inl (z0, refl);
      covers = λ z. covers-next m n g k p m8 km o (sorted_rows m n g (rows_of before.best)) (covered-by (rows_of before.best) first_next is-first (key-before f z0 (ready z0) known e (cuts.yes said).1));
      alike = λ z. absurd (omega (arith, s.back));
      back = omega (arith, s.back);
      pairs = s.pairs;
      symmetries = s.symmetries;
    }
      where
        z0 : fresh ≡ false
        z0 = (cuts.yes said).0

        f : Follows m n g two low k p before
        f = s.follows z0

    -- the best as it was, but for the key of the next row, which is written where all keys are
    module _ (chosen known : ℕ) (b new : Bool) (now : Found) (covered : ℕ) (ready : fresh ≡ false → is_ready before.keys ≡ true) (e : known ≡ get_or (keys_of before.keys) k 0) (cuts : Cuts fresh known c.key b) (uncut : b ≡ false)
        (lowers : Lowers fresh known c.key new) (same-best : now.best ≡ before.best) (same_after : now.after.counts ≡ before.after.counts) (same-ready : is_ready now.keys ≡ is_ready before.keys) (same-apart : now.apart ≡ before.apart) (same_back : now.back ≡ before.back)
        (same-symmetries : now.symmetries ≡ before.symmetries)
        (kept-keys : new ≡ false → keys_of now.keys ≡ keys_of before.keys) (written : two ≡ true → new ≡ true → keys_of now.keys ≡ set (keys_of before.keys) k c.key) (size : length (keys_of now.keys) ≡ 8) (none : (r : ℕ) → HasRow covered r → ⊥) where
      stays-equal : new ≡ false → c.key ≡ known
      stays-equal z = omega (arith, (lowers.no z).1, cuts.no uncut (lowers.no z).0)

      earlier-keys : two ≡ true → (b : Bool) → new ≡ b → (i : ℕ) → i < k → get_or (keys_of now.keys) i 0 ≡ key two n g low i p
      earlier-keys z true v i ik = rw (written z v) (get_or-set_other (keys_of before.keys) k i c.key 0 (omega arith) ∙ s.keys z i ik)
      earlier-keys z false v i ik = rw (kept-keys v) (s.keys z i ik)

      this_key : two ≡ true → (b : Bool) → new ≡ b → (u : ℕ) → IsNext m n g k p u → get_or (keys_of now.keys) k 0 ≡ key two n g low k (swapped p k u)
      this_key z true v u h = rw (written z v) (get_or-set_same (keys_of before.keys) k c.key 0 (omega (arith, s.keys-size, m8)) ∙ next.key-two z u h)
      this_key z false v u h = rw (kept-keys v) (sym e ∙ sym (stays-equal v) ∙ next.key-two z u h)

      began : new ≡ false → Started m n g two low k p fresh before chosen k now covered
      unfolding CoveredRows
      began z = record {
        known = known-still before now same-best same_after (kept-keys z) (λ v. sym same-ready ∙ v) f.known;
        leading = rw same-best f.leading;
        next = λ u h. rw same-best (key-equal f (lowers.no z).0 (ready (lowers.no z).0) known e (stays-equal z) ∙ next-alike first_next u is-first h);
        lower = λ v. rw same-best (≼_refl (sorted_rows m n g (rows_of before.best)));
        from = inl ((lowers.no z).0, ap rows_of same-best);
        tried = λ v. absurd (f.apart (rw same-best at v));
        covers = λ t kt tk. absurd (omega arith);
        rows = λ t kt tm nz. absurd (none (get_or p t 0) nz);
      }
        where
          f : Follows m n g two low k p before
          f = s.follows (lowers.no z).0

      pub following-first : Following m n g two low k p fresh before chosen k new now covered
      following-first = record {
        first = omega arith;
        back = same_back ∙ s.back;
        keys-size = size;
        ready = λ z. same-ready ∙ s.ready z;
        placed-keys = λ z i ik. earlier-keys z new refl i ik;
        next-key = λ z u h. this_key z new refl u h;
        untried = λ z t kt tk. absurd (omega arith);
        uncovered = λ z. none;
        lowering = λ z v u h. rw (← (next-alike first_next u is-first h)) (key-after (s.follows v) v (ready v) known e (lowers.yes z v));
        started = began;
        pairs = rw same-apart s.pairs;
        symmetries = rw same-symmetries s.symmetries;
      }

  module _ (chosen t : ℕ) (new : Bool) (now : Found) (covered : ℕ) (tm : t < m) (h : Following m n g two low k p fresh before chosen t new now covered) where
    pub following-skip : (HasRow chosen (get_or p t 0) → HasRow covered (get_or p t 0)) → Following m n g two low k p fresh before chosen (t + 1) new now covered
    unfolding CoveredRows
    following-skip passed = record {
      first = omega (arith, h.first);
      back = h.back;
      keys-size = h.keys-size;
      ready = h.ready;
      placed-keys = h.placed-keys;
      next-key = h.next-key;
      untried = λ z u ku ut. untried z u ku ut (ℕ_discrete u t);
      uncovered = h.uncovered;
      lowering = h.lowering;
      started = λ z. let d = h.started z in record {
        known = d.known;
        leading = d.leading;
        next = d.next;
        lower = d.lower;
        from = d.from;
        tried = λ v. let e = d.tried v in (e.0, e.1, omega (arith, e.2), e.3, e.4);
        covers = λ u ku ut nz. covers d u ku ut nz (ℕ_discrete u t);
        rows = d.rows;
      };
      pairs = h.pairs;
      symmetries = h.symmetries;
    }
      where
        untried : new ≡ true → (u : ℕ) → k ≤ u → u < t + 1 → Dec (u ≡ t) → HasRow chosen (get_or p u 0) → ⊥
        untried z u ku ut (no e) v = h.untried z u ku (omega arith) v
        untried z u ku ut (yes e) v = h.uncovered z (get_or p t 0) (passed (rw e at v))

        covers : Started m n g two low k p fresh before chosen t now covered → (u : ℕ) → k ≤ u → u < t + 1 → HasRow chosen (get_or p u 0) → Dec (u ≡ t) → Covers m n g (suc k) (swapped p k u) (sorted_rows m n g (rows_of now.best))
        covers d u ku ut nz (no e) = d.covers u ku (omega arith) nz
        covers d u ku ut nz (yes e) = rw e (d.rows t h.first tm (passed (rw e at nz)))

    -- the row at position t is followed: the order with it next
    module _ (marked : HasRow chosen (get_or p t 0)) (is-next : IsNext m n g k p t) where
      kt : k ≤ t
      kt = h.first

      q : List ℕ
      q = swapped p k t

      oq : IsPadded 8 m q
      unfolding q
      oq = swapped_rows t tm

      q-stays : (i : ℕ) → i < k → get_or q i 0 ≡ get_or p i 0
      unfolding q
      q-stays i ik = stay t kt i ik

      q-next : get_or q k 0 ≡ get_or p t 0
      unfolding q
      q-next = next_row t tm

      q-lead : sorted_rows k n g q ≡ sorted_rows k n g p
      unfolding q
      q-lead = same-lead t kt

      earlier-key : (i : ℕ) → i < k → key two n g low i q ≡ key two n g low i p
      earlier-key i ik = key-agree two n g low i q p (λ j ji. q-stays j (omega arith))

      begins-fewer : (l : List ℕ) → Begins (suc k) q l → Begins k p l
      unfolding Begins
      begins-fewer l b i ik = b i (omega arith) ∙ q-stays i ik

      begins-last : (l : List ℕ) → Begins (suc k) q l → get_or l k 0 ≡ get_or p t 0
      unfolding Begins
      begins-last l b = b k (omega arith) ∙ q-next

      -- the node with it placed
      pub followed-stands : (deeper : Node) → rows_of deeper.rows ≡ swapped p k t → deeper.placed ≡ suc k → Refined node.after.counts (entry y (get_or p t 0)) deeper.after.counts → RowsFrom (suc k) m (swapped p k t) deeper.rest.bytes → deeper.fresh ≡ new →
          Standing m n g two low y w x deeper now
      unfolding q Small
      followed-stands deeper rows placed refined rest same-fresh = record {
        tables = s.tables;
        placed-fits = rw placed km;
        rows = rw rows oq;
        places = rw (rows, placed) (record { size = refined.size; holds = places });
        rest = rw (rows, placed) rest;
        keys-size = h.keys-size;
        ready = h.ready;
        keys = λ z. rw (rows, placed) (λ i ik. keys-are z i ik (ℕ_discrete i k));
        follows = λ z. rw (rows, placed) (follows (h.started (sym same-fresh ∙ z)));
        pairs = h.pairs;
        back = h.back;
        symmetries = h.symmetries;
      }
        where
          row_within : get_or p t 0 < m
          row_within = at-whole 8 m p o t tm

          places : (c : ℕ) → c < 16 → get_or deeper.after.counts c 0 ≡ places_after (suc k) n g q c
          places =
              refined-places k n g q node.after.counts deeper.after.counts (entry y (get_or p t 0)) s.tables.columns-fit
              (λ c cn. rw q-next (s.tables.valued.small _ (cell-inside m n g s.tables.size (get_or p t 0) c row_within cn)))
              (λ c cn. rw q-next (s.tables.by_rows.holds (get_or p t 0) c row_within cn))
              (λ c c16. s.places.holds c c16 ∙ places-agree k n g p q (λ i ik. sym (q-stays i ik)) c) refined

          keys-are : two ≡ true → (i : ℕ) → i < suc k → Dec (i ≡ k) → get_or (keys_of now.keys) i 0 ≡ key two n g low i q
          keys-are z i ik (yes e) = rw e (h.next-key z t is-next)
          keys-are z i ik (no e) = h.placed-keys z i (omega arith) ∙ sym (earlier-key i (omega arith))

          follows : Started m n g two low k p fresh before chosen t now covered → Follows m n g two low (suc k) q now
          follows d = record {
            known = d.known;
            leading = d.next t is-next;
            apart = λ v. apart (d.tried (begins-fewer (rows_of now.best) v)) (begins-last (rows_of now.best) v);
          }
            where
              apart : (u : ℕ) × (k ≤ u) × (u < t) × HasRow chosen (get_or p u 0) × (get_or p u 0 ≡ get_or (rows_of now.best) k 0) → get_or (rows_of now.best) k 0 ≡ get_or p t 0 → ⊥
              apart z v = let e = once z.0 t (omega (arith, z.2)) tm (z.4 ∙ v) in omega (arith, z.2)

      -- the search of its branch found f
      module _ (f : Found) (out : Outcome m n g two low (suc k) (swapped p k t) new now f) where
        best : List ℕ
        best = rows_of f.best

        ob : IsPadded 8 m best
        unfolding best
        ob = out.known.rows

        lead : sorted_rows k n g best ≡ sorted_rows k n g p
        unfolding best q
        lead = rows-fewer n g best q k (suc k) (omega arith) out.leading ∙ q-lead

        earlier : (i : ℕ) → i < k → key two n g low i best ≡ key two n g low i p
        unfolding best q
        earlier i ik = key_of i (omega arith) best q ob oq (rows-fewer n g best q (suc i) (suc k) (omega arith) out.leading) ∙ earlier-key i ik

        next-rows : (u : ℕ) → IsNext m n g k p u → sorted_rows (suc k) n g best ≡ sorted_rows (suc k) n g (swapped p k u)
        unfolding best
        next-rows u hu = out.leading ∙ next-alike t u is-next hu

        lower : fresh ≡ false → sorted_rows m n g best ≼ sorted_rows m n g (rows_of before.best)
        unfolding best
        lower z = go new refl
          where
            go : (b : Bool) → new ≡ b → sorted_rows m n g (rows_of f.best) ≼ sorted_rows m n g (rows_of before.best)
            go true e = sorted-decides m (suc k) n g best (rows_of before.best) km (rw out.leading (h.lowering e z t is-next))
            go false e =
                ≼_trans (sorted_rows m n g (rows_of f.best)) (sorted_rows m n g (rows_of now.best)) (sorted_rows m n g (rows_of before.best)) (out.lower e) ((h.started e).lower z)

        from : ((fresh ≡ false) × (best ≡ rows_of before.best)) ⊎ Begins k p best
        unfolding best q
        from = go out.from
          where
            go : ((new ≡ false) × (rows_of f.best ≡ rows_of now.best)) ⊎ Begins (suc k) q (rows_of f.best) → ((fresh ≡ false) × (rows_of f.best ≡ rows_of before.best)) ⊎ Begins k p (rows_of f.best)
            go (inr b) = inr (begins-fewer (rows_of f.best) b)
            go (inl e) = rw e.1 (h.started e.0).from

        pub followed-back : f.back < k → Outcome m n g two low k p fresh before f
        unfolding best Begins q
        followed-back b = record {
          known = out.known;
          keys-size = out.keys-size;
          ready = out.ready;
          leading = lead;
          lower = lower;
          from = from;
          covers = λ z. absurd (omega arith);
          alike = λ z. let v = out.alike (omega arith) in record {
            rows = v.rows;
            row-permutation = v.row-permutation;
            begins = begins-fewer v.rows v.begins;
            gives = v.gives;
            agrees = v.agrees;
            parts = v.parts;
          };
          back = out.back;
          pairs = out.pairs;
          symmetries = out.symmetries;
        }

        -- the best's next row was tried: one of the rows before t, or the row at t itself
        tried : Begins k p best → (u : ℕ) × (k ≤ u) × (u < t + 1) × HasRow chosen (get_or p u 0) × (get_or p u 0 ≡ get_or best k 0)
        unfolding best q
        tried b = go out.from
          where
            go : ((new ≡ false) × (rows_of f.best ≡ rows_of now.best)) ⊎ Begins (suc k) q (rows_of f.best) → (u : ℕ) × (k ≤ u) × (u < t + 1) × HasRow chosen (get_or p u 0) × (get_or p u 0 ≡ get_or (rows_of f.best) k 0)
            go (inr v) = (t, kt, omega arith, marked, sym (begins-last (rows_of f.best) v))
            go (inl e) = let d = (h.started e.0).tried (rw e.1 at b) in (d.0, d.1, omega (arith, d.2), d.3, d.4 ∙ ap (λ (l : List ℕ). get_or l k 0) (sym e.1))

        -- what covers a branch for the best at hand covers it for the new one
        still : new ≡ false → (u : ℕ) → Covers m n g (suc k) (swapped p k u) (sorted_rows m n g (rows_of now.best)) → Covers m n g (suc k) (swapped p k u) (sorted_rows m n g best)
        unfolding best
        still e u = covers-lower m n g (suc k) (swapped p k u) (sorted_rows m n g (rows_of now.best)) (sorted_rows m n g (rows_of f.best)) (out.lower e)

        -- an arrangement of the branch equals the best's, which begins with the same k rows and goes on with a row tried before
        copied : Alike m n g (suc k) q best k → (u : ℕ) → k ≤ u → u < m → get_or p u 0 ≡ get_or best k 0 → Covers m n g (suc k) (swapped p k u) (sorted_rows m n g best) → Covers m n g (suc k) q (sorted_rows m n g best)
        unfolding Begins
        copied v u ku um e c =
            covers-agree m n g (suc k) v.rows q (sorted_rows m n g best) (λ i ik. sym (v.begins i ik))
            (covers-alike m n g (suc k) (take m best) (column_order m n g best) v.rows (column_order m n g v.rows) (sorted_rows m n g best) km ob.permutation (order-permutation m n g best)
            v.row-permutation (order-permutation m n g v.rows) same
            (covers-agree m n g (suc k) (swapped p k u) (take m best) (sorted_rows m n g best) (λ i ik. get_or-take m best i 0 (omega arith) ∙ go i ik (ℕ_discrete i k)) c))
          where
            same : arrangement m n (take m best) (column_order m n g best) g ≡ arrangement m n v.rows (column_order m n g v.rows) g
            same = first_of m n g best (column_order m n g best) ∙ own m n g best ∙ sym v.gives ∙ sym (own m n g v.rows)

            go : (i : ℕ) → i < suc k → Dec (i ≡ k) → get_or best i 0 ≡ get_or (swapped p k u) i 0
            go i ik (yes z) = rw z (sym e ∙ sym (next_row u um))
            go i ik (no z) = sym (v.agrees i (omega arith)) ∙ v.begins i ik ∙ q-stays i (omega arith) ∙ sym (stay u ku i (omega arith))

        this : k ≤ f.back → Covers m n g (suc k) q (sorted_rows m n g best)
        unfolding best Begins q
        this kb = go (dec_lt k f.back)
          where
            go : Dec (k < f.back) → Covers m n g (suc k) q (sorted_rows m n g (rows_of f.best))
            go (yes l) = out.covers l
            go (no l) = let v : f.back ≡ k = omega arith in by (rw v at (out.alike (omega arith)))
              where
                by : Alike m n g (suc k) q (rows_of f.best) k → Covers m n g (suc k) q (sorted_rows m n g (rows_of f.best))
                by v = choose out.from
                  where
                    begins : Begins k p (rows_of f.best)
                    begins i ik = sym (v.agrees i ik) ∙ v.begins i (omega arith) ∙ q-stays i ik

                    choose : ((new ≡ false) × (rows_of f.best ≡ rows_of now.best)) ⊎ Begins (suc k) q (rows_of f.best) → Covers m n g (suc k) q (sorted_rows m n g (rows_of f.best))
                    choose (inr b) = absurd (v.parts (v.begins k (omega arith) ∙ sym (b k (omega arith))))
                    choose (inl e) =
                        let d = h.started e.0 in
                        let z = d.tried (rw e.1 at begins) in
                        copied v z.0 z.1 (omega (arith, z.2)) (z.4 ∙ ap (λ (l : List ℕ). get_or l k 0) (sym e.1)) (still e.0 z.0 (d.covers z.0 z.1 z.2 z.3))

        -- the same best, from which the search goes on
        pub following-next : (r : Found) → r.best ≡ f.best → r.after.counts ≡ f.after.counts → keys_of r.keys ≡ keys_of f.keys → is_ready r.keys ≡ is_ready f.keys → r.apart ≡ f.apart → r.symmetries ≡ f.symmetries → r.back ≡ m →
            (covered' : ℕ) → SpreadsWith m n g k p covered (get_or p t 0) covered' → k ≤ f.back → Following m n g two low k p fresh before chosen (t + 1) false r covered'
        unfolding best q CoveredRows
        following-next r same-best same_after same_keys same-ready same-apart same-symmetries back covered' spread kb = record {
          first = omega arith;
          back = back;
          keys-size = rw same_keys out.keys-size;
          ready = λ z. same-ready ∙ out.ready z;
          placed-keys = λ z i ik. rw same_keys (out.known.keys (out.ready z) i (omega arith) ∙ earlier i ik);
          next-key = λ z u hu. rw same_keys (out.known.keys (out.ready z) k km ∙ key_of k km best (swapped p k u) ob (swapped_rows u hu.within) (next-rows u hu));
          untried = λ z. absurd (true≢false (sym z));
          uncovered = λ z. absurd (true≢false (sym z));
          lowering = λ z. absurd (true≢false (sym z));
          started = λ z. record {
            known = known-still f r same-best same_after same_keys (λ v. sym same-ready ∙ v) out.known;
            leading = rw same-best lead;
            next = λ u hu. rw same-best (next-rows u hu);
            lower = λ v. rw same-best (lower v);
            from = rw same-best from;
            tried = λ v. rw same-best (tried (rw same-best at v));
            covers = λ u ku ut nz. rw same-best (covers u ku ut nz (ℕ_discrete u t));
            rows = rw same-best (spread.covers (sorted_rows m n g (rows_of f.best)) rows (λ u ku um z. again u um z));
          };
          pairs = rw same-apart out.pairs;
          symmetries = rw same-symmetries out.symmetries;
        }
          where
            covers : (u : ℕ) → k ≤ u → u < t + 1 → HasRow chosen (get_or p u 0) → Dec (u ≡ t) → Covers m n g (suc k) (swapped p k u) (sorted_rows m n g (rows_of f.best))
            covers u ku ut nz (yes z) = rw z (this kb)
            covers u ku ut nz (no z) = go new refl
              where
                go : (b : Bool) → new ≡ b → Covers m n g (suc k) (swapped p k u) (sorted_rows m n g (rows_of f.best))
                go true v = absurd (h.untried v u ku (omega arith) nz)
                go false v = still v u ((h.started v).covers u ku (omega arith) nz)

            again : (u : ℕ) → u < m → get_or p u 0 ≡ get_or p t 0 → Covers m n g (suc k) (swapped p k u) (sorted_rows m n g (rows_of f.best))
            again u um z = let v : u ≡ t = once u t um tm z in rw v (this kb)

            rows : (u : ℕ) → k ≤ u → u < m → HasRow covered (get_or p u 0) → Covers m n g (suc k) (swapped p k u) (sorted_rows m n g (rows_of f.best))
            rows u ku um nz = go new refl
              where
                go : (b : Bool) → new ≡ b → Covers m n g (suc k) (swapped p k u) (sorted_rows m n g (rows_of f.best))
                go true v = absurd (h.uncovered v (get_or p u 0) nz)
                go false v = still v u ((h.started v).rows u ku um nz)

  pub followed-all : (c : Candidates) → NextRows m n g two low y node c → (chosen t : ℕ) (new : Bool) (now : Found) (covered : ℕ) → m ≤ t → Thins m n g k p c.rows.bytes chosen →
      Following m n g two low k p fresh before chosen t new now covered → Outcome m n g two low k p fresh before now
  unfolding Next
  followed-all c next chosen t new now covered mt thins h = go new refl
    where
      first : ℕ
      first = next.some.0

      is-first : IsNext m n g k p first
      is-first = next.some.1

      go : (b : Bool) → new ≡ b → Outcome m n g two low k p fresh before now
      go true e =
          let z = thins.as-good first is-first.left is-first.within (next.every first is-first) in
          absurd (h.untried e z.0 z.1 (omega (arith, z.2)) z.3)
      go false e = record {
        known = d.known;
        keys-size = h.keys-size;
        ready = h.ready;
        leading = d.leading;
        lower = d.lower;
        from = d.from;
        covers = λ z. covers-next m n g k p m8 km o (sorted_rows m n g (rows_of now.best)) (λ u ku um. each u ku um (≼-dec (rows-with u) (rows-with first)));
        alike = λ z. absurd (omega (arith, h.back));
        back = omega (arith, h.back);
        pairs = h.pairs;
        symmetries = h.symmetries;
      }
        where
          d : Started m n g two low k p fresh before chosen t now covered
          d = h.started e

          each : (u : ℕ) → k ≤ u → u < m → Dec (rows-with u ≼ rows-with first) → Covers m n g (suc k) (swapped p k u) (sorted_rows m n g (rows_of now.best))
          each u ku um (yes l) =
              let hu : IsNext m n g k p u = record { left = ku; within = um; least = λ v kv vm. ≼_trans (rows-with u) (rows-with first) (rows-with v) l (is-first.least v kv vm) } in
              let z = thins.as-good u ku um (next.every u hu) in
              z.4 (sorted_rows m n g (rows_of now.best)) (d.covers z.0 z.1 (omega (arith, z.2)) z.3)
          each u ku um (no l) = covered-other (rows_of now.best) first is-first (d.next first is-first) u ku um (λ hu. l (hu.least first is-first.left is-first.within))
