-- Steps of the functions that make and read keys of rows.
--
--   row_at, row_within, key-at  ==  the number at a position is that of the row there, is below 8, and its key is that of the row
--   column-most        ==  a column of a list is at most 15
--   digit-next         ==  a number to base 16 with a digit more
--   number-room        ==  a number of less than 16 digits has room for one more
--   lowest-one, lowest-next  ==  the least of some keys: of one, and with a key more
--   with_none, with-next, with-skip  ==  the rows that have a key: at first, with a row more that has it, and with one that does not
use Rattle.std.proofs.Common.{◌≡◌, ℕ, zero, suc, ◌+◌, ◌*◌, ◌^◌, ◌<◌, ◌≤◌, ◌⊎◌, ◌↔◌, List, map, min, get_or, sym, ap, ◌∙◌, inl, inr, mul-suc, add-one, arith, pow_mono, pow-add}
use native.Mathlib.Decide.{ℕ_discrete, dec_lt}
use Rattle.permutations.specs.Rows.{row_number}
use Rattle.permutations.specs.declared.rows.RowNumber.{RowNumber}
use Rattle.permutations.proofs.ArrayLaws.{map_at, map-length}
use Rattle.branches.specs.Keys.{number}
use Rattle.search.specs.RowSets.{IsRowSet, HasRow}
use Rattle.search.specs.ColumnLists.{column_at}
use Rattle.search.specs.Keys.{RowsWithin, Lowest, WithKey}
use Rattle.search.proofs.RowSetLaws.{none-set, has-none}

pub column-most : (l j : ℕ) → column_at l j ≤ 15
unfolding column_at
column-most l j = omega arith

-- ---- rows at positions

module _ (l : List RowNumber) (w : RowsWithin (map row_number l)) (t : ℕ) (t8 : t < 8) (d : RowNumber) where
  pub row_at : get_or (map row_number l) t 0 ≡ row_number (get_or l t d)
  row_at = sym (map_at row_number l t d (omega (arith, map-length row_number l 8 w.size)))

  pub row_within : row_number (get_or l t d) < 8
  row_within = omega (arith, row_at, w.within t t8)

  pub key-at : (keys : List ℕ) → get_or keys (get_or (map row_number l) t 0) 0 ≡ get_or keys (row_number (get_or l t d)) 0
  key-at keys = ap (λ (z : ℕ). get_or keys z 0) row_at

-- ---- numbers to base 16

pub digit-next : (j : ℕ) (f : ℕ → ℕ) (x d : ℕ) → x ≡ number j f → d ≡ f j → 16 * x + d ≡ number (j + 1) f
unfolding number
digit-next j f x d e q = rw add-one (omega (arith, e, q))

number_fits : (j : ℕ) (f : ℕ → ℕ) → ((i : ℕ) → f i ≤ 15) → number j f < 2 ^ (4 * j)
unfolding number
number_fits zero f small = omega arith
number_fits (suc j) f small = rw (mul-suc 4 j, pow-add 2 (4 * j) 4) (omega (arith, number_fits j f small, small j))

pub number-room : (j : ℕ) (f : ℕ → ℕ) → ((i : ℕ) → f i ≤ 15) → j < 16 → number j f < 2 ^ 60
number-room j f small b =
    let most : 2 ^ (4 * j) ≤ 2 ^ 60 = pow_mono {i = 4 * j} {j = 60} (omega arith) in
    omega (arith, number_fits j f small, most)

-- ---- the least key

pub lowest-one : (k : ℕ) (p keys : List ℕ) (key : ℕ) → get_or keys (get_or p k 0) 0 ≡ key → Lowest (k + 1) k p keys key
lowest-one k p keys key e = record { no_more = λ t kt tk. one t (omega arith); reached = (k, omega arith, omega arith, e) }
  where
    one : (t : ℕ) → t ≡ k → key ≤ get_or keys (get_or p t 0) 0
    one t g = rw g (omega (arith, e))

module _ {t k : ℕ} {p keys : List ℕ} {least : ℕ} (l : Lowest t k p keys least) (key : ℕ) (e : get_or keys (get_or p t 0) 0 ≡ key) where
  among : (v : ℕ) → v ≤ least → v ≤ key → (s : ℕ) → k ≤ s → s < t + 1 → v ≤ get_or keys (get_or p s 0) 0
  among v vl vk s ks st = go (ℕ_discrete s t)
    where
      go : Dec (s ≡ t) → v ≤ get_or keys (get_or p s 0) 0
      go (yes g) = rw g (omega (arith, e))
      go (no ne) = omega (arith, l.no_more s ks (omega arith))

  pub lowest-next : k ≤ t → (v : ℕ) → v ≡ min least key → Lowest (t + 1) k p keys v
  lowest-next kt v m = record { no_more = among v (omega arith) (omega arith); reached = go (dec_lt key least) }
    where
      go : Dec (key < least) → (s : ℕ) × (k ≤ s) × (s < t + 1) × (get_or keys (get_or p s 0) 0 ≡ v)
      go (yes lt) = (t, kt, omega arith, omega (arith, e))
      go (no ge) = let r = l.reached in (r.0, r.1, omega (arith, r.2), omega (arith, r.3))

-- ---- the rows that have a key

pub with_none : (k : ℕ) (p keys : List ℕ) (v : ℕ) → WithKey k k p keys v 0
with_none k p keys v = record { set = none-set; has = λ t a b. absurd (omega arith); only = λ r h. absurd (has-none r h) }

module _ (t k : ℕ) (p keys : List ℕ) (v s row : ℕ) (kt : k ≤ t) (e : get_or p t 0 ≡ row) (w : WithKey t k p keys v s) where
  pub with-next : get_or keys row 0 ≡ v → (s' : ℕ) → IsRowSet s' → ((x : ℕ) → HasRow s' x ↔ (HasRow s x ⊎ (x ≡ row))) → WithKey (t + 1) k p keys v s'
  with-next same s' is_set joined = record {
    set = is_set;
    has = λ u ku ut eq. (joined (get_or p u 0)).1 (go u ku ut eq (ℕ_discrete u t));
    only = λ r h. which r ((joined r).0 h);
  }
    where
      go : (u : ℕ) → k ≤ u → u < t + 1 → get_or keys (get_or p u 0) 0 ≡ v → Dec (u ≡ t) → HasRow s (get_or p u 0) ⊎ (get_or p u 0 ≡ row)
      go u ku ut eq (yes y) = inr (ap (λ (z : ℕ). get_or p z 0) y ∙ e)
      go u ku ut eq (no y) = inl (w.has u ku (omega arith) eq)

      which : (r : ℕ) → HasRow s r ⊎ (r ≡ row) → (u : ℕ) × (k ≤ u) × (u < t + 1) × (get_or p u 0 ≡ r) × (get_or keys r 0 ≡ v)
      which r (inl h) = let o = w.only r h in (o.0, o.1, omega (arith, o.2), o.3, o.4)
      which r (inr h) = (t, kt, omega arith, e ∙ sym h, rw h same)

  pub with-skip : (get_or keys row 0 ≡ v → ⊥) → WithKey (t + 1) k p keys v s
  with-skip other = record {
    set = w.set;
    has = λ u ku ut eq. go u ku ut eq (ℕ_discrete u t);
    only = λ r h. let o = w.only r h in (o.0, o.1, omega (arith, o.2), o.3, o.4);
  }
    where
      go : (u : ℕ) → k ≤ u → u < t + 1 → get_or keys (get_or p u 0) 0 ≡ v → Dec (u ≡ t) → HasRow s (get_or p u 0)
      go u ku ut eq (yes y) =
          let here : get_or p u 0 ≡ row = ap (λ (z : ℕ). get_or p z 0) y ∙ e in
          absurd (other (sym (ap (λ (z : ℕ). get_or keys z 0) here) ∙ eq))
      go u ku ut eq (no y) = w.has u ku (omega arith) eq
