-- Laws of the marks of rows to place next.
--
--   never              ==  what a test that answers no would say
--   row_below          ==  a position's row number is below 8
--   drops-none, drops-twice  ==  marks that stay, and marks dropped twice
--   drops-one          ==  a mark dropped where a marked row is as good
--   left-all           ==  all positions may be left
--   chosen-marks       ==  of the marked rows those that are not dropped are left
--   none-marked        ==  at first no position is marked
use mathlib.Core.Path.{◌≡◌, sym, ◌∙◌}
use mathlib.Core.List.{List}
use mathlib.Core.Bool.{Bool, true, false, true≢false}
use Prim.Native.Nat.{ℕ, ◌≤◌, ◌<◌}
use native.Mathlib.Decide.{ℕ_discrete, dec_lt}
use native.Mathlib.Omega.{arith}
use lib.ListN.{length, get_or, set, replicate, length-set, length-replicate, get_or-replicate, get_or-eq_default}
use lib.Seq.{get_or-set_same, get_or-set_other}
use Rattle.permutations.specs.Rows.{RowPermutation}
use Rattle.permutations.specs.Rows.{row_numbers, IsRowPermutation}
use Rattle.permutations.proofs.SwapLaws.{at-whole}
use Rattle.two_values.specs.Search.{Next, Drops, Left}
use Rattle.two_values.specs.Domination.{MarksLeast}

pub never : {P : Type 0} → false ≡ true → P
never e = absurd (true≢false (sym e))

pub row_below : (m : ℕ) (p : RowPermutation) (i r : ℕ) → IsRowPermutation m p → m ≤ 8 → i < m → r ≡ get_or (row_numbers p) i 0 → r < 8
row_below m p i r o m8 im e = let l = at-whole 8 m (row_numbers p) o.whole i im in omega arith

-- ---- marks

module _ (m n : ℕ) (g : List ℕ) (k : ℕ) (p : List ℕ) where
  next-same : (t : ℕ) → Next m n g k p t t
  unfolding Next
  next-same t r cover = cover

  next-twice : (s t u : ℕ) → Next m n g k p s t → Next m n g k p u s → Next m n g k p u t
  unfolding Next
  next-twice s t u st us r cover = st r (us r cover)

  pub drops-none : (a : List Bool) → length a ≡ 8 → Drops m n g k p a a
  drops-none a e = record { size = e; fewer = λ t marked. marked; as-good = λ t kt tm marked. (t, kt, tm, marked, next-same t) }

  pub drops-twice : (a b c : List Bool) → Drops m n g k p a b → Drops m n g k p b c → Drops m n g k p a c
  drops-twice a b c x y = record {
    size = y.size;
    fewer = λ t marked. x.fewer t (y.fewer t marked);
    as-good = λ t kt tm marked.
        let u = x.as-good t kt tm marked in
        let v = y.as-good u.0 u.1 u.2 u.3 in
        (v.0, v.1, v.2, v.3, next-twice u.0 t v.0 u.4 v.4);
  }

  pub drops-one : (a : List Bool) (s t : ℕ) → length a ≡ 8 → t < 8 → (s ≡ t → ⊥) → k ≤ s → s < m → get_or a s false ≡ true → Next m n g k p s t → Drops m n g k p a (set a t false)
  drops-one a s t e t8 ne ks sm marked next = record {
    size = length-set a t false ∙ e;
    fewer = λ u left. fewer u left (ℕ_discrete u t);
    as-good = λ u ku um was. as-good u ku um was (ℕ_discrete u t);
  }
    where
      fewer : (u : ℕ) → get_or (set a t false) u false ≡ true → Dec (u ≡ t) → get_or a u false ≡ true
      fewer u left (yes f) = never (sym (rw f (get_or-set_same a t false false (omega arith))) ∙ left)
      fewer u left (no nf) = sym (get_or-set_other a t u false false nf) ∙ left

      as-good : (u : ℕ) → k ≤ u → u < m → get_or a u false ≡ true → Dec (u ≡ t) → (v : ℕ) × (k ≤ v) × (v < m) × (get_or (set a t false) v false ≡ true) × Next m n g k p v u
      as-good u ku um was (yes f) = (s, ks, sm, get_or-set_other a t s false false ne ∙ marked, rw f next)
      as-good u ku um was (no nf) = (u, ku, um, get_or-set_other a t u false false nf ∙ was, next-same u)

  pub left-all : (keys : List ℕ) (least : ℕ) → m ≤ 8 → Left m n g k p keys least (replicate 8 true)
  left-all keys least m8 = record {
    size = length-replicate 8 true;
    as-good = λ t kt tm h. (t, kt, tm, record { has-least = h; stays = get_or-replicate 8 t true false (omega arith) }, next-same t);
  }

  pub chosen-marks : (keys : List ℕ) (least : ℕ) (a b : List Bool) → MarksLeast k m p keys least a → Drops m n g k p a b → Left m n g k p keys least b
  chosen-marks keys least a b x y = record {
    size = y.size;
    as-good = λ t kt tm h.
        let u = y.as-good t kt tm (x.every-least t kt tm h) in
        (u.0, u.1, u.2, record { has-least = x.only-least u.0 (y.fewer u.0 u.3); stays = u.3 }, u.4);
  }

-- ---- the rows with the least key

abbrev unmarked : List Bool
unmarked = replicate 8 false

pub none-marked : (t : ℕ) → get_or unmarked t false ≡ false
none-marked t = go (dec_lt t 8)
  where
    go : Dec (t < 8) → get_or unmarked t false ≡ false
    go (yes h) = get_or-replicate 8 t false false h
    go (no h) = get_or-eq_default unmarked false (let e : length unmarked ≡ 8 = length-replicate 8 false in omega arith)
