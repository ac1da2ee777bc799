-- Laws of sets of rows from which rows are taken that another covers.
--
--   covering-trans   ==  what covers a row that covers another covers that one
--   thinned-same     ==  nothing is taken
--   thinned-drop     ==  one row more is taken, which a row that stays is over
--   thinned-twice    ==  rows are taken, and then more
--   row_count s, fewer-rows  ==  how many rows a set has; a part without one of its rows has fewer
--   has-below        ==  the rows of a set are below 8
--   Held y w v s t a out todo  ==  where row a of the set t is held against others: of t the set out is left, with row a and those still to do
--   held_start, held-second, held_first, held-less  ==  at the start, and where row a is held against one more: row a is over it, or it over row a; fewer are to do
--   Undone y w v s t left todo  ==  of the set t the set left is left, with those still to do
--   undone-start, undone-less, undone-next  ==  at the start, with fewer to do, and after a row
--   thinned-thins    ==  what is left is as good, for the rows left of a grid
use Rattle.std.proofs.Common.{◌≡◌, ℕ, ◌<◌, ◌≤◌, Bool, eqb, ◌↔◌, List, get_or, sym, refl, ◌∙◌, get_or-take, eq-eqb, ne_eqb, eqb-true}
use native.Mathlib.Decide.{ℕ_discrete}
use Rattle.permutations.specs.Sums.{count}
use Rattle.branches.specs.Branches.{Next}
use Rattle.branches.proofs.CountLaws.{count_less}
use Rattle.search.specs.RowSets.{lane, IsRowSet, HasRow, Thins}
use Rattle.search.specs.Domination.{Over, Covering, itself, over, Thinned, Left}
use Rattle.search.proofs.OverLaws.{over-next}

-- ---- covering

module _ (y w v : List ℕ) (s : ℕ) where
  pub covering-trans : (t u z x : ℕ) → Covering y w v s t u z → Covering y w v s t z x → Covering y w v s t u x
  covering-trans t u z x (itself b) h = h
  covering-trans t u z x (over a b c ha hb o g) h = over a b x ha hb o (covering-trans t b z x g h)

  covering-wider : (t r : ℕ) → ((x : ℕ) → HasRow r x → HasRow t x) → (u x : ℕ) → Covering y w v s r u x → Covering y w v s t u x
  covering-wider t r fewer u x (itself b) = itself b
  covering-wider t r fewer u x (over a b c ha hb o g) = over a b x (fewer a ha) (fewer b hb) o (covering-wider t r fewer b x g)

  pub thinned-same : (t : ℕ) → IsRowSet t → Thinned y w v s t t
  thinned-same t set = record { set = set; fewer = λ x h. h; covered = λ x h. (x, h, itself x) }

  pub thinned-drop : (t out r u b : ℕ) → Thinned y w v s t out → Over y w v s u b → HasRow out u → HasRow out b → (u ≡ b → ⊥) → IsRowSet r →
      ((x : ℕ) → HasRow r x ↔ (HasRow out x × (x ≡ b → ⊥))) → Thinned y w v s t r
  thinned-drop t out r u b h o hu hb ne set has = record {
    set = set;
    fewer = λ x z. h.fewer x ((has x).0 z).0;
    covered = λ x hx. let e = h.covered x hx in go x e.0 e.1 e.2 (ℕ_discrete e.0 b);
  }
    where
      go : (x z : ℕ) → HasRow out z → Covering y w v s t z x → Dec (z ≡ b) → (i : ℕ) × HasRow r i × Covering y w v s t i x
      go x z hz c (yes e) = (u, (has u).1 (hu, ne), over u b x (h.fewer u hu) (h.fewer b hb) o (rw e at c))
      go x z hz c (no nz) = (z, (has z).1 (hz, nz), c)

  pub thinned-twice : (t out r : ℕ) → Thinned y w v s t out → Thinned y w v s out r → Thinned y w v s t r
  thinned-twice t out r g h = record {
    set = h.set;
    fewer = λ x z. g.fewer x (h.fewer x z);
    covered = λ x hx.
        let e = g.covered x hx in
        let f = h.covered e.0 e.1 in
        (f.0, f.1, covering-trans t f.0 e.0 x (covering-wider t out g.fewer f.0 e.0 f.2) e.2);
  }

-- ---- how many rows a set has

has_row : ℕ → ℕ → Bool
has_row s r = eqb (lane r s) 128

pub row_count : ℕ → ℕ
row_count s = count 8 (has_row s)

pub fewer-rows : (s r b : ℕ) → ((x : ℕ) → HasRow r x → HasRow s x) → HasRow s b → (HasRow r b → ⊥) → row_count r < row_count s
unfolding HasRow row_count has_row
fewer-rows s r b fewer hb nb =
    count_less 8 (has_row r) (has_row s) (λ i i8 e. eq-eqb (lane i s) 128 (fewer i (i8, eqb-true (lane i r) 128 e)).1) b hb.0
    (ne_eqb (lane b r) 128 (λ e. nb (hb.0, e))) (eq-eqb (lane b s) 128 hb.1)

pub has-below : (s x : ℕ) → HasRow s x → x < 8
unfolding HasRow
has-below s x h = h.0

-- ---- a row held against others

abbrev Without : ℕ → ℕ → ℕ → Type 0
Without r s b = (x : ℕ) → HasRow r x ↔ (HasRow s x × (x ≡ b → ⊥))

without-less : (s r b : ℕ) → HasRow s b → Without r s b → row_count r < row_count s
without-less s r b hb has = fewer-rows s r b (λ x h. ((has x).0 h).0) hb (λ h. ((has b).0 h).1 refl)

pub record Held (y w v : List ℕ) (s t a out todo : ℕ) : Type 0 where
  pub thinned : Thinned y w v s t out
  pub set : IsRowSet todo
  pub has : HasRow out a
  pub apart : HasRow todo a → ⊥
  pub among : (x : ℕ) → HasRow todo x → HasRow out x

pub held_start : (y w v : List ℕ) (s t a todo : ℕ) → IsRowSet t → IsRowSet todo → HasRow t a → (HasRow todo a → ⊥) → ((x : ℕ) → HasRow todo x → HasRow t x) → Held y w v s t a t todo
held_start y w v s t a todo set some has apart among = record { thinned = thinned-same y w v s t set; set = some; has = has; apart = apart; among = among }

module _ {y w v : List ℕ} {s t a out todo : ℕ} (h : Held y w v s t a out todo) (b next : ℕ) (hb : HasRow todo b) (has : Without next todo b) where
  unlike : a ≡ b → ⊥
  unlike e = h.apart (rw e hb)

  pub held-less : row_count next < row_count todo
  held-less = without-less todo next b hb has

  pub held-second : (r : ℕ) → IsRowSet next → Over y w v s a b → IsRowSet r → Without r out b → Held y w v s t a r next
  held-second r set o some left = record {
    thinned = thinned-drop y w v s t out r a b h.thinned o h.has (h.among b hb) unlike some left;
    set = set;
    has = (left a).1 (h.has, unlike);
    apart = λ z. h.apart ((has a).0 z).0;
    among = λ x z. (left x).1 (h.among x ((has x).0 z).0, ((has x).0 z).1);
  }

  pub held_first : (r : ℕ) → Over y w v s b a → IsRowSet r → Without r out a → Thinned y w v s t r
  held_first r o some left = thinned-drop y w v s t out r b a h.thinned o (h.among b hb) h.has (λ e. unlike (sym e)) some left

-- ---- each row held against those after it

pub record Undone (y w v : List ℕ) (s t left todo : ℕ) : Type 0 where
  pub thinned : Thinned y w v s t left
  pub set : IsRowSet todo
  pub among : (x : ℕ) → HasRow todo x → HasRow left x

pub undone-start : (y w v : List ℕ) (s t : ℕ) → IsRowSet t → Undone y w v s t t t
undone-start y w v s t set = record { thinned = thinned-same y w v s t set; set = set; among = λ x h. h }

module _ {y w v : List ℕ} {s t left todo : ℕ} (h : Undone y w v s t left todo) (a rest : ℕ) (ha : HasRow todo a) (has : Without rest todo a) where
  module _ (r next : ℕ) (both : (x : ℕ) → HasRow next x ↔ (HasRow rest x × HasRow r x)) where
    pub undone-less : row_count next < row_count todo
    undone-less = fewer-rows todo next a (λ x z. ((has x).0 ((both x).0 z).0).0) ha (λ z. ((has a).0 ((both a).0 z).0).1 refl)

    pub undone-next : Thinned y w v s left r → IsRowSet next → Undone y w v s t r next
    undone-next g set = record { thinned = thinned-twice y w v s t left r h.thinned g; set = set; among = λ x z. ((both x).0 z).1 }

-- ---- for the rows left

module _ (m n : ℕ) (g y w : List ℕ) (k : ℕ) (p v : List ℕ) (s : ℕ) (h : Left m n g y w k p v s) (set : ℕ) (within : (x : ℕ) → HasRow set x → HasRow s x) where
  once : (i j : ℕ) → i < m → j < m → get_or p i 0 ≡ get_or p j 0 → i ≡ j
  once i j im jm e = h.order.permutation.once i j im jm (get_or-take m p i 0 im ∙ e ∙ sym (get_or-take m p j 0 jm))

  covering-next : (u x i j : ℕ) → k ≤ i → i < m → k ≤ j → j < m → get_or p i 0 ≡ u → get_or p j 0 ≡ x → Covering y w v s set u x → Next m n g k p i j
  unfolding Next
  covering-next u x i j ki im kj jm eu ex (itself b) = λ r c. rw (once i j im jm (eu ∙ sym ex)) at c
  covering-next u x i j ki im kj jm eu ex (over a b c ha hb o rest) = λ r cover.
      let z = h.left.only b (within b hb) in
      covering-next b x z.0 j z.1 z.2 kj jm z.3 ex rest r
      (over-next m n g y w k p v s h i z.0 ki im z.1 z.2 (rw (eu, z.3) o) r cover)

  pub thinned-thins : (r : ℕ) → Thinned y w v s set r → Thins m n g k p set r
  thinned-thins r t = record {
    set = t.set;
    fewer = t.fewer;
    as-good = λ j kj jm hj.
        let e = t.covered (get_or p j 0) hj in
        let i = h.left.only e.0 (within e.0 (t.fewer e.0 e.1)) in
        (i.0, i.1, i.2, rw i.3 e.1, covering-next e.0 (get_or p j 0) i.0 j i.1 i.2 kj jm i.3 refl e.2);
  }
