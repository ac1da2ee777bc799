-- What the tests of pairs of columns say together.
--
--   exchanged, turned   ==  crossed columns, oriented for one row, and for the other
--   apart-turned        ==  two pairs are apart, whichever stands first
--   sides-neither, sides-equal  ==  neither row is over the other, or they are equal
--   one_side, two-sides ==  which row is over the other, by one pair of columns and by two
--   over-fewer          ==  a row is over another where fewer other rows are
--   sides-others        ==  which row is over the other, by all other rows of a set
--   first-over          ==  the second row is over the first
use Rattle.std.proofs.Common.{◌≡◌, ℕ, ◌<◌, true, Option, None, Some, ◌⊎◌, ◌↔◌, List, sym, ap, inl, inr, arith}
use Rattle.search.specs.declared.pairs.Covered.{Covered}
use Rattle.search.specs.declared.pairs.Covered.TheVariants.{First, Second}
use Rattle.search.specs.RowSets.{HasRow}
use Rattle.search.specs.Tables.{entry}
use Rattle.search.specs.Domination.{differs, differences, Crossed, Oriented, NoneHigher, Tried, Apart, Exchanged, OverAmong, equal, by_one, by_two, Others, Over, Sides}
use Rattle.search.proofs.DifferenceLaws.{differ-yes, none_differ, two-differ, four-differ}

-- ---- columns

module _ (y v : List ℕ) (a b c d p q : ℕ) (c16 : c < 16) (d16 : d < 16) (h : Crossed y v a b c d) (o : Oriented y b c d p q) where
  pub exchanged : Exchanged y v a b p q
  exchanged = go o.either
    where
      go : ((p ≡ c) × (q ≡ d)) ⊎ ((p ≡ d) × (q ≡ c)) → Exchanged y v a b p q
      go (inl (e, f)) = record {
        first-within = omega arith;
        second-within = omega arith;
        untold = rw (e, f) h.untold;
        there = rw (e, f) h.there;
        back = rw (e, f) (sym h.back);
        lower = let l = rw (e, f) at o.ordered in rw (e, f) (omega (arith, l, h.differ, h.there, h.back));
      }
      go (inr (e, f)) = record {
        first-within = omega arith;
        second-within = omega arith;
        untold = rw (e, f) (sym h.untold);
        there = rw (e, f) (sym h.back);
        back = rw (e, f) h.there;
        lower = let l = rw (e, f) at o.ordered in rw (e, f) (omega (arith, l, h.differ, h.there, h.back));
      }

pub turned : (y v : List ℕ) (a b c d : ℕ) → Exchanged y v a b c d → Exchanged y v b a d c
turned y v a b c d h = record {
  first-within = h.second-within;
  second-within = h.first-within;
  untold = sym h.untold;
  there = sym h.there;
  back = sym h.back;
  lower = omega (arith, h.there, h.back, h.lower);
}

flipped : {c d e f : ℕ} → Apart c d e f → Apart e f c d
flipped h = record {
  first-first = λ z. h.first-first (sym z);
  first-second = λ z. h.second-first (sym z);
  second-first = λ z. h.first-second (sym z);
  second-second = λ z. h.second-second (sym z);
}

apart-first : {y : List ℕ} {b c d e f p q : ℕ} → Oriented y b c d p q → Apart c d e f → Apart p q e f
apart-first {y} {b} {c} {d} {e} {f} {p} {q} o h = go o.either
  where
    go : ((p ≡ c) × (q ≡ d)) ⊎ ((p ≡ d) × (q ≡ c)) → Apart p q e f
    go (inl (i, j)) = rw (i, j) h
    go (inr (i, j)) =
        rw (i, j) (record { first-first = h.second-first; first-second = h.second-second; second-first = h.first-first; second-second = h.first-second })

pub apart-turned : {y : List ℕ} {b c d e f p q r s : ℕ} → Oriented y b c d p q → Oriented y b e f r s → Apart c d e f → Apart p q r s
apart-turned o i h = flipped (apart-first i (flipped (apart-first o h)))

-- ---- outcomes

neither : {r : Covered} → None ≡ Some r → ⊥
neither e = let z : ◌≡◌ {A = ℕ} 0 1 = cc in omega arith

first-second : Some First ≡ Some Second → ⊥
first-second e = let z : ◌≡◌ {A = ℕ} 0 1 = cc in omega arith

module _ (y w v : List ℕ) (X : ℕ → Type 0) (a b : ℕ) where
  pub sides-neither : Sides y w v X a b None
  sides-neither = record { first = λ z. absurd (neither z); second = λ z. absurd (neither z) }

  pub sides-equal : differences y a b ≡ 0 → Sides y w v X a b (Some Second)
  sides-equal h = record { first = λ z. absurd (first-second (sym z)); second = λ z. equal (none_differ y a b h) }

  -- the columns of a pair differ, and so do the rows there
  module _ (c d : ℕ) (h : Exchanged y v a b c d) where
    unlike : c ≡ d → ⊥
    unlike e = let z : entry y b c ≡ entry y b d = ap (entry y b) e in omega (arith, z, h.lower)

    low-differs : differs y a b c ≡ true
    low-differs = differ-yes y a b c (λ e. omega (arith, e, h.there, h.lower))

    high-differs : differs y a b d ≡ true
    high-differs = differ-yes y a b d (λ e. omega (arith, e, h.back, h.lower))

  pub one_side : (c d : ℕ) (r : Option Covered) → differences y a b ≡ 2 → Exchanged y v a b c d → Tried w X c d c d r → Sides y w v X a b r
  one_side c d r two h t = record {
    first = λ z. by_one d c (turned y v a b c d h) (t.first z).0 (λ j j16 nd nc. sym (alone j j16 nc nd));
    second = λ z. by_one c d h (t.second z).0 alone;
  }
    where
      alone : (j : ℕ) → j < 16 → (j ≡ c → ⊥) → (j ≡ d → ⊥) → entry y a j ≡ entry y b j
      alone = two-differ y a b c d h.first-within h.second-within (unlike c d h) (low-differs c d h) (high-differs c d h) two

  pub two-sides : (c d e f : ℕ) (r : Option Covered) → differences y a b ≡ 4 → Exchanged y v a b c d → Exchanged y v a b e f → Apart c d e f → Tried w X c d e f r → Sides y w v X a b r
  two-sides c d e f r four h i o t = record {
    first = λ z. by_two d c f e (turned y v a b c d h) (turned y v a b e f i) other (t.first z).0 (t.first z).1 (λ j j16 nd nc nf ne. sym (alone j j16 nc nd ne nf));
    second = λ z. by_two c d e f h i o (t.second z).0 (t.second z).1 alone;
  }
    where
      other : Apart d c f e
      other = record { first-first = o.second-second; first-second = o.second-first; second-first = o.first-second; second-second = o.first-first }

      alone : (j : ℕ) → j < 16 → (j ≡ c → ⊥) → (j ≡ d → ⊥) → (j ≡ e → ⊥) → (j ≡ f → ⊥) → entry y a j ≡ entry y b j
      alone =
          four-differ y a b c d h.first-within h.second-within (unlike c d h) (low-differs c d h) (high-differs c d h) e f i.first-within i.second-within (unlike e f i)
          o.first-first o.first-second o.second-first o.second-second (low-differs e f i) (high-differs e f i) four

-- ---- other rows

pub over-fewer : {y w v : List ℕ} {X Y : ℕ → Type 0} {a b : ℕ} → ((x : ℕ) → Y x → X x) → OverAmong y w v X a b → OverAmong y w v Y a b
unfolding NoneHigher
over-fewer fewer (equal h) = equal h
over-fewer fewer (by_one c d h n o) = by_one c d h (λ x z. n x (fewer x z)) o
over-fewer fewer (by_two c d e f h i p n q o) = by_two c d e f h i p (λ x z. n x (fewer x z)) (λ x z. q x (fewer x z)) o

pub sides-others : {y w v : List ℕ} (s t o : ℕ) {a b : ℕ} {r : Option Covered} → ((x : ℕ) → HasRow t x ↔ (HasRow s x × (x ≡ a → ⊥))) → ((x : ℕ) → HasRow o x ↔ (HasRow t x × (x ≡ b → ⊥))) →
    Sides y w v (HasRow o) a b r → Sides y w v (Others s a b) a b r
unfolding Others
sides-others s t o {a = a} {b = b} one two h = record { first = λ z. over-fewer fewer (h.first z); second = λ z. over-fewer fewer (h.second z) }
  where
    fewer : (x : ℕ) → HasRow s x × (x ≡ a → ⊥) × (x ≡ b → ⊥) → HasRow o x
    fewer x (g, na, nb) = (two x).1 ((one x).1 (g, na), nb)

pub first-over : {y w v : List ℕ} (s : ℕ) {a b : ℕ} → OverAmong y w v (Others s a b) b a → Over y w v s b a
unfolding Others
first-over s h = over-fewer (λ x z. (z.0, z.2, z.1)) h
