-- Laws of bytes that fit.
--
--   rest-teen, rest-other   ==  what is left of a distance
--   all_none, all-next      ==  no byte, and a byte more
--   teen-low, teen-high     ==  a top below 10, and another
use mathlib.Core.Path.{◌≡◌, refl}
use mathlib.Core.List.{List}
use mathlib.Core.Bool.{true, ◌&&◌}
use Prim.Native.Nat.{ℕ, ◌+◌, ◌≤◌, ◌<◌}
use native.Mathlib.Numerals.{add-one}
use borrow.Author.Tests.{eq-eqb, ne_eqb, lt-ltb, le-ltb}
use lib.ListN.{get_or}
use Rattle.scan.specs.Fits.{rest, fits, all_fit}
use Rattle.scan.specs.Tables.{teen_of}

pub rest-teen : (x teen : ℕ) → x ≡ teen → 0 ≡ rest x teen
unfolding rest
rest-teen x teen e = rw (eq-eqb x teen e, rest) refl

pub rest-other : (x teen : ℕ) → (x ≡ teen → ⊥) → x ≡ rest x teen
unfolding rest
rest-other x teen n = rw (ne_eqb x teen n, rest) refl

pub all_none : (b : List ℕ) (before : ℕ) (base teen span : List ℕ) (cap : ℕ) → true ≡ all_fit 0 b before base teen span cap
unfolding all_fit
all_none b before base teen span cap = refl

pub all-next : (k : ℕ) (b : List ℕ) (before : ℕ) (base teen span : List ℕ) (cap : ℕ) →
    all_fit (k + 1) b before base teen span cap
    ≡ (all_fit k b before base teen span cap && fits (get_or b (before + k + 1) 0) (get_or b (before + k) 0) (get_or base k 0) (get_or teen k 0) (get_or span k 0) cap)
unfolding all_fit
all-next k b before base teen span cap = rw add-one refl

pub teen-low : (top : ℕ) → top < 10 → 0 ≡ teen_of top
unfolding teen_of
teen-low top l = rw (lt-ltb top 10 l, teen_of) refl

pub teen-high : (top : ℕ) → 10 ≤ top → 17 ≡ teen_of top
unfolding teen_of
teen-high top l = rw (le-ltb top 10 l, teen_of) refl
