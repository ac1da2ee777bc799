-- Laws of slices of bytes and of machine words.
--
--   small_word          ==  numbers below ten million are words
--   is_slice, tested-bytes, lent_test, tested-lent  ==  of literals they are computed
--   each_append, each-replicate  ==  lists put together of bytes
--   short-bytes         ==  a list of bytes that is short enough
--   bytes-at, at-bytes  ==  bytes by their places, as the code knows them
--   bytes-replicate     ==  one byte again and again
--   limits-few          ==  a grid within the limits has few cells
--   capped-bytes, grid-bytes  ==  cells of at most 255 are bytes, and those of a grid within the limits
--   limits-lent         ==  numbers within the limits are words
use mathlib.Core.Path.{◌≡◌, refl}
use mathlib.Core.List.{List, [], ◌∷◌, ◌++◌}
use mathlib.Core.Bool.{Bool, true, ◌&&◌}
use Prim.Native.Nat.{ℕ, zero, suc, ◌*◌, ◌≤◌, ◌<◌}
use native.Mathlib.Omega.{arith}
use lib.ListN.{length, get_or, replicate, length-replicate}
use lib.Dec.{ltb}
use lib.Pow.{are_bytes}
use borrow.Author.Tests.{ltb-true, lt-ltb}
use Rattle.permutations.proofs.BoolLaws.{and_yes, yes_and}
use Rattle.grids.specs.Grids.{IsGrid}
use Rattle.grids.specs.Questions.{Limits}
use Rattle.grids.specs.Lent.{Bytes, IsWord, Lent}
use Rattle.grids.proofs.QuestionLaws.{size_fits}

pub small_word : (n : ℕ) → n < 10000000 → IsWord n
unfolding IsWord
small_word n h = omega arith

-- ---- put together

pub each_append : (k l : List ℕ) → are_bytes k ≡ true → are_bytes l ≡ true → are_bytes (k ++ l) ≡ true
each_append [] l h j = j
each_append (x ∷ k) l h j =
    let w = and_yes (ltb x 256) (are_bytes k) h in
    yes_and (ltb x 256) (are_bytes (k ++ l)) w.0 (each_append k l w.1 j)

pub each-replicate : (n x : ℕ) → x < 256 → are_bytes (replicate n x) ≡ true
each-replicate zero x h = refl
each-replicate (suc n) x h = yes_and (ltb x 256) (are_bytes (replicate n x)) (lt-ltb x 256 h) (each-replicate n x h)

pub short-bytes : (l : List ℕ) → are_bytes l ≡ true → length l < 10000000 → Bytes l
short-bytes l e h = record { each = e; length-word = small_word (length l) h }

pub bytes-replicate : (n x : ℕ) → n < 10000000 → x < 256 → Bytes (replicate n x)
bytes-replicate n x h k = short-bytes (replicate n x) (each-replicate n x k) (omega (arith, length-replicate n x))

-- ---- by places

each_at : (l : List ℕ) → are_bytes l ≡ true → (i : ℕ) → get_or l i 0 < 256
each_at [] h i = omega arith
each_at (x ∷ l) h zero = ltb-true x 256 (and_yes (ltb x 256) (are_bytes l) h).0
each_at (x ∷ l) h (suc i) = each_at l (and_yes (ltb x 256) (are_bytes l) h).1 i

at_each : (l : List ℕ) → ((i : ℕ) → i < length l → get_or l i 0 < 256) → are_bytes l ≡ true
at_each [] h = refl
at_each (x ∷ l) h = yes_and (ltb x 256) (are_bytes l) (lt-ltb x 256 (h 0 (omega arith))) (at_each l (λ i k. h (suc i) (omega arith)))

pub bytes-at : (l : List ℕ) → Bytes l → (i : ℕ) → get_or l i 0 < 256
bytes-at l h i = each_at l h.each i

pub at-bytes : (l : List ℕ) → IsWord (length l) → ((i : ℕ) → i < length l → get_or l i 0 < 256) → Bytes l
at-bytes l w h = record { each = at_each l h; length-word = w }

-- ---- grids

pub limits-few : (m n top : ℕ) → Limits m n top → m * n ≤ 128
limits-few m n top l = size_fits m n l.rows-limits.1 l.column-limits.1

pub capped-bytes : (size top : ℕ) (l : List ℕ) → size < 10000000 → top ≤ 255 → length l ≡ size → ((k : ℕ) → k < size → get_or l k 0 ≤ top) → Bytes l
capped-bytes size top l few h e c = at-bytes l (small_word (length l) (omega (arith, few, e))) (λ k j. omega (arith, c k (omega (arith, e))))

pub grid-bytes : (m n top : ℕ) (g : List ℕ) → Limits m n top → IsGrid m n top g → Bytes g
grid-bytes m n top g l i = capped-bytes (m * n) top g (omega (arith, limits-few m n top l)) (omega (arith, l.top-limit)) i.sized i.capped

pub limits-lent : (m n top : ℕ) (x y : List ℕ) → Limits m n top → Bytes x → Bytes y → Lent m n top x y
limits-lent m n top x y l f g = record {
  rows = small_word m (omega (arith, l.rows-limits));
  columns = small_word n (omega (arith, l.column-limits));
  top-word = small_word top (omega (arith, l.top-limit));
  first = f;
  second = g;
}

-- ---- literals

abbrev pub is_slice : List ℕ → Bool
is_slice l = are_bytes l && ltb (length l) 10000000

pub tested-bytes : (l : List ℕ) → is_slice l ≡ true → Bytes l
tested-bytes l e = let p = and_yes (are_bytes l) (ltb (length l) 10000000) e in short-bytes l p.0 (ltb-true (length l) 10000000 p.1)

abbrev pub lent_test : ℕ → ℕ → ℕ → List ℕ → List ℕ → Bool
lent_test m n top x y = ltb m 10000000 && (ltb n 10000000 && (ltb top 10000000 && (is_slice x && is_slice y)))

pub tested-lent : (m n top : ℕ) (x y : List ℕ) → lent_test m n top x y ≡ true → Lent m n top x y
tested-lent m n top x y h =
    let p = and_yes (ltb m 10000000) _ h in
    let q = and_yes (ltb n 10000000) _ p.1 in
    let r = and_yes (ltb top 10000000) _ q.1 in
    let s = and_yes (is_slice x) (is_slice y) r.1 in record {
      rows = small_word m (ltb-true m 10000000 p.0);
      columns = small_word n (ltb-true n 10000000 q.0);
      top-word = small_word top (ltb-true top 10000000 r.0);
      first = tested-bytes x s.0;
      second = tested-bytes y s.1;
    }
