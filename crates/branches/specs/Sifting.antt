-- Rows sifted by counts. Between functions: no answer of a call is defined here.
-- A row is a function from places to cells; a set of rows is what it says of a row's number.
--
--   at_most w c v         ==  how many of the w cells c are at most v
--   Ascends w f           ==  the w cells f ascend
--   SortedBlock s w c k   ==  k's cells at the places from s on are the w cells c, sorted
--   NoLater p f h         ==  of the leading p cells of f and h, the first unequal ones decide: f's is the lesser, or all are equal
--   Leads p R K x         ==  x is of R, and of the rows of R none has lesser leading p cells
--   Threshold R C i v     ==  v is the least value for which some row of R has a count above i
--   sifted R C v i        ==  the rows of R with counts above 0, 1 .. i - 1 at the values v 0, v 1 .. v (i - 1)
--   BlockEnds n ends      ==  the n places fall into blocks: each ends further on, within n, and its places end alike
--   Starts ends u         ==  a block starts at u: all before have ended
--   Sifts n ends c R p S  ==  S are the rows of R that are least in the first p places once each block is sorted; c u x has row x's cells from place u on
use Rattle.std.specs.Prelude.{◌≡◌, List, ◌↔◌, ℕ, zero, suc, ◌+◌, ◌-◌, ◌≤◌, ◌<◌, get_or, leb}
use Rattle.permutations.specs.Permutations.{IsPermutation}
use Rattle.permutations.specs.Sums.{count}

unfoldable pub at_most : ℕ → (ℕ → ℕ) → ℕ → ℕ
at_most w c v = count w (λ j. leb (c j) v)

unfoldable pub Ascends : ℕ → (ℕ → ℕ) → Type 0
Ascends w f = (a b : ℕ) → a ≤ b → b < w → f a ≤ f b

pub record SortedBlock (s w : ℕ) (c k : ℕ → ℕ) : Type 0 where
  pub order : List ℕ
  pub permutation : IsPermutation w order
  pub cells : (j : ℕ) → j < w → k (s + j) ≡ c (get_or order j 0)
  pub ascends : Ascends w (λ j. c (get_or order j 0))

unfoldable pub NoLater : ℕ → (ℕ → ℕ) → (ℕ → ℕ) → Type 0
NoLater p f h = (t : ℕ) → t < p → ((j : ℕ) → j < t → f j ≡ h j) → f t ≤ h t

pub record Leads (p : ℕ) (R : ℕ → Type 0) (K : ℕ → ℕ → ℕ) (x : ℕ) : Type 0 where
  pub of : R x
  pub least : (y : ℕ) → R y → NoLater p (K x) (K y)

pub record Threshold (R : ℕ → Type 0) (C : ℕ → ℕ → ℕ) (i v : ℕ) : Type 0 where
  pub row : ℕ
  pub of : R row
  pub more : i < C row v
  pub none : (u : ℕ) → u < v → (y : ℕ) → R y → C y u ≤ i

unfoldable pub sifted : (ℕ → Type 0) → (ℕ → ℕ → ℕ) → (ℕ → ℕ) → ℕ → ℕ → Type 0
sifted R C v zero x = R x
sifted R C v (suc i) x = sifted R C v i x × (i < C x (v i))

pub record BlockEnds (n : ℕ) (ends : ℕ → ℕ) : Type 0 where
  pub further : (u : ℕ) → u < n → u < ends u
  pub within : (u : ℕ) → u < n → ends u ≤ n
  pub same : (u p : ℕ) → u < n → u ≤ p → p < ends u → ends p ≡ ends u

unfoldable pub Starts : (ℕ → ℕ) → ℕ → Type 0
Starts ends u = (p : ℕ) → p < u → ends p ≤ u

unfoldable pub Sifts : ℕ → (ℕ → ℕ) → (ℕ → ℕ → ℕ → ℕ) → (ℕ → Type 0) → ℕ → (ℕ → Type 0) → Type 0
Sifts n ends c R p S =
    (K : ℕ → ℕ → ℕ) → ((u : ℕ) → u < n → Starts ends u → (x : ℕ) → R x → SortedBlock u (ends u - u) (c u x) (K x)) → (x : ℕ) →
    S x ↔ Leads p R K x
