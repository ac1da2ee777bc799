-- Programs that compose and invert permutations, held in `width` positions each with its size: their contracts, and faults. The width is 8 for rows, 5
-- for a terminal's rows and 16 for columns. The contracts are those of `composed` and `inverse`, on the numbers in the positions. A fault is that there
-- are permutations on which it happens.
--
--   InPositions width n p      ==  the size n and the list p are what the code can hold: a machine word, and `width` bytes
--   Composing, Inverting       ==  such programs
--   Composes width f, Inverts width f  ==  f meets the contract, on all arguments that can be held
--   ComposesBackwards width f  ==  p followed by r sends i to r (p i)
--   AcceptsBy t width f        ==  a list that passes the test t is composed, though it is no permutation
--   AcceptsRepeats width f     ==  so is one whose numbers are below its size: a number listed twice is not noticed
--   AcceptsTooLarge width f    ==  so is one that lists no number twice: a number that is too large is not noticed
--   AcceptsOtherSizes width f  ==  the second size is not looked at
--   AcceptsSize0 width f       ==  lists of size 0 are composed: the result is not the starting order
--   AcceptsPast width f        ==  lists of a size one past the width are
--   ReturnsArgument width f    ==  a permutation is called its own inverse
--   order_faults width          ==  these, of programs for permutations held in so many positions
use Rattle.std.specs.Prelude.{◌≡◌, List, [], ◌∷◌, Bool, true, false, ℕ, suc, length, take, ltb, leb}
use Rattle.permutations.specs.Lists.{every, occurrences}
use Rattle.permutations.specs.Permutations.{identity, composed}
use Rattle.permutations.specs.Padded.{padded, is_sound, composed_padded, inverse_padded}
use Rattle.grids.specs.Lent.{IsWord, Bytes}
use Rattle.turned_down.specs.Faults.{Fault, fault}

pub record InPositions (width n : ℕ) (p : List ℕ) : Type 0 where
  pub size_word : IsWord n
  pub bytes : Bytes p
  pub positions : length p ≡ width

abbrev pub Composing : Type 0
Composing = (n : ℕ) → (p : List ℕ) → (k : ℕ) → (r : List ℕ) → List ℕ

abbrev pub Inverting : Type 0
Inverting = (n : ℕ) → (p : List ℕ) → List ℕ

unfoldable pub Composes : ℕ → Composing → Type 0
Composes width f = (n : ℕ) (p : List ℕ) (k : ℕ) (r : List ℕ) → InPositions width n p → InPositions width k r → f n p k r ≡ composed_padded width n p k r

unfoldable pub Inverts : ℕ → Inverting → Type 0
Inverts width f = (n : ℕ) (p : List ℕ) → InPositions width n p → f n p ≡ inverse_padded width n p

-- two permutations of one size that do not commute
unfoldable pub ComposesBackwards : ℕ → Composing → Type 0
ComposesBackwards width f =
    (n : ℕ) × (p : List ℕ) × (r : List ℕ) × InPositions width n p × InPositions width n r ×
    (composed_padded width n r n p ≡ composed_padded width n p n r → ⊥) × (f n p n r ≡ composed_padded width n r n p)

-- a list that passes the test t and is no permutation, followed by a permutation: not the starting order
unfoldable pub AcceptsBy : (ℕ → List ℕ → Bool) → ℕ → Composing → Type 0
AcceptsBy t width f =
    (n : ℕ) × (p : List ℕ) × (r : List ℕ) × InPositions width n p × InPositions width n r ×
    (t n (take n p) ≡ true) × (is_sound width n p ≡ false) × (is_sound width n r ≡ true) ×
    (padded width n (composed n (take n p) (take n r)) ≡ identity width → ⊥) × (f n p n r ≡ padded width n (composed n (take n p) (take n r)))

abbrev pub AcceptsRepeats : ℕ → Composing → Type 0
AcceptsRepeats = AcceptsBy (λ n p. every (λ x. ltb x n) p)

abbrev pub AcceptsTooLarge : ℕ → Composing → Type 0
AcceptsTooLarge = AcceptsBy (λ n p. every (λ x. leb (occurrences x p) 1) p)

unfoldable pub AcceptsOtherSizes : ℕ → Composing → Type 0
AcceptsOtherSizes width f =
    (n : ℕ) × (p : List ℕ) × (k : ℕ) × (r : List ℕ) × InPositions width n p × InPositions width k r × (n ≡ k → ⊥) ×
    (composed_padded width n p n r ≡ identity width → ⊥) × (f n p k r ≡ composed_padded width n p n r)

unfoldable pub AcceptsSize0 : ℕ → Composing → Type 0
AcceptsSize0 width f = (p : List ℕ) × (r : List ℕ) × InPositions width 0 p × InPositions width 0 r × (f 0 p 0 r ≡ identity width → ⊥)

unfoldable pub AcceptsPast : ℕ → Composing → Type 0
AcceptsPast width f =
    (p : List ℕ) × (r : List ℕ) × InPositions width (suc width) p × InPositions width (suc width) r × (f (suc width) p (suc width) r ≡ identity width → ⊥)

-- a permutation that is not its own inverse
unfoldable pub ReturnsArgument : ℕ → Inverting → Type 0
ReturnsArgument width f = (n : ℕ) × (p : List ℕ) × InPositions width n p × (is_sound width n p ≡ true) × (inverse_padded width n p ≡ p → ⊥) × (f n p ≡ p)

-- ---- as a list

-- of rows, in 8 positions, of a terminal's rows, in 5, and of columns, in 16
unfoldable pub order_faults : ℕ → List Fault
order_faults width =
    fault (Composes width) (ComposesBackwards width)
    ∷ fault (Composes width) (AcceptsRepeats width)
    ∷ fault (Composes width) (AcceptsTooLarge width)
    ∷ fault (Composes width) (AcceptsOtherSizes width)
    ∷ fault (Composes width) (AcceptsSize0 width)
    ∷ fault (Composes width) (AcceptsPast width)
    ∷ fault (Inverts width) (ReturnsArgument width)
    ∷ []
