-- Numbers in decimal, right-justified in a field of w bytes, padded by spaces, without leading zeros; zero is one 0.
--
--   lead w x   ==  the digits of x in w places, a space in each place that none is left for
--   field w x  ==  the field: the same, with a last digit in any case
--   digit acc b, value_from acc s  ==  the number acc followed by the digit b, by the digits of s; spaces are passed over
--   value s    ==  the number that a field reads
use Rattle.std.specs.Prelude.{List, [], ◌∷◌, ◌++◌, true, false, ℕ, zero, suc, ◌+◌, ◌-◌, ◌*◌, ◌/◌, ◌%◌, eqb}

unfoldable pub lead : ℕ → ℕ → List ℕ
lead zero x = []
lead (suc w) zero = lead w zero ++ (32 ∷ [])
lead (suc w) (suc x) = lead w (suc x / 10) ++ ((48 + suc x % 10) ∷ [])

unfoldable pub field : ℕ → ℕ → List ℕ
field zero x = []
field (suc w) x = lead w (x / 10) ++ ((48 + x % 10) ∷ [])

unfoldable pub digit : ℕ → ℕ → ℕ
digit acc b = elim (eqb b 32) [ true ↦ acc | false ↦ acc * 10 + (b - 48) ]

unfoldable pub value_from : ℕ → List ℕ → ℕ
value_from acc [] = acc
value_from acc (b ∷ s) = value_from (digit acc b) s

unfoldable pub value : List ℕ → ℕ
value s = value_from 0 s
