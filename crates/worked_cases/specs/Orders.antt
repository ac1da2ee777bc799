-- Orders that follow each other, their reverses and the starting one, as one table: what the definitions give, and the numbers listed.
--
--   OrderCase   ==  a list that a definition gives, and its numbers
--   starting8, starting5  ==  8 positions, and 5, each holding its own number
--   orders      ==  the table
--   OrdersHold  ==  the statement: every list has these numbers
use Rattle.std.specs.Prelude.{◌≡◌, List, [], ◌∷◌, ℕ}
use Rattle.permutations.specs.Lists.{All}
use Rattle.permutations.specs.Permutations.{identity, composed, inverse}
use Rattle.permutations.specs.Padded.{composed_padded, inverse_padded}

pub record OrderCase : Type 0 where
  pub gives : List ℕ
  pub numbers : List ℕ

abbrev pub starting8 : List ℕ
starting8 = 0 ∷ 1 ∷ 2 ∷ 3 ∷ 4 ∷ 5 ∷ 6 ∷ 7 ∷ []

abbrev pub starting5 : List ℕ
starting5 = 0 ∷ 1 ∷ 2 ∷ 3 ∷ 4 ∷ []

unfoldable pub orders : List OrderCase
orders =
    record { gives = identity 3; numbers = 0 ∷ 1 ∷ 2 ∷ [] }
    -- P followed by R sends i to P(R(i))
    ∷ record { gives = composed 3 (1 ∷ 0 ∷ 2 ∷ []) (0 ∷ 2 ∷ 1 ∷ []); numbers = 1 ∷ 2 ∷ 0 ∷ [] }
    ∷ record { gives = inverse 3 (1 ∷ 2 ∷ 0 ∷ []); numbers = 2 ∷ 0 ∷ 1 ∷ [] }
    -- in 8 positions, those past the size hold their own number, and only those below it are looked at
    ∷ record { gives = composed_padded 8 3 (1 ∷ 0 ∷ 2 ∷ 9 ∷ []) 3 (0 ∷ 2 ∷ 1 ∷ 9 ∷ []); numbers = 1 ∷ 2 ∷ 0 ∷ 3 ∷ 4 ∷ 5 ∷ 6 ∷ 7 ∷ [] }
    ∷ record { gives = inverse_padded 8 3 (1 ∷ 2 ∷ 0 ∷ 9 ∷ []); numbers = 2 ∷ 0 ∷ 1 ∷ 3 ∷ 4 ∷ 5 ∷ 6 ∷ 7 ∷ [] }
    -- in 16
    ∷ record { gives = inverse_padded 16 3 (1 ∷ 2 ∷ 0 ∷ []); numbers = 2 ∷ 0 ∷ 1 ∷ 3 ∷ 4 ∷ 5 ∷ 6 ∷ 7 ∷ 8 ∷ 9 ∷ 10 ∷ 11 ∷ 12 ∷ 13 ∷ 14 ∷ 15 ∷ [] }
    -- the sizes differ; a number is listed twice, in the one or in the other; a number is too large; size 0; size 9
    ∷ record { gives = composed_padded 8 2 (1 ∷ 0 ∷ []) 3 (0 ∷ 1 ∷ 2 ∷ []); numbers = starting8 }
    ∷ record { gives = composed_padded 8 2 (1 ∷ 1 ∷ []) 2 (0 ∷ 1 ∷ []); numbers = starting8 }
    ∷ record { gives = composed_padded 8 2 (1 ∷ 0 ∷ []) 2 (1 ∷ 1 ∷ []); numbers = starting8 }
    ∷ record { gives = composed_padded 8 2 (1 ∷ 0 ∷ []) 2 (0 ∷ 2 ∷ []); numbers = starting8 }
    ∷ record { gives = composed_padded 8 0 (1 ∷ 0 ∷ []) 0 (1 ∷ 0 ∷ []); numbers = starting8 }
    ∷ record { gives = inverse_padded 8 2 (1 ∷ 1 ∷ []); numbers = starting8 }
    ∷ record { gives = inverse_padded 8 2 (0 ∷ 2 ∷ []); numbers = starting8 }
    ∷ record { gives = inverse_padded 8 9 (1 ∷ 0 ∷ 2 ∷ 3 ∷ 4 ∷ 5 ∷ 6 ∷ 7 ∷ 8 ∷ []); numbers = starting8 }
    -- in a terminal's 5; there the sizes end at 5
    ∷ record { gives = identity 5; numbers = starting5 }
    ∷ record { gives = composed_padded 5 3 (1 ∷ 0 ∷ 2 ∷ 9 ∷ []) 3 (0 ∷ 2 ∷ 1 ∷ 9 ∷ []); numbers = 1 ∷ 2 ∷ 0 ∷ 3 ∷ 4 ∷ [] }
    ∷ record { gives = inverse_padded 5 5 (4 ∷ 0 ∷ 1 ∷ 2 ∷ 3 ∷ []); numbers = 1 ∷ 2 ∷ 3 ∷ 4 ∷ 0 ∷ [] }
    ∷ record { gives = inverse_padded 5 6 (1 ∷ 0 ∷ 2 ∷ 3 ∷ 4 ∷ 5 ∷ []); numbers = starting5 }
    ∷ record { gives = composed_padded 5 5 (1 ∷ 0 ∷ 2 ∷ 3 ∷ 5 ∷ []) 5 (0 ∷ 1 ∷ 2 ∷ 3 ∷ 4 ∷ []); numbers = starting5 }
    ∷ []

unfoldable pub OrdersHold : Type 0
OrdersHold = All (λ c. c.gives ≡ c.numbers) orders
