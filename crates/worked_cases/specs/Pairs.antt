-- Where two plans part, as two tables: how far two lists agree, and what same answers of two grids.
--
--   PrefixCase  ==  two lists, and how many leading values agree
--   prefixes    ==  their table
--   PairCase    ==  two grids with m rows, n columns and this top, same's number, and how many leading cells agree
--   pairs       ==  their table
--   terminal_pairs  ==  the table of a terminal's same
--   PairsHold   ==  the statement: the definitions give these numbers
use Rattle.std.specs.Prelude.{◌≡◌, List, [], ◌∷◌, ℕ}
use Rattle.permutations.specs.Lists.{All}
use Rattle.grids.specs.CommonPrefix.{common_prefix_length}
use Rattle.canonical.specs.Same.{same_number, same_agreed, terminal_same_number, terminal_same_agreed}

pub record PrefixCase : Type 0 where
  pub a : List ℕ
  pub b : List ℕ
  pub agreed : ℕ

unfoldable pub prefixes : List PrefixCase
prefixes =
    -- lists of one length: none, some, all but one, all
    record { a = 1 ∷ 2 ∷ 3 ∷ []; b = 2 ∷ 2 ∷ 3 ∷ []; agreed = 0 }
    ∷ record { a = 1 ∷ 2 ∷ 3 ∷ []; b = 1 ∷ 3 ∷ 3 ∷ []; agreed = 1 }
    ∷ record { a = 1 ∷ 2 ∷ 3 ∷ []; b = 1 ∷ 2 ∷ 4 ∷ []; agreed = 2 }
    ∷ record { a = 1 ∷ 2 ∷ 3 ∷ []; b = 1 ∷ 2 ∷ 3 ∷ []; agreed = 3 }
    -- of two lengths: the one begins the other, or they part before
    ∷ record { a = []; b = []; agreed = 0 }
    ∷ record { a = []; b = 0 ∷ []; agreed = 0 }
    ∷ record { a = 1 ∷ 2 ∷ 3 ∷ []; b = 1 ∷ 2 ∷ []; agreed = 2 }
    ∷ record { a = 1 ∷ []; b = 1 ∷ 2 ∷ 3 ∷ []; agreed = 1 }
    ∷ record { a = 1 ∷ 2 ∷ []; b = 1 ∷ 3 ∷ 2 ∷ []; agreed = 1 }
    ∷ []

pub record PairCase : Type 0 where
  pub m : ℕ
  pub n : ℕ
  pub top : ℕ
  pub a : List ℕ
  pub b : List ℕ
  pub number : ℕ
  pub agreed : ℕ

unfoldable pub pairs : List PairCase
pairs =
    -- M6: 00/11 and 01/01 agree in one cell
    record { m = 2; n = 2; top = 1; a = 0 ∷ 0 ∷ 1 ∷ 1 ∷ []; b = 0 ∷ 1 ∷ 0 ∷ 1 ∷ []; number = 103; agreed = 1 }
    -- in none
    ∷ record { m = 1; n = 1; top = 1; a = 0 ∷ []; b = 1 ∷ []; number = 103; agreed = 0 }
    -- 10/00 and 11/00 have the representatives 00/01 and 00/11: a full row agrees
    ∷ record { m = 2; n = 2; top = 1; a = 1 ∷ 0 ∷ 0 ∷ 0 ∷ []; b = 1 ∷ 1 ∷ 0 ∷ 0 ∷ []; number = 103; agreed = 2 }
    ∷ record { m = 2; n = 2; top = 1; a = 1 ∷ 1 ∷ 0 ∷ 0 ∷ []; b = 1 ∷ 0 ∷ 0 ∷ 0 ∷ []; number = 103; agreed = 2 }
    -- all but one: 02/00 and 10/00 have 00/02 and 00/01, 100 and 020 have 001 and 002
    ∷ record { m = 2; n = 2; top = 2; a = 0 ∷ 2 ∷ 0 ∷ 0 ∷ []; b = 1 ∷ 0 ∷ 0 ∷ 0 ∷ []; number = 103; agreed = 3 }
    ∷ record { m = 1; n = 3; top = 2; a = 1 ∷ 0 ∷ 0 ∷ []; b = 0 ∷ 2 ∷ 0 ∷ []; number = 103; agreed = 2 }
    -- 10 and 12 agree in a cell as sent, their representatives 01 and 12 in none
    ∷ record { m = 1; n = 2; top = 2; a = 1 ∷ 0 ∷ []; b = 1 ∷ 2 ∷ []; number = 103; agreed = 0 }
    -- all: M1 and M5 with their representatives, the symmetric 01/10 and 10/01
    ∷ record { m = 2; n = 3; top = 3; a = 2 ∷ 2 ∷ 3 ∷ 2 ∷ 3 ∷ 1 ∷ []; b = 1 ∷ 2 ∷ 3 ∷ 3 ∷ 2 ∷ 2 ∷ []; number = 0; agreed = 6 }
    ∷ record { m = 1; n = 3; top = 3; a = 3 ∷ 0 ∷ 2 ∷ []; b = 0 ∷ 2 ∷ 3 ∷ []; number = 0; agreed = 3 }
    ∷ record { m = 2; n = 2; top = 1; a = 0 ∷ 1 ∷ 1 ∷ 0 ∷ []; b = 1 ∷ 0 ∷ 0 ∷ 1 ∷ []; number = 0; agreed = 4 }
    -- a refusal has 0, though the grids agree in part or in whole
    ∷ record { m = 0; n = 1; top = 0; a = []; b = []; number = 1; agreed = 0 }
    ∷ record { m = 1; n = 0; top = 0; a = []; b = []; number = 2; agreed = 0 }
    ∷ record { m = 1; n = 1; top = 16; a = 0 ∷ []; b = 0 ∷ []; number = 3; agreed = 0 }
    ∷ record { m = 1; n = 1; top = 0; a = 0 ∷ 0 ∷ []; b = 0 ∷ 0 ∷ []; number = 6; agreed = 0 }
    ∷ record { m = 1; n = 2; top = 0; a = 0 ∷ 1 ∷ []; b = 0 ∷ 1 ∷ []; number = 7; agreed = 0 }
    ∷ record { m = 1; n = 2; top = 1; a = 0 ∷ 1 ∷ []; b = 0 ∷ 2 ∷ []; number = 7; agreed = 0 }
    ∷ []

unfoldable pub terminal_pairs : List PairCase
terminal_pairs =
    -- M6 and M5
    record { m = 2; n = 2; top = 1; a = 0 ∷ 0 ∷ 1 ∷ 1 ∷ []; b = 0 ∷ 1 ∷ 0 ∷ 1 ∷ []; number = 103; agreed = 1 }
    ∷ record { m = 1; n = 3; top = 3; a = 3 ∷ 0 ∷ 2 ∷ []; b = 0 ∷ 2 ∷ 3 ∷ []; number = 0; agreed = 3 }
    -- a refusal has 0; 6 rows are refused by 14 and 9 by 1, though the grids are equal
    ∷ record { m = 6; n = 1; top = 0; a = 0 ∷ 0 ∷ 0 ∷ 0 ∷ 0 ∷ 0 ∷ []; b = 0 ∷ 0 ∷ 0 ∷ 0 ∷ 0 ∷ 0 ∷ []; number = 14; agreed = 0 }
    ∷ record { m = 8; n = 17; top = 16; a = []; b = 0 ∷ []; number = 14; agreed = 0 }
    ∷ record { m = 9; n = 1; top = 0; a = []; b = []; number = 1; agreed = 0 }
    ∷ record { m = 5; n = 1; top = 0; a = 0 ∷ []; b = 0 ∷ []; number = 6; agreed = 0 }
    ∷ []

unfoldable pub PairsHold : Type 0
PairsHold =
    All (λ c. common_prefix_length c.a c.b ≡ c.agreed) prefixes
    × All (λ c. (same_number c.m c.n c.top c.a c.b ≡ c.number) × (same_agreed c.m c.n c.top c.a c.b ≡ c.agreed)) pairs
    × All (λ c. (terminal_same_number c.m c.n c.top c.a c.b ≡ c.number) × (terminal_same_agreed c.m c.n c.top c.a c.b ≡ c.agreed)) terminal_pairs
