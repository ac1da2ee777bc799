-- The matrices of document 002 are in one class, by the orders given here.
--
--   matrices-alike  ==  the statement
use mathlib.Core.Path.{refl}
use mathlib.Core.List.{[], ◌∷◌, flat_map}
use Rattle.permutations.specs.Lists.{tabulate, numbers, select, every, occurrences}
use Rattle.permutations.specs.Permutations.{is_permutation}
use Rattle.permutations.proofs.PermutationTest.{decides}
use Rattle.grids.specs.Grids.{grid_of, arrangement}
use Rattle.worked_cases.specs.Matrices.{MatricesAlike}

pub matrices-alike : MatricesAlike
unfolding tabulate numbers select every occurrences flat_map is_permutation grid_of arrangement
matrices-alike = record {
  first-second = record {
    rows = 3 ∷ 2 ∷ 0 ∷ 1 ∷ [];
    columns = 0 ∷ 1 ∷ 2 ∷ 3 ∷ 4 ∷ 5 ∷ [];
    row-permutation = (decides 4 _).0 refl;
    column-permutation = (decides 6 _).0 refl;
    gives = refl;
  };
  first-third = record {
    rows = 0 ∷ 1 ∷ 2 ∷ 3 ∷ [];
    columns = 0 ∷ 4 ∷ 5 ∷ 2 ∷ 3 ∷ 1 ∷ [];
    row-permutation = (decides 4 _).0 refl;
    column-permutation = (decides 6 _).0 refl;
    gives = refl;
  };
}
