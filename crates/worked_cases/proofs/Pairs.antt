-- Two lists and two grids agree as far as the tables say.
--
--   pairs-hold  ==  the statement
use mathlib.Core.Path.{◌≡◌, refl}
use mathlib.Core.List.{flat_map}
use mathlib.Core.Bool.{◌&&◌}
use lib.Dec.{eqb}
use borrow.Author.Tests.{eqb-true}
use Rattle.permutations.specs.Lists.{tabulate, numbers, select, every, some, occurrences}
use Rattle.permutations.specs.Permutations.{is_permutation, words, permutations}
use Rattle.permutations.proofs.BoolLaws.{and_yes}
use Rattle.permutations.proofs.ListLaws.{every-all}
use Rattle.grids.specs.Order.{rank, leq, equal}
use Rattle.grids.specs.CommonPrefix.{common_prefix_length}
use Rattle.grids.specs.Grids.{capped, grid_of, arrangement, one_class}
use Rattle.grids.specs.Least.{arrangements, lesser, least_of, least}
use Rattle.grids.specs.Questions.{first_no, in_range, question1, question2, question3, question6, question7, question14, after_first}
use Rattle.canonical.specs.Same.{class_number, class_agreed, same_questions, same_number, same_agreed, terminal_same_questions, terminal_same_number, terminal_same_agreed}
use Rattle.worked_cases.specs.Pairs.{PrefixCase, prefixes, PairCase, pairs, terminal_pairs, PairsHold}

pub pairs-hold : PairsHold
unfolding PairsHold prefixes pairs terminal_pairs tabulate numbers select every some occurrences flat_map is_permutation words permutations rank leq equal common_prefix_length capped grid_of arrangement one_class arrangements lesser least_of least first_no in_range question1 question2 question3 question6 question7 question14 after_first same_questions class_number class_agreed same_number same_agreed terminal_same_questions terminal_same_number terminal_same_agreed
pairs-hold = (
  every-all (λ (c : PrefixCase). common_prefix_length c.a c.b ≡ c.agreed) (λ (c : PrefixCase). eqb (common_prefix_length c.a c.b) c.agreed) (λ c t. eqb-true _ _ t) prefixes refl,
  every-all (λ (c : PairCase). (same_number c.m c.n c.top c.a c.b ≡ c.number) × (same_agreed c.m c.n c.top c.a c.b ≡ c.agreed))
      (λ (c : PairCase). eqb (same_number c.m c.n c.top c.a c.b) c.number && eqb (same_agreed c.m c.n c.top c.a c.b) c.agreed)
      (λ c t. let h = and_yes _ _ t in (eqb-true _ _ h.0, eqb-true _ _ h.1))
      pairs
      refl,
  every-all (λ (c : PairCase). (terminal_same_number c.m c.n c.top c.a c.b ≡ c.number) × (terminal_same_agreed c.m c.n c.top c.a c.b ≡ c.agreed))
      (λ (c : PairCase). eqb (terminal_same_number c.m c.n c.top c.a c.b) c.number && eqb (terminal_same_agreed c.m c.n c.top c.a c.b) c.agreed)
      (λ c t. let h = and_yes _ _ t in (eqb-true _ _ h.0, eqb-true _ _ h.1))
      terminal_pairs
      refl,
)
