-- Every marked plan holds: the definitions compute what document 01 says.
--
--   marked-plans  ==  the statement, case by case
use mathlib.Core.Path.{refl}
use mathlib.Core.List.{flat_map}
use Rattle.permutations.specs.Lists.{tabulate, numbers, select, every, some, occurrences}
use Rattle.permutations.specs.Permutations.{is_permutation, words, permutations}
use Rattle.grids.specs.Order.{rank, leq, equal}
use Rattle.grids.specs.Grids.{capped, grid_of, row, permuted_row, arrangement, one_class}
use Rattle.grids.specs.Least.{arrangements, lesser, least_of, least}
use Rattle.grids.specs.Questions.{first_no, in_range, question1, question2, question3, question6, question7}
use Rattle.canonical.specs.Represent.{represent_questions}
use Rattle.canonical.specs.Same.{class_number, same_questions, same_number}
use Rattle.bounds.specs.Bounds.{ranks_within, between, fillings, grids_within}
use Rattle.bounds.specs.Kept.{obeyed, keeps, kept_values, lowest_from, lowest, highest_from, highest, kept_low, kept_high, removed_values, removed}
use Rattle.bounds.specs.Allperm.{allperm}
use Rattle.bounds.specs.Prune.{question8, bounds_questions, pruned_yes, pruned}
use Rattle.marked_plans.specs.MarkedPlans.{Holds, table, MarkedPlans}

pub marked-plans : MarkedPlans
unfolding MarkedPlans Holds table tabulate numbers select every some occurrences flat_map is_permutation words permutations rank leq equal grid_of row permuted_row arrangement one_class arrangements lesser least_of least first_no in_range capped question1 question2 question3 question6 question7 represent_questions same_questions class_number same_number ranks_within between fillings grids_within obeyed keeps kept_values lowest_from lowest highest_from highest kept_low kept_high removed_values removed allperm question8 bounds_questions pruned_yes pruned
marked-plans =
    ((refl, refl), ((refl, refl, refl), ((refl, refl), ((refl, refl), ((refl, refl), ((refl, refl), (refl, (refl, (refl, (refl, (refl, tt)))))))))))
