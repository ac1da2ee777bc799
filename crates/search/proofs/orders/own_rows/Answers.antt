use Rattle.std.proofs.Common.{map, length, ◌≡◌, ◌∙◌, rules, arith}
use lib.ListN.{length-map}
use Rattle.permutations.specs.Rows.{row_number}
use Rattle.permutations.proofs.ListLaws.{at_map}
use Rattle.permutations.proofs.NumbersSteps.{own-numbers}
use Rattle.search.proofs.orders.own_rows.Goals as goal

pub returns : goal.returns
returns c =
    let l = c.from_fn.result in
    let size : length l ≡ 8 = search rules in
    own-numbers 8 (map row_number l) (length-map l row_number ∙ size) (λ i i8. at_map row_number l i record { 0 = 0 } 0 (omega (arith, size)) ∙ search rules)
