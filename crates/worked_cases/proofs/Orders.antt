-- The definitions of orders give what the table says.
--
--   orders-hold  ==  the statement
use mathlib.Core.Path.{◌≡◌, refl}
use Rattle.permutations.specs.Lists.{tabulate, numbers, select, every, occurrences}
use Rattle.permutations.specs.Permutations.{is_permutation, identity, composed, position, inverse}
use Rattle.permutations.specs.Padded.{padded, is_sound, composed_padded, inverse_padded}
use Rattle.permutations.proofs.ListLaws.{every-all}
use Rattle.grids.specs.Order.{equal}
use Rattle.grids.proofs.OrderLaws.{equal-eq}
use Rattle.worked_cases.specs.Orders.{OrderCase, orders, OrdersHold}

pub orders-hold : OrdersHold
unfolding OrdersHold orders tabulate numbers select every occurrences is_permutation identity composed position inverse padded is_sound composed_padded inverse_padded equal
orders-hold = every-all (λ (c : OrderCase). c.gives ≡ c.numbers) (λ (c : OrderCase). equal c.gives c.numbers) (λ c t. equal-eq _ _ t) orders refl
