-- The numbers, cells that agree and positions of orders that document 01 has for what represent and same return.
--
--   order_rows o, order_columns o  ==  the numbers in the positions of the orders; those that move nothing where there are none
--   arranged_by r        ==  the orders that represent returns, if no question got a no
--   represented r out    ==  what represent answers: the number of the first no, or 0, and orders; out is its output slice afterwards
--   carried_by r         ==  the orders that same returns, if both grids are in one class
--   matching_number r, matching_agreed r  ==  the number of same, 103 where the grids are in two classes, and how many leading cells agree
--   matched r            ==  what same answers
--   IsSized m n o        ==  the orders are of m rows and n columns
use Rattle.std.specs.Prelude.{List, ℕ, Option, Some, None, Result, Ok, Err}
use Rattle.permutations.specs.Permutations.{identity}
use Rattle.permutations.specs.declared.orders.Orders.{Orders}
use Rattle.refusals.specs.declared.Refusal.{Refusal}
use Rattle.refusals.specs.Numbers.{refusal_number, asked_number}
use Rattle.canonical.specs.declared.answers.Match.{Match}
use Rattle.canonical.specs.Represent.{RepresentAnswer, Sizes}
use Rattle.canonical.specs.Same.{SameAnswer}

abbrev pub order_rows : {N : ℕ} → Option (Orders N) → List ℕ
order_rows (Some o) = o.rows.at
order_rows {N} None = identity N

abbrev pub order_columns : {N : ℕ} → Option (Orders N) → List ℕ
order_columns (Some o) = o.columns.at
order_columns None = identity 16

abbrev pub arranged_by : {N : ℕ} → Result (Orders N) Refusal → Option (Orders N)
arranged_by (Ok o) = Some o
arranged_by (Err x) = None

abbrev pub represented : {N : ℕ} → Result (Orders N) Refusal → List ℕ → RepresentAnswer
represented r out = record { number = asked_number r; rows = order_rows (arranged_by r); columns = order_columns (arranged_by r); out = out }

abbrev pub carried_by : {N : ℕ} → Result (Match N) Refusal → Option (Orders N)
carried_by (Ok f) = f.orders
carried_by (Err x) = None

abbrev pub class_found : {N : ℕ} → Option (Orders N) → ℕ
class_found (Some o) = 0
class_found None = 103

abbrev pub matching_number : {N : ℕ} → Result (Match N) Refusal → ℕ
matching_number (Ok f) = class_found f.orders
matching_number (Err x) = refusal_number x

abbrev pub matching_agreed : {N : ℕ} → Result (Match N) Refusal → ℕ
matching_agreed (Ok f) = f.agreed
matching_agreed (Err x) = 0

abbrev pub matched : {N : ℕ} → Result (Match N) Refusal → SameAnswer
matched r = record { number = matching_number r; agreed = matching_agreed r; rows = order_rows (carried_by r); columns = order_columns (carried_by r) }

abbrev pub IsSized : {N : ℕ} → ℕ → ℕ → Orders N → Type 0
IsSized m n o = Sizes m n o.rows.size o.columns.size
