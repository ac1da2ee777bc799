-- The numbers of documents 01 and 02 for each refusal.
--
--   refusal_number x  ==  the number of the question that got a no
--   asked_number a    ==  the number of the first no, or 0
use Rattle.std.specs.Prelude.{ℕ, Result, Ok, Err}
use Rattle.refusals.specs.declared.Refusal.{Refusal}
use Rattle.refusals.specs.declared.Refusal.TheVariants.{Rows, Columns, Top, Capacity, Layout, Length, Cell, Bounds, Full, NotHeld, TerminalRows, Client, Holding}

abbrev pub refusal_number : Refusal → ℕ
refusal_number Rows = 1
refusal_number Columns = 2
refusal_number Top = 3
refusal_number Capacity = 4
refusal_number Layout = 5
refusal_number Length = 6
refusal_number Cell = 7
refusal_number Bounds = 8
refusal_number Full = 9
refusal_number NotHeld = 10
refusal_number TerminalRows = 14
refusal_number Client = 15
refusal_number Holding = 16

abbrev pub asked_number : {A : Type 0} → Result A Refusal → ℕ
asked_number (Ok x) = 0
asked_number (Err x) = refusal_number x
