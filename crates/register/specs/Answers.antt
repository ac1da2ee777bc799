-- Document 01's number and place for each answer of enter and strike. The number of open and strike is that of the first no, or 0; the place of open is 0.
--
--   entering_number r, entering_place r  ==  those of enter
--   striking_place r  ==  the place of strike
use Rattle.std.specs.Prelude.{ℕ, Result, Ok, Err}
use Rattle.refusals.specs.declared.Refusal.{Refusal}
use Rattle.refusals.specs.Numbers.{refusal_number}
use Rattle.register.specs.declared.answers.Entered.{Entered}
use Rattle.register.specs.declared.answers.Entered.TheVariants.{New, Held}

abbrev pub entering_number : Result Entered Refusal → ℕ
entering_number (Ok (New place)) = 0
entering_number (Ok (Held place)) = 101
entering_number (Err x) = refusal_number x

abbrev pub entering_place : Result Entered Refusal → ℕ
entering_place (Ok (New place)) = place
entering_place (Ok (Held place)) = place
entering_place (Err x) = 0

abbrev pub striking_place : Result ℕ Refusal → ℕ
striking_place (Ok place) = place
striking_place (Err x) = 0
