-- Command lines as the code reads them. Between functions: no answer of a call is defined here.
--
--   command_number k, client_of k  ==  the number that states a command, and its client; 0 for a count, which names none
--   printed_command k  ==  the number that is printed for a command; 0 where there is none
--   States line k  ==  the line states this command and its client
--   CommandRead size line cells k  ==  the line is laid as it should be and states the command k, and its cells are in front
--   Parts c size low high  ==  the bounds that the cells c hold in turn
--   PrunesParted m n top c number low high  ==  what prune answers and leaves of these bounds
use Rattle.std.specs.Prelude.{◌≡◌, List, Option, Some, None, true, ℕ, take}
use Rattle.protocol.specs.Input.{cell_count, command_in, client_in, cells_in, is_laid}
use Rattle.protocol.specs.Commands.{lows, highs}
use Rattle.protocol.specs.Readings.{pruned_cells}
use Rattle.transcript.specs.declared.commands.Command.{Command}
use Rattle.transcript.specs.declared.commands.Command.TheVariants.{Enter, Strike, Count}

abbrev pub command_number : Command → ℕ
command_number (Enter client) = 1
command_number (Strike client) = 2
command_number Count = 3

abbrev pub printed_command : Option Command → ℕ
printed_command (Some k) = command_number k
printed_command None = 0

abbrev pub client_of : Command → ℕ
client_of (Enter client) = client
client_of (Strike client) = client
client_of Count = 0

pub record States (line : List ℕ) (k : Command) : Type 0 where
  pub command-is : command_number k ≡ command_in line
  pub client-is : client_of k ≡ client_in line

pub record CommandRead (size : ℕ) (line cells : List ℕ) (k : Command) : Type 0 where
  pub laid : is_laid size line ≡ true
  pub states : States line k
  pub cells_are : take (cell_count size (command_number k)) cells ≡ cells_in size line

pub record Parts (c : List ℕ) (size : ℕ) (low high : List ℕ) : Type 0 where
  pub low-is : low ≡ lows size c
  pub high_is : high ≡ highs size c

pub record PrunesParted (m n top : ℕ) (c : List ℕ) (number : ℕ) (low high : List ℕ) : Type 0 where
  pub number_is : number ≡ (pruned_cells m n top c).number
  pub low-is : low ≡ (pruned_cells m n top c).low
  pub high_is : high ≡ (pruned_cells m n top c).high
