-- Faults of programs for planbook, and of the function on slices that the program calls: there is an input, or there are slices, on which this happens.
--
--   Refused                    ==  an input that one of the first checks refuses
--   Commanded                  ==  an input that they pass, with its first command line and the rest of its lines
--   laid_in input l, laid_first x  ==  l is laid as a command line, by the numbers of the input's line 1; the first one is
--   cells_on input l            ==  the cells that it states
--   first_by client input l     ==  what the machine does with its command, on the empty set, where it names this client
--   first_step input l          ==  the same, where it names the client that it states
--   printed_by client input l   ==  what is then printed, if it is the only line
--   pruned_on input l           ==  what prune answers and leaves of its bounds, where its command is 3
--   GoesOnAfter13 p            ==  with 13 more is printed than one line
--   PrintsRegisterAfter11 p    ==  after the line of 11 comes a register
--   AsksLengthFirst p          ==  13 is printed where one of questions 1 to 4 gets a no
--   MeasuresWithoutHoldings p  ==  a register that is too large by its holdings alone does not get 13
--   SilentWithoutCommands p    ==  where there is no command line nothing is printed
--   EndsAtMalformed p          ==  a first command line that is not laid ends the run
--   MalformedReaches p         ==  a line that is not laid, the only one, leaves something else than the empty register
--   TakesUnended p             ==  a first line that lacks only its line feed does not get 12
--   TakesClientless p          ==  a first enter or strike without a client does not get 12
--   PrintsUnderZero p          ==  the refusal of a first call is printed under command 0
--   RefusesCellsAsMalformed p  ==  a first command line with a cell above top gets 12
--   CountsRefusedBounds p      ==  a first command 3 whose bounds prune answers with 102 is printed with 0, as if they were counted
--   CountsAtEnd p              ==  a first command 3 is printed with the number of classes that are live after all lines
--   ReadsNoClient p            ==  the only command line is taken for one of client 1
--   RefusesClientAsMalformed p ==  a first command line that 15 refuses gets 12
--   AsksClientFirst p          ==  a first command line that 7 refuses gets 15, since its client is not 1 to 8
--   Slices                     ==  what the function is lent
--   CountsWithoutRoom f        ==  where a slice is too small some bytes count
--   ClearsRest f               ==  the bytes behind what is printed are not kept
--   planbook_faults             ==  these, each against a contract
use Rattle.std.specs.Prelude.{◌≡◌, List, [], ◌∷◌, ◌++◌, Bool, true, false, ℕ, suc, ◌+◌, ◌*◌, ◌≤◌, ◌<◌, length, take, drop}
use Rattle.grids.specs.Grids.{capped}
use Rattle.grids.specs.Lent.{Bytes}
use Rattle.grids.specs.Questions.{in_range}
use Rattle.bounds.specs.Prune.{Pruned}
use Rattle.layout.specs.Decimal.{field}
use Rattle.layout.specs.Layout.{grids_of, grid_size, fields, head_length, number_at, laid_out}
use Rattle.calls.specs.Entries.{question15}
use Rattle.calls.specs.Calls.{accepted}
use Rattle.machine.specs.Machine.{Step, shown}
use Rattle.protocol.specs.Input.{further_lines, command_in, client_in, cells_in, is_laid}
use Rattle.protocol.specs.Commands.{command_step, report}
use Rattle.protocol.specs.Readings.{pruned_cells}
use Rattle.protocol.specs.Transcript.{byte_limit, shape_in, start_no, set_after, transcript}
use Rattle.protocol.specs.Programs.{PlanbookProgram, TranscribeProgram, has_room, Prints, MeetsTranscribe}
use Rattle.protocol.specs.Demand3.{line_counts, PrintsDemand3}
use Rattle.turned_down.specs.Faults.{Fault, fault}

pub record Refused : Type 0 where
  pub input : List ℕ
  pub bytes : Bytes input
  pub refusal : ℕ
  pub first : start_no input ≡ suc refusal

pub record Commanded : Type 0 where
  pub input : List ℕ
  pub bytes : Bytes input
  pub starts : start_no input ≡ 0
  pub line : List ℕ
  pub rest : List (List ℕ)
  pub lines : further_lines input ≡ line ∷ rest

abbrev pub laid_in : List ℕ → List ℕ → Bool
laid_in input l = is_laid (grid_size (shape_in input)) l

abbrev pub laid_first : Commanded → Bool
laid_first x = laid_in x.input x.line

abbrev pub cells_on : List ℕ → List ℕ → List ℕ
cells_on input l = cells_in (grid_size (shape_in input)) l

abbrev pub first_by : ℕ → List ℕ → List ℕ → Step
first_by client input l = command_step (shape_in input) [] (command_in l) client (cells_on input l)

abbrev pub first_step : List ℕ → List ℕ → Step
first_step input l = first_by (client_in l) input l

abbrev pub printed_by : ℕ → List ℕ → List ℕ → List ℕ
printed_by client input l =
    report (command_in l) (first_by client input l).number (first_by client input l).place ++ shown (shape_in input) (first_by client input l).next

abbrev pub pruned_on : List ℕ → List ℕ → Pruned
pruned_on input l = pruned_cells (shape_in input).rows (shape_in input).columns (shape_in input).top (cells_on input l)

-- ---- what is printed first

pub record GoesOnAfter13 (p : PlanbookProgram) : Type 0 where
  pub on : Refused
  pub no : start_no on.input ≡ 13
  pub longer : 19 < length (p on.input)

pub record PrintsRegisterAfter11 (p : PlanbookProgram) : Type 0 where
  pub on : Refused
  pub no : start_no on.input ≡ 11
  pub register : List ℕ
  pub laid : laid_out register ≡ true
  pub prints : p on.input ≡ report 0 11 0 ++ register

pub record AsksLengthFirst (p : PlanbookProgram) : Type 0 where
  pub on : Refused
  pub no : start_no on.input ≤ 4
  pub prints : p on.input ≡ report 0 13 0

pub record MeasuresWithoutHoldings (p : PlanbookProgram) : Type 0 where
  pub on : Refused
  pub no : start_no on.input ≡ 13
  pub small : head_length + (shape_in on.input).capacity * (3 * grid_size (shape_in on.input) + 1) ≤ byte_limit
  pub prints : p on.input ≡ report 0 13 0 → ⊥

pub record SilentWithoutCommands (p : PlanbookProgram) : Type 0 where
  pub input : List ℕ
  pub bytes : Bytes input
  pub starts : start_no input ≡ 0
  pub lines : further_lines input ≡ []
  pub prints : p input ≡ []

-- ---- lines that are not laid

pub record EndsAtMalformed (p : PlanbookProgram) : Type 0 where
  pub on : Commanded
  pub unlaid : laid_first on ≡ false
  pub prints : p on.input ≡ report 0 12 0

pub record MalformedReaches (p : PlanbookProgram) : Type 0 where
  pub on : Commanded
  pub unlaid : laid_first on ≡ false
  pub only : on.rest ≡ []
  pub reaches : drop 19 (p on.input) ≡ shown (shape_in on.input) [] → ⊥

pub record TakesUnended (p : PlanbookProgram) : Type 0 where
  pub on : Commanded
  pub unlaid : laid_first on ≡ false
  pub laid : laid_in on.input (on.line ++ (10 ∷ [])) ≡ true
  pub prints : take 19 (p on.input) ≡ report 0 12 0 → ⊥

pub record TakesClientless (p : PlanbookProgram) : Type 0 where
  pub on : Commanded
  pub command : ℕ
  pub names : in_range 1 2 command ≡ true
  pub cells : List ℕ
  pub sized : length cells ≡ grid_size (shape_in on.input)
  pub line : on.line ≡ field 6 command ++ (fields 3 cells ++ (10 ∷ []))
  pub prints : take 19 (p on.input) ≡ report 0 12 0 → ⊥

-- ---- lines that are laid

pub record PrintsUnderZero (p : PlanbookProgram) : Type 0 where
  pub on : Commanded
  pub laid : laid_first on ≡ true
  pub refused : accepted (first_step on.input on.line).number ≡ false
  pub prints : number_at 6 0 (take 19 (p on.input)) ≡ 0

pub record RefusesCellsAsMalformed (p : PlanbookProgram) : Type 0 where
  pub on : Commanded
  pub laid : laid_first on ≡ true
  pub above : capped (shape_in on.input).top (cells_on on.input on.line) ≡ false
  pub prints : take 19 (p on.input) ≡ report 0 12 0

pub record CountsRefusedBounds (p : PlanbookProgram) : Type 0 where
  pub on : Commanded
  pub laid : laid_first on ≡ true
  pub command : command_in on.line ≡ 3
  pub empty : (pruned_on on.input on.line).number ≡ 102
  pub prints : number_at 6 6 (take 19 (p on.input)) ≡ 0

pub record CountsAtEnd (p : PlanbookProgram) : Type 0 where
  pub on : Commanded
  pub laid : laid_first on ≡ true
  pub command : command_in on.line ≡ 3
  pub some : (pruned_on on.input on.line).number ≡ 0
  pub later : line_counts (shape_in on.input) on.line (grids_of (set_after (shape_in on.input) [] (on.line ∷ on.rest))) ≡ 0 → ⊥
  pub prints : number_at 6 12 (take 19 (p on.input)) ≡ line_counts (shape_in on.input) on.line (grids_of (set_after (shape_in on.input) [] (on.line ∷ on.rest)))

pub record ReadsNoClient (p : PlanbookProgram) : Type 0 where
  pub on : Commanded
  pub laid : laid_first on ≡ true
  pub only : on.rest ≡ []
  pub other : printed_by (client_in on.line) on.input on.line ≡ printed_by 1 on.input on.line → ⊥
  pub prints : p on.input ≡ printed_by 1 on.input on.line

pub record RefusesClientAsMalformed (p : PlanbookProgram) : Type 0 where
  pub on : Commanded
  pub laid : laid_first on ≡ true
  pub refused : (first_step on.input on.line).number ≡ 15
  pub prints : take 19 (p on.input) ≡ report 0 12 0

pub record AsksClientFirst (p : PlanbookProgram) : Type 0 where
  pub on : Commanded
  pub laid : laid_first on ≡ true
  pub client : (question15 (client_in on.line)).answer ≡ false
  pub refused : (first_step on.input on.line).number ≡ 7
  pub prints : number_at 6 6 (take 19 (p on.input)) ≡ 15

-- ---- the function on slices

pub record Slices : Type 0 where
  pub input : List ℕ
  pub register : List ℕ
  pub out : List ℕ
  pub input-bytes : Bytes input
  pub register-bytes : Bytes register
  pub out-bytes : Bytes out

pub record CountsWithoutRoom (f : TranscribeProgram) : Type 0 where
  pub on : Slices
  pub small : has_room on.register on.out ≡ false
  pub counts : 0 < (f on.input on.register on.out).count

pub record ClearsRest (f : TranscribeProgram) : Type 0 where
  pub on : Slices
  pub room : has_room on.register on.out ≡ true
  pub cleared : drop (length (transcript on.input)) (f on.input on.register on.out).out ≡ drop (length (transcript on.input)) on.out → ⊥

-- ---- as a list

-- by what planbook prints: after 13 and 11, at a line that is not laid, for calls that are refused; the order of the checks, no command, no line feed
unfoldable pub planbook_faults : List Fault
planbook_faults =
    fault Prints GoesOnAfter13
    ∷ fault Prints PrintsRegisterAfter11
    ∷ fault Prints EndsAtMalformed
    ∷ fault Prints PrintsUnderZero
    ∷ fault Prints MalformedReaches
    ∷ fault Prints RefusesCellsAsMalformed
    ∷ fault Prints AsksLengthFirst
    ∷ fault Prints SilentWithoutCommands
    ∷ fault Prints TakesUnended
    -- bounds that prune answers with 102 counted; by demand 3 of planbook too
    ∷ fault Prints CountsRefusedBounds
    ∷ fault PrintsDemand3 CountsRefusedBounds
    ∷ fault PrintsDemand3 CountsAtEnd
    -- the client not read, by demand 3 of planbook too; a bad client with 12, or before the cells; a line without a client; 13 without the holdings
    ∷ fault Prints ReadsNoClient
    ∷ fault PrintsDemand3 ReadsNoClient
    ∷ fault Prints RefusesClientAsMalformed
    ∷ fault Prints AsksClientFirst
    ∷ fault Prints TakesClientless
    ∷ fault Prints MeasuresWithoutHoldings
    -- by the contract of the function on slices that the program calls: a slice that is too small, the rest of the output slice
    ∷ fault MeetsTranscribe CountsWithoutRoom
    ∷ fault MeetsTranscribe ClearsRest
    ∷ []
