-- Faulty work, that which document 01 turns down among it, as one table: each line is a contract and a fault, and no program with the fault meets the contract.
--
--   table       ==  the faults
--   TurnedDown  ==  the statement: every fault is turned down
--   Met         ==  each contract is met by some program
use Rattle.std.specs.Prelude.{List, ◌++◌, ℕ}
use Rattle.permutations.specs.Lists.{All}
use Rattle.canonical.specs.Programs.{RepresentProgram, MeetsRepresent, SameProgram, MeetsSame, MeetsTerminalRepresent, MeetsTerminalSame, RepresentAlike, SameAlike}
use Rattle.canonical.specs.Demand2.{RepresentLeast, TerminalRepresentLeast}
use Rattle.bounds.specs.Demand2.{PruneProgram, PruneExact, MeetsPrune}
use Rattle.machine.specs.CallLists.{Implementation, Meets, EnterAlike}
use Rattle.machine.specs.CountSlices.{CountProgram, MeetsCount}
use Rattle.machine.specs.Demand1.{Demand1}
use Rattle.machine.specs.Demand3.{Demand3}
use Rattle.machine.specs.BothCounts.{BothCounts}
use Rattle.machine.specs.Holdings.{Apart, ByOne}
use Rattle.protocol.specs.Programs.{PlanbookProgram, Prints, TranscribeProgram, MeetsTranscribe}
use Rattle.protocol.specs.Demand3.{PrintsDemand3}
use Rattle.turned_down.specs.Faults.{Fault, Turned}
use Rattle.turned_down.specs.PermutationFaults.{Composing, Inverting, Composes, Inverts, order_faults}
use Rattle.turned_down.specs.RepresentFaults.{represent_faults}
use Rattle.turned_down.specs.SameFaults.{same_faults}
use Rattle.turned_down.specs.PruneFaults.{prune_faults}
use Rattle.turned_down.specs.RegisterFaults.{book_faults, asking_faults, count_faults}
use Rattle.turned_down.specs.HoldingFaults.{holding_faults, client_faults, change_faults}
use Rattle.turned_down.specs.LiveFaults.{Living, SaysLive, live_faults}
use Rattle.turned_down.specs.TerminalFaults.{BothSets, terminal_faults}
use Rattle.turned_down.specs.TerminalEnterFaults.{terminal_enter_faults}
use Rattle.turned_down.specs.PlanbookFaults.{planbook_faults}

-- of rows, in 8 positions, of columns, in 16, and of a terminal's rows, in 5
unfoldable pub table : List Fault
table =
    represent_faults ++ (same_faults ++ (prune_faults ++ (book_faults ++ (asking_faults ++ (count_faults ++ (planbook_faults ++ (terminal_faults ++ (terminal_enter_faults ++ (holding_faults ++ (client_faults ++ (change_faults ++ (live_faults ++ (order_faults 8 ++ (order_faults 16 ++ order_faults 5))))))))))))))

unfoldable pub TurnedDown : Type 0
TurnedDown = All Turned table

pub record Met : Type 0 where
  pub represents : (f : RepresentProgram) × MeetsRepresent f × RepresentLeast f
  pub compares : (f : SameProgram) × MeetsSame f
  pub terminal-represents : (f : RepresentProgram) × MeetsTerminalRepresent f × TerminalRepresentLeast f
  pub terminal-compares : (f : SameProgram) × MeetsTerminalSame f
  pub represents-alike : (p : BothSets RepresentProgram) × RepresentAlike p.system p.terminal
  pub compares-alike : (p : BothSets SameProgram) × SameAlike p.system p.terminal
  pub prunes : (f : PruneProgram) × MeetsPrune f × PruneExact f
  pub composes : (width : ℕ) → (f : Composing) × Composes width f
  pub inverts : (width : ℕ) → (f : Inverting) × Inverts width f
  pub keeps : (i : Implementation) × Meets i × Demand1 i × Demand3 i × BothCounts i × Apart i × ByOne i × EnterAlike i
  pub says-live : (f : Living) × SaysLive f
  pub counts : (f : CountProgram) × MeetsCount f
  pub prints : (p : PlanbookProgram) × Prints p × PrintsDemand3 p
  pub transcribes : (f : TranscribeProgram) × MeetsTranscribe f
