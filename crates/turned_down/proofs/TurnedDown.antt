-- Every fault of the table is turned down, and each contract is met by the definitions.
--
--   turned_down  ==  the statement, fault by fault
--   table-rows   ==  how many rows the table has
--   met          ==  some program meets each contract
use mathlib.Core.Path.{◌≡◌, refl}
use mathlib.Core.List.{flat_map}
use native.Mathlib.Omega.{arith}
use lib.ListN.{length}
use Rattle.permutations.specs.Lists.{tabulate}
use Rattle.permutations.specs.Padded.{composed_padded, inverse_padded}
use Rattle.permutations.proofs.ListLaws.{all_append}
use Rattle.canonical.specs.Programs.{RepresentProgram, MeetsRepresent, SameProgram, MeetsSame, MeetsTerminalRepresent, MeetsTerminalSame}
use Rattle.canonical.proofs.CallLaws.{represent-answers, represent-least, same-answers}
use Rattle.canonical.proofs.TerminalCalls.{represent-alike, terminal-represent-answers, terminal-represent-least, same_alike, terminal-same-answers}
use Rattle.bounds.specs.Prune.{pruned}
use Rattle.bounds.specs.Demand2.{MeetsPrune}
use Rattle.bounds.proofs.PruneLaws.{prunes, prune-exact}
use Rattle.calls.specs.Calls.{counted}
use Rattle.machine.specs.CallLists.{register_calls}
use Rattle.machine.specs.Demand3.{live}
use Rattle.machine.proofs.CallListLaws.{meets-own, enter-alike}
use Rattle.machine.proofs.Demand1Laws.{demand1}
use Rattle.machine.proofs.Demand3Laws.{demand3}
use Rattle.machine.proofs.BothCountsLaws.{both-counts}
use Rattle.machine.proofs.HeldLaws.{apart, by_one}
use Rattle.protocol.specs.Transcript.{transcript}
use Rattle.protocol.specs.Programs.{Prints, transcribed, MeetsTranscribe}
use Rattle.protocol.proofs.Demand3Laws.{prints-demand3}
use Rattle.turned_down.specs.LiveFaults.{SaysLive, live_faults}
use Rattle.turned_down.specs.PermutationFaults.{Composes, Inverts, order_faults}
use Rattle.turned_down.specs.Faults.{Turned}
use Rattle.turned_down.specs.HoldingFaults.{holding_faults, client_faults, change_faults, changes_of}
use Rattle.turned_down.specs.RepresentFaults.{represent_faults}
use Rattle.turned_down.specs.SameFaults.{same_faults}
use Rattle.turned_down.specs.PruneFaults.{prune_faults}
use Rattle.turned_down.specs.RegisterFaults.{book_faults, asking_faults, count_faults, refusal_faults, asked_before}
use Rattle.turned_down.specs.PlanbookFaults.{planbook_faults}
use Rattle.turned_down.specs.TerminalFaults.{terminal_faults}
use Rattle.turned_down.specs.TerminalEnterFaults.{terminal_enter_faults}
use Rattle.turned_down.specs.TurnedDown.{table, TurnedDown, Met}
use Rattle.turned_down.proofs.Permutations.{orders-turned}
use Rattle.turned_down.proofs.Represent.{represents-turned}
use Rattle.turned_down.proofs.Same.{sames-turned}
use Rattle.turned_down.proofs.Prune.{prunes-turned}
use Rattle.turned_down.proofs.Demand3.{books-turned}
use Rattle.turned_down.proofs.Demand1.{askings-turned}
use Rattle.turned_down.proofs.Count.{counts-turned}
use Rattle.turned_down.proofs.Holdings.{holdings-turned}
use Rattle.turned_down.proofs.Clients.{clients-turned}
use Rattle.turned_down.proofs.Changes.{changes-turned}
use Rattle.turned_down.proofs.Live.{live-turned}
use Rattle.turned_down.proofs.Terminals.{terminals-turned}
use Rattle.turned_down.proofs.TerminalEnters.{terminal-enters-turned}
use Rattle.turned_down.proofs.Planbook.{planbooks-turned}

pub turned_down : TurnedDown
unfolding TurnedDown table
turned_down =
    all_append Turned represent_faults _ represents-turned
    (all_append Turned same_faults _ sames-turned
    (all_append Turned prune_faults _ prunes-turned
    (all_append Turned book_faults _ books-turned
    (all_append Turned asking_faults _ askings-turned
    (all_append Turned count_faults _ counts-turned
    (all_append Turned planbook_faults _ planbooks-turned
    (all_append Turned terminal_faults _ terminals-turned
    (all_append Turned terminal_enter_faults _ terminal-enters-turned
    (all_append Turned holding_faults _ holdings-turned
    (all_append Turned client_faults _ clients-turned
    (all_append Turned change_faults _ changes-turned
    (all_append Turned live_faults _ live-turned
    (all_append Turned (order_faults 8) _ (orders-turned 8 (omega arith) (omega arith))
    (all_append Turned (order_faults 16) _ (orders-turned 16 (omega arith) (omega arith))
    (orders-turned 5 (omega arith) (omega arith))))))))))))))))

pub table-rows : length table ≡ 408
unfolding table represent_faults same_faults prune_faults book_faults asking_faults count_faults planbook_faults terminal_faults terminal_enter_faults holding_faults client_faults change_faults changes_of live_faults order_faults refusal_faults asked_before tabulate flat_map
table-rows = refl

representing : RepresentProgram
representing m n top g out = (represent-answers m n top g out).0

represents : MeetsRepresent representing
unfolding MeetsRepresent representing
represents m n top g out h = (represent-answers m n top g out).1

terminal-representing : RepresentProgram
terminal-representing m n top g out = (terminal-represent-answers m n top g out).0

terminal-represents : MeetsTerminalRepresent terminal-representing
unfolding MeetsTerminalRepresent terminal-representing
terminal-represents m n top g out h = (terminal-represent-answers m n top g out).1

comparing : SameProgram
comparing m n top a b = (same-answers m n top a b).0

compares : MeetsSame comparing
unfolding MeetsSame comparing
compares m n top a b h = (same-answers m n top a b).1

terminal-comparing : SameProgram
terminal-comparing m n top a b = (terminal-same-answers m n top a b).0

terminal-compares : MeetsTerminalSame terminal-comparing
unfolding MeetsTerminalSame terminal-comparing
terminal-compares m n top a b h = (terminal-same-answers m n top a b).1

pruning : MeetsPrune pruned
unfolding MeetsPrune
pruning m n top low high h = prunes m n top low high _ refl

pub met : Met
unfolding Composes Inverts SaysLive Prints MeetsTranscribe
met = record {
  represents = (representing, represents, represent-least representing represents);
  compares = (comparing, compares);
  terminal-represents = (terminal-representing, terminal-represents, terminal-represent-least terminal-representing terminal-represents);
  terminal-compares = (terminal-comparing, terminal-compares);
  represents-alike = (record { system = representing; terminal = terminal-representing }, represent-alike representing terminal-representing represents terminal-represents);
  compares-alike = (record { system = comparing; terminal = terminal-comparing }, same_alike comparing terminal-comparing compares terminal-compares);
  prunes = (pruned, pruning, prune-exact pruned pruning);
  composes = λ width. (composed_padded width, λ n p k r x y. refl);
  inverts = λ width. (inverse_padded width, λ n p x. refl);
  keeps = (register_calls, meets-own, demand1 register_calls meets-own, demand3 register_calls meets-own, both-counts register_calls meets-own, apart register_calls meets-own, by_one register_calls meets-own, enter-alike register_calls meets-own);
  says-live = (live, λ on. refl);
  counts = (
    λ b low high. record { outcome = counted b low high; low = low; high = high },
    record { answers = λ b low high x y z. refl; low-kept = λ b low high x y z. refl; high-kept = λ b low high x y z. refl },
  );
  prints = (transcript, λ input b. refl, prints-demand3 transcript (λ input b. refl));
  transcribes = (transcribed, λ input register out x y z. refl);
}
