-- Demand 3 of planbook: a program has it exactly if it prints what planbook prints.
--
--   calls-lent       ==  the calls of an input are lent machine words and bytes
--   prints-demand3   ==  a program that prints what planbook prints meets demand 3
--   demand3-prints   ==  and no other program does
--   line-counted     ==  what is printed for a line of command 3, by the classes that are live after the lines before it
--   register-counts  ==  the count of the register printed is the number of live classes
use mathlib.Core.Path.{◌≡◌, refl, sym, ap, ap₂, ◌∙◌}
use mathlib.Core.List.{List, [], ◌++◌}
use mathlib.Core.Bool.{true}
use Prim.Native.Nat.{ℕ, zero, suc, ◌≤◌}
use native.Mathlib.Omega.{arith}
use lib.ListN.{length, replicate, length-replicate}
use Rattle.permutations.specs.Lists.{All}
use Rattle.grids.specs.Lent.{Bytes}
use Rattle.grids.proofs.LentLaws.{limits-few, bytes-replicate}
use Rattle.layout.specs.Layout.{Shape, Entry, grids_of, grid_size, layout_length, count}
use Rattle.layout.proofs.LayoutBytes.{layout-short}
use Rattle.calls.specs.Calls.{Outcome}
use Rattle.machine.specs.CallLists.{Implementation, register_calls, LentCall, run, left}
use Rattle.machine.specs.Machine.{shown, Step, count_classes}
use Rattle.machine.specs.Demand3.{live, ListsLive, Demand3}
use Rattle.machine.proofs.MachineLaws.{Good, empty-good}
use Rattle.machine.proofs.CallListLaws.{meets-own}
use Rattle.machine.proofs.Demand3Laws.{demand3}
use Rattle.machine.proofs.CountLaws.{inside, none_inside}
use Rattle.machine.proofs.LiveLists.{lists-inside}
use Rattle.machine.proofs.FollowLaws.{Follows, after_open, follows-open, left-follows, lists-after}
use Rattle.protocol.specs.Input.{further_lines, command_in, client_in, cells_in, is_laid}
use Rattle.protocol.specs.Commands.{lows, highs, bounds_step, command_step, report, LineAnswer, answer_step, answer}
use Rattle.protocol.specs.Readings.{made_in}
use Rattle.protocol.specs.Transcript.{shape_in, start_no, set_after, printed_register, transcript}
use Rattle.protocol.specs.Programs.{PlanbookProgram, Prints}
use Rattle.protocol.specs.Demand3.{replies, input_calls, line_counts, CountLine, PrintsCalls, PrintsDemand3}
use Rattle.protocol.proofs.LentLines.{made-lent}
use Rattle.protocol.proofs.ReportLaws.{step-answer}
use Rattle.protocol.proofs.ReadingLaws.{bounds-some, bounds-none}
use Rattle.protocol.proofs.StartLaws.{start-limits}
use Rattle.protocol.proofs.RunLaws.{start-refused, register-shown, transcript-ends, set-calls, set-good, reports-replies, line-printed}

few : (input : List ℕ) → start_no input ≡ 0 → grid_size (shape_in input) ≤ 128
few input e = limits-few (shape_in input).rows (shape_in input).columns (shape_in input).top (start-limits input e).0.grid-limits

pub calls-lent : (input : List ℕ) → start_no input ≡ 0 → All LentCall (input_calls input)
unfolding input_calls
calls-lent input e = made-lent (shape_in input) (few input e) (further_lines input)

module _ (i : Implementation) (d : Demand3 i) (input : List ℕ) (e : start_no input ≡ 0) where
  good : Good (shape_in input) []
  good = empty-good (shape_in input) (start-limits input e).0

  starts : Follows i (shape_in input) []
  starts = follows-open i d (shape_in input) (start-limits input e).0

  register-left : printed_register input ≡ left i (shown (shape_in input) []) (input_calls input)
  unfolding input_calls
  register-left =
      register-shown input e ∙ ap (shown (shape_in input)) (set-calls (shape_in input) (further_lines input) [] good) ∙ sym (left-follows i (shape_in input) (input_calls input) [] starts (calls-lent input e))

  printed-calls : transcript input
      ≡ replies (shape_in input) (further_lines input) (run i (shown (shape_in input) []) (input_calls input)) ++ left i (shown (shape_in input) []) (input_calls input)
  unfolding input_calls
  printed-calls =
      transcript-ends input e
      ∙ ap₂ ◌++◌ (reports-replies (shape_in input) (further_lines input) [] good ∙ ap (replies (shape_in input) (further_lines input)) (sym (starts (input_calls input) (calls-lent input e)))) register-left

-- command 3, by the classes that are live after the lines before it
module _ (i : Implementation) (d : Demand3 i) (input : List ℕ) (e : start_no input ≡ 0) (before : List (List ℕ)) (line : List ℕ) (there : List (List ℕ))
    (y : ListsLive (shape_in input).rows (shape_in input).columns (live i (shape_in input) (shown (shape_in input) []) (made_in (shape_in input) before)) there) where
  abbrev s : Shape
  s = shape_in input

  abbrev l : List Entry
  l = set_after s [] before

  abbrev low : List ℕ
  low = lows (grid_size s) (cells_in (grid_size s) line)

  abbrev high : List ℕ
  high = highs (grid_size s) (cells_in (grid_size s) line)

  before-good : Good s l
  before-good = set-good s [] before (good i d input e)

  -- as many of the machine's grids lie in the bounds
  as_many : inside s (grids_of l) low high ≡ line_counts s line there
  as_many =
      ap (λ (x : List Entry). inside s (grids_of x) low high) (set-calls s before [] (good i d input e))
      ∙ lists-inside s (live i s (shown s []) (made_in s before)) _ there (lists-after i d s (start-limits input e).0 (made_in s before) (made-lent s (few input e) before)) y low high

  line-counted : is_laid (grid_size s) line ≡ true → command_in line ≡ 3 → CountLine s line there (answer s l line).printed
  unfolding answer_step count_classes command_step
  line-counted h c = record {
    some = λ z. ap (λ (a : LineAnswer). a.printed) three ∙ ap (λ (t : Step). report 3 t.number t.place) (bounds-some s l before-good 3 low high z) ∙ ap (report 3 0) as_many;
    none = λ z. (ap (λ (a : LineAnswer). a.printed) three ∙ ap (λ (t : Step). report 3 t.number t.place) (bounds-none s l before-good 3 low high z), sym as_many ∙ (none_inside s low high l before-good z).1);
  }
    where
      three : answer s l line ≡ answer_step 3 (bounds_step s l low high)
      three = step-answer s l line h ∙ ap (λ (k : ℕ). answer_step k (command_step s l k (client_in line) (cells_in (grid_size s) line))) c

pub prints-demand3 : (p : PlanbookProgram) → Prints p → PrintsDemand3 p
unfolding Prints
prints-demand3 p h = record { refuses = λ input w k e. h input w ∙ (start-refused input k e).0; follows = follows }
  where
    follows : (i : Implementation) → Demand3 i → (input : List ℕ) → Bytes input → start_no input ≡ 0 → (slice : List ℕ) → Bytes slice → length slice ≡ layout_length (shape_in input) →
        PrintsCalls p i input (i.opens (shape_in input) slice)
    follows i d input w e slice x z =
        let o : (i.opens (shape_in input) slice).number ≡ 0 = ap (λ (x : Outcome). x.number) (d.opens (shape_in input) slice (start-limits input e).0 x z) in
        let a = d.follows (shape_in input) slice (start-limits input e).0 x o (input_calls input) (calls-lent input e) in
        record {
          opened = o;
          prints = h input w ∙ rw a.starts (printed-calls i d input e);
          counts = λ before line after f t c there y.
              rw (h input w, line-printed input e before line after f) (line-counted i d input e before line there (rw a.starts at y) t c);
          after = a;
        }

-- the calls as specs/Calls has them meet demand 3
own : Demand3 register_calls
own = demand3 register_calls meets-own

pub demand3-prints : (p : PlanbookProgram) → PrintsDemand3 p → Prints p
unfolding Prints
demand3-prints p h input w = go (start_no input) refl
  where
    go : (k : ℕ) → start_no input ≡ k → p input ≡ transcript input
    go zero e =
        let n = layout_length (shape_in input) in
        let c = h.follows register_calls own input w e (replicate n 0) (bytes-replicate n 0 (layout-short (shape_in input) (start-limits input e).0) (omega arith)) (length-replicate n 0) in
        rw c.after.starts at c.prints ∙ sym (printed-calls register_calls own input e)
    go (suc k) e = h.refuses input w k e ∙ sym (start-refused input k e).0

pub register-counts : (input : List ℕ) → start_no input ≡ 0 → (classes : List (List ℕ))
    × ListsLive (shape_in input).rows (shape_in input).columns (live register_calls (shape_in input) (shown (shape_in input) []) (input_calls input)) classes
    × (count (printed_register input) ≡ length classes)
register-counts input e =
    let a = after_open register_calls own (shape_in input) (start-limits input e).0 (input_calls input) (calls-lent input e) in
    (a.classes, a.lists, ap count (register-left register_calls own input e) ∙ a.counts)
