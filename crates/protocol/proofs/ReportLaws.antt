-- Laws of the lines that planbook prints.
--
--   length-report      ==  a printed line has 19 bytes
--   ReportStates k x p b     ==  the bytes b state the numbers k, x and p, 6 wide each
--   report-states      ==  a printed line states its command, number and place or count, if each is below 1,000,000
--   step-answer, malformed-answer  ==  what is answered to a line that is laid, and to another
--   enter-answer, strike-answer, bounds-answer  ==  what is answered to the line of each command; the cells of command 3 are low and high in turn
--   length-answer, length-reports  ==  one line is printed for each line
--   step_small, command-small  ==  the numbers of a step and of a command, and their places and counts, are below 1,000,000
--   answer-states      ==  what is printed for a command line states the command, and the machine's number and place or count
--   malformed-states   ==  what is printed for a line that is not laid states 0, 12 and 0
use mathlib.Core.Path.{◌≡◌, refl, ◌∙◌}
use mathlib.Core.List.{List, [], ◌∷◌}
use mathlib.Core.Bool.{Bool, true, false}
use Prim.Native.Nat.{ℕ, zero, suc, ◌*◌, ◌≤◌, ◌<◌}
use native.Mathlib.Omega.{arith}
use lib.ListN.{length, get_or, length-append, length-map}
use lib.Dec.{eqb}
use Rattle.permutations.specs.Lists.{select}
use Rattle.permutations.proofs.SelectLaws.{length-select}
use Rattle.grids.specs.Order.{less}
use Rattle.grids.specs.Questions.{first_no}
use Rattle.bounds.specs.Bounds.{in_bounds}
use Rattle.bounds.specs.Kept.{obeyed}
use Rattle.bounds.specs.Allperm.{allperm}
use Rattle.bounds.specs.Prune.{bounds_questions}
use Rattle.bounds.proofs.PruneLaws.{prune-small, prune-asked}
use Rattle.layout.specs.Layout.{Shape, Entry, grids_of, grid_size, number_at}
use Rattle.layout.proofs.LayoutLaws.{length-ended, fields_read}
use Rattle.calls.specs.Entries.{place_in}
use Rattle.machine.specs.CallLists.{Call, enter, strike}
use Rattle.machine.specs.Machine.{Step, step_unless, count_classes, step}
use Rattle.machine.proofs.MachineLaws.{Good}
use Rattle.machine.proofs.StepLaws.{step-answers}
use Rattle.protocol.specs.Input.{command_in, client_in, cells_in, is_laid}
use Rattle.protocol.specs.Commands.{count_of, bounds_step, command_step, report, answer_step, malformed, answer}
use Rattle.protocol.specs.Transcript.{reports}
use Rattle.protocol.proofs.CommandLaws.{CommandLaid, in_turn, laid-command, laid-exactly, parted-in-turn}

-- ---- one line

pub length-report : (k x p : ℕ) → length (report k x p) ≡ 19
unfolding report
length-report k x p = length-ended 6 (k ∷ x ∷ p ∷ [])

pub record ReportStates (k x p : ℕ) (b : List ℕ) : Type 0 where
  pub command : number_at 6 0 b ≡ k
  pub number : number_at 6 6 b ≡ x
  pub place : number_at 6 12 b ≡ p

pub report-states : (k x p : ℕ) → k < 1000000 → x < 1000000 → p < 1000000 → ReportStates k x p (report k x p)
unfolding report number_at
report-states k x p a b c = record { command = read 0 (omega arith) a; number = read 1 (omega arith) b; place = read 2 (omega arith) c }
  where
    read : (i : ℕ) → i < 3 → get_or (k ∷ x ∷ p ∷ []) i 0 < 1000000 → number_at 6 (i * 6) (report k x p) ≡ get_or (k ∷ x ∷ p ∷ []) i 0
    read i h small = fields_read 5 (k ∷ x ∷ p ∷ []) (10 ∷ []) i h small

-- ---- the answers

pub step-answer : (s : Shape) (l : List Entry) (line : List ℕ) → is_laid (grid_size s) line ≡ true →
    answer s l line ≡ answer_step (command_in line) (command_step s l (command_in line) (client_in line) (cells_in (grid_size s) line))
unfolding answer
step-answer s l line e = rw (e, answer)

pub malformed-answer : (s : Shape) (l : List Entry) (line : List ℕ) → is_laid (grid_size s) line ≡ false → answer s l line ≡ malformed l
unfolding answer
malformed-answer s l line e = rw (e, answer)

-- the answer to the line of a command with its cells
laid-answer : (s : Shape) (l : List Entry) {k client : ℕ} {c line : List ℕ} → CommandLaid (grid_size s) k client c line → answer s l line ≡ answer_step k (command_step s l k client c)
laid-answer s l {k} {client} {c} {line} o =
    let q = laid-command o in
    step-answer s l line ((laid-exactly (grid_size s) line).1 (k, client, c, o)) ∙ rw (q.0, q.1, q.2) refl

module _ (s : Shape) (l : List Entry) {line : List ℕ} where
  pub enter-answer : {c : ℕ} {g : List ℕ} → CommandLaid (grid_size s) 1 c g line → answer s l line ≡ answer_step 1 (step s l (enter c g))
  unfolding command_step
  enter-answer o = laid-answer s l o

  pub strike-answer : {c : ℕ} {g : List ℕ} → CommandLaid (grid_size s) 2 c g line → answer s l line ≡ answer_step 2 (step s l (strike c g))
  unfolding command_step
  strike-answer o = laid-answer s l o

  pub bounds-answer : (low high : List ℕ) → length low ≡ grid_size s → length high ≡ grid_size s → CommandLaid (grid_size s) 3 0 (in_turn low high) line →
      answer s l line ≡ answer_step 3 (bounds_step s l low high)
  unfolding command_step
  bounds-answer low high e f o = let q = parted-in-turn (grid_size s) low high e f in laid-answer s l o ∙ rw (q.0, q.1) refl

pub length-answer : (s : Shape) (l : List Entry) (line : List ℕ) → length (answer s l line).printed ≡ 19
unfolding answer_step malformed
length-answer s l line = go (is_laid (grid_size s) line) refl
  where
    go : (t : Bool) → is_laid (grid_size s) line ≡ t → length (answer s l line).printed ≡ 19
    go true e = rw (step-answer s l line e) (length-report _ _ _)
    go false e = rw (malformed-answer s l line e) (length-report 0 12 0)

pub length-reports : (s : Shape) (l : List Entry) (ls : List (List ℕ)) → length (reports s l ls) ≡ 19 * length ls
unfolding reports
length-reports s l [] = refl
length-reports s l (line ∷ ls) =
    length-append (answer s l line).printed _ ∙ omega (arith, length-answer s l line, length-reports s (answer s l line).next ls)

-- ---- the numbers fit their fields

module _ (s : Shape) (l : List Entry) (g : Good s l) where
  few : (t : List ℕ → Bool) → length (select t (grids_of l)) ≤ 500
  few t = omega (arith, length-select t (grids_of l), length-map l (λ (e : Entry). e.grid), g.fits, g.limits.capacity-limits)

  place-few : (r : List ℕ) → place_in (grids_of l) r < 1000000
  unfolding place_in
  place-few r = omega (arith, few (λ x. less x r))

  abbrev Small : Step → Type 0
  Small t = (t.number < 1000000) × (t.place < 1000000)

  pub step_small : (c : Call) → Small (step s l c)
  step_small = step-answers (λ k p. (k < 1000000) × (p < 1000000)) s l (record {
    length-no = (omega arith, omega arith);
    cells-no = (omega arith, omega arith);
    order-no = (omega arith, omega arith);
    full = (omega arith, omega arith);
    not-held = (omega arith, omega arith);
    rows-no = (omega arith, omega arith);
    client-no = (omega arith, omega arith);
    most = (omega arith, omega arith);
    done = λ r. (omega arith, place-few r);
    held = λ r. (omega arith, place-few r);
    counted = λ t. (omega arith, omega (arith, few t));
  })

  bounds-small : (low high : List ℕ) → Small (bounds_step s l low high)
  unfolding bounds_step count_of count_classes step_unless
  bounds-small low high = unless (first_no (bounds_questions (grid_size s) s.top low high)) few-questions (go (obeyed (allperm s.rows s.columns) (grid_size s) s.top low high) refl)
    where
      few-questions : first_no (bounds_questions (grid_size s) s.top low high) ≤ 8
      few-questions = omega (arith, prune-asked s.rows s.columns s.top low high g.limits.grid-limits, prune-small s.rows s.columns s.top low high)

      unless : (k : ℕ) → k ≤ 8 → Small (count_of s l low high) → Small (step_unless k l (count_of s l low high))
      unless zero h p = p
      unless (suc k) h p = (omega arith, omega arith)

      go : (t : Bool) → obeyed (allperm s.rows s.columns) (grid_size s) s.top low high ≡ t → Small (count_of s l low high)
      go true e = rw (e, count_of) (omega arith, omega (arith, few (in_bounds (grid_size s) s.top low high)))
      go false e = rw (e, count_of) (omega arith, omega arith)

  pub command-small : (k client : ℕ) (c : List ℕ) → Small (command_step s l k client c)
  unfolding command_step
  command-small k client c = go (eqb k 1) refl (eqb k 2) refl
    where
      go : (t : Bool) → eqb k 1 ≡ t → (u : Bool) → eqb k 2 ≡ u → Small (command_step s l k client c)
      go true e u f = rw (e, command_step) (step_small (enter client c))
      go false e true f = rw (e, f, command_step) (step_small (strike client c))
      go false e false f = rw (e, f, command_step) (bounds-small _ _)

-- ---- what is stated

pub malformed-states : (s : Shape) (l : List Entry) (line : List ℕ) → is_laid (grid_size s) line ≡ false → ReportStates 0 12 0 (answer s l line).printed
unfolding malformed
malformed-states s l line e = rw (malformed-answer s l line e) (report-states 0 12 0 (omega arith) (omega arith) (omega arith))

pub answer-states : (s : Shape) (l : List Entry) → Good s l → (k client : ℕ) (c line : List ℕ) → CommandLaid (grid_size s) k client c line →
    ReportStates k (command_step s l k client c).number (command_step s l k client c).place (answer s l line).printed
unfolding answer_step
answer-states s l g k client c line o =
    let f = command-small s l g k client c in
    rw (laid-answer s l o) (report-states k _ _ (omega (arith, o.command)) f.0 f.1)
