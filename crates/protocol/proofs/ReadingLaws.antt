-- Two readings of a command line are one: what the machine answers to it, and what it answers to the call that the line makes once prune has answered.
--
--   by-command, by-none  ==  how a line is read that is laid, and another
--   enter-read, strike-read, bounds-read  ==  the line of each command, as a call; the cells of command 3 are low and high in turn
--   prune-says, prune-calls  ==  how command 3 is read after prune answered: its number is not 0, or is
--   bounds-some, bounds-none  ==  the machine's step for bounds where prune says 0, and where it says 102
--   command-of           ==  what is answered to a command is printed under it
--   step_of s l r         ==  the machine's step for a line read as r
--   step-of-good         ==  it leaves a set reached by calls
--   reading-answer       ==  what is printed for a line is what is answered to its reading
--   answered-same        ==  on the machine's bytes the calls answer and leave that
use mathlib.Core.Path.{◌≡◌, refl, sym, ap, ◌∙◌}
use mathlib.Core.List.{List}
use mathlib.Core.Bool.{Bool, true, false}
use Prim.Native.Nat.{ℕ, zero, suc, ◌*◌}
use lib.ListN.{length}
use lib.Dec.{eqb}
use Rattle.permutations.proofs.BoolLaws.{refuted}
use Rattle.grids.specs.Questions.{first_no}
use Rattle.bounds.specs.Prune.{Pruned, prune_questions, pruned}
use Rattle.bounds.proofs.BoundsLaws.{bounds-pass}
use Rattle.bounds.proofs.PruneLaws.{PruneCase, refused, some, none, prune-case, prune-asked, some-decides, says_some, says_none, pruned-refused, pruned-some, pruned-none, pruned-is-bounds}
use Rattle.layout.specs.Layout.{Shape, Entry, grid_size}
use Rattle.machine.specs.CallLists.{enter, strike, count_in, register_calls}
use Rattle.machine.specs.Machine.{shown, Step, step_unless, count_classes, step, outcome}
use Rattle.machine.specs.Demand3.{pruned_for}
use Rattle.machine.proofs.MachineLaws.{Good, step-good}
use Rattle.machine.proofs.CountLaws.{same-inside}
use Rattle.machine.proofs.Demand3Laws.{call_same}
use Rattle.protocol.specs.Input.{command_in, client_in, cells_in, is_laid}
use Rattle.protocol.specs.Commands.{count_of, bounds_step, command_step, answer_step, malformed, answer}
use Rattle.protocol.specs.Readings.{LineReading, says, calls, after_prune, read_command, read_by, read_line, command_of, answered_by}
use Rattle.protocol.proofs.CommandLaws.{CommandLaid, in_turn, laid-command, laid-exactly, parted-in-turn}
use Rattle.protocol.proofs.ReportLaws.{step-answer, malformed-answer}

-- ---- the lines of commands

pub by-command : (m n top : ℕ) (line : List ℕ) → is_laid (m * n) line ≡ true → read_by m n top line ≡ read_command m n top (command_in line) (client_in line) (cells_in (m * n) line)
unfolding read_by
by-command m n top line e = rw (e, read_by)

pub by-none : (m n top : ℕ) (line : List ℕ) → is_laid (m * n) line ≡ false → read_by m n top line ≡ says 0 12
unfolding read_by
by-none m n top line e = rw (e, read_by)

module _ (s : Shape) {line : List ℕ} where
  laid-read : {k client : ℕ} {c : List ℕ} → CommandLaid (grid_size s) k client c line → read_line s line ≡ read_command s.rows s.columns s.top k client c
  laid-read {k} {client} {c} o =
      let q = laid-command o in
      by-command s.rows s.columns s.top line ((laid-exactly (grid_size s) line).1 (k, client, c, o)) ∙ rw (q.0, q.1, q.2) refl

  pub enter-read : {c : ℕ} {g : List ℕ} → CommandLaid (grid_size s) 1 c g line → read_line s line ≡ calls 1 (enter c g)
  unfolding read_command
  enter-read o = laid-read o

  pub strike-read : {c : ℕ} {g : List ℕ} → CommandLaid (grid_size s) 2 c g line → read_line s line ≡ calls 2 (strike c g)
  unfolding read_command
  strike-read o = laid-read o

  pub bounds-read : (low high : List ℕ) → length low ≡ grid_size s → length high ≡ grid_size s → CommandLaid (grid_size s) 3 0 (in_turn low high) line →
      read_line s line ≡ after_prune 3 (pruned s.rows s.columns s.top low high)
  unfolding read_command
  bounds-read low high e f o = let q = parted-in-turn (grid_size s) low high e f in laid-read o ∙ rw (q.0, q.1) refl

-- ---- the machine's steps

unfoldable pub step_of : Shape → List Entry → LineReading → Step
step_of s l (says k x) = record { number = x; place = 0; next = l }
step_of s l (calls k c) = step s l c

-- ---- after prune

pub prune-says : (k j : ℕ) (p : Pruned) → p.number ≡ suc j → after_prune k p ≡ says k (suc j)
unfolding after_prune
prune-says k j p e = rw (e, after_prune) refl

pub prune-calls : (k : ℕ) (p : Pruned) → p.number ≡ 0 → after_prune k p ≡ calls k (count_in p.low p.high)
unfolding after_prune
prune-calls k p e = rw (e, after_prune) refl

-- the command is printed as it was read
after-command : (k : ℕ) (p : Pruned) → command_of (after_prune k p) ≡ k
unfolding command_of
after-command k p = go p.number refl
  where
    go : (j : ℕ) → p.number ≡ j → command_of (after_prune k p) ≡ k
    go zero e = rw (prune-calls k p e) refl
    go (suc j) e = rw (prune-says k j p e) refl

pub command-of : (m n top k client : ℕ) (c : List ℕ) → command_of (read_command m n top k client c) ≡ k
unfolding read_command command_of
command-of m n top k client c = go (eqb k 1) refl (eqb k 2) refl
  where
    go : (t : Bool) → eqb k 1 ≡ t → (u : Bool) → eqb k 2 ≡ u → command_of (read_command m n top k client c) ≡ k
    go true e u f = rw (e, read_command) refl
    go false e true f = rw (e, f, read_command) refl
    go false e false f = rw (e, f, read_command) (after-command k _)

module _ (s : Shape) (l : List Entry) (g : Good s l) where
  pub step-of-good : (r : LineReading) → Good s (step_of s l r).next
  unfolding step_of
  step-of-good (says k x) = g
  step-of-good (calls k c) = step-good s l g c

  pub answered-same : (r : LineReading) → answered_by register_calls (shown s l) r ≡ outcome s (step_of s l r)
  unfolding answered_by step_of outcome
  answered-same (says k x) = refl
  answered-same (calls k c) = call_same s l g c

  module _ (k : ℕ) (low high : List ℕ) where
    asked : (j : ℕ) → first_no (prune_questions s.rows s.columns s.top low high) ≡ j → bounds_step s l low high ≡ step_unless j l (count_of s l low high)
    unfolding bounds_step
    asked j e = rw (sym (prune-asked s.rows s.columns s.top low high g.limits.grid-limits) ∙ e) refl

    pub bounds-some : (pruned_for s low high).number ≡ 0 → bounds_step s l low high ≡ count_classes s l low high
    unfolding step_unless count_of
    bounds-some z = let w = says_some s.rows s.columns s.top low high z in asked 0 w.0 ∙ rw ((some-decides s.rows s.columns s.top low high).1 w.1, count_of) refl

    pub bounds-none : (pruned_for s low high).number ≡ 102 → bounds_step s l low high ≡ record { number = 102; place = 0; next = l }
    unfolding step_unless count_of
    bounds-none z =
        let w = says_none s.rows s.columns s.top low high z in
        asked 0 w.0 ∙ rw (refuted _ (some-decides s.rows s.columns s.top low high) w.1, count_of) refl

    counted : (pruned_for s low high).number ≡ 0 → step s l (count_in (pruned_for s low high).low (pruned_for s low high).high) ≡ count_classes s l low high
    unfolding step step_unless count_classes
    counted z =
        rw ((bounds-pass (grid_size s) s.top (pruned_for s low high).low (pruned_for s low high).high).1 (pruned-is-bounds s.rows s.columns s.top low high z))
        (λ i. record { number = 0; place = same-inside s low high l g z i; next = l })

    bounds-stepped : step_of s l (after_prune k (pruned s.rows s.columns s.top low high)) ≡ bounds_step s l low high
    unfolding step_of step_unless count_of
    bounds-stepped = go (prune-case s.rows s.columns s.top low high)
      where
        go : PruneCase s.rows s.columns s.top low high → step_of s l (after_prune k (pruned s.rows s.columns s.top low high)) ≡ bounds_step s l low high
        go (refused j e) = rw (prune-says k j (pruned_for s low high) (ap (λ (p : Pruned). p.number) (pruned-refused s.rows s.columns s.top low high j e)), asked (suc j) e) refl
        go (some e o) =
            let z = ap (λ (p : Pruned). p.number) (pruned-some s.rows s.columns s.top low high e o) in
            rw (prune-calls k (pruned_for s low high) z, asked 0 e, (some-decides s.rows s.columns s.top low high).1 o, count_of) (counted z)
        go (none e h) =
            rw (prune-says k 101 (pruned_for s low high) (ap (λ (p : Pruned). p.number) (pruned-none s.rows s.columns s.top low high e h)), asked 0 e, refuted _ (some-decides s.rows s.columns s.top low high) h, count_of) refl

  command-stepped : (k client : ℕ) (c : List ℕ) → step_of s l (read_command s.rows s.columns s.top k client c) ≡ command_step s l k client c
  unfolding read_command command_step step_of
  command-stepped k client c = go (eqb k 1) refl (eqb k 2) refl
    where
      go : (t : Bool) → eqb k 1 ≡ t → (u : Bool) → eqb k 2 ≡ u → step_of s l (read_command s.rows s.columns s.top k client c) ≡ command_step s l k client c
      go true e u f = rw (e, read_command, command_step) refl
      go false e true f = rw (e, f, read_command, command_step) refl
      go false e false f = rw (e, f, read_command, command_step) (bounds-stepped k _ _)

  pub reading-answer : (line : List ℕ) → answer s l line ≡ answer_step (command_of (read_line s line)) (step_of s l (read_line s line))
  unfolding answer_step malformed command_of step_of
  reading-answer line = go (is_laid (grid_size s) line) refl
    where
      go : (t : Bool) → is_laid (grid_size s) line ≡ t → answer s l line ≡ answer_step (command_of (read_line s line)) (step_of s l (read_line s line))
      go true e =
          let c = cells_in (grid_size s) line in
          step-answer s l line e ∙ sym (rw (by-command s.rows s.columns s.top line e, command-of s.rows s.columns s.top (command_in line) (client_in line) c, command-stepped (command_in line) (client_in line) c) refl)
      go false e = malformed-answer s l line e ∙ sym (rw (by-none s.rows s.columns s.top line e) refl)
