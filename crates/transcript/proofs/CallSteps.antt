-- Command lines, from what the code finds to how they are read.
--
--   enter-of, strike-of, bounds_of  ==  what is answered to each command
--   bounds-cells  ==  command 3 has low and high of each cell
--   parted-pruned  ==  prune on the bounds that the cells hold in turn
--   pruned-no, pruned-counted  ==  its number is not 0; it is 0, and the entries in what it leaves are counted
--   answer-malformed, answer-made  ==  what is answered to a command line that is not laid, and to one that is
use mathlib.Core.Path.{◌≡◌, refl, sym, ap, ap₂, ◌∙◌}
use mathlib.Core.List.{List}
use mathlib.Core.Bool.{false}
use Rattle.std.specs.Prelude.{Some, None}
use Prim.Native.Nat.{ℕ, zero, suc, ◌*◌}
use lib.ListN.{take}
use Rattle.bounds.specs.Prune.{Pruned, pruned}
use Rattle.bounds.specs.Demand2.{Prunes}
use Rattle.machine.specs.CallLists.{register_calls, called}
use Rattle.calls.specs.Calls.{entered, struck, counted, placed}
use Rattle.protocol.specs.Input.{cell_count, cells_in, is_laid}
use Rattle.protocol.specs.Commands.{lows, highs}
use Rattle.protocol.specs.Readings.{pruned_cells, read_command, read_by, command_of, answered_by}
use Rattle.protocol.proofs.ReadingLaws.{by-command, by-none, prune-says, prune-calls, command-of}
use Rattle.transcript.specs.Commands.{command_number, client_of, CommandRead, Parts, PrunesParted}
use Rattle.transcript.specs.declared.commands.Command.{Command}
use Rattle.transcript.specs.declared.reports.Report.{Report}
use Rattle.transcript.specs.Answers.{Answers}

module _ (m n top : ℕ) {k : ℕ} (client : ℕ) (b c : List ℕ) where
  pub enter-of : k ≡ 1 → answered_by register_calls b (read_command m n top k client c) ≡ entered b client c
  unfolding read_command answered_by called register_calls
  enter-of e = rw e refl

  pub strike-of : k ≡ 2 → answered_by register_calls b (read_command m n top k client c) ≡ struck b client c
  unfolding read_command answered_by called register_calls
  strike-of e = rw e refl

  pub bounds_of : k ≡ 3 → answered_by register_calls b (read_command m n top k client c) ≡ answered_by register_calls b (read_command m n top 3 0 c)
  unfolding read_command
  bounds_of e = rw e refl

pub bounds-cells : (size : ℕ) {k n : ℕ} → k ≡ 3 → n ≡ cell_count size k → n ≡ 2 * size
unfolding cell_count
bounds-cells size e h = h ∙ rw e refl

-- ---- command 3

pub parted-pruned : {m n top : ℕ} (c : List ℕ) {size : ℕ} {low high : List ℕ} {r : Pruned} → size ≡ m * n → Parts c size low high → Prunes m n top low high r → PrunesParted m n top c r.number r.low r.high
parted-pruned {m} {n} {top} c e p q =
    let d = q.determined ∙ ap₂ (pruned m n top) (p.low-is ∙ ap (λ (k : ℕ). lows k c) e) (p.high_is ∙ ap (λ (k : ℕ). highs k c) e) in
    record { number_is = ap (λ (x : Pruned). x.number) d; low-is = ap (λ (x : Pruned). x.low) d; high_is = ap (λ (x : Pruned). x.high) d }

module _ (m n top : ℕ) (b c : List ℕ) {number : ℕ} {low high : List ℕ} (p : PrunesParted m n top c number low high) where
  pub pruned-no : (number ≡ 0 → ⊥) → placed number 0 b ≡ answered_by register_calls b (read_command m n top 3 0 c)
  unfolding read_command answered_by
  pruned-no h = go number refl
    where
      go : (j : ℕ) → number ≡ j → placed number 0 b ≡ answered_by register_calls b (read_command m n top 3 0 c)
      go zero z = absurd (h z)
      go (suc j) z = ap (λ (x : ℕ). placed x 0 b) z ∙ sym (rw (prune-says 3 j (pruned_cells m n top c) (sym p.number_is ∙ z)) refl)

  pub pruned-counted : number ≡ 0 → {x y : List ℕ} → x ≡ low → y ≡ high → {k q : ℕ} → placed k q b ≡ counted b x y → placed k q b ≡ answered_by register_calls b (read_command m n top 3 0 c)
  unfolding read_command answered_by called register_calls
  pruned-counted z d e o = o ∙ ap₂ (counted b) (d ∙ p.low-is) (e ∙ p.high_is) ∙ sym (rw (prune-calls 3 (pruned_cells m n top c) (sym p.number_is ∙ z)) refl)

-- ---- a command line

module _ (m n top : ℕ) (line b : List ℕ) where
  pub answer-malformed : is_laid (m * n) line ≡ false → {r : Report} → (r.command ≡ None) × (r.number ≡ 12) × (r.place ≡ 0) → Answers m n top line b b r
  unfolding command_of answered_by
  answer-malformed e {r} p = let q = by-none m n top line e in record { command-is = rw (q, p.0) refl; answers = rw (q, answered_by, p.1, p.2) refl }

  pub answer-made : {cells : List ℕ} {k : Command} → CommandRead (m * n) line cells k → {j : ℕ} → j ≡ cell_count (m * n) (command_number k) → {b' : List ℕ} {number place : ℕ} →
      placed number place b' ≡ answered_by register_calls b (read_command m n top (command_number k) (client_of k) (take j cells)) → Answers m n top line b b' (record { command = Some k; number = number; place = place })
  answer-made {cells} {k} r {j} e d = record { command-is = sym (ap command_of read ∙ command-of m n top (command_number k) (client_of k) (take j cells)); answers = d ∙ sym (ap (answered_by register_calls b) read) }
    where
      cells_are : take j cells ≡ cells_in (m * n) line
      cells_are = rw e r.cells_are

      read : read_by m n top line ≡ read_command m n top (command_number k) (client_of k) (take j cells)
      read = by-command m n top line r.laid ∙ rw (← r.states.command-is, ← r.states.client-is, ← cells_are) refl
