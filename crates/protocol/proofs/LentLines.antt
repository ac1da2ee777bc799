-- The calls that command lines make are lent machine words and bytes.
--
--   line-lent  ==  the call of a line
--   made-lent  ==  those of lines
use mathlib.Core.Path.{◌≡◌, refl}
use mathlib.Core.List.{List, [], ◌∷◌, flat_map}
use mathlib.Core.Bool.{Bool, true, false}
use Prim.Native.Nat.{ℕ, zero, suc, ◌*◌, ◌≤◌, ◌<◌}
use native.Mathlib.Omega.{arith}
use lib.ListN.{length}
use lib.Dec.{eqb}
use Rattle.permutations.specs.Lists.{All}
use Rattle.permutations.proofs.ListLaws.{all_append}
use Rattle.grids.specs.Lent.{Bytes}
use Rattle.grids.proofs.LentLaws.{small_word, capped-bytes}
use Rattle.grids.proofs.QuestionLaws.{capped_at}
use Rattle.bounds.specs.Prune.{pruned}
use Rattle.bounds.proofs.PruneLaws.{prune-pass, says_some, pruned-is-bounds, bounds-bytes}
use Rattle.layout.specs.Layout.{Shape, grid_size}
use Rattle.machine.specs.CallLists.{LentCall}
use Rattle.protocol.specs.Input.{cell_count, is_laid}
use Rattle.protocol.specs.Readings.{after_prune, read_command, read_by, read_line, made_by, made_in}
use Rattle.protocol.proofs.CommandLaws.{laid-command, laid-exactly}
use Rattle.protocol.proofs.ReadingLaws.{by-command, by-none, prune-says, prune-calls}

-- a command has at most twice as many cells as a grid
few-cells : (size k : ℕ) → cell_count size k ≤ 2 * size
unfolding cell_count
few-cells size k = go (eqb k 3) refl
  where
    go : (t : Bool) → eqb k 3 ≡ t → cell_count size k ≤ 2 * size
    go true e = rw (e, cell_count) (omega arith)
    go false e = rw (e, cell_count) (omega arith)

module _ (m n top : ℕ) where
  after-lent : (k : ℕ) (low high : List ℕ) → All LentCall (made_by (after_prune k (pruned m n top low high)))
  unfolding made_by LentCall
  after-lent k low high = go (pruned m n top low high).number refl
    where
      go : (j : ℕ) → (pruned m n top low high).number ≡ j → All LentCall (made_by (after_prune k (pruned m n top low high)))
      go zero e =
          let l = ((prune-pass m n top low high).0 (says_some m n top low high e).0).0 in
          rw (prune-calls k (pruned m n top low high) e) (bounds-bytes m n top _ _ l (pruned-is-bounds m n top low high e), tt)
      go (suc j) e = rw (prune-says k j (pruned m n top low high) e) tt

  command-lent : (k client : ℕ) (c : List ℕ) → client < 1000000 → Bytes c → All LentCall (made_by (read_command m n top k client c))
  unfolding read_command made_by LentCall
  command-lent k client c w b = go (eqb k 1) refl (eqb k 2) refl
    where
      go : (t : Bool) → eqb k 1 ≡ t → (u : Bool) → eqb k 2 ≡ u → All LentCall (made_by (read_command m n top k client c))
      go true e u f = rw (e, read_command) ((small_word client (omega (arith, w)), b), tt)
      go false e true f = rw (e, f, read_command) ((small_word client (omega (arith, w)), b), tt)
      go false e false f = rw (e, f, read_command) (after-lent k _ _)

  pub line-lent : m * n ≤ 128 → (line : List ℕ) → All LentCall (made_by (read_by m n top line))
  unfolding made_by
  line-lent few line = go (is_laid (m * n) line) refl
    where
      go : (t : Bool) → is_laid (m * n) line ≡ t → All LentCall (made_by (read_by m n top line))
      go true e =
          let o = (laid-exactly (m * n) line).0 e in
          let q = laid-command o.3 in
          rw (by-command m n top line e, q.0, q.1, q.2)
          (command-lent o.0 o.1 o.2 o.3.client-small (capped-bytes (length o.2) 255 o.2 (omega (arith, few, o.3.sized, few-cells (m * n) o.0)) (omega arith) refl (λ k h. capped_at 255 o.2 o.3.small k h)))
      go false e = rw (by-none m n top line e) tt

pub made-lent : (s : Shape) → grid_size s ≤ 128 → (ls : List (List ℕ)) → All LentCall (made_in s ls)
unfolding made_in flat_map
made-lent s few [] = tt
made-lent s few (line ∷ ls) = all_append LentCall (made_by (read_line s line)) (made_in s ls) (line-lent s.rows s.columns s.top few line) (made-lent s few ls)
