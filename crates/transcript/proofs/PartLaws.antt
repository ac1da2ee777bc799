-- Cells that hold low and high in turn, parted.
--
--   PartedTo i c low high o p  ==  o and p are low and high with the first i bounds that the cells c hold in turn
--   parted-none, parted-next, parted-all  ==  the loop's start, one turn, and its end
use mathlib.Core.Path.{◌≡◌, refl}
use mathlib.Core.List.{List}
use Prim.Native.Nat.{ℕ, ◌+◌, ◌*◌, ◌≤◌, ◌<◌}
use native.Mathlib.Numerals.{add-one}
use native.Mathlib.Omega.{arith}
use lib.ListN.{length, get_or, take, set}
use lib.Seq.{take-suc, take_all}
use Rattle.permutations.specs.Lists.{tabulate}
use Rattle.permutations.proofs.ListLaws.{length-tabulate, at-tabulate}
use Rattle.lines.proofs.FillLaws.{Filled, fill_none, fill, filled-whole}
use Rattle.protocol.specs.Commands.{lows, highs}
use Rattle.transcript.specs.Commands.{Parts}

-- a list filled with the values of a function
by_next : (n : ℕ) (f : ℕ → ℕ) {l o : List ℕ} {k : ℕ} (x : ℕ) → Filled (take k (tabulate 0 n f)) l k o → k < n → n ≡ length l → x ≡ f k → Filled (take (k + 1) (tabulate 0 n f)) l (k + 1) (set o k x)
by_next n f {k = k} x t h e y =
    fill _ x t (omega arith) (rw (add-one, y, ← (at-tabulate n f k 0 h)) (take-suc (tabulate 0 n f) k 0 (omega (arith, length-tabulate 0 n f))))

by_all : (n : ℕ) (f : ℕ → ℕ) {l o : List ℕ} {k : ℕ} → Filled (take k (tabulate 0 n f)) l k o → n ≤ k → n ≡ length l → o ≡ tabulate 0 n f
by_all n f {k = k} t h e = filled-whole _ t (take_all k (tabulate 0 n f) (omega (arith, length-tabulate 0 n f))) (omega arith)

pub record PartedTo (i : ℕ) (c low high o p : List ℕ) : Type 0 where
  pub low_part : Filled (take i (lows (length low) c)) low i o
  pub high_part : Filled (take i (highs (length low) c)) high i p

pub parted-none : (c low high : List ℕ) → PartedTo 0 c low high low high
parted-none c low high = record { low_part = fill_none low; high_part = fill_none high }

module _ {i : ℕ} {c low high o p : List ℕ} (t : PartedTo i c low high o p) (e : length high ≡ length low) where
  pub parted-next : i < length low → PartedTo (i + 1) c low high (set o i (get_or c (2 * i) 0)) (set p i (get_or c (2 * i + 1) 0))
  unfolding lows highs
  parted-next h = record {
    low_part = by_next (length low) (λ i. get_or c (2 * i) 0) _ t.low_part h refl refl;
    high_part = by_next (length low) (λ i. get_or c (2 * i + 1) 0) _ t.high_part h (omega arith) refl;
  }

  pub parted-all : length low ≤ i → Parts c (length low) o p
  unfolding lows highs
  parted-all h = record {
    low-is = by_all (length low) (λ i. get_or c (2 * i) 0) t.low_part h refl;
    high_is = by_all (length low) (λ i. get_or c (2 * i + 1) 0) t.high_part h (omega arith);
  }
