-- Lines within bounds, byte by byte. Between functions: no answer of a call is defined here.
--
--   passes byte before low span  ==  what the byte and the one before it state ranks above low by at most span
--   all_pass k line before lows spans  ==  the first k bytes of a line's cells do, by tables of lows and spans; before has the bytes a byte earlier
--   LineOutcome r k line before lows spans  ==  r says whether the first k bytes do, and the rank of what each states is a byte
--   OrderedBounds low high   ==  at most 128 lows and as many highs, each low at most its high by rank
--   BoundTables n low high lows spans  ==  the tables of the first n bounds: at a field's last byte the rank of the low and how far that of the high is
--                               above it, at the other bytes what every byte passes by; the highs' ranks are bytes
use Rattle.std.specs.Prelude.{◌≡◌, List, Bool, true, ◌&&◌, ℕ, zero, suc, ◌-◌, ◌≤◌, ◌<◌, length, get_or, leb}
use Rattle.grids.specs.Order.{rank}
use Rattle.lines.specs.Bytes.{above, stated}
use Rattle.lines.specs.Tables.{Thirds}

unfoldable pub passes : ℕ → ℕ → ℕ → ℕ → Bool
passes byte before low span = leb (above (rank (stated byte before)) low) span

unfoldable pub all_pass : ℕ → List ℕ → List ℕ → List ℕ → List ℕ → Bool
all_pass zero line before lows spans = true
all_pass (suc k) line before lows spans = all_pass k line before lows spans && passes (get_or line k 0) (get_or before k 0) (get_or lows k 0) (get_or spans k 0)

pub record LineOutcome (r : Bool) (k : ℕ) (line before lows spans : List ℕ) : Type 0 where
  pub answer : r ≡ all_pass k line before lows spans
  pub ranked : (i : ℕ) → i < k → rank (stated (get_or line i 0) (get_or before i 0)) < 256

pub record OrderedBounds (low high : List ℕ) : Type 0 where
  pub few : length low ≤ 128
  pub as_many : length low ≡ length high
  pub in_order : (k : ℕ) → k < length low → rank (get_or low k 0) ≤ rank (get_or high k 0)

pub record BoundTables (n : ℕ) (low high lows spans : List ℕ) : Type 0 where
  pub low-ranks : Thirds lows n 0 0 (λ k. rank (get_or low k 0))
  pub high-spans : Thirds spans n 255 255 (λ k. rank (get_or high k 0) - rank (get_or low k 0))
  pub ranked : (k : ℕ) → k < n → rank (get_or high k 0) < 256
