-- Count with all its slices: what it leaves of the bounds too, which are lent to be read.
--
--   CountOutcome  ==  the outcome, and low and high afterwards
--   CountProgram  ==  programs for count, as functions of the slices that they are lent
--   MeetsCount f  ==  the outcome is that of calls/specs/Calls, and low and high are as they were, for all slices of bytes
use Rattle.std.specs.Prelude.{◌≡◌, List, ℕ}
use Rattle.grids.specs.Lent.{Bytes}
use Rattle.calls.specs.Calls.{Outcome, counted}

pub record CountOutcome : Type 0 where
  pub outcome : Outcome
  pub low : List ℕ
  pub high : List ℕ

abbrev pub CountProgram : Type 0
CountProgram = (b low high : List ℕ) → CountOutcome

pub record MeetsCount (f : CountProgram) : Type 0 where
  pub answers : (b low high : List ℕ) → Bytes b → Bytes low → Bytes high → (f b low high).outcome ≡ counted b low high
  pub low-kept : (b low high : List ℕ) → Bytes b → Bytes low → Bytes high → (f b low high).low ≡ low
  pub high-kept : (b low high : List ℕ) → Bytes b → Bytes low → Bytes high → (f b low high).high ≡ high
