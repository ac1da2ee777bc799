-- What a call is lent: slices of bytes and machine words. Contracts speak of programs on these alone.
--
--   IsWord n   ==  n is a machine word
--   Bytes l    ==  l is what a slice of bytes can hold: every element is a byte, and the length a machine word
--   Lent m n top x y  ==  rows, columns and top are words, and two slices have bytes: what represent, same and prune are lent
use Rattle.std.specs.Prelude.{◌≡◌, List, true, ℕ, ◌^◌, ◌<◌, length}
use Rattle.std.proofs.Math.Pow.{are_bytes}

unfoldable pub IsWord : ℕ → Type 0
IsWord n = n < 2 ^ 64

pub record Bytes (l : List ℕ) : Type 0 where
  pub each : are_bytes l ≡ true
  pub length-word : IsWord (length l)

pub record Lent (m n top : ℕ) (x y : List ℕ) : Type 0 where
  pub rows : IsWord m
  pub columns : IsWord n
  pub top-word : IsWord top
  pub first : Bytes x
  pub second : Bytes y
