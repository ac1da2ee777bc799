-- Sets of rows, one byte of a word for each of 8 rows. Between functions: no answer of a call is defined here.
--
--   lane i w       ==  byte i of w, the lowest first
--   IsRowSet s     ==  s is a word of eight bytes, each 0 or 128
--   row-set-prop   ==  there is one way at most for it to be such a word
--   HasRow s r     ==  row r is of the set s: byte r is 128
--   Tells b P      ==  b tells whether P
--   RowsFrom k m p s  ==  s has the rows at positions k to m of the order p, and no others
--   Thins m n g k p s r  ==  r has rows of s, and for each row of s, at a position of p from k on, one whose branch is as good
use Rattle.std.specs.Prelude.{◌≡◌, ℕ, zero, suc, ◌/◌, ◌%◌, ◌^◌, ◌<◌, ◌≤◌, Bool, true, false, ◌⊎◌, List, slice_index}
use Rattle.std.proofs.Props.{props}
use Rattle.std.proofs.Common.{inl, inr, ap, arith}
use Rattle.std.proofs.Math.Nat.{ℕ_set}
use Rattle.branches.specs.Branches.{Next}

unfoldable pub lane : ℕ → ℕ → ℕ
lane zero w = w % 256
lane (suc i) w = lane i (w / 256)

pub record IsRowSet (s : ℕ) : Type 0 where
  pub bytes : s < 2 ^ 64
  pub flags : (r : ℕ) → r < 8 → (lane r s ≡ 0) ⊎ (lane r s ≡ 128)

unfoldable pub HasRow : ℕ → ℕ → Type 0
HasRow s r = (r < 8) × (lane r s ≡ 128)

pub record Tells (b : Bool) (P : Type 0) : Type 0 where
  pub yes : b ≡ true → P
  pub no : b ≡ false → P → ⊥

pub record RowsFrom (k m : ℕ) (p : List ℕ) (s : ℕ) : Type 0 where
  pub set : IsRowSet s
  pub has : (t : ℕ) → k ≤ t → t < m → HasRow s (slice_index p t)
  pub only : (r : ℕ) → HasRow s r → (t : ℕ) × (k ≤ t) × (t < m) × (slice_index p t ≡ r)

pub record Thins (m n : ℕ) (g : List ℕ) (k : ℕ) (p : List ℕ) (s r : ℕ) : Type 0 where
  pub set : IsRowSet r
  pub fewer : (x : ℕ) → HasRow r x → HasRow s x
  pub as-good : (t : ℕ) → k ≤ t → t < m → HasRow s (slice_index p t) → (u : ℕ) × (k ≤ u) × (u < m) × HasRow r (slice_index p u) × Next m n g k p u t

-- a set of rows is told by its word alone
flag-prop : (a : ℕ) → IsProp ((a ≡ 0) ⊎ (a ≡ 128))
flag-prop a (inl p) (inl q) = ap inl (ℕ_set _ _ p q)
flag-prop a (inr p) (inr q) = ap inr (ℕ_set _ _ p q)
flag-prop a (inl p) (inr q) = absurd (omega (arith, p, q))
flag-prop a (inr p) (inl q) = absurd (omega (arith, p, q))

pub row-set-prop : (s : ℕ) → IsProp (IsRowSet s)
row-set-prop s = Prim.hlevel (props, flag-prop)
