-- The three bytes of a cell: they fit exactly where they are the field of a number of at most top, by its bytes.
--
--   Within ..                   ==  fits in numbers: fits-within, within-fits
--   cell_fits top before a b c  ==  the three bytes of a cell fit; before is the byte before them
--   fit-bytes, bytes_fit        ==  they do exactly where they are such a field, by its bytes
use mathlib.Core.Path.{◌≡◌, refl, subst}
use mathlib.Core.Bool.{Bool, true, false, ◌&&◌}
use mathlib.Core.Logic.{◌⊎◌, inl, inr}
use Prim.Native.Nat.{ℕ, ◌+◌, ◌-◌, ◌≤◌, ◌<◌, min}
use native.Mathlib.Omega.{arith}
use native.Mathlib.Decide.{dec_lt, ℕ_discrete}
use borrow.Author.Tests.{le-leb, leb-true}
use lib.Dec.{eqb}
use Rattle.permutations.proofs.BoolLaws.{and_yes, yes_and}
use Rattle.lines.specs.Bytes.{above}
use Rattle.scan.specs.Cells.{One, Two, CellBytes}
use Rattle.scan.specs.Fits.{rest, fits}
use Rattle.scan.specs.Tables.{teen_of, span_of}
use Rattle.scan.proofs.FitLaws.{rest-teen, rest-other, teen-low, teen-high}

-- ---- what fits says in numbers

Within : ℕ → ℕ → ℕ → ℕ → ℕ → ℕ → Type 0
Within byte before base teen span cap = (above byte base ≡ teen) ⊎ ((above byte base ≤ span) × (above byte base ≤ above cap before))

fits-within : (byte before base teen span cap : ℕ) → fits byte before base teen span cap ≡ true → Within byte before base teen span cap
unfolding fits Within
fits-within byte before base teen span cap e = go (ℕ_discrete (above byte base) teen)
  where
    le : rest (above byte base) teen ≤ min span (above cap before)
    le = leb-true (rest (above byte base) teen) (min span (above cap before)) e

    go : Dec (above byte base ≡ teen) → (above byte base ≡ teen) ⊎ ((above byte base ≤ span) × (above byte base ≤ above cap before))
    go (yes q) = inl q
    go (no q) = let r = rest-other (above byte base) teen q in inr (omega (arith, r, le), omega (arith, r, le))

rest_le : (x teen : ℕ) → rest x teen ≤ x
unfolding rest
rest_le x teen = go (eqb x teen)
  where
    go : (t : Bool) → elim t [ true ↦ 0 | false ↦ x ] ≤ x
    go true = omega arith
    go false = omega arith

within-fits : (byte before base teen span cap : ℕ) → Within byte before base teen span cap → fits byte before base teen span cap ≡ true
unfolding fits Within
within-fits byte before base teen span cap (inl q) =
    le-leb (rest (above byte base) teen) (min span (above cap before)) (omega (arith, rest-teen (above byte base) teen q))
within-fits byte before base teen span cap (inr (p, q)) =
    le-leb (rest (above byte base) teen) (min span (above cap before))
    (omega (arith, rest_le (above byte base) teen))

-- ---- the tables

span-le : (top : ℕ) → (span_of top ≤ top) × (span_of top ≤ 9)
unfolding span_of
span-le top = (omega arith, omega arith)

le-span : (top x : ℕ) → x ≤ top → x ≤ 9 → x ≤ span_of top
unfolding span_of
le-span top x p q = omega arith

-- ---- three bytes

unfoldable pub cell_fits : ℕ → ℕ → ℕ → ℕ → ℕ → Bool
cell_fits top before a b c =
    fits a before 32 0 0 (39 + top) && (fits b a 32 (teen_of top) 0 (39 + top) && fits c b 48 0 (span_of top) (39 + top))

first-space : (a before cap : ℕ) → a < 256 → Within a before 32 0 0 cap → a ≡ 32
unfolding Within above
first-space a before cap l (inl q) = omega arith
first-space a before cap l (inr (p, q)) = omega arith

second : (top a b : ℕ) → b < 256 → Within b a 32 (teen_of top) 0 (39 + top) → (b ≡ 32) ⊎ ((b ≡ 49) × (10 ≤ top))
unfolding Within above
second top a b l (inr (p, q)) = inl (omega arith)
second top a b l (inl q) = go (dec_lt top 10)
  where
    go : Dec (top < 10) → (b ≡ 32) ⊎ ((b ≡ 49) × (10 ≤ top))
    go (yes h) = inl (omega (arith, q, teen-low top h))
    go (no h) = inr (omega (arith, q, teen-high top (omega arith)), omega arith)

third-one : (top c : ℕ) → top ≤ 15 → c < 256 → Within c 32 48 0 (span_of top) (39 + top) → (48 ≤ c) × (c ≤ 48 + top) × (c ≤ 57)
unfolding Within above
third-one top c t l (inl q) = (omega arith, omega arith, omega arith)
third-one top c t l (inr (p, q)) = let s = span-le top in (omega (arith, p, s.1), omega (arith, p, s.0, s.1), omega (arith, p, s.1))

third-two : (top c : ℕ) → 10 ≤ top → top ≤ 15 → c < 256 → Within c 49 48 0 (span_of top) (39 + top) → (48 ≤ c) × (c ≤ 38 + top)
unfolding Within above
third-two top c u t l (inl q) = (omega arith, omega arith)
third-two top c u t l (inr (p, q)) = let s = span-le top in (omega (arith, p, s.1), omega (arith, p, q, s.1))

pub fit-bytes : (top before a b c : ℕ) → top ≤ 15 → a < 256 → b < 256 → c < 256 → cell_fits top before a b c ≡ true → CellBytes top a b c
unfolding cell_fits CellBytes One Two
fit-bytes top before a b c t la lb lc e = (first-space a before (39 + top) la (fits-within a before 32 0 0 (39 + top) x.0), go (second top a b lb (fits-within b a 32 (teen_of top) 0 (39 + top) y.0)))
  where
    x : (fits a before 32 0 0 (39 + top) ≡ true) × ((fits b a 32 (teen_of top) 0 (39 + top) && fits c b 48 0 (span_of top) (39 + top)) ≡ true)
    x = and_yes (fits a before 32 0 0 (39 + top)) (fits b a 32 (teen_of top) 0 (39 + top) && fits c b 48 0 (span_of top) (39 + top)) e

    y : (fits b a 32 (teen_of top) 0 (39 + top) ≡ true) × (fits c b 48 0 (span_of top) (39 + top) ≡ true)
    y = and_yes (fits b a 32 (teen_of top) 0 (39 + top)) (fits c b 48 0 (span_of top) (39 + top)) x.1

    z : Within c b 48 0 (span_of top) (39 + top)
    z = fits-within c b 48 0 (span_of top) (39 + top) y.1

    go : (b ≡ 32) ⊎ ((b ≡ 49) × (10 ≤ top)) → ((b ≡ 32) × (48 ≤ c) × (c ≤ 48 + top) × (c ≤ 57)) ⊎ ((b ≡ 49) × (10 ≤ top) × (48 ≤ c) × (c ≤ 38 + top))
    go (inl q) = let w = third-one top c t lc (subst (λ (x : ℕ). Within c x 48 0 (span_of top) (39 + top)) q z) in inl (q, w.0, w.1, w.2)
    go (inr (q, u)) = let w = third-two top c u t lc (subst (λ (x : ℕ). Within c x 48 0 (span_of top) (39 + top)) q z) in inr (q, u, w.0, w.1)

space-within : (before cap : ℕ) → Within 32 before 32 0 0 cap
unfolding Within above
space-within before cap = inl refl

second-one : (top a : ℕ) → top ≤ 15 → a ≡ 32 → Within 32 a 32 (teen_of top) 0 (39 + top)
unfolding Within above
second-one top a t e = inr (omega arith, omega (arith, e))

second-two : (top a : ℕ) → 10 ≤ top → Within 49 a 32 (teen_of top) 0 (39 + top)
unfolding Within above
second-two top a u = inl (teen-high top u)

last_one : (top c : ℕ) → top ≤ 15 → 48 ≤ c → c ≤ 48 + top → c ≤ 57 → Within c 32 48 0 (span_of top) (39 + top)
unfolding Within above
last_one top c t p q r = inr (omega (arith, le-span top (c - 48) (omega arith) (omega arith)), omega arith)

last-two : (top c : ℕ) → 10 ≤ top → top ≤ 15 → 48 ≤ c → c ≤ 38 + top → Within c 49 48 0 (span_of top) (39 + top)
unfolding Within above
last-two top c u t p q = inr (omega (arith, le-span top (c - 48) (omega arith) (omega arith)), omega arith)

pub bytes_fit : (top before a b c : ℕ) → top ≤ 15 → CellBytes top a b c → cell_fits top before a b c ≡ true
unfolding cell_fits CellBytes One Two
bytes_fit top before a b c t (e, o) =
    yes_and (fits a before 32 0 0 (39 + top)) _ (rw e (within-fits 32 before 32 0 0 (39 + top) (space-within before (39 + top)))) (go o)
  where
    two : (w : ℕ) → b ≡ w → Within w a 32 (teen_of top) 0 (39 + top) → Within c w 48 0 (span_of top) (39 + top) → (fits b a 32 (teen_of top) 0 (39 + top) && fits c b 48 0 (span_of top) (39 + top)) ≡ true
    two w q x y = rw q (yes_and (fits w a 32 (teen_of top) 0 (39 + top)) _ (within-fits w a 32 (teen_of top) 0 (39 + top) x) (within-fits c w 48 0 (span_of top) (39 + top) y))

    go : ((b ≡ 32) × (48 ≤ c) × (c ≤ 48 + top) × (c ≤ 57)) ⊎ ((b ≡ 49) × (10 ≤ top) × (48 ≤ c) × (c ≤ 38 + top)) → (fits b a 32 (teen_of top) 0 (39 + top) && fits c b 48 0 (span_of top) (39 + top)) ≡ true
    go (inl (q, p, r, m)) = two 32 q (second-one top a t e) (last_one top c t p r m)
    go (inr (q, u, p, r)) = two 49 q (second-two top a u) (last-two top c u t p r)
