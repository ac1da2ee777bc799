-- Laws of the lines of planbook's input: how its bytes fall into them.
--
--   LinesEnded ls      ==  no line of ls is empty; a line feed stands at the end of each line but the last, and nowhere before the end of a line
--   lines-feed, lines_other  ==  the lines of bytes that begin with a line feed, and with another byte
--   lines-joined       ==  the lines put one after another are the bytes
--   lines-ended        ==  the lines are ended so
--   lines-only         ==  no other lists that are ended so give the same bytes
--   lines-fewer        ==  there are no more lines than bytes
use mathlib.Core.Path.{◌≡◌, refl, ap, ◌∙◌}
use mathlib.Core.List.{List, [], ◌∷◌, ◌++◌, flatten}
use mathlib.Core.Bool.{Bool, true, false}
use Prim.Native.Nat.{ℕ, zero, suc, ◌+◌, ◌≤◌, ◌<◌}
use native.Mathlib.Omega.{arith}
use lib.ListN.{length, get_or}
use lib.Dec.{eqb}
use borrow.Author.Tests.{eqb-true, eqb-false, eq-eqb, ne_eqb}
use Rattle.protocol.specs.Input.{onto, lines}

-- ---- the lines

pub record LinesEnded (ls : List (List ℕ)) : Type 0 where
  pub filled : (e : ℕ) → e < length ls → 0 < length (get_or ls e [])
  pub inner : (e k : ℕ) → e < length ls → k + 1 < length (get_or ls e []) → get_or (get_or ls e []) k 0 ≡ 10 → ⊥
  pub last : (e k : ℕ) → e + 1 < length ls → k + 1 ≡ length (get_or ls e []) → get_or (get_or ls e []) k 0 ≡ 10

pub lines-feed : (b : ℕ) (s : List ℕ) → b ≡ 10 → lines (b ∷ s) ≡ (b ∷ []) ∷ lines s
unfolding lines
lines-feed b s e = rw (eq-eqb b 10 e, lines)

pub lines_other : (b : ℕ) (s : List ℕ) → (b ≡ 10 → ⊥) → lines (b ∷ s) ≡ onto b (lines s)
unfolding lines
lines_other b s e = rw (ne_eqb b 10 e, lines)

onto-joined : (b : ℕ) (ls : List (List ℕ)) → flatten (onto b ls) ≡ b ∷ flatten ls
unfolding flatten onto
onto-joined b [] = refl
onto-joined b (l ∷ ls) = refl

pub lines-joined : (s : List ℕ) → flatten (lines s) ≡ s
unfolding lines flatten
lines-joined [] = refl
lines-joined (b ∷ s) = go (lines-joined s) (eqb b 10) refl
  where
    go : flatten (lines s) ≡ s → (t : Bool) → eqb b 10 ≡ t → flatten (lines (b ∷ s)) ≡ b ∷ s
    go ih true e = ap flatten (lines-feed b s (eqb-true b 10 e)) ∙ ap (λ (l : List ℕ). b ∷ l) ih
    go ih false e = ap flatten (lines_other b s (eqb-false b 10 e)) ∙ onto-joined b (lines s) ∙ ap (λ (l : List ℕ). b ∷ l) ih

none-ended : LinesEnded []
none-ended = record { filled = λ e h. absurd (omega arith); inner = λ e k h. absurd (omega arith); last = λ e k h. absurd (omega arith) }

cons-ended : (l : List ℕ) (ls : List (List ℕ)) → 0 < length l → ((k : ℕ) → k + 1 < length l → get_or l k 0 ≡ 10 → ⊥) →
    ((k : ℕ) → 0 < length ls → k + 1 ≡ length l → get_or l k 0 ≡ 10) → LinesEnded ls → LinesEnded (l ∷ ls)
cons-ended l ls f i g o = record { filled = filled; inner = inner; last = last }
  where
    filled : (e : ℕ) → e < suc (length ls) → 0 < length (get_or (l ∷ ls) e [])
    filled zero h = f
    filled (suc e) h = o.filled e (omega arith)

    inner : (e k : ℕ) → e < suc (length ls) → k + 1 < length (get_or (l ∷ ls) e []) → get_or (get_or (l ∷ ls) e []) k 0 ≡ 10 → ⊥
    inner zero k h = i k
    inner (suc e) k h = o.inner e k (omega arith)

    last : (e k : ℕ) → e + 1 < suc (length ls) → k + 1 ≡ length (get_or (l ∷ ls) e []) → get_or (get_or (l ∷ ls) e []) k 0 ≡ 10
    last zero k h = g k (omega arith)
    last (suc e) k h = o.last e k (omega arith)

rest_ended : {l : List ℕ} {ls : List (List ℕ)} → LinesEnded (l ∷ ls) → LinesEnded ls
rest_ended o = record { filled = λ e h. o.filled (suc e) (omega arith); inner = λ e k h. o.inner (suc e) k (omega arith); last = λ e k h. o.last (suc e) k (omega arith) }

-- a byte that is no line feed put in front of a line, and taken away again
more-ended : (b : ℕ) (l : List ℕ) (ls : List (List ℕ)) → (b ≡ 10 → ⊥) → LinesEnded (l ∷ ls) → LinesEnded ((b ∷ l) ∷ ls)
more-ended b l ls d o = cons-ended (b ∷ l) ls (omega arith) inner last (rest_ended o)
  where
    inner : (k : ℕ) → k + 1 < suc (length l) → get_or (b ∷ l) k 0 ≡ 10 → ⊥
    inner zero h = d
    inner (suc k) h = o.inner 0 k (omega arith) (omega arith)

    last : (k : ℕ) → 0 < length ls → k + 1 ≡ suc (length l) → get_or (b ∷ l) k 0 ≡ 10
    last zero h i = absurd (omega (arith, o.filled 0 (omega arith)))
    last (suc k) h i = o.last 0 k (omega arith) (omega arith)

fewer-ended : (b : ℕ) (l : List ℕ) (ls : List (List ℕ)) → 0 < length l → LinesEnded ((b ∷ l) ∷ ls) → LinesEnded (l ∷ ls)
fewer-ended b l ls f o = cons-ended l ls f (λ k h. o.inner 0 (suc k) (omega arith) (omega arith)) (λ k h i. o.last 0 (suc k) (omega arith) (omega arith)) (rest_ended o)

-- a line of one byte
one_ended : (b : ℕ) (ls : List (List ℕ)) → (0 < length ls → b ≡ 10) → LinesEnded ls → LinesEnded ((b ∷ []) ∷ ls)
one_ended b ls d o = cons-ended (b ∷ []) ls (omega arith) (λ k h. absurd (omega arith)) last o
  where
    last : (k : ℕ) → 0 < length ls → k + 1 ≡ 1 → get_or (b ∷ []) k 0 ≡ 10
    last zero h i = d h
    last (suc k) h i = absurd (omega arith)

onto-ended : (b : ℕ) (ls : List (List ℕ)) → (b ≡ 10 → ⊥) → LinesEnded ls → LinesEnded (onto b ls)
unfolding onto
onto-ended b [] d o = one_ended b [] (λ h. absurd (omega arith)) o
onto-ended b (l ∷ ls) d o = more-ended b l ls d o

pub lines-ended : (s : List ℕ) → LinesEnded (lines s)
unfolding lines
lines-ended [] = none-ended
lines-ended (b ∷ s) = go (lines-ended s) (eqb b 10) refl
  where
    go : LinesEnded (lines s) → (t : Bool) → eqb b 10 ≡ t → LinesEnded (lines (b ∷ s))
    go ih true e = let d = eqb-true b 10 e in rw (lines-feed b s d) (one_ended b (lines s) (λ h. d) ih)
    go ih false e = let d = eqb-false b 10 e in rw (lines_other b s d) (onto-ended b (lines s) d ih)

first-only : (ls : List (List ℕ)) → lines (flatten ls) ≡ ls → (l : List ℕ) → LinesEnded (l ∷ ls) → lines (l ++ flatten ls) ≡ l ∷ ls
unfolding onto
first-only ls ih [] o = absurd (omega (arith, o.filled 0 (omega arith)))
first-only ls ih (b ∷ []) o = go (eqb b 10) refl ls ih (λ h. o.last 0 0 (omega arith) (omega arith))
  where
    go : (t : Bool) → eqb b 10 ≡ t → (ls : List (List ℕ)) → lines (flatten ls) ≡ ls → (0 < length ls → b ≡ 10) → lines (b ∷ flatten ls) ≡ (b ∷ []) ∷ ls
    go true e ls ih d = lines-feed b (flatten ls) (eqb-true b 10 e) ∙ ap (λ (k : List (List ℕ)). (b ∷ []) ∷ k) ih
    go false e [] ih d = lines_other b (flatten []) (eqb-false b 10 e) ∙ ap (onto b) ih
    go false e (l ∷ ls) ih d = absurd (eqb-false b 10 e (d (omega arith)))
first-only ls ih (b ∷ c ∷ l) o =
    lines_other b ((c ∷ l) ++ flatten ls) (o.inner 0 0 (omega arith) (omega arith)) ∙ ap (onto b) (first-only ls ih (c ∷ l) (fewer-ended b (c ∷ l) ls (omega arith) o))

pub lines-only : (ls : List (List ℕ)) → LinesEnded ls → lines (flatten ls) ≡ ls
unfolding lines flatten
lines-only [] o = refl
lines-only (l ∷ ls) o = first-only ls (lines-only ls (rest_ended o)) l o

onto-fewer : (b : ℕ) (ls : List (List ℕ)) → length (onto b ls) ≤ suc (length ls)
unfolding onto
onto-fewer b [] = omega arith
onto-fewer b (l ∷ ls) = omega arith

pub lines-fewer : (s : List ℕ) → length (lines s) ≤ length s
unfolding lines
lines-fewer [] = omega arith
lines-fewer (b ∷ s) = go (lines-fewer s) (eqb b 10) refl
  where
    go : length (lines s) ≤ length s → (t : Bool) → eqb b 10 ≡ t → length (lines (b ∷ s)) ≤ suc (length s)
    go ih true e = rw (lines-feed b s (eqb-true b 10 e)) (omega arith)
    go ih false e = rw (lines_other b s (eqb-false b 10 e)) (omega (arith, onto-fewer b (lines s)))
