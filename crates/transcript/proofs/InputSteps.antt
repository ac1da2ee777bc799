-- The lines of the input, as the code finds them.
--
--   feed-line      ==  the first line of bytes with a line feed ends with the first of them
--   last_line      ==  bytes without a line feed are one line
--   feed-at, no-feed  ==  the place of the first line feed, as the search for it finds it
--   line-feed, line-no-feed  ==  the line that begins at a place, as that search behind the place tells it
--   line-found, line-last  ==  the line that begins at a place ends behind the line feed that is found, or with the input
use mathlib.Core.Path.{◌≡◌, refl, sym, ap, ◌∙◌}
use mathlib.Core.List.{List, [], ◌∷◌}
use mathlib.Core.Bool.{Bool, true, false}
use Prim.Native.Nat.{ℕ, suc, ◌+◌, ◌-◌, ◌≤◌, ◌<◌}
use native.Mathlib.Omega.{arith}
use lib.ListN.{length, take, drop, length-drop, drop_of_length-le}
use lib.Seq.{take_all, drop-drop}
use lib.Dec.{eqb}
use borrow.Author.Tests.{eqb-true, eqb-false}
use Rattle.std.specs.Prelude.{Some, None}
use Rattle.std.proofs.Common.{eq-eqb, get_or}
use Rattle.memchr.specs.Find.{IsFirstByte, is_byte}
use Rattle.permutations.specs.Permutations.{position}
use Rattle.permutations.proofs.PositionLaws.{position-is}
use Rattle.calls.proofs.ValidMoves.{tail-part}
use Rattle.protocol.specs.Input.{onto, lines}
use Rattle.protocol.proofs.LineLaws.{lines-feed, lines_other}
use Rattle.transcript.specs.Lines.{NextLine}

-- ---- by the first byte

module _ (b : ℕ) (s : List ℕ) where
  index-feed : eqb b 10 ≡ true → position (b ∷ s) 10 ≡ 0
  unfolding position
  index-feed e = rw (e, position) refl

  index-other : eqb b 10 ≡ false → position (b ∷ s) 10 ≡ suc (position s 10)
  unfolding position
  index-other e = rw (e, position) refl

-- ---- the first line

pub feed-line : (t : List ℕ) → position t 10 < length t → lines t ≡ take (suc (position t 10)) t ∷ lines (drop (suc (position t 10)) t)
unfolding onto
feed-line [] h = absurd (omega arith)
feed-line (b ∷ s) h = go (eqb b 10) refl (feed-line s)
  where
    go : (x : Bool) → eqb b 10 ≡ x → (position s 10 < length s → lines s ≡ take (suc (position s 10)) s ∷ lines (drop (suc (position s 10)) s)) →
        lines (b ∷ s) ≡ take (suc (position (b ∷ s) 10)) (b ∷ s) ∷ lines (drop (suc (position (b ∷ s) 10)) (b ∷ s))
    go true e ih = rw (index-feed b s e) (lines-feed b s (eqb-true b 10 e))
    go false e ih = rw (index-other b s e) (lines_other b s (eqb-false b 10 e) ∙ ap (onto b) (ih (omega (arith, index-other b s e))))

pub last_line : (t : List ℕ) → 0 < length t → length t ≤ position t 10 → lines t ≡ t ∷ []
unfolding onto lines
last_line [] f h = absurd (omega arith)
last_line (b ∷ s) f h = go (eqb b 10) refl s h (last_line s)
  where
    go : (x : Bool) → eqb b 10 ≡ x → (s : List ℕ) → suc (length s) ≤ position (b ∷ s) 10 → (0 < length s → length s ≤ position s 10 → lines s ≡ s ∷ []) → lines (b ∷ s) ≡ (b ∷ s) ∷ []
    go true e s h ih = absurd (omega (arith, index-feed b s e))
    go false e [] h ih = lines_other b [] (eqb-false b 10 e)
    go false e (c ∷ s) h ih = lines_other b (c ∷ s) (eqb-false b 10 e) ∙ ap (onto b) (ih (omega arith) (omega (arith, index-other b (c ∷ s) e)))

-- ---- the first line feed

pub feed-at : (t : List ℕ) (k : ℕ) → IsFirstByte (is_byte 10) t (Some k) → position t 10 ≡ k
feed-at t k h = position-is t 10 k (omega (arith, h.0.high)) (λ j b e. h.0.before j (omega arith) b (eq-eqb (get_or t j 0) 10 e)) (λ b. eqb-true (get_or t k 0) 10 h.1)

pub no-feed : (t : List ℕ) → IsFirstByte (is_byte 10) t None → position t 10 ≡ length t
no-feed t h = position-is t 10 (length t) (omega arith) (λ j b e. h j (omega arith) b (eq-eqb (get_or t j 0) 10 e)) (λ b. absurd (omega arith))

-- ---- the line at a place

module _ (input : List ℕ) (at : ℕ) {r : ℕ} (found : r ≡ at + position (drop at input) 10) where
  pub line-found : r < length input → NextLine input at (r + 1)
  line-found h =
      let t = drop at input in
      let p : r + 1 - at ≡ suc (position t 10) = omega (arith, found) in
      let q : at + suc (position t 10) ≡ r + 1 = omega (arith, found) in
      record {
        further = omega (arith, found);
        within = omega arith;
        line = rw (p, ← q, ← (drop-drop (suc (position t 10)) at input)) (feed-line t (omega (arith, found, length-drop at input)));
      }

  pub line-last : at < length input → length input ≤ r → r ≤ length input → NextLine input at r
  unfolding lines
  line-last a h w =
      let t = drop at input in
      record {
        further = omega arith;
        within = w;
        line = rw (take_all (r - at) t (omega (arith, length-drop at input)), drop_of_length-le input {i = r} h) (last_line t (omega (arith, length-drop at input)) (omega (arith, found, length-drop at input)));
      }

-- as the search for a line feed behind a place tells it
module _ (input : List ℕ) (at : ℕ) (a : at < length input) where
  pub line-feed : (k : ℕ) → IsFirstByte (is_byte 10) (take (length input - at) (drop at input)) (Some k) → NextLine input at (at + k + 1)
  line-feed k h =
      let f : IsFirstByte (is_byte 10) (drop at input) (Some k) = rw (tail-part input at (omega arith)) at h in
      line-found input at (ap (λ (x : ℕ). at + x) (sym (feed-at (drop at input) k f))) (omega (arith, f.0.high, length-drop at input))

  pub line-no-feed : IsFirstByte (is_byte 10) (take (length input - at) (drop at input)) None → NextLine input at (length input)
  line-no-feed h =
      let f : IsFirstByte (is_byte 10) (drop at input) None = rw (tail-part input at (omega arith)) at h in
      let e : length input ≡ at + position (drop at input) 10 = omega (arith, no-feed (drop at input) f, length-drop at input) in
      line-last input at e a (omega arith) (omega arith)
