-- Faulty programs for permutations do not meet their contracts, whatever the width: three numbers are enough to show it.
--
--   in-positions   ==  a few numbers, padded, are what the code can hold
--   listed, unlisted  ==  padded numbers are sound, or not, as the test of a permutation says
--   apart, moving  ==  lists that differ below their size differ when padded; and one that moves something is not the identity
--   start, exchange  ==  two numbers in their places, and exchanged; with what is needed of them
--   orders-turned  ==  the faults of programs for permutations held in three positions or more are turned down
--   The other names are those of the faults.
use mathlib.Core.Path.{◌≡◌, refl, sym, ap, ◌∙◌}
use mathlib.Core.List.{List, [], ◌∷◌}
use mathlib.Core.Bool.{Bool, true, false, true≢false}
use Prim.Native.Nat.{ℕ, suc, ◌≤◌, ◌<◌}
use native.Mathlib.Decide.{dec_lt}
use native.Mathlib.Omega.{arith}
use lib.ListN.{length, get_or, take}
use lib.Dec.{leb}
use lib.Pow.{are_bytes}
use borrow.Author.Tests.{le-leb}
use Rattle.permutations.specs.Lists.{All, tabulate, numbers, select, every, occurrences}
use Rattle.permutations.specs.Permutations.{is_permutation, identity, composed, position, inverse}
use Rattle.permutations.specs.Padded.{padded, is_sound, composed_padded}
use Rattle.permutations.proofs.BoolLaws.{yes_and}
use Rattle.permutations.proofs.PermutationTest.{decides}
use Rattle.permutations.proofs.PaddedLaws.{length-padded, padded-below, padded-from, padded-own, padded-identity, is_sound-no, composed_padded-is, composed_padded-sizes, composed_padded-first, inverse_padded-is}
use Rattle.grids.proofs.LentLaws.{small_word, short-bytes, bytes-at, at-bytes}
use Rattle.turned_down.specs.PermutationFaults.{InPositions, Composes, Inverts, ComposesBackwards, AcceptsBy, AcceptsRepeats, AcceptsTooLarge, AcceptsOtherSizes, AcceptsSize0, AcceptsPast, ReturnsArgument, order_faults}
use Rattle.turned_down.specs.Faults.{fault, Turned}

-- ---- numbers x of length n, padded

module _ (width n : ℕ) (b : n ≤ width) (few : width ≤ 255) (x : List ℕ) (sized : length x ≡ n) where
  in-positions : are_bytes x ≡ true → (k : ℕ) → k < 10000000 → InPositions width k (padded width n x)
  in-positions t k h = record {
    size_word = small_word k h;
    bytes = at-bytes (padded width n x) (rw (length-padded width n x) (small_word width (omega arith))) (λ i c. byte i (omega (arith, length-padded width n x)) (dec_lt i n));
    positions = length-padded width n x;
  }
    where
      byte : (i : ℕ) → i < width → Dec (i < n) → get_or (padded width n x) i 0 < 256
      byte i c (yes d) = omega (arith, padded-below width n x i c d, bytes-at x (short-bytes x t (omega arith)) i)
      byte i c (no d) = omega (arith, padded-from width n x i c (omega arith))

  own : take n (padded width n x) ≡ x
  own = padded-own width n x b sized

  listed : 1 ≤ n → is_permutation n x ≡ true → is_sound width n (padded width n x) ≡ true
  unfolding is_sound
  listed a t = yes_and (leb 1 n) _ (le-leb 1 n a) (yes_and (leb n width) _ (le-leb n width b) (rw own t))

  unlisted : is_permutation n x ≡ false → is_sound width n (padded width n x) ≡ false
  unlisted t = is_sound-no width n (padded width n x) (λ s. true≢false (sym ((decides n x).1 (rw own at s.permutation)) ∙ t))

module _ (width n : ℕ) (b : n ≤ width) (p : List ℕ) (i : ℕ) (h : i < n) where
  apart : (q : List ℕ) → (get_or p i 0 ≡ get_or q i 0 → ⊥) → padded width n p ≡ padded width n q → ⊥
  apart q d e = d (sym (padded-below width n p i (omega arith) h) ∙ ap (λ (l : List ℕ). get_or l i 0) e ∙ padded-below width n q i (omega arith) h)

  moving : (get_or p i 0 ≡ get_or (identity n) i 0 → ⊥) → padded width n p ≡ identity width → ⊥
  moving d e = apart (identity n) d (e ∙ sym (padded-identity width n))

-- ---- the faults

module _ (width : ℕ) (b : 3 ≤ width) (few : width ≤ 255) where
  abbrev two : List ℕ → List ℕ
  two x = padded width 2 x

  abbrev three : List ℕ → List ℕ
  three x = padded width 3 x

  -- the starting order of two numbers, and that they exchange places
  start : List ℕ
  start = two (0 ∷ 1 ∷ [])

  exchange : List ℕ
  exchange = two (1 ∷ 0 ∷ [])

  start-sound : is_sound width 2 start ≡ true
  unfolding start is_permutation tabulate numbers select every occurrences
  start-sound = listed width 2 (omega arith) few (0 ∷ 1 ∷ []) refl (omega arith) refl

  start-held : (k : ℕ) → k < 10000000 → InPositions width k start
  unfolding start
  start-held = in-positions width 2 (omega arith) few (0 ∷ 1 ∷ []) refl refl

  exchange-held : (k : ℕ) → k < 10000000 → InPositions width k exchange
  unfolding exchange
  exchange-held = in-positions width 2 (omega arith) few (1 ∷ 0 ∷ []) refl refl

  exchange-moves : exchange ≡ identity width → ⊥
  unfolding exchange identity numbers tabulate
  exchange-moves = moving width 2 (omega arith) (1 ∷ 0 ∷ []) 0 (omega arith) (λ z. omega arith)

  -- what stands at 1 in two numbers that are followed by the starting order
  second-moves : (x : List ℕ) → length x ≡ 2 → (get_or x 1 0 ≡ 1 → ⊥) → padded width 2 (composed 2 (take 2 (two x)) (take 2 start)) ≡ identity width → ⊥
  unfolding start composed identity numbers tabulate
  second-moves x z d e =
      moving width 2 (omega arith) (composed 2 x (0 ∷ 1 ∷ [])) 1 (omega arith) d
      (rw (own width 2 (omega arith) few x z, own width 2 (omega arith) few (0 ∷ 1 ∷ []) refl) at e)

  composes-backwards : Turned (fault (Composes width) (ComposesBackwards width))
  unfolding Composes ComposesBackwards is_permutation composed tabulate numbers select every occurrences
  composes-backwards =
      let p : List ℕ = 1 ∷ 0 ∷ 2 ∷ [] in
      let r : List ℕ = 0 ∷ 2 ∷ 1 ∷ [] in
      let sp = listed width 3 b few p refl (omega arith) refl in
      let sr = listed width 3 b few r refl (omega arith) refl in
      record {
        example = λ n p k r. composed_padded width k r n p;
        done = (
          3,
          three p,
          three r,
          in-positions width 3 b few p refl refl 3 (omega arith),
          in-positions width 3 b few r refl refl 3 (omega arith),
          λ e. apart width 3 b (composed 3 r p) 0 (omega arith) (composed 3 p r) (λ z. omega arith)
              (rw (composed_padded-is width 3 (three r) (three p) sr sp, composed_padded-is width 3 (three p) (three r) sp sr, own width 3 b few p refl, own width 3 b few r refl) at e),
          refl,
        );
        refused = λ f d m. d.5 (sym d.6 ∙ m d.0 d.1 d.0 d.2 d.3 d.4);
      }

  accepts-by : (t : ℕ → List ℕ → Bool) (x : List ℕ) → length x ≡ 2 → are_bytes x ≡ true → t 2 x ≡ true → is_permutation 2 x ≡ false → (get_or x 1 0 ≡ 1 → ⊥) → Turned (fault (Composes width) (AcceptsBy t width))
  unfolding Composes AcceptsBy
  accepts-by t x z h y n d = record {
    example = λ n p k r. padded width n (composed n (take n p) (take n r));
    done = (
      2,
      two x,
      start,
      in-positions width 2 (omega arith) few x z h 2 (omega arith),
      start-held 2 (omega arith),
      rw (own width 2 (omega arith) few x z) y,
      unlisted width 2 (omega arith) few x z n,
      start-sound,
      second-moves x z d,
      refl,
    );
    refused = λ f d m. d.8 (sym d.9 ∙ m d.0 d.1 d.0 d.2 d.3 d.4 ∙ composed_padded-first width d.0 d.1 d.0 d.2 d.6);
  }

  accepts-repeats : Turned (fault (Composes width) (AcceptsRepeats width))
  unfolding is_permutation tabulate numbers select every occurrences
  accepts-repeats = accepts-by _ (0 ∷ 0 ∷ []) refl refl refl refl (λ z. omega arith)

  accepts-too-large : Turned (fault (Composes width) (AcceptsTooLarge width))
  unfolding is_permutation tabulate numbers select every occurrences
  accepts-too-large = accepts-by _ (0 ∷ 2 ∷ []) refl refl refl refl (λ z. omega arith)

  exchange-sound : is_sound width 2 exchange ≡ true
  unfolding exchange is_permutation tabulate numbers select every occurrences
  exchange-sound = listed width 2 (omega arith) few (1 ∷ 0 ∷ []) refl (omega arith) refl

  first-moves : composed_padded width 2 exchange 2 start ≡ identity width → ⊥
  unfolding exchange start composed identity numbers tabulate
  first-moves e =
      moving width 2 (omega arith) (composed 2 (1 ∷ 0 ∷ []) (0 ∷ 1 ∷ [])) 0 (omega arith) (λ z. omega arith)
      (rw (composed_padded-is width 2 exchange start exchange-sound start-sound, own width 2 (omega arith) few (1 ∷ 0 ∷ []) refl, own width 2 (omega arith) few (0 ∷ 1 ∷ []) refl) at e)

  accepts-other-sizes : Turned (fault (Composes width) (AcceptsOtherSizes width))
  unfolding Composes AcceptsOtherSizes
  accepts-other-sizes = record {
    example = λ n p k r. composed_padded width n p n r;
    done = (2, exchange, 3, start, exchange-held 2 (omega arith), start-held 3 (omega arith), λ z. omega arith, first-moves, refl);
    refused = λ f d m. d.7 (sym d.8 ∙ m d.0 d.1 d.2 d.3 d.4 d.5 ∙ composed_padded-sizes width d.0 d.1 d.2 d.3 d.6);
  }

  accepts-size-0 : Turned (fault (Composes width) (AcceptsSize0 width))
  unfolding Composes AcceptsSize0
  accepts-size-0 = record {
    example = λ n p k r. p;
    done = (exchange, start, exchange-held 0 (omega arith), start-held 0 (omega arith), exchange-moves);
    refused = λ f d m. d.4 (m 0 d.0 0 d.1 d.2 d.3 ∙ composed_padded-first width 0 d.0 0 d.1 (is_sound-no width 0 d.0 (λ s. let z = s.some in omega arith)));
  }

  accepts-past : Turned (fault (Composes width) (AcceptsPast width))
  unfolding Composes AcceptsPast
  accepts-past = record {
    example = λ n p k r. p;
    done = (exchange, start, exchange-held (suc width) (omega arith), start-held (suc width) (omega arith), exchange-moves);
    refused = λ f d m.
        d.4 (m (suc width) d.0 (suc width) d.1 d.2 d.3
        ∙ composed_padded-first width (suc width) d.0 (suc width) d.1 (is_sound-no width (suc width) d.0 (λ s. let z = s.fits in omega arith)));
  }

  returns-argument : Turned (fault (Inverts width) (ReturnsArgument width))
  unfolding Inverts ReturnsArgument is_permutation position inverse tabulate numbers select every occurrences
  returns-argument =
      let p : List ℕ = 1 ∷ 2 ∷ 0 ∷ [] in
      let sp = listed width 3 b few p refl (omega arith) refl in
      record {
        example = λ n p. p;
        done = (
          3,
          three p,
          in-positions width 3 b few p refl refl 3 (omega arith),
          sp,
          λ e. apart width 3 b (inverse 3 p) 0 (omega arith) p (λ z. omega arith) (rw (inverse_padded-is width 3 (three p) sp, own width 3 b few p refl) at e),
          refl,
        );
        refused = λ f d m. d.4 (sym (m d.0 d.1 d.2) ∙ d.5);
      }

  pub orders-turned : All Turned (order_faults width)
  unfolding order_faults
  orders-turned = (composes-backwards, (accepts-repeats, (accepts-too-large, (accepts-other-sizes, (accepts-size-0, (accepts-past, (returns-argument, tt)))))))
