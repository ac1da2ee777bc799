-- Permutations with two entries exchanged, and padded permutations.
--
--   length-swapped, at-swapped  ==  length and entries after an exchange
--   swapped_other               ==  a position that is not exchanged keeps its entry
--   swapped_same                ==  an entry exchanged with itself
--   swapped-of                  ==  two entries stored, each where the other was
--   length_whole, at-whole, rest-whole  ==  length and entries of a padded permutation
--   identity-whole              ==  the identity is one, of every size up to its width
--   swapped-whole               ==  and so is a padded permutation after an exchange
use mathlib.Core.Path.{◌≡◌, sym, ap, ◌∙◌}
use mathlib.Core.List.{List}
use Prim.Native.Nat.{ℕ, ◌≤◌, ◌<◌}
use native.Mathlib.Decide.{ℕ_discrete}
use native.Mathlib.Omega.{arith}
use lib.ListN.{length, get_or, set, take, length-set}
use lib.Seq.{get_or-set_same, get_or-set_other, set-set, set-get_or, get_or-take, length-take-le}
use Rattle.permutations.specs.Permutations.{identity, swapped}
use Rattle.permutations.specs.Padded.{IsPadded}
use Rattle.permutations.proofs.PermutationLaws.{identity-permutation}
use Rattle.permutations.proofs.PaddedLaws.{length-padded, padded-from, padded-is, padded-identity, take-identity}
use Rattle.permutations.proofs.Transpositions.{exchange, exchange-first, exchange-second, exchange-other, exchange-within, exchange-once}

pub length-swapped : (p : List ℕ) (i j : ℕ) → length (swapped p i j) ≡ length p
unfolding swapped
length-swapped p i j = length-set (set p i (get_or p j 0)) j (get_or p i 0) ∙ length-set p i (get_or p j 0)

pub at-swapped : (p : List ℕ) (i j t : ℕ) → i < length p → j < length p → get_or (swapped p i j) t 0 ≡ get_or p (exchange i j t) 0
unfolding swapped
at-swapped p i j t il jl = go (ℕ_discrete t i) (ℕ_discrete t j)
  where
    first : List ℕ
    first = set p i (get_or p j 0)

    go : Dec (t ≡ i) → Dec (t ≡ j) → get_or (set first j (get_or p i 0)) t 0 ≡ get_or p (exchange i j t) 0
    go d (yes e) = rw (e, exchange-second i j) (get_or-set_same first j (get_or p i 0) 0 (omega (arith, length-set p i (get_or p j 0))))
    go (yes e) (no nf) = get_or-set_other first j t (get_or p i 0) 0 nf ∙ rw (e, exchange-first i j) (get_or-set_same p i (get_or p j 0) 0 il)
    go (no ne) (no nf) =
        get_or-set_other first j t (get_or p i 0) 0 nf ∙ get_or-set_other p i t (get_or p j 0) 0 ne ∙ rw (exchange-other i j t ne nf)

pub swapped_other : (p : List ℕ) (i j t : ℕ) → (t ≡ i → ⊥) → (t ≡ j → ⊥) → get_or (swapped p i j) t 0 ≡ get_or p t 0
unfolding swapped
swapped_other p i j t ne nf =
    get_or-set_other (set p i (get_or p j 0)) j t (get_or p i 0) 0 nf ∙ get_or-set_other p i t (get_or p j 0) 0 ne

pub swapped_same : (p : List ℕ) (i j : ℕ) → i ≡ j → swapped p i j ≡ p
unfolding swapped
swapped_same p i j e = rw (e, set-set p j (get_or p j 0) (get_or p j 0)) (set-get_or p j 0)

pub swapped-of : (p a b : List ℕ) (i j x y : ℕ) → x ≡ get_or p i 0 → y ≡ get_or p j 0 → a ≡ set p i y → b ≡ set a j x → b ≡ swapped p i j
unfolding swapped
swapped-of p a b i j x y ex ey ea eb = rw (← ex, ← ey, ← ea) eb

-- ---- padded permutations

pub length_whole : (width n : ℕ) (p : List ℕ) → IsPadded width n p → length p ≡ width
length_whole width n p o = ap length o.rest ∙ length-padded width n (take n p)

pub at-whole : (width n : ℕ) (p : List ℕ) → IsPadded width n p → (i : ℕ) → i < n → get_or p i 0 < n
at-whole width n p o i h = rw (← get_or-take n p i 0 h) (o.permutation.within i h)

pub rest-whole : (width n : ℕ) (p : List ℕ) → IsPadded width n p → (i : ℕ) → i < width → n ≤ i → get_or p i 0 ≡ i
rest-whole width n p o i w h = ap (λ (l : List ℕ). get_or l i 0) o.rest ∙ padded-from width n (take n p) i w h

pub identity-whole : (width n : ℕ) → n ≤ width → IsPadded width n (identity width)
identity-whole width n h =
    let e = take-identity n width h in
    record { permutation = rw e (identity-permutation n); rest = rw e (sym (padded-identity width n)) }

pub swapped-whole : (width n : ℕ) (p : List ℕ) (i j : ℕ) → n ≤ width → i < n → j < n → IsPadded width n p → IsPadded width n (swapped p i j)
swapped-whole width n p i j nw hi hj o = record {
  permutation = record {
    size = length-take-le n s (omega (arith, size));
    within = λ t tn. rw (at_take t tn) (o.permutation.within (exchange i j t) (exchange-within n i j t hi hj tn));
    once = λ a b an bn e.
        exchange-once i j a b
        (o.permutation.once (exchange i j a) (exchange i j b) (exchange-within n i j a hi hj an) (exchange-within n i j b hi hj bn)
        (sym (at_take a an) ∙ e ∙ at_take b bn));
  };
  rest = padded-is width n (take n s) s size (λ t tw tn. sym (get_or-take n s t 0 tn)) λ t tw nt.
      swapped_other p i j t (omega arith) (omega arith) ∙ rest-whole width n p o t tw nt;
}
  where
    s : List ℕ
    s = swapped p i j

    length-p : length p ≡ width
    length-p = length_whole width n p o

    size : length s ≡ width
    size = length-swapped p i j ∙ length-p

    at_take : (t : ℕ) → t < n → get_or (take n s) t 0 ≡ get_or (take n p) (exchange i j t) 0
    at_take t tn =
        get_or-take n s t 0 tn
        ∙ at-swapped p i j t (omega (arith, length-p)) (omega (arith, length-p))
        ∙ sym (get_or-take n p (exchange i j t) 0 (exchange-within n i j t hi hj tn))
