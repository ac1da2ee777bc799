-- Laws of how many columns two rows differ in: where these are listed, the rows are equal in all others.
--
--   differ-yes       ==  the rows differ in a column
--   none_differ      ==  they differ in no column
--   two-differ, four-differ  ==  they differ in two columns alone, in four alone
--   counted y p q c  ==  in how many of c columns the rows from positions p and q of a table on differ
--   counted_none, counted-more, counted-most, counted-all  ==  of no column, of one more, of c at most c, of all
use Rattle.std.proofs.Common.{◌≡◌, ℕ, ◌+◌, ◌*◌, ◌<◌, ◌≤◌, Bool, true, false, not, eqb, ◌⊎◌, List, get_or, sym, refl, ap, ◌∙◌, inl, inr, add-one, arith, eq-eqb, ne_eqb, eqb-true}
use native.Mathlib.Decide.{ℕ_discrete}
use mir.Val.{bool_byte}
use borrow.Author.Tests.{not-false}
use Rattle.permutations.specs.Sums.{count, indicator}
use Rattle.permutations.proofs.BoolLaws.{yes_or_no}
use Rattle.branches.proofs.CountLaws.{count-zero, count_next, count_most, count_less}
use Rattle.search.specs.Tables.{entry}
use Rattle.search.specs.Domination.{differs, differences}

-- a test that j does not pass
minus : (ℕ → Bool) → ℕ → ℕ → Bool
minus t j i = elim (eqb i j) [ true ↦ false | false ↦ t i ]

minus-self : (t : ℕ → Bool) (j : ℕ) → minus t j j ≡ false
unfolding minus
minus-self t j = rw (eq-eqb j j refl, minus)

minus-same : (t : ℕ → Bool) (j i : ℕ) → (i ≡ j → ⊥) → minus t j i ≡ t i
unfolding minus
minus-same t j i ne = rw (ne_eqb i j ne, minus)

minus-other : (t : ℕ → Bool) (j i : ℕ) → (i ≡ j → ⊥) → t i ≡ true → minus t j i ≡ true
minus-other t j i ne e = minus-same t j i ne ∙ e

minus-only : (t : ℕ → Bool) (j i : ℕ) → minus t j i ≡ true → t i ≡ true
minus-only t j i h = go (ℕ_discrete i j)
  where
    go : Dec (i ≡ j) → t i ≡ true
    go (yes e) = let z : false ≡ true = sym (minus-self t j) ∙ ap (minus t j) (sym e) ∙ h in absurd (let n : ◌≡◌ {A = ℕ} 0 1 = cc in omega arith)
    go (no ne) = sym (minus-same t j i ne) ∙ h

minus-less : (n : ℕ) (t : ℕ → Bool) (j : ℕ) → j < n → t j ≡ true → count n (minus t j) < count n t
minus-less n t j jn e = count_less n (minus t j) t (λ i l h. minus-only t j i h) j jn (minus-self t j) e

module _ (n : ℕ) (t : ℕ → Bool) where
  none_pass : count n t ≡ 0 → (j : ℕ) → j < n → t j ≡ false
  none_pass few j jn = go (yes_or_no (t j))
    where
      go : (t j ≡ true) ⊎ (t j ≡ false) → t j ≡ false
      go (inl e) = absurd (omega (arith, minus-less n t j jn e))
      go (inr e) = e

  module _ (c d : ℕ) (cn : c < n) (dn : d < n) (cd : c ≡ d → ⊥) (tc : t c ≡ true) (td : t d ≡ true) where
    two-pass : count n t ≡ 2 → (j : ℕ) → j < n → (j ≡ c → ⊥) → (j ≡ d → ⊥) → t j ≡ false
    two-pass few j jn nc nd = go (yes_or_no (t j))
      where
        go : (t j ≡ true) ⊎ (t j ≡ false) → t j ≡ false
        go (inl e) =
            let ec = minus-other t c j nc e in
            let dc = minus-other t c d (λ z. cd (sym z)) td in
            absurd (omega (arith, minus-less n t c cn tc, minus-less n (minus t c) d dn dc, minus-less n (minus (minus t c) d) j jn (minus-other (minus t c) d j nd ec)))
        go (inr e) = e

    module _ (e f : ℕ) (en : e < n) (fn : f < n) (ef : e ≡ f → ⊥) (ce : c ≡ e → ⊥) (cf : c ≡ f → ⊥) (de : d ≡ e → ⊥) (df : d ≡ f → ⊥) (te : t e ≡ true) (tf : t f ≡ true) where
      four-pass : count n t ≡ 4 → (j : ℕ) → j < n → (j ≡ c → ⊥) → (j ≡ d → ⊥) → (j ≡ e → ⊥) → (j ≡ f → ⊥) → t j ≡ false
      four-pass few j jn nc nd ne nf = go (yes_or_no (t j))
        where
          rest : ℕ → Bool
          rest = minus (minus t c) d

          kept : (i : ℕ) → (c ≡ i → ⊥) → (d ≡ i → ⊥) → t i ≡ true → rest i ≡ true
          kept i a b h = minus-other (minus t c) d i (λ z. b (sym z)) (minus-other t c i (λ z. a (sym z)) h)

          less : count n rest + 2 ≤ count n t
          less = omega (arith, minus-less n t c cn tc, minus-less n (minus t c) d dn (minus-other t c d (λ z. cd (sym z)) td))

          go : (t j ≡ true) ⊎ (t j ≡ false) → t j ≡ false
          go (inl h) =
              let hj = kept j (λ z. nc (sym z)) (λ z. nd (sym z)) h in
              let hf = minus-other rest e f (λ z. ef (sym z)) (kept f cf df tf) in
              absurd
              (omega (
                arith,
                less,
                minus-less n rest e en (kept e ce de te),
                minus-less n (minus rest e) f fn hf,
                minus-less n (minus (minus rest e) f) j jn (minus-other (minus rest e) f j nf (minus-other rest e j ne hj)),
              ))
          go (inr h) = h

pub differ-yes : (y : List ℕ) (a b c : ℕ) → (entry y a c ≡ entry y b c → ⊥) → differs y a b c ≡ true
unfolding differs
differ-yes y a b c ne = rw (ne_eqb (entry y a c) (entry y b c) ne)

differ-no : (y : List ℕ) (a b c : ℕ) → differs y a b c ≡ false → entry y a c ≡ entry y b c
unfolding differs
differ-no y a b c h = eqb-true (entry y a c) (entry y b c) (not-false _ h)

module _ (y : List ℕ) (a b : ℕ) where
  pub none_differ : differences y a b ≡ 0 → (j : ℕ) → j < 16 → entry y a j ≡ entry y b j
  unfolding differences
  none_differ few j j16 = differ-no y a b j (none_pass 16 (differs y a b) few j j16)

  module _ (c d : ℕ) (c16 : c < 16) (d16 : d < 16) (cd : c ≡ d → ⊥) (tc : differs y a b c ≡ true) (td : differs y a b d ≡ true) where
    pub two-differ : differences y a b ≡ 2 → (j : ℕ) → j < 16 → (j ≡ c → ⊥) → (j ≡ d → ⊥) → entry y a j ≡ entry y b j
    unfolding differences
    two-differ few j j16 nc nd = differ-no y a b j (two-pass 16 (differs y a b) c d c16 d16 cd tc td few j j16 nc nd)

    module _ (e f : ℕ) (e16 : e < 16) (f16 : f < 16) (ef : e ≡ f → ⊥) (ce : c ≡ e → ⊥) (cf : c ≡ f → ⊥) (de : d ≡ e → ⊥) (df : d ≡ f → ⊥) (te : differs y a b e ≡ true)
        (tf : differs y a b f ≡ true) where
      pub four-differ : differences y a b ≡ 4 → (j : ℕ) → j < 16 → (j ≡ c → ⊥) → (j ≡ d → ⊥) → (j ≡ e → ⊥) → (j ≡ f → ⊥) → entry y a j ≡ entry y b j
      unfolding differences
      four-differ few j j16 nc nd ne nf =
          differ-no y a b j (four-pass 16 (differs y a b) c d c16 d16 cd tc td e f e16 f16 ef ce cf de df te tf few j j16 nc nd ne nf)

-- ---- counted in a loop

unfoldable pub counted : List ℕ → ℕ → ℕ → ℕ → ℕ
counted y p q c = count c (λ j. not (eqb (get_or y (p + j) 0) (get_or y (q + j) 0)))

byte-indicator : (b : Bool) → bool_byte b ≡ indicator b
unfolding indicator
byte-indicator true = refl
byte-indicator false = refl

module _ (y : List ℕ) (p q : ℕ) where
  pub counted_none : 0 ≡ counted y p q 0
  unfolding counted
  counted_none = sym (count-zero _)

  pub counted-more : {r : ℕ} (c : ℕ) → r ≡ counted y p q c → r + bool_byte (not (eqb (get_or y (p + c) 0) (get_or y (q + c) 0))) ≡ counted y p q (c + 1)
  unfolding counted
  counted-more c e =
      rw (add-one c) (omega (arith, e, byte-indicator (not (eqb (get_or y (p + c) 0) (get_or y (q + c) 0))), count_next c (λ j. not (eqb (get_or y (p + j) 0) (get_or y (q + j) 0)))))

  pub counted-most : {r : ℕ} (c : ℕ) → r ≡ counted y p q c → r ≤ c
  unfolding counted
  counted-most c e = omega (arith, e, count_most c (λ j. not (eqb (get_or y (p + j) 0) (get_or y (q + j) 0))))

pub counted-all : (y : List ℕ) (a b : ℕ) → counted y (a * 16) (b * 16) 16 ≡ differences y a b
unfolding counted differences differs
counted-all y a b = refl
