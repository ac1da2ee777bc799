-- The key law: a cell's three bytes fit exactly where they are the field of a number of at most top.
--
--   NumberField top a b c     ==  the same by the number: the bytes are the field of the number that they read, and that is at most top
--   three                     ==  three bytes of a list
--   read_back                 ==  the bytes of a field read as its number
--   bytes-field, field-bytes  ==  the two are one
--   cells-field               ==  so of each cell that is laid out
--   cells-more                ==  cells at most top are at most 15
--   fit-cells                 ==  the answer of the loop: every cell is laid out
use mathlib.Core.Path.{◌≡◌, refl, sym, ap, ap₂, ◌∙◌}
use mathlib.Core.List.{List, [], ◌∷◌}
use mathlib.Core.Bool.{Bool, true, false, ◌&&◌}
use mathlib.Core.Logic.{◌⊎◌, inl, inr, ◌↔◌}
use Prim.Native.Nat.{ℕ, zero, suc, ◌+◌, ◌-◌, ◌*◌, ◌≤◌, ◌<◌}
use native.Mathlib.Omega.{arith}
use native.Mathlib.Nat.{not-suc-le-zero}
use native.Mathlib.Decide.{dec_lt}
use lib.ListN.{get_or, length, take, drop}
use lib.Seq.{drop-cons}
use Rattle.permutations.proofs.BoolLaws.{and_yes, yes_and}
use Rattle.layout.specs.Decimal.{field, value}
use Rattle.layout.specs.Layout.{number_at}
use Rattle.layout.proofs.DecimalLaws.{value-field}
use Rattle.lines.proofs.FieldLaws.{field-one, field-two}
use Rattle.lines.specs.Tables.{Thirds}
use Rattle.lines.proofs.TableLaws.{thirds-at}
use Rattle.scan.specs.Cells.{One, Two, CellBytes, CellsLaid}
use Rattle.scan.specs.Fits.{fits, all_fit}
use Rattle.scan.specs.Tables.{teen_of, span_of}
use Rattle.scan.proofs.FitLaws.{all_none, all-next}
use Rattle.scan.proofs.ThreeBytes.{cell_fits, fit-bytes, bytes_fit}

-- ---- the field

pub three : (l : List ℕ) (i : ℕ) → i + 2 < length l → take 3 (drop i l) ≡ get_or l i 0 ∷ get_or l (i + 1) 0 ∷ get_or l (i + 2) 0 ∷ []
three l i h =
    ap (take 3) (drop-cons l i 0 (omega arith) ∙ ap (λ (t : List ℕ). get_or l i 0 ∷ t) (drop-cons l (suc i) 0 (omega arith) ∙ ap (λ (t : List ℕ). get_or l (suc i) 0 ∷ t) (drop-cons l (suc (suc i)) 0 (omega arith))))
    ∙ ap₂ (λ (x y : ℕ). get_or l i 0 ∷ get_or l x 0 ∷ get_or l y 0 ∷ []) (omega arith) (omega arith)

unfoldable pub NumberField : ℕ → ℕ → ℕ → ℕ → Type 0
NumberField top a b c = ((a ∷ b ∷ c ∷ []) ≡ field 3 (value (a ∷ b ∷ c ∷ []))) × (value (a ∷ b ∷ c ∷ []) ≤ top)

pub read_back : (top v a b c : ℕ) → top ≤ 999 → v ≤ top → field 3 v ≡ a ∷ b ∷ c ∷ [] → NumberField top a b c
unfolding NumberField
read_back top v a b c t l e =
    let r : value (a ∷ b ∷ c ∷ []) ≡ v = ap value (sym e) ∙ value-field 2 v (omega arith) in
    (sym e ∙ ap (field 3) (sym r), omega arith)

pub bytes-field : (top a b c : ℕ) → top ≤ 15 → CellBytes top a b c → NumberField top a b c
unfolding CellBytes One Two
bytes-field top a b c t (e, inl (q, p, r, m)) =
    let z : 48 + (c - 48) ≡ c = omega arith in
    read_back top (c - 48) a b c (omega arith) (omega arith) (rw (e, q) (field-one (c - 48) (omega arith) ∙ ap (λ (x : ℕ). 32 ∷ 32 ∷ x ∷ []) z))
bytes-field top a b c t (e, inr (q, u, p, r)) =
    let z : 38 + (c - 38) ≡ c = omega arith in
    read_back top (c - 38) a b c (omega arith) (omega arith) (rw (e, q) (field-two (c - 38) (omega arith) (omega arith) ∙ ap (λ (x : ℕ). 32 ∷ 49 ∷ x ∷ []) z))

pub field-bytes : (top a b c : ℕ) → top ≤ 15 → NumberField top a b c → CellBytes top a b c
unfolding NumberField CellBytes One Two
field-bytes top a b c t (f, l) = go (value (a ∷ b ∷ c ∷ [])) f l (dec_lt (value (a ∷ b ∷ c ∷ [])) 10)
  where
    go : (v : ℕ) → (a ∷ b ∷ c ∷ []) ≡ field 3 v → v ≤ top → Dec (v < 10) → (a ≡ 32) × (((b ≡ 32) × (48 ≤ c) × (c ≤ 48 + top) × (c ≤ 57)) ⊎ ((b ≡ 49) × (10 ≤ top) × (48 ≤ c) × (c ≤ 38 + top)))
    go v f l (yes h) =
        let e = f ∙ field-one v h in
        let w : c ≡ 48 + v = ap (λ (l : List ℕ). get_or l 2 0) e in
        (ap (λ (l : List ℕ). get_or l 0 0) e, inl (ap (λ (l : List ℕ). get_or l 1 0) e, omega (arith, w), omega (arith, w), omega (arith, w)))
    go v f l (no h) =
        let e = f ∙ field-two v (omega arith) (omega arith) in
        let w : c ≡ 38 + v = ap (λ (l : List ℕ). get_or l 2 0) e in
        (ap (λ (l : List ℕ). get_or l 0 0) e, inr (ap (λ (l : List ℕ). get_or l 1 0) e, omega arith, omega (arith, w), omega (arith, w)))

pub cells-field : (top : ℕ) (b : List ℕ) (at n : ℕ) → top ≤ 15 → at + 3 * n ≤ length b → CellsLaid top b at n → (k : ℕ) → k < n →
    (take 3 (drop (at + 3 * k) b) ≡ field 3 (number_at 3 (at + 3 * k) b)) × (number_at 3 (at + 3 * k) b ≤ top)
unfolding CellsLaid NumberField number_at
cells-field top b at n t fits h k l = rw (three b (at + 3 * k) (omega arith)) (bytes-field top _ _ _ t (h k l))

pub cells-more : (top : ℕ) (b : List ℕ) (at n : ℕ) → top ≤ 15 → CellsLaid top b at n → CellsLaid 15 b at n
unfolding CellsLaid CellBytes One Two
cells-more top b at n t h k l = ((h k l).0, go (h k l).1)
  where
    x : ℕ
    x = get_or b (at + 3 * k + 1) 0

    c : ℕ
    c = get_or b (at + 3 * k + 2) 0

    go : ((x ≡ 32) × (48 ≤ c) × (c ≤ 48 + top) × (c ≤ 57)) ⊎ ((x ≡ 49) × (10 ≤ top) × (48 ≤ c) × (c ≤ 38 + top)) →
        ((x ≡ 32) × (48 ≤ c) × (c ≤ 48 + 15) × (c ≤ 57)) ⊎ ((x ≡ 49) × (10 ≤ 15) × (48 ≤ c) × (c ≤ 38 + 15))
    go (inl (q, p, r, m)) = inl (q, p, omega arith, m)
    go (inr (q, u, p, r)) = inr (q, omega arith, p, omega arith)

-- ---- cells one after another

regroup : (w x y z : Bool) → (((w && x) && y) && z) ≡ (w && (x && (y && z)))
regroup true x y z = regroup2 x y z
  where
    regroup2 : (x y z : Bool) → ((x && y) && z) ≡ (x && (y && z))
    regroup2 true y z = refl
    regroup2 false y z = refl
regroup false x y z = refl

fit-by : (cap byte before base teen span y p b t s : ℕ) → byte ≡ y → before ≡ p → base ≡ b → teen ≡ t → span ≡ s → fits byte before base teen span cap ≡ fits y p b t s cap
fit-by cap byte before base teen span y p b t s d e f g h = rw (d, e, f, g, h) refl

-- the test of cell k
cell_fits_at : ℕ → List ℕ → ℕ → ℕ → Bool
cell_fits_at top b before k = cell_fits top (get_or b (before + 3 * k) 0) (get_or b (before + 1 + 3 * k) 0) (get_or b (before + 1 + 3 * k + 1) 0) (get_or b (before + 1 + 3 * k + 2) 0)

module _ (size top : ℕ) (b : List ℕ) (before : ℕ) (base teen span : List ℕ) (bases : Thirds base size 32 32 (λ k. 48)) (teens : Thirds teen size 0 (teen_of top) (λ k. 0)) (spans : Thirds span size 0 0 (λ k. span_of top)) where
  all : ℕ → Bool
  all k = all_fit k b before base teen span (39 + top)

  byte : (i j : ℕ) → i ≡ j → get_or b i 0 ≡ get_or b j 0
  byte i j e = ap (λ (x : ℕ). get_or b x 0) e

  one_more : (k y p v t s : ℕ) → get_or b (before + k + 1) 0 ≡ y → get_or b (before + k) 0 ≡ p → get_or base k 0 ≡ v → get_or teen k 0 ≡ t → get_or span k 0 ≡ s →
      (w : Bool) → all k ≡ w → all (k + 1) ≡ (w && fits y p v t s (39 + top))
  unfolding all
  one_more k y p v t s d e f g h w q =
      all-next k b before base teen span (39 + top)
      ∙ ap₂ ◌&&◌ q (fit-by (39 + top) (get_or b (before + k + 1) 0) (get_or b (before + k) 0) (get_or base k 0) (get_or teen k 0) (get_or span k 0) y p v t s d e f g h)

  three-more : (n : ℕ) → n < size → all (3 * (n + 1)) ≡ (all (3 * n) && cell_fits_at top b before n)
  unfolding cell_fits cell_fits_at
  three-more n l =
      ap all (omega arith)
      ∙ one_more (3 * n + 2) c a' 48 0 (span_of top) (byte _ _ (omega arith)) (byte _ _ (omega arith)) x.2 y.2 z.2 _
      (ap all (omega arith)
      ∙ one_more (3 * n + 1) a' a 32 (teen_of top) 0 (byte _ _ (omega arith)) (byte _ _ (omega arith)) x.1 y.1 z.1 _
      (one_more (3 * n) a p 32 0 0 (byte _ _ (omega arith)) refl x.0 y.0 z.0 _ refl))
      ∙ regroup (all (3 * n)) (fits a p 32 0 0 (39 + top)) (fits a' a 32 (teen_of top) 0 (39 + top)) (fits c a' 48 0 (span_of top) (39 + top))
    where
      p : ℕ
      p = get_or b (before + 3 * n) 0

      a : ℕ
      a = get_or b (before + 1 + 3 * n) 0

      a' : ℕ
      a' = get_or b (before + 1 + 3 * n + 1) 0

      c : ℕ
      c = get_or b (before + 1 + 3 * n + 2) 0

      x : (get_or base (3 * n) 0 ≡ 32) × (get_or base (3 * n + 1) 0 ≡ 32) × (get_or base (3 * n + 2) 0 ≡ 48)
      x = thirds-at base size 32 32 (λ k. 48) n bases l

      y : (get_or teen (3 * n) 0 ≡ 0) × (get_or teen (3 * n + 1) 0 ≡ teen_of top) × (get_or teen (3 * n + 2) 0 ≡ 0)
      y = thirds-at teen size 0 (teen_of top) (λ k. 0) n teens l

      z : (get_or span (3 * n) 0 ≡ 0) × (get_or span (3 * n + 1) 0 ≡ 0) × (get_or span (3 * n + 2) 0 ≡ span_of top)
      z = thirds-at span size 0 0 (λ k. span_of top) n spans l

  more-fit : (n : ℕ) → n < size → all (3 * suc n) ≡ (all (3 * n) && cell_fits_at top b before n)
  more-fit n l = ap all (omega arith) ∙ three-more n l

  fit-laid : top ≤ 15 → ((i : ℕ) → get_or b i 0 < 256) → (n : ℕ) → n ≤ size → all (3 * n) ≡ true → CellsLaid top b (before + 1) n
  unfolding CellsLaid cell_fits_at
  fit-laid t low zero l e k h = absurd (not-suc-le-zero h)
  fit-laid t low (suc n) l e k h = go (fit-laid t low n (omega arith) both.0) (dec_lt k n)
    where
      both : (all (3 * n) ≡ true) × (cell_fits_at top b before n ≡ true)
      both = and_yes (all (3 * n)) (cell_fits_at top b before n) (sym (more-fit n (omega arith)) ∙ e)

      go : ((j : ℕ) → j < n → CellBytes top (get_or b (before + 1 + 3 * j) 0) (get_or b (before + 1 + 3 * j + 1) 0) (get_or b (before + 1 + 3 * j + 2) 0)) → Dec (k < n) →
          CellBytes top (get_or b (before + 1 + 3 * k) 0) (get_or b (before + 1 + 3 * k + 1) 0) (get_or b (before + 1 + 3 * k + 2) 0)
      go ih (yes c) = ih k c
      go ih (no c) = let z : k ≡ n = omega arith in rw z (fit-bytes top (get_or b (before + 3 * n) 0) _ _ _ t (low _) (low _) (low _) both.1)

  laid-fit : top ≤ 15 → (n : ℕ) → n ≤ size → CellsLaid top b (before + 1) n → all (3 * n) ≡ true
  unfolding CellsLaid cell_fits_at all
  laid-fit t zero l h = sym (all_none b before base teen span (39 + top))
  laid-fit t (suc n) l h =
      more-fit n (omega arith)
      ∙ yes_and (all (3 * n)) (cell_fits_at top b before n) (laid-fit t n (omega arith) (λ k c. h k (omega arith))) (bytes_fit top (get_or b (before + 3 * n) 0) _ _ _ t (h n (omega arith)))

  pub fit-cells : top ≤ 15 → ((i : ℕ) → get_or b i 0 < 256) → (n : ℕ) → n ≤ size → (all_fit (3 * n) b before base teen span (39 + top) ≡ true) ↔ CellsLaid top b (before + 1) n
  unfolding all
  fit-cells t low n l = (fit-laid t low n l, laid-fit t n l)
