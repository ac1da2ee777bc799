-- Fields of the input, read and tested.
--
--   field_told        ==  the bytes are those of a number's field, as the code finds it
--   front_long        ==  the front of a list is there still where it was written over
--   CellLaid b i      ==  the cell i of the bytes b is laid as a number of at most 255
--   CellsTo k b c o   ==  o is c with the first k cells of b, which are laid so
--   cells-none, cells-next, cells-all  ==  the loop's start, one turn, and its end
--   cells-above, cells-unlaid  ==  a cell above 255, and one that is not laid so
use mathlib.Core.Path.{◌≡◌, refl, sym, ap, ◌∙◌}
use mathlib.Core.List.{List, [], ◌++◌, map, append-nil}
use mathlib.Core.Bool.{Bool, true, false, true≢false}
use mathlib.Core.Logic.{◌↔◌}
use Prim.Native.Nat.{ℕ, ◌+◌, ◌-◌, ◌*◌, ◌≤◌, ◌<◌}
use native.Mathlib.Nat.{mul_comm}
use native.Mathlib.Decide.{ℕ_discrete}
use native.Mathlib.Omega.{arith}
use lib.ListN.{length, get_or, take, drop, set, length-map, length-append}
use lib.Dec.{eqb}
use lib.Pointwise.{pointwise}
use Rattle.std.proofs.lemmas.Bool.Decides.{Decides-eqb}
use Rattle.std.proofs.lemmas.Slice.Eq.{slice_eq-Decides}
use lib.Seq.{take_at, length-take-le}
use Rattle.permutations.proofs.ListLaws.{at_map}
use Rattle.grids.proofs.QuestionLaws.{capped_at, at-capped}
use Rattle.layout.specs.Decimal.{field}
use Rattle.layout.specs.Layout.{fields, number_at, cells_of}
use Rattle.layout.proofs.DecimalLaws.{length-field}
use Rattle.layout.proofs.LayoutLaws.{field_at}
use Rattle.layout.proofs.LineLaws.{of_parts, length-cells, cell_at}
use Rattle.lines.proofs.LineLaws.{ReadTo, read_none, read_next, read_all}
use Rattle.lines.proofs.NumberLaws.{lent}
use Rattle.transcript.specs.Fields.{ReadsCells}

-- ---- one field

pub field_told : (b z ys rest : List ℕ) (n : ℕ) {r : Bool} → length b ≤ length z → ys ≡ field (length (take (length b) z)) n →
    r ≡ pointwise eqb b (take (length b) (ys ++ rest)) → (r ≡ true) ↔ (b ≡ field (length b) n)
field_told b z ys rest n fits y h =
    let w : ys ≡ field (length b) n = rw (length-take-le (length b) z fits) at y in
    let l : length ys ≡ length b = ap length w ∙ length-field (length b) n in
    let p : take (length b) (ys ++ rest) ≡ ys = take_at ys rest (length b) l in
    let d = slice_eq-Decides Decides-eqb b (take (length b) (ys ++ rest)) _ h in
    (λ e. d.0 e ∙ p ∙ w, λ e. d.1 (e ∙ sym (p ∙ w)))

-- the front of a list, written over by as many
pub front_long : (z ys : List ℕ) (n : ℕ) → length ys ≡ length (take n z) → n ≤ length z → n ≡ length (take n (ys ++ drop n z))
front_long z ys n h l = sym (length-take-le n (ys ++ drop n z) (omega (arith, length-append ys (drop n z), length-take-le n z l)))

-- ---- cells

pub record CellLaid (b : List ℕ) (i : ℕ) : Type 0 where
  pub bytes : take 3 (drop (3 * i) b) ≡ field 3 (number_at 3 (3 * i) b)
  pub at_most : number_at 3 (3 * i) b ≤ 255

pub record CellsTo (k : ℕ) (b c o : List ℕ) : Type 0 where
  pub so_far : ReadTo k b c o
  pub laid : (i : ℕ) → i < k → CellLaid b i

pub cells-none : (b c : List ℕ) → CellsTo 0 b c c
cells-none b c = record { so_far = read_none b c; laid = λ i h. absurd (omega arith) }

-- the three bytes of cell k, as they are lent, and the number that they state
module _ {k : ℕ} {b c o : List ℕ} (t : CellsTo k b c o) (h : k < length c) {x : ℕ} (here : x ≡ number_at 3 (3 * k) b) where
  lent_is : lent 3 (3 * k) b ≡ take 3 (drop (3 * k) b)
  lent_is =
      let z : 3 * k + 3 - 3 * k ≡ 3 = omega arith in
      rw z refl

  pub cells-next : x ≤ 255 → {w : ℕ} → w ≡ 3 → lent 3 (3 * k) b ≡ field w x → CellsTo (k + 1) b c (set o k x)
  cells-next small {w} y f = record {
    so_far = read_next x t.so_far h here;
    laid = λ i l. each i l (ℕ_discrete i k);
  }
    where
      each : (i : ℕ) → i < k + 1 → Dec (i ≡ k) → CellLaid b i
      each i l (yes d) = rw d (record { bytes = sym lent_is ∙ f ∙ rw (y, here) refl; at_most = omega (arith, here) })
      each i l (no n) = t.laid i (omega arith)

  cell-is : get_or (cells_of (length c) b) k 0 ≡ x
  cell-is = cell_at (length c) b k h ∙ sym here

  pub cells-above : 255 < x → length o ≡ length c → ReadsCells b (length c) o false
  cells-above big z = record {
    decides = (λ d. absurd (true≢false (sym d)), λ p. absurd (omega (arith, cell-is, capped_at 255 (cells_of (length c) b) p.1 k (omega (arith, length-cells (length c) b)))));
    read = λ d. absurd (true≢false (sym d));
    kept = z;
  }

  pub cells-unlaid : (lent 3 (3 * k) b ≡ field (length (lent 3 (3 * k) b)) x → ⊥) → length (lent 3 (3 * k) b) ≡ 3 → length o ≡ length c → ReadsCells b (length c) o false
  cells-unlaid n w z = record {
    decides = (λ d. absurd (true≢false (sym d)), λ p. absurd (n (lent_is ∙ at_field p.0 ∙ rw (w, cell-is) refl)));
    read = λ d. absurd (true≢false (sym d));
    kept = z;
  }
    where
      at_field : b ≡ fields 3 (cells_of (length c) b) → take 3 (drop (3 * k) b) ≡ field 3 (get_or (cells_of (length c) b) k 0)
      at_field q =
          let f = field_at 3 (cells_of (length c) b) [] k (omega (arith, length-cells (length c) b)) in
          ap (λ (l : List ℕ). take 3 (drop (3 * k) l)) (q ∙ sym (append-nil (fields 3 (cells_of (length c) b)))) ∙ rw (mul_comm k 3) at f

pub cells-all : {k : ℕ} {b c o : List ℕ} → CellsTo k b c o → length c ≤ k → length b ≡ 3 * length c → ReadsCells b (length c) o true
unfolding fields
cells-all {k} {b} {c} {o} t h z = record {
  decides = (λ d. (whole, at-capped 255 cs small), λ p. refl);
  read = λ d. read_all t.so_far h;
  kept = t.so_far.so_far.size;
}
  where
    cs : List ℕ
    cs = cells_of (length c) b

    small : (i : ℕ) → i < length cs → get_or cs i 0 ≤ 255
    small i l =
        let j : i < length c = omega (arith, length-cells (length c) b) in
        rw (cell_at (length c) b i j) (t.laid i (omega arith)).at_most

    many : length (map (field 3) cs) ≡ length c
    many = length-map cs (field 3) ∙ length-cells (length c) b

    whole : b ≡ fields 3 cs
    whole =
        of_parts 3 b (map (field 3) cs) (z ∙ rw many (mul_comm 3 (length c)))
        λ i l.
        let j : i < length c = omega (arith, many) in
        rw (mul_comm i 3) ((t.laid i (omega arith)).bytes ∙ ap (field 3) (sym (cell_at (length c) b i j)) ∙ sym (at_map (field 3) cs i 0 [] (omega (arith, length-cells (length c) b))))
