-- Lines read, written and moved. A record says how far a loop is; its laws are the loop's start, one turn, and its end.
--
--   length-line, cell-small  ==  how long an entry's line is; its cells are at most its top
--   ReadTo k l c o       ==  o is c with the first k cells of the line l
--   read_none, read_next, read_all
--   FieldsTo k g l o     ==  o is l with the fields of the first k numbers of g
--   fields-none, fields_next, fields-all
--   entry-written, blank-written  ==  an entry's line and a blank one, written to the front
--   moved-on, moved-back  ==  the first elements moved on by d places; those from d on moved to the front
--   inserted, removed    ==  a line put in where room was made; a blank line after what was moved back
use Rattle.std.proofs.Common.{◌≡◌, ℕ, ◌+◌, ◌-◌, ◌*◌, ◌<◌, ◌≤◌, List, [], ◌∷◌, ◌++◌, length, get_or, take, drop, set, replicate, sym, refl, ap, ◌∙◌, subst, append_assoc, append-nil, add-one, arith, length-drop, drop_of_length-le, length-take-le, take_all, take-suc, drop-drop, take_at, drop_at}
use mathlib.Core.List.{flatten}
use lib.ListN.{length-replicate}
use Rattle.grids.proofs.QuestionLaws.{capped_at}
use Rattle.layout.specs.Decimal.{field}
use Rattle.layout.specs.Layout.{Entry, clients, fields, cell_width, entry_width, line_length, entry_line, blank_line, number_at, cells_of, entry_of}
use Rattle.layout.specs.Lines.{EntryLine}
use Rattle.std.specs.List.{copy_within}
use Rattle.layout.proofs.LayoutLaws.{length_fields, length-entry}
use Rattle.layout.proofs.LineLaws.{length-cells, cell_at, length-holdings}
use Rattle.lines.proofs.FillLaws.{Filled, fill_none, fill-front, fill, fill-rest, fill-part, filled, filled-whole}

-- ---- a line is read

pub length-line : {size top : ℕ} {l : List ℕ} → EntryLine size top l → length l ≡ line_length size
length-line {size} {top} {l} e = ap length e.bytes ∙ length-entry size (entry_of size l) (record { cells = length-cells size l; held = length-holdings size l })

pub cell-small : {size top : ℕ} {l : List ℕ} (k : ℕ) → EntryLine size top l → k < size → number_at cell_width (cell_width * k) l ≤ top
cell-small {size} {top} {l} k e h = rw (cell_at size l k h) at (capped_at top (cells_of size l) e.at_most k (omega (arith, length-cells size l)))

pub record ReadTo (k : ℕ) (l c o : List ℕ) : Type 0 where
  pub so_far : Filled (take k (cells_of (length c) l)) c k o

pub read_none : (l c : List ℕ) → ReadTo 0 l c c
read_none l c = record { so_far = fill_none c }

pub read_next : {k : ℕ} {l c o : List ℕ} (x : ℕ) → ReadTo k l c o → k < length c → x ≡ number_at cell_width (cell_width * k) l → ReadTo (k + 1) l c (set o k x)
read_next {k} {l} {c} {o} x r h e = record {
  so_far =
      fill _ x r.so_far h
      (rw (add-one, e, ← (cell_at (length c) l k h)) (take-suc (cells_of (length c) l) k 0 (omega (arith, length-cells (length c) l))));
}

pub read_all : {k : ℕ} {l c o : List ℕ} → ReadTo k l c o → length c ≤ k → o ≡ cells_of (length c) l
read_all {k} {l} {c} {o} r h = filled-whole _ r.so_far (take_all k (cells_of (length c) l) (omega (arith, length-cells (length c) l))) h

-- ---- a line is written

fields-append : (w : ℕ) (g h : List ℕ) → fields w (g ++ h) ≡ fields w g ++ fields w h
unfolding fields flatten
fields-append w [] h = refl
fields-append w (x ∷ g) h = ap (λ (r : List ℕ). field w x ++ r) (fields-append w g h) ∙ sym (append_assoc (field w x) (fields w g) (fields w h))

snoc_field : (g : List ℕ) (x : ℕ) → fields cell_width (g ++ (x ∷ [])) ≡ fields cell_width g ++ field cell_width x
unfolding fields flatten
snoc_field g x = fields-append cell_width g (x ∷ []) ∙ ap (λ (r : List ℕ). fields cell_width g ++ r) (append-nil (field cell_width x))

pub record FieldsTo (k : ℕ) (g l o : List ℕ) : Type 0 where
  pub so_far : Filled (fields cell_width (take k g)) l (cell_width * k) o

pub fields-none : (g l : List ℕ) → FieldsTo 0 g l l
unfolding fields flatten
fields-none g l = record { so_far = fill_none l }

pub fields_next : {k x : ℕ} {g l o : List ℕ} (ys : List ℕ) → FieldsTo k g l o → k < length g → cell_width * length g ≤ length l → x ≡ get_or g k 0 →
    ys ≡ field (length (take (cell_width * k + cell_width - cell_width * k) (drop (cell_width * k) o))) x →
    FieldsTo (k + 1) g l (take (cell_width * k) o ++ (ys ++ drop (cell_width * k + cell_width - cell_width * k) (drop (cell_width * k) o)))
fields_next {k} {x} {g} {l} {o} ys t h b e y = record {
  so_far =
      let z : cell_width * k + cell_width - cell_width * k ≡ cell_width = omega arith in
      let w : cell_width * k + cell_width ≡ cell_width * (k + 1) = omega arith in
      let P : ℕ → Type 0 = λ n. Filled (fields cell_width (take (k + 1) g)) l n (take (cell_width * k) o ++ (ys ++ drop (cell_width * k + cell_width - cell_width * k) (drop (cell_width * k) o))) in
      subst P w
      (fill-part (fields cell_width (take (k + 1) g)) (cell_width * k + cell_width) x ys t.so_far (omega arith) (omega arith) y
      (rw (add-one, z, take-suc g k 0 h, e) (snoc_field (take k g) (get_or g k 0))));
}

pub fields-all : {k : ℕ} {g l o : List ℕ} → FieldsTo k g l o → k ≡ length g → o ≡ fields cell_width g ++ drop (cell_width * length g) l
fields-all {k} {g} {l} {o} t h = filled (fields cell_width g) (cell_width * length g) t.so_far (rw (take_all k g (omega arith))) (omega arith)

-- the fields of the cells, those of the holdings, and the line feed
pub entry-written : (l : List ℕ) {o ys : List ℕ} (e : Entry) (m k : ℕ) → length e.holdings ≡ clients → line_length (length e.grid) ≤ length l → length l ≤ cell_width * length e.grid + m → k + 1 ≡ line_length (length e.grid) →
    o ≡ fields cell_width e.grid ++ drop (cell_width * length e.grid) l →
    ys ≡ fields cell_width e.holdings ++ drop (cell_width * length e.holdings) (take m (drop (cell_width * length e.grid) o)) →
    set (take (cell_width * length e.grid) o ++ (ys ++ drop m (drop (cell_width * length e.grid) o))) k 10 ≡ entry_line e ++ drop (line_length (length e.grid)) l
unfolding entry_line line_length entry_width
entry-written l {o} {ys} e m k n b r h p q =
    let c : length (fields cell_width e.grid) ≡ cell_width * length e.grid = omega (arith, length_fields cell_width e.grid) in
    let d : length (fields cell_width e.holdings) ≡ cell_width * length e.holdings = omega (arith, length_fields cell_width e.holdings) in
    let f : Filled (fields cell_width e.grid) l (cell_width * length e.grid) o = rw (c, ← p) at (fill-front (fields cell_width e.grid) l (omega arith)) in
    let g = fill-rest (fields cell_width e.holdings) ys m f (omega arith) r (rw d q) in
    let z : cell_width * length e.grid + length (fields cell_width e.holdings) ≡ k = omega arith in
    let j = fill ((fields cell_width e.grid ++ fields cell_width e.holdings) ++ (10 ∷ [])) 10 (rw z at g) (omega arith) refl in
    filled (fields cell_width (e.grid ++ e.holdings) ++ (10 ∷ [])) (cell_width * (length e.grid + clients) + 1) j
    (ap (λ (r : List ℕ). r ++ (10 ∷ [])) (sym (fields-append cell_width e.grid e.holdings)))
    (omega arith)

pub blank-written : (l : List ℕ) {o : List ℕ} (size k : ℕ) → line_length size ≤ length l → k + 1 ≡ line_length size → o ≡ replicate (length (take k l)) 32 → set (o ++ drop k l) k 10 ≡ blank_line size ++ drop (line_length size) l
unfolding blank_line line_length
blank-written l {o} size k b h p =
    let q : k ≡ entry_width size = omega arith in
    let n : o ≡ replicate k 32 = rw (length-take-le k l (omega arith)) at p in
    let m : length (replicate k 32) ≡ k = length-replicate {A = ℕ} k 32 in
    let f : Filled (replicate k 32) l k (o ++ drop k l) = rw n (rw m at (fill-front (replicate k 32) l (omega arith))) in
    filled (replicate (entry_width size) 32 ++ (10 ∷ [])) (entry_width size + 1) (fill (replicate k 32 ++ (10 ∷ [])) 10 f (omega arith) refl) (rw q) (omega arith)

-- ---- bytes are moved

pub moved-on : (l : List ℕ) (n d : ℕ) → copy_within l 0 n d ≡ take d l ++ (take n l ++ drop (n + d) l)
moved-on l n d = let e : d + (n - 0) ≡ n + d = omega arith in let z : n - 0 ≡ n = omega arith in rw (e, z) (append_assoc (take d l) (take n l) (drop (n + d) l))

pub moved-back : (l : List ℕ) (n d : ℕ) → copy_within l d (d + n) 0 ≡ take n (drop d l) ++ drop n l
moved-back l n d = let e : d + n - d ≡ n = omega arith in let z : 0 + n ≡ n = omega arith in rw (e, z) refl

-- ---- a line is put in, and taken out

pub inserted : {o r : List ℕ} (l e : List ℕ) (n d : ℕ) {by : ℕ} → by ≡ d → o ≡ take by l ++ (take n l ++ drop (n + by) l) → r ≡ e ++ drop d o → d ≤ length l →
    r ≡ e ++ (take n l ++ drop (n + d) l)
inserted {o} {r} l e n d {by} y p q h =
    let s : o ≡ take d l ++ (take n l ++ drop (n + d) l) = rw y at p in
    q ∙ rw s (ap (λ (s : List ℕ). e ++ s) (drop_at (take d l) (take n l ++ drop (n + d) l) d (length-take-le d l h)))

pub removed : {o ys : List ℕ} (l b : List ℕ) (n d : ℕ) {by : ℕ} → by ≡ d → o ≡ take n (drop by l) ++ drop n l → length o ≡ length l → ys ≡ b ++ drop d (take (length o - n) (drop n o)) →
    n + d ≤ length l → take n o ++ (ys ++ drop (length o - n) (drop n o)) ≡ take n (drop d l) ++ (b ++ drop (n + d) l)
removed {o} {ys} l b n d {by} y p z q h =
    let r : o ≡ take n (drop d l) ++ drop n l = rw y at p in
    let s : length (take n (drop d l)) ≡ n = length-take-le n (drop d l) (omega (arith, length-drop d l)) in
    let t : take n o ≡ take n (drop d l) = rw r (take_at (take n (drop d l)) (drop n l) n s) in
    let u : drop n o ≡ drop n l = rw r (drop_at (take n (drop d l)) (drop n l) n s) in
    let v : take (length o - n) (drop n l) ≡ drop n l = take_all (length o - n) (drop n l) (omega (arith, length-drop n l)) in
    let w : drop (length o - n) (drop n l) ≡ [] = drop_of_length-le (drop n l) {i = length o - n} (omega (arith, length-drop n l)) in
    rw (q, t, u, v, w, append-nil, drop-drop d n l)
