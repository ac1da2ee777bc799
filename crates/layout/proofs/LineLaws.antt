-- The lines of a register's bytes by their places, and question 5 line by line.
--
--   drop-take, flatten-append, nothing  ==  of lists: a part without its first elements; lists put one after another, in two steps; one without elements
--   of_parts, at-parts          ==  a list is its parts of one length, put one after another; each of them taken out again
--   start-zero, next_start      ==  where the first line begins; a line begins where the one before it ends
--   length-line                 ==  how many bytes a line has, where there are bytes enough
--   cells-inside, line-short    ==  they are more than those of its cells, and not many
--   length-cells, cell_at       ==  the cells that a line states, by their places
--   length-holdings, holding-at ==  the holdings that it states, by their places
--   holdings-first              ==  they are read from the line alone
--   entry-line                  ==  an entry is what its line states
--   from-lines                  ==  a byte string is line 1 and then its lines
--   lines_of r                   ==  the lines after line 1: those of the entries, and blank lines up to the capacity
--   length-lines, wide-lines    ==  how many they are, and that they are of one length
--   layout-lines, line_of       ==  a layout is line 1 and then these lines, and line e is the one at e
--   line-layout, blank-layout   ==  a layout's line of an entry, and a blank one
--   ascends-next, next-ascends  ==  each entry comes before all later ones exactly if each comes before the next
--   entries-counted             ==  the entries that the bytes state are as many as the count that they state
--   line-entry, line-grid       ==  the entries that the bytes state are what the lines state, and so are their grids
--   grids-counted               ==  the grids are as many
--   laid-lines                  ==  question 5 gets a yes exactly if line 1, the lines of the entries and the blank lines are laid out
use mathlib.Core.Path.{◌≡◌, refl, sym, ap, ap₂, ◌∙◌}
use mathlib.Core.List.Memᴰ
use mathlib.Core.List.{List, [], ◌∷◌, ◌++◌, map, flatten, append_assoc, append-nil, Memᴰ}
use mathlib.Core.Bool.{true}
use mathlib.Core.Logic.{◌⊎◌, inl, inr, ◌↔◌}
use Prim.Native.Nat.{ℕ, zero, suc, ◌+◌, ◌-◌, ◌*◌, ◌≤◌, ◌<◌}
use native.Mathlib.Nat.{zero-mul}
use native.Mathlib.Numerals.{add-one}
use native.Mathlib.Decide.{dec_lt}
use native.Mathlib.Omega.{arith}
use lib.ListN.{length, get_or, take, drop, replicate, length-append, length-map, length-replicate, length-drop, take-append-drop, get_or-replicate, get_or-append}
use lib.Seq.{take_at, drop_at, drop-drop, drop-nil, take-nil, take-take, length-take-le, get_or-append-add}
use Rattle.permutations.proofs.BoolLaws.{and_yes, yes_and}
use Rattle.permutations.proofs.ListLaws.{length-tabulate, at-tabulate, tabulate-ext, mem-at, of_mem, at_map}
use Rattle.grids.specs.Order.{◌≺◌, less, equal}
use Rattle.grids.specs.Grids.{capped}
use Rattle.grids.proofs.OrderLaws.{less-decides, equal-eq, eq-equal}
use Rattle.grids.proofs.QuestionLaws.{grid-of, grid-capped}
use Rattle.layout.specs.Decimal.{value}
use Rattle.layout.specs.Layout.{Shape, Entry, Register, clients, grids_of, grid_size, cell_width, head_length, entry_width, line_length, line_start, entry_line, blank_line, head_line, layout, layout_length, number_at, cells_of, holdings_of, entry_of, count, entry_at, decode_shape, decode, Ascends, IsRegister, is_holdings, ascending, is_register, laid_out}
use Rattle.layout.specs.Lines.{no_entry, line_at, EntriesLaid, BlanksLaid, HeadLaid}
use Rattle.layout.proofs.LayoutLaws.{Sized, Wide, wide-map, of-replicate, piece, length-entry, length-blank, length-head, length-layout}
use Rattle.layout.proofs.RegisterLaws.{holdings-decides, ascending-decides, register-decides, register-sized}

-- ---- parts of one length

module _ {A : Type 0} where
  pub drop-take : (m n : ℕ) (l : List A) → drop m (take n l) ≡ take (n - m) (drop m l)
  drop-take zero n l = ap (λ (k : ℕ). take k l) (sym sub)
    where
      sub : n - 0 ≡ n
      sub = omega arith
  drop-take (suc m) zero l = drop-nil (suc m) ∙ ap (λ (k : ℕ). take k (drop (suc m) l)) none
    where
      none : 0 ≡ 0 - suc m
      none = omega arith
  drop-take (suc m) (suc n) [] = sym (take-nil (suc n - suc m))
  drop-take (suc m) (suc n) (x ∷ l) = drop-take m n l ∙ ap (λ (k : ℕ). take k (drop m l)) same
    where
      same : n - m ≡ suc n - suc m
      same = omega arith

  pub flatten-append : (k l : List (List A)) → flatten (k ++ l) ≡ flatten k ++ flatten l
  unfolding flatten
  flatten-append [] l = refl
  flatten-append (x ∷ k) l = ap (λ (r : List A). x ++ r) (flatten-append k l) ∙ sym (append_assoc x (flatten k) (flatten l))

  pub nothing : (l : List A) → length l ≡ 0 → l ≡ []
  nothing [] e = refl
  nothing (x ∷ l) e = absurd (omega arith)

  -- a list is its parts, put one after another
  pub of_parts : (w : ℕ) (l : List A) (ls : List (List A)) → length l ≡ length ls * w → ((e : ℕ) → e < length ls → take w (drop (e * w) l) ≡ get_or ls e []) → l ≡ flatten ls
  unfolding flatten
  of_parts w l [] h p = nothing l (h ∙ zero-mul w)
  of_parts w l (x ∷ ls) h p =
      sym (take-append-drop w l) ∙ ap₂ ◌++◌ first (of_parts w (drop w l) ls (length-drop w l ∙ omega arith) rest)
    where
      first : take w l ≡ x
      first = rw (zero-mul w) at (p 0 (omega arith))

      rest : (e : ℕ) → e < length ls → take w (drop (e * w) (drop w l)) ≡ get_or ls e []
      rest e b =
          let q : w + e * w ≡ suc e * w = omega arith in
          rw (drop-drop (e * w) w l, q) (p (suc e) (omega arith))

  pub at-parts : (w : ℕ) (ls : List (List A)) → Wide w ls → (e : ℕ) → e < length ls → take w (drop (e * w) (flatten ls)) ≡ get_or ls e []
  at-parts w ls h e b =
      let p = piece w ls [] h e b in
      ap (λ (l : List A). take w (drop (e * w) l)) (sym (append-nil (flatten ls))) ∙ ap (take {A = A} w) p.1 ∙ take_at (get_or ls e []) p.0 w (h (get_or ls e []) (mem-at ls [] e b))

-- ---- lines by their places

pub start-zero : (size : ℕ) → line_start size 0 ≡ head_length
start-zero size = omega (arith, zero-mul (line_length size))

pub next_start : (size e : ℕ) → line_start size (e + 1) ≡ line_start size e + line_length size
next_start size e = omega arith

pub length-line : (size : ℕ) (b : List ℕ) (e : ℕ) → line_start size (e + 1) ≤ length b → length (line_at size b e) ≡ line_length size
unfolding line_at
length-line size b e h =
    length-take-le (line_length size) (drop (line_start size e) b) (omega (arith, next_start size e, length-drop (line_start size e) b))

pub cells-inside : (size : ℕ) → cell_width * size < line_length size
unfolding line_length entry_width
cells-inside size = omega arith

pub line-short : (size : ℕ) → size ≤ 128 → line_length size ≤ 409
unfolding line_length entry_width
line-short size h = omega arith

pub length-cells : (size : ℕ) (l : List ℕ) → length (cells_of size l) ≡ size
unfolding cells_of
length-cells size l = length-tabulate 0 size (λ k. number_at cell_width (cell_width * k) l)

pub cell_at : (size : ℕ) (l : List ℕ) (k : ℕ) → k < size → get_or (cells_of size l) k 0 ≡ number_at cell_width (cell_width * k) l
unfolding cells_of
cell_at size l k h = at-tabulate size (λ k. number_at cell_width (cell_width * k) l) k 0 h

pub length-holdings : (size : ℕ) (l : List ℕ) → length (holdings_of size l) ≡ clients
unfolding holdings_of
length-holdings size l = length-tabulate 0 clients (λ k. number_at cell_width (cell_width * (size + k)) l)

pub holding-at : (size : ℕ) (l : List ℕ) (k : ℕ) → k < clients → get_or (holdings_of size l) k 0 ≡ number_at cell_width (cell_width * (size + k)) l
unfolding holdings_of
holding-at size l k h = at-tabulate clients (λ k. number_at cell_width (cell_width * (size + k)) l) k 0 h

-- they are read from the line's bytes, and from more of them as well
pub holdings-first : (size : ℕ) (l : List ℕ) → holdings_of size (take (line_length size) l) ≡ holdings_of size l
unfolding holdings_of number_at line_length entry_width
holdings-first size l =
    tabulate-ext 0 clients _ _ (λ i h. ap value (ap (λ (r : List ℕ). take cell_width r) (drop-take (cell_width * (size + i)) (line_length size) l) ∙ take-take cell_width (line_length size - cell_width * (size + i)) (drop (cell_width * (size + i)) l) (omega arith)))

pub entry-line : (size : ℕ) (b : List ℕ) (e : ℕ) → entry_at size b e ≡ entry_of size (line_at size b e)
unfolding entry_at line_at
entry-line size b e = refl

pub from-lines : (s : Shape) (n : ℕ) (b : List ℕ) (ls : List (List ℕ)) → length b ≡ layout_length s → take head_length b ≡ head_line s n → length ls ≡ s.capacity →
    ((e : ℕ) → e < s.capacity → line_at (grid_size s) b e ≡ get_or ls e []) → b ≡ head_line s n ++ flatten ls
unfolding line_at layout_length
from-lines s n b ls sized first many line =
    sym (take-append-drop head_length b) ∙ ap₂ ◌++◌ first (of_parts (line_length (grid_size s)) (drop head_length b) ls whole one)
  where
    whole : length (drop head_length b) ≡ length ls * line_length (grid_size s)
    whole = length-drop head_length b ∙ rw many (omega arith)

    one : (e : ℕ) → e < length ls → take (line_length (grid_size s)) (drop (e * line_length (grid_size s)) (drop head_length b)) ≡ get_or ls e []
    one e h = rw (drop-drop (e * line_length (grid_size s)) head_length b) (line e (omega arith))

-- ---- the lines of a layout

unfoldable pub lines_of : Register → List (List ℕ)
lines_of r = map entry_line r.entries ++ replicate (r.shape.capacity - length r.entries) (blank_line (grid_size r.shape))

pub layout-lines : (r : Register) → layout r ≡ head_line r.shape (length r.entries) ++ flatten (lines_of r)
unfolding layout lines_of
layout-lines r = ap (λ (l : List ℕ). head_line r.shape (length r.entries) ++ l) (sym (flatten-append (map entry_line r.entries) _))

pub length-lines : (r : Register) → length r.entries ≤ r.shape.capacity → length (lines_of r) ≡ r.shape.capacity
unfolding lines_of
length-lines r fits =
    length-append (map entry_line r.entries) _
    ∙ omega (arith, length-map r.entries entry_line, length-replicate (r.shape.capacity - length r.entries) (blank_line (grid_size r.shape)))

pub wide-lines : (r : Register) → Sized (grid_size r.shape) r.entries → Wide (line_length (grid_size r.shape)) (lines_of r)
unfolding lines_of
wide-lines r sized l m = go (Memᴰ.append_cases (map entry_line r.entries) m)
  where
    go : Memᴰ l (map entry_line r.entries) ⊎ Memᴰ l (replicate (r.shape.capacity - length r.entries) (blank_line (grid_size r.shape))) → length l ≡ line_length (grid_size r.shape)
    go (inl k) = wide-map entry_line (line_length (grid_size r.shape)) r.entries (λ e i. length-entry (grid_size r.shape) e (sized e i)) l k
    go (inr k) = ap length (of-replicate (r.shape.capacity - length r.entries) (blank_line (grid_size r.shape)) l k) ∙ length-blank (grid_size r.shape)

entry-of : (r : Register) (e : ℕ) → e < length r.entries → get_or (lines_of r) e [] ≡ entry_line (get_or r.entries e no_entry)
unfolding lines_of
entry-of r e h = get_or-append (map entry_line r.entries) _ [] e (omega (arith, length-map r.entries entry_line)) ∙ at_map entry_line r.entries e no_entry [] h

blank_of : (r : Register) (e : ℕ) → length r.entries ≤ e → e < r.shape.capacity → get_or (lines_of r) e [] ≡ blank_line (grid_size r.shape)
unfolding lines_of
blank_of r e low high =
    let n = length (map entry_line r.entries) in
    let z = length-map r.entries entry_line in
    let i : n + (e - n) ≡ e = omega arith in
    rw (← i)
    (get_or-append-add (map entry_line r.entries) _ (e - n) [] ∙ get_or-replicate (r.shape.capacity - length r.entries) (e - n) (blank_line (grid_size r.shape)) [] (omega arith))

module _ (r : Register) (sized : Sized (grid_size r.shape) r.entries) (fits : length r.entries ≤ r.shape.capacity) where
  pub line_of : (e : ℕ) → e < r.shape.capacity → line_at (grid_size r.shape) (layout r) e ≡ get_or (lines_of r) e []
  unfolding line_at
  line_of e h =
      rw (layout-lines r, ← (drop-drop (e * line_length (grid_size r.shape)) head_length (head_line r.shape (length r.entries) ++ flatten (lines_of r))), drop_at (head_line r.shape (length r.entries)) (flatten (lines_of r)) head_length (length-head r.shape (length r.entries)))
      (at-parts (line_length (grid_size r.shape)) (lines_of r) (wide-lines r sized) e (omega (arith, length-lines r fits)))

  pub line-layout : (e : ℕ) → e < length r.entries → line_at (grid_size r.shape) (layout r) e ≡ entry_line (get_or r.entries e no_entry)
  line-layout e h = line_of e (omega arith) ∙ entry-of r e h

  pub blank-layout : (e : ℕ) → length r.entries ≤ e → e < r.shape.capacity → line_at (grid_size r.shape) (layout r) e ≡ blank_line (grid_size r.shape)
  blank-layout e low high = line_of e high ∙ blank_of r e low high

-- ---- each comes before the next

pub ascends-next : (l : List (List ℕ)) → Ascends l → (e : ℕ) → e + 1 < length l → get_or l e [] ≺ get_or l (e + 1) []
ascends-next [] a e h = absurd (omega arith)
ascends-next (x ∷ l) a zero h = a.0 (get_or l 0 []) (mem-at l [] 0 (omega arith))
ascends-next (x ∷ l) a (suc e) h = rw add-one (rw add-one at (ascends-next l a.1 e (omega arith)))

next-ascending : (l : List (List ℕ)) → ((e : ℕ) → e + 1 < length l → get_or l e [] ≺ get_or l (e + 1) []) → ascending l ≡ true
unfolding ascending
next-ascending [] h = refl
next-ascending (x ∷ []) h = refl
next-ascending (x ∷ y ∷ l) h =
    yes_and (less x y) (ascending (y ∷ l)) ((less-decides x y).1 (h 0 (omega arith)))
    (next-ascending (y ∷ l) (λ e b. rw add-one (rw (add-one (suc e)) at (h (suc e) (omega arith)))))

pub next-ascends : (l : List (List ℕ)) → ((e : ℕ) → e + 1 < length l → get_or l e [] ≺ get_or l (e + 1) []) → Ascends l
next-ascends l h = (ascending-decides l).0 (next-ascending l h)

-- ---- question 5, line by line

module _ (b : List ℕ) where
  pub entries-counted : length (decode b).entries ≡ count b
  unfolding decode
  entries-counted = length-tabulate 0 (count b) (entry_at (grid_size (decode_shape b)) b)

  pub line-entry : (e : ℕ) → e < count b → get_or (decode b).entries e no_entry ≡ entry_of (grid_size (decode_shape b)) (line_at (grid_size (decode_shape b)) b e)
  unfolding decode
  line-entry e h = at-tabulate (count b) (entry_at (grid_size (decode_shape b)) b) e no_entry h ∙ entry-line (grid_size (decode_shape b)) b e

  of-entries : (x : Entry) → Memᴰ x (decode b).entries → (e : ℕ) × (e < count b) × (x ≡ entry_of (grid_size (decode_shape b)) (line_at (grid_size (decode_shape b)) b e))
  of-entries x m = let r = of_mem (decode b).entries no_entry x m in (r.0, omega (arith, r.1, entries-counted), r.2 ∙ line-entry r.0 (omega (arith, r.1, entries-counted)))

  -- the grid of entry e
  pub line-grid : (e : ℕ) → e < count b → get_or (grids_of (decode b).entries) e [] ≡ cells_of (grid_size (decode_shape b)) (line_at (grid_size (decode_shape b)) b e)
  line-grid e h = at_map (λ (x : Entry). x.grid) (decode b).entries e no_entry [] (omega (arith, entries-counted)) ∙ ap (λ (x : Entry). x.grid) (line-entry e h)

  pub grids-counted : length (grids_of (decode b).entries) ≡ count b
  grids-counted = length-map (decode b).entries (λ (x : Entry). x.grid) ∙ entries-counted

-- the bytes of a register, line by line
module _ (b : List ℕ) (o : IsRegister (decode b)) (whole : b ≡ layout (decode b)) where
  entries-sized : Sized (grid_size (decode_shape b)) (decode b).entries
  unfolding decode
  entries-sized = register-sized (decode b) o

  head-laid : HeadLaid b
  unfolding decode
  head-laid = record {
    limits = o.limits;
    count_fits = rw (entries-counted b) at o.count_fits;
    sized = ap length whole ∙ length-layout (decode b) entries-sized o.count_fits;
    line = ap (take head_length) (whole ∙ layout-lines (decode b)) ∙ take_at _ _ head_length (length-head (decode_shape b) _) ∙ ap (head_line (decode_shape b)) (entries-counted b);
  }

  entries-laid : EntriesLaid (grid_size (decode_shape b)) (decode_shape b).top (count b) b
  unfolding decode
  entries-laid = record {
    lines = λ e h. let m = mem-at (decode b).entries no_entry e (omega (arith, entries-counted b)) in record {
      bytes = ap (λ (l : List ℕ). line_at (grid_size (decode_shape b)) l e) whole ∙ line-layout (decode b) entries-sized o.count_fits e (omega (arith, entries-counted b)) ∙ ap entry_line (line-entry b e h);
      at_most = ap (λ (x : Entry). capped (decode_shape b).top x.grid) (sym (line-entry b e h)) ∙ grid-capped (decode_shape b).rows (decode_shape b).columns (decode_shape b).top _ (o.entry-grids _ m);
      held = ap (λ (x : Entry). is_holdings x.holdings) (sym (line-entry b e h)) ∙ (holdings-decides _).1 (o.entry-holdings _ m);
    };
    ascend = λ e h. rw (line-grid b e (omega arith), line-grid b (e + 1) h) at (ascends-next (grids_of (decode b).entries) o.entries-ascend e (omega (arith, grids-counted b)));
  }

  blanks-laid : BlanksLaid (grid_size (decode_shape b)) (count b) (decode_shape b).capacity b
  unfolding decode
  blanks-laid = record {
    lines = λ e low high. ap (λ (l : List ℕ). line_at (grid_size (decode_shape b)) l e) whole ∙ blank-layout (decode b) entries-sized o.count_fits e (omega (arith, entries-counted b)) high;
  }

-- bytes that are laid out line by line are those of a register
module _ (b : List ℕ) (h : HeadLaid b) (l : EntriesLaid (grid_size (decode_shape b)) (decode_shape b).top (count b) b) (k : BlanksLaid (grid_size (decode_shape b)) (count b) (decode_shape b).capacity b) where
  laid-register : IsRegister (decode b)
  unfolding decode
  laid-register = record {
    limits = h.limits;
    count_fits = rw (entries-counted b) h.count_fits;
    entry-grids = λ x m.
        let r = of-entries b x m in
        let size = grid_size (decode_shape b) in
        grid-of (decode_shape b).rows (decode_shape b).columns (decode_shape b).top x.grid (ap (λ (y : Entry). length y.grid) r.2 ∙ length-cells size _) (ap (λ (y : Entry). capped (decode_shape b).top y.grid) r.2 ∙ (l.lines r.0 r.1).at_most);
    entry-holdings = λ x m. let r = of-entries b x m in (holdings-decides x.holdings).0 (ap (λ (y : Entry). is_holdings y.holdings) r.2 ∙ (l.lines r.0 r.1).held);
    entries-ascend = next-ascends (grids_of (decode b).entries) (λ e m. let z = grids-counted b in rw (line-grid b e (omega arith), line-grid b (e + 1) (omega arith)) (l.ascend e (omega arith)));
  }

  laid-line : (e : ℕ) → Dec (e < count b) → e < (decode_shape b).capacity → line_at (grid_size (decode_shape b)) b e ≡ get_or (lines_of (decode b)) e []
  unfolding decode
  laid-line e (yes m) i = let z = entries-counted b in (l.lines e m).bytes ∙ sym (ap entry_line (line-entry b e m)) ∙ sym (entry-of (decode b) e (omega arith))
  laid-line e (no m) i = let z = entries-counted b in k.lines e (omega arith) i ∙ sym (blank_of (decode b) e (omega arith) i)

  laid-layout : b ≡ layout (decode b)
  unfolding decode
  laid-layout =
      from-lines (decode_shape b) (count b) b (lines_of (decode b)) h.sized h.line (length-lines (decode b) laid-register.count_fits) (λ e m. laid-line e (dec_lt e (count b)) m)
      ∙ ap (λ (n : ℕ). head_line (decode_shape b) n ++ flatten (lines_of (decode b))) (sym (entries-counted b))
      ∙ sym (layout-lines (decode b))

pub laid-lines : (b : List ℕ) → (laid_out b ≡ true) ↔ (HeadLaid b × EntriesLaid (grid_size (decode_shape b)) (decode_shape b).top (count b) b × BlanksLaid (grid_size (decode_shape b)) (count b) (decode_shape b).capacity b)
unfolding laid_out
laid-lines b = (to, back)
  where
    to : laid_out b ≡ true → HeadLaid b × EntriesLaid (grid_size (decode_shape b)) (decode_shape b).top (count b) b × BlanksLaid (grid_size (decode_shape b)) (count b) (decode_shape b).capacity b
    to e =
        let p = and_yes (is_register (decode b)) (equal (layout (decode b)) b) e in
        let o = (register-decides (decode b)).0 p.0 in
        let w = sym (equal-eq (layout (decode b)) b p.1) in
        (head-laid b o w, entries-laid b o w, blanks-laid b o w)

    back : HeadLaid b × EntriesLaid (grid_size (decode_shape b)) (decode_shape b).top (count b) b × BlanksLaid (grid_size (decode_shape b)) (count b) (decode_shape b).capacity b → laid_out b ≡ true
    back h =
        yes_and (is_register (decode b)) (equal (layout (decode b)) b) ((register-decides (decode b)).1 (laid-register b h.0 h.1 h.2)) (eq-equal (layout (decode b)) b (sym (laid-layout b h.0 h.1 h.2)))
