-- A register's layout reads back as itself.
--
--   Wide w ls         ==  every list of ls is w long
--   wide-map, of-replicate  ==  when a mapped list is of lists of one length; what a list of copies holds
--   piece, length-flatten  ==  one of several pieces of one length, put one after another
--   length_fields, field_at, fields_read  ==  numbers in fields of one width; each field taken out, and read back
--   length-ended      ==  how many bytes numbers in fields and a line feed take
--   length-entry, length-blank, length-head, length-entries, length-blanks, length-layout  ==  the lengths of the lines and of the whole
--   Fitted size e, Sized size es  ==  an entry, every entry of es, has so many cells and a holding for each client
--   line-cells, line-holdings, entry-stated  ==  what an entry's line states: its cells, its holdings, itself
--   Printable r       ==  the numbers, cells and holdings of r fit their fields
--   decode-layout     ==  what the layout of a printable register states is that register
--   count-layout      ==  its count
use mathlib.Core.Path.{◌≡◌, refl, sym, ap, ap₂, ◌∙◌}
use mathlib.Core.List.Memᴰ
use mathlib.Core.List.{List, [], ◌∷◌, ◌++◌, map, flatten, append_assoc, append-nil, Memᴰ}
use mathlib.Core.Logic.{◌⊎◌, inl, inr}
use Prim.Native.Nat.{ℕ, zero, suc, ◌+◌, ◌-◌, ◌*◌, ◌^◌, ◌≤◌, ◌<◌}
use native.Mathlib.Nat.{mul_comm, zero-mul, add-mul}
use native.Mathlib.Omega.{arith}
use lib.ListN.{length, get_or, take, drop, replicate, length-append, length-map, length-replicate, get_or-append}
use lib.Seq.{take_at, drop_at, drop-drop, drop-cons, get_or-append-add}
use Rattle.permutations.specs.Lists.{tabulate}
use Rattle.permutations.proofs.ListLaws.{tabulate-is, mem-at, at_map}
use Rattle.layout.specs.Decimal.{field, value}
use Rattle.layout.specs.Layout.{Shape, Entry, Register, clients, grid_size, fields, number_width, cell_width, head_numbers, head_length, entry_width, line_length, entry_line, blank_line, head_list, head_line, layout, layout_length, number_at, cells_of, holdings_of, entry_of, count, entry_at, decode_shape, decode}
use Rattle.layout.specs.Lines.{no_entry}
use Rattle.layout.proofs.DecimalLaws.{value-field, length-field}

-- ---- pieces of one length

abbrev pub Wide : {A : Type 0} → ℕ → List (List A) → Type 0
Wide {A} w ls = (l : List A) → Memᴰ l ls → length l ≡ w

module _ {A : Type 0} where
  drop-flatten : (w : ℕ) (ls : List (List A)) (t : List A) → Wide w ls → (e : ℕ) → e ≤ length ls → drop (e * w) (flatten ls ++ t) ≡ flatten (drop e ls) ++ t
  unfolding flatten
  drop-flatten w ls t h zero le = rw (zero-mul w)
  drop-flatten w [] t h (suc e) le = absurd (omega arith)
  drop-flatten w (l ∷ ls) t h (suc e) le =
      let p : suc e * w ≡ w + e * w = omega arith in
      rw (p, ← (drop-drop (e * w) w ((l ++ flatten ls) ++ t)), append_assoc, drop_at l (flatten ls ++ t) w (h l (Memᴰ.head refl)))
      (drop-flatten w ls t (λ x k. h x (Memᴰ.tail k)) e (omega arith))

  pub piece : (w : ℕ) (ls : List (List A)) (t : List A) → Wide w ls → (e : ℕ) → e < length ls → (u : List A) × (drop (e * w) (flatten ls ++ t) ≡ get_or ls e [] ++ u)
  unfolding flatten
  piece w ls t h e le = (
    flatten (drop (suc e) ls) ++ t,
    drop-flatten w ls t h e (omega arith) ∙ rw (drop-cons ls e [] le) (append_assoc (get_or ls e []) (flatten (drop (suc e) ls)) t),
  )

  pub length-flatten : (w : ℕ) (ls : List (List A)) → Wide w ls → length (flatten ls) ≡ length ls * w
  unfolding flatten
  length-flatten w [] h = sym (zero-mul w)
  length-flatten w (l ∷ ls) h = length-append l (flatten ls) ∙ omega (arith, h l (Memᴰ.head refl), length-flatten w ls (λ x k. h x (Memᴰ.tail k)))

pub wide-map : {A B : Type 0} (f : A → List B) (w : ℕ) (l : List A) → ((a : A) → Memᴰ a l → length (f a) ≡ w) → Wide w (map f l)
wide-map f w l h x k = let r = Memᴰ.of_map f l k in ap length (sym r.2) ∙ h r.0 r.1

pub of-replicate : {A : Type 0} (n : ℕ) (a x : A) → Memᴰ x (replicate n a) → x ≡ a
of-replicate zero a x m = absurd (Memᴰ.not-nil m)
of-replicate (suc n) a x m = go (of-replicate n a x) (Memᴰ.cases_cons m)
  where
    go : (Memᴰ x (replicate n a) → x ≡ a) → (x ≡ a) ⊎ Memᴰ x (replicate n a) → x ≡ a
    go ih (inl e) = e
    go ih (inr k) = ih k

-- ---- fields of one width

wide-fields : (w : ℕ) (l : List ℕ) → Wide w (map (field w) l)
wide-fields w l = wide-map (field w) w l (λ x m. length-field w x)

pub length_fields : (w : ℕ) (l : List ℕ) → length (fields w l) ≡ length l * w
unfolding fields
length_fields w l = length-flatten w (map (field w) l) (wide-fields w l) ∙ ap (λ (k : ℕ). k * w) (length-map l (field w))

pub field_at : (w : ℕ) (l t : List ℕ) (i : ℕ) → i < length l → take w (drop (i * w) (fields w l ++ t)) ≡ field w (get_or l i 0)
unfolding fields
field_at w l t i h =
    let p = piece w (map (field w) l) t (wide-fields w l) i (omega (arith, length-map l (field w))) in
    rw (p.1, at_map (field w) l i 0 [] h) (take_at (field w (get_or l i 0)) p.0 w (length-field w (get_or l i 0)))

pub fields_read : (w : ℕ) (l t : List ℕ) (i : ℕ) → i < length l → get_or l i 0 < 10 ^ suc w → value (take (suc w) (drop (i * suc w) (fields (suc w) l ++ t))) ≡ get_or l i 0
fields_read w l t i h small = ap value (field_at (suc w) l t i h) ∙ value-field w (get_or l i 0) small

-- ---- lines

pub length-ended : (w : ℕ) (l : List ℕ) → length (fields w l ++ (10 ∷ [])) ≡ length l * w + 1
length-ended w l = length-append (fields w l) (10 ∷ []) ∙ ap (λ (n : ℕ). n + 1) (length_fields w l)

pub record Fitted (size : ℕ) (e : Entry) : Type 0 where
  pub cells : length e.grid ≡ size
  pub held : length e.holdings ≡ clients

abbrev pub Sized : ℕ → List Entry → Type 0
Sized size es = (e : Entry) → Memᴰ e es → Fitted size e

pub length-entry : (size : ℕ) (e : Entry) → Fitted size e → length (entry_line e) ≡ line_length size
unfolding entry_line line_length entry_width
length-entry size e f = length-ended cell_width (e.grid ++ e.holdings) ∙ omega (arith, length-append e.grid e.holdings, f.cells, f.held)

pub length-blank : (size : ℕ) → length (blank_line size) ≡ line_length size
unfolding blank_line line_length
length-blank size = length-append (replicate (entry_width size) 32) (10 ∷ []) ∙ omega (arith, length-replicate {A = ℕ} (entry_width size) 32)

pub length-head : (s : Shape) (n : ℕ) → length (head_line s n) ≡ head_length
unfolding head_line
length-head s n = length-ended number_width (head_list s n)

number_read : (l u : List ℕ) (k : ℕ) → k < length l → get_or l k 0 < 1000 → value (take cell_width (drop (cell_width * k) (fields cell_width l ++ u))) ≡ get_or l k 0
number_read l u k h small = rw (mul_comm cell_width k) (fields_read (cell_width - 1) l u k h small)

-- an entry's line, with anything behind it
module _ (size : ℕ) (e : Entry) (f : Fitted size e) (u : List ℕ) where
  pub line-cells : ((k : ℕ) → k < size → get_or e.grid k 0 < 1000) → cells_of size (entry_line e ++ u) ≡ e.grid
  unfolding entry_line cells_of number_at
  line-cells small = tabulate-is 0 e.grid size _ f.cells λ k c. sym (one k c)
    where
      one : (k : ℕ) → k < size → value (take cell_width (drop (cell_width * k) ((fields cell_width (e.grid ++ e.holdings) ++ (10 ∷ [])) ++ u))) ≡ get_or e.grid k 0
      one k c =
          let i = get_or-append e.grid e.holdings 0 k (omega (arith, f.cells)) in
          rw append_assoc (number_read (e.grid ++ e.holdings) ((10 ∷ []) ++ u) k (omega (arith, length-append e.grid e.holdings, f.cells)) (omega (arith, i, small k c)) ∙ i)

  pub line-holdings : ((k : ℕ) → k < clients → get_or e.holdings k 0 < 1000) → holdings_of size (entry_line e ++ u) ≡ e.holdings
  unfolding entry_line holdings_of number_at
  line-holdings small = tabulate-is 0 e.holdings clients _ f.held λ k c. sym (one k c)
    where
      one : (k : ℕ) → k < clients → value (take cell_width (drop (cell_width * (size + k)) ((fields cell_width (e.grid ++ e.holdings) ++ (10 ∷ [])) ++ u))) ≡ get_or e.holdings k 0
      one k c =
          let i = rw f.cells at (get_or-append-add e.grid e.holdings k 0) in
          rw append_assoc (number_read (e.grid ++ e.holdings) ((10 ∷ []) ++ u) (size + k) (omega (arith, length-append e.grid e.holdings, f.cells, f.held)) (omega (arith, i, small k c)) ∙ i)

  pub entry-stated : ((k : ℕ) → k < size → get_or e.grid k 0 < 1000) → ((k : ℕ) → k < clients → get_or e.holdings k 0 < 1000) → entry_of size (entry_line e ++ u) ≡ e
  entry-stated small held = λ i. record { grid = line-cells small i; holdings = line-holdings held i }

-- ---- the whole register

pub record Printable (r : Register) : Type 0 where
  pub rows-small : r.shape.rows < 1000000
  pub columns-small : r.shape.columns < 1000000
  pub top_small : r.shape.top < 1000000
  pub capacity-small : r.shape.capacity < 1000000
  pub count_small : length r.entries < 1000000
  pub entries-sized : Sized (grid_size r.shape) r.entries
  pub cells-small : (e : Entry) → Memᴰ e r.entries → (k : ℕ) → k < grid_size r.shape → get_or e.grid k 0 < 1000
  pub held_small : (e : Entry) → Memᴰ e r.entries → (k : ℕ) → k < clients → get_or e.holdings k 0 < 1000

-- the number at place i of line 1
head_read : (s : Shape) (n : ℕ) (t : List ℕ) (i : ℕ) → i < head_numbers → get_or (head_list s n) i 0 < 1000000 →
    number_at number_width (i * number_width) (head_line s n ++ t) ≡ get_or (head_list s n) i 0
unfolding number_at head_line
head_read s n t i h small = rw append_assoc (fields_read (number_width - 1) (head_list s n) ((10 ∷ []) ++ t) i h small)

-- entry e of the body is read back
entry_read : (size : ℕ) (es : List Entry) (b blanks : List ℕ) → drop head_length b ≡ flatten (map entry_line es) ++ blanks → Sized size es →
    ((e : Entry) → Memᴰ e es → (k : ℕ) → k < size → get_or e.grid k 0 < 1000) → ((e : Entry) → Memᴰ e es → (k : ℕ) → k < clients → get_or e.holdings k 0 < 1000) →
    (e : ℕ) → e < length es → entry_at size b e ≡ get_or es e no_entry
unfolding entry_at
entry_read size es b blanks p sized small held e h =
    rw (← (drop-drop (e * line_length size) head_length b), p, q.1, at_map entry_line es e no_entry [] h, take_at (entry_line x) q.0 (line_length size) (length-entry size x (sized x at)))
    (rw (append-nil (entry_line x)) at (entry-stated size x (sized x at) [] (small x at) (held x at)))
  where
    x : Entry
    x = get_or es e no_entry

    at : Memᴰ x es
    at = mem-at es no_entry e h

    q : (u : List ℕ) × (drop (e * line_length size) (flatten (map entry_line es) ++ blanks) ≡ get_or (map entry_line es) e [] ++ u)
    q = piece (line_length size) (map entry_line es) blanks (wide-map entry_line (line_length size) es (λ y m. length-entry size y (sized y m))) e (omega (arith, length-map es entry_line))

module _ (r : Register) (p : Printable r) where
  body : List ℕ
  body = flatten (map entry_line r.entries) ++ flatten (replicate (r.shape.capacity - length r.entries) (blank_line (grid_size r.shape)))

  shape-read : decode_shape (layout r) ≡ r.shape
  unfolding decode_shape layout body
  shape-read = λ i. record {
    rows = head_read r.shape (length r.entries) body 0 (omega arith) p.rows-small i;
    columns = head_read r.shape (length r.entries) body 1 (omega arith) p.columns-small i;
    top = head_read r.shape (length r.entries) body 2 (omega arith) p.top_small i;
    capacity = head_read r.shape (length r.entries) body 3 (omega arith) p.capacity-small i;
  }

  pub count-layout : count (layout r) ≡ length r.entries
  unfolding count layout body
  count-layout = head_read r.shape (length r.entries) body 4 (omega arith) p.count_small

  past_head : drop head_length (layout r) ≡ body
  unfolding layout body
  past_head = drop_at (head_line r.shape (length r.entries)) body head_length (length-head r.shape (length r.entries))

  entries-read : tabulate 0 (count (layout r)) (entry_at (grid_size (decode_shape (layout r))) (layout r)) ≡ r.entries
  unfolding body
  entries-read =
      rw (count-layout, shape-read)
      (tabulate-is no_entry r.entries (length r.entries) _ refl (λ e h. sym (entry_read (grid_size r.shape) r.entries (layout r) _ past_head p.entries-sized p.cells-small p.held_small e h)))

  pub decode-layout : decode (layout r) ≡ r
  unfolding decode
  decode-layout = λ i. record { shape = shape-read i; entries = entries-read i }

-- the entries' lines, and blank lines
pub length-entries : (size : ℕ) (es : List Entry) → Sized size es → length (flatten (map entry_line es)) ≡ length es * line_length size
length-entries size es sized =
    length-flatten (line_length size) (map entry_line es) (wide-map entry_line (line_length size) es (λ e m. length-entry size e (sized e m)))
    ∙ ap (λ (x : ℕ). x * line_length size) (length-map es entry_line)

pub length-blanks : (size k : ℕ) → length (flatten (replicate k (blank_line size))) ≡ k * line_length size
length-blanks size k =
    length-flatten (line_length size) (replicate k (blank_line size)) (λ l m. ap length (of-replicate k (blank_line size) l m) ∙ length-blank size)
    ∙ ap (λ (x : ℕ). x * line_length size) (length-replicate k (blank_line size))

-- as many bytes as the shape says
pub length-layout : (r : Register) → Sized (grid_size r.shape) r.entries → length r.entries ≤ r.shape.capacity → length (layout r) ≡ layout_length r.shape
unfolding layout layout_length
length-layout r sized fits =
    length-append (head_line r.shape n) (flatten (map entry_line r.entries) ++ blanks)
    ∙ ap₂ ◌+◌ (length-head r.shape n)
    (length-append (flatten (map entry_line r.entries)) blanks
    ∙ ap₂ ◌+◌ (length-entries (grid_size r.shape) r.entries sized) (length-blanks (grid_size r.shape) (c - n))
    ∙ sym (add-mul n (c - n) (line_length (grid_size r.shape)))
    ∙ ap (λ (x : ℕ). x * line_length (grid_size r.shape)) whole)
  where
    n : ℕ
    n = length r.entries

    c : ℕ
    c = r.shape.capacity

    blanks : List ℕ
    blanks = flatten (replicate (c - n) (blank_line (grid_size r.shape)))

    whole : n + (c - n) ≡ c
    whole = omega arith
