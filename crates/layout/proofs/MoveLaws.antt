-- What a line put in, a line taken out, a holding changed and the writing of a new register do to the register's bytes.
--
--   insert-layout     ==  the lines from p on moved one line further, the line of an entry put at p and the count one higher: the entry is put in at p
--   remove-layout     ==  the lines after p moved one line back, a blank line after them and the count one lower: entry p is taken out
--   change-layout     ==  a number written over a client's holding in the line of entry p: that holding is changed
--   Opened s k b      ==  b is as long as the shape says, and begins with line 1 of an empty register and k blank lines
--   opened-head, opened-next, opened-all  ==  line 1 is written, then each blank line, and then all is the layout of an empty register
--   opened-head-part  ==  the same of line 1 put back after it is written
--   opened_inside     ==  the next blank line lies inside the bytes
use mathlib.Core.Path.{◌≡◌, refl, sym, ap, ap₂, ◌∙◌}
use mathlib.Core.List.Memᴰ
use mathlib.Core.List.{List, [], ◌∷◌, ◌++◌, map, flatten, append_assoc, append-nil, map-append}
use Prim.Native.Nat.{ℕ, suc, ◌+◌, ◌-◌, ◌*◌, ◌≤◌, ◌<◌}
use native.Mathlib.Nat.{add_comm, add-mul, mul-le-mul_right}
use native.Mathlib.Omega.{arith}
use lib.ListN.{length, get_or, take, drop, replicate, length-append, length-drop, take-append-drop, replicate-append-replicate}
use lib.Seq.{take_at, drop_at, drop-drop, split_at, set_split, length-take-le}
use Rattle.permutations.proofs.ListLaws.{mem-at}
use Rattle.layout.specs.Decimal.{field}
use Rattle.layout.specs.Layout.{Shape, Entry, Register, clients, grid_size, changed, fields, number_width, cell_width, count_place, head_length, line_length, line_start, entry_line, blank_line, head_line, layout, layout_length}
use Rattle.layout.specs.Lines.{no_entry, with_field}
use Rattle.layout.proofs.DecimalLaws.{length-field}
use Rattle.layout.proofs.LineLaws.{flatten-append, nothing}
use Rattle.layout.proofs.LayoutLaws.{Fitted, Sized, length_fields, length-entry, length-blank, length-head, length-entries, length-blanks}

abbrev Entries : Type 0
Entries = List Entry

-- ---- parts of a list that are moved

before-start : (h x u b : List ℕ) (start : ℕ) → b ≡ h ++ (x ++ u) → length h + length x ≡ start → take start b ≡ h ++ x
before-start h x u b start e at = rw (e, ← (append_assoc h x u)) (take_at (h ++ x) u start (length-append h x ∙ at))

from_start : (h x u b : List ℕ) (start : ℕ) → b ≡ h ++ (x ++ u) → length h + length x ≡ start → drop start b ≡ u
from_start h x u b start e at = rw (e, ← (append_assoc h x u)) (drop_at (h ++ x) u start (length-append h x ∙ at))

-- g put in at start, y moved over z
put_in : (h x y z t g b : List ℕ) (start moved w : ℕ) → b ≡ h ++ (x ++ (y ++ (z ++ t))) → length h + length x ≡ start → length y ≡ moved → length z ≡ w →
    take start b ++ (g ++ (take moved (drop start b) ++ drop (moved + w) (drop start b))) ≡ h ++ (x ++ (g ++ (y ++ t)))
put_in h x y z t g b start moved w e at ly lz =
    rw (
      before-start h x (y ++ (z ++ t)) b start e at,
      from_start h x (y ++ (z ++ t)) b start e at,
      take_at y (z ++ t) moved ly,
      ← (drop-drop w moved (y ++ (z ++ t))),
      drop_at y (z ++ t) moved ly,
      drop_at z t w lz,
    )
    (append_assoc h x (g ++ (y ++ t)))

-- d taken out at start, y moved over it, z put behind y
take_out : (h x d y t z b : List ℕ) (start moved w : ℕ) → b ≡ h ++ (x ++ (d ++ (y ++ t))) → length h + length x ≡ start → length d ≡ w → length y ≡ moved →
    take start b ++ (take moved (drop w (drop start b)) ++ (z ++ drop (moved + w) (drop start b))) ≡ h ++ (x ++ (y ++ (z ++ t)))
take_out h x d y t z b start moved w e at ld ly =
    rw (
      before-start h x (d ++ (y ++ t)) b start e at,
      from_start h x (d ++ (y ++ t)) b start e at,
      add_comm moved w,
      ← (drop-drop moved w (d ++ (y ++ t))),
      drop_at d (y ++ t) w ld,
      take_at y t moved ly,
      drop_at y t moved ly,
    )
    (append_assoc h x (y ++ (z ++ t)))

-- d written over by z
put-over : (h x d t z b : List ℕ) (start w : ℕ) → b ≡ h ++ (x ++ (d ++ t)) → length h + length x ≡ start → length d ≡ w →
    take start b ++ (z ++ drop w (drop start b)) ≡ h ++ (x ++ (z ++ t))
put-over h x d t z b start w e at ld =
    rw (before-start h x (d ++ t) b start e at, from_start h x (d ++ t) b start e at, drop_at d t w ld) (append_assoc h x (z ++ t))

put-field : (a f f' c u b : List ℕ) (j k : ℕ) → b ≡ (a ++ (f ++ c)) ++ u → length a ≡ j → length f ≡ k → take j b ++ (f' ++ drop k (drop j b)) ≡ (a ++ (f' ++ c)) ++ u
put-field a f f' c u b j k e la lf =
    rw (e, append_assoc a (f ++ c) u, append_assoc f c u, take_at a (f ++ (c ++ u)) j la, drop_at a (f ++ (c ++ u)) j la, drop_at f (c ++ u) k lf, append_assoc a (f' ++ c) u, append_assoc f' c u)

-- ---- line 1

four : Shape → List ℕ
four s = s.rows ∷ s.columns ∷ s.top ∷ s.capacity ∷ []

head-parts : (s : Shape) (n : ℕ) → head_line s n ≡ fields number_width (four s) ++ (field number_width n ++ (10 ∷ []))
unfolding head_line fields flatten four
head-parts s n = simp append_assoc

-- line 1 with another count
recount : (s : Shape) (n m : ℕ) (u b : List ℕ) → b ≡ head_line s n ++ u → with_field count_place m b ≡ head_line s m ++ u
unfolding with_field four
recount s n m u b e =
    put-field (fields number_width (four s)) (field number_width n) (field number_width m) (10 ∷ []) u b count_place number_width (e ∙ ap (λ (l : List ℕ). l ++ u) (head-parts s n)) (length_fields number_width (four s)) (length-field number_width n)
    ∙ ap (λ (l : List ℕ). l ++ u) (sym (head-parts s m))

-- ---- the lines

abbrev entry_lines : Entries → List ℕ
entry_lines es = flatten (map entry_line es)

abbrev blank_lines : ℕ → ℕ → List ℕ
blank_lines size k = flatten (replicate k (blank_line size))

entries-append : (a b : Entries) → entry_lines (a ++ b) ≡ entry_lines a ++ entry_lines b
entries-append a b = ap flatten (map-append entry_line a b) ∙ flatten-append (map entry_line a) (map entry_line b)

layout_is : (s : Shape) (es : Entries) (n m : ℕ) → length es ≡ n → s.capacity - n ≡ m → layout (record { shape = s; entries = es }) ≡ head_line s n ++ (entry_lines es ++ blank_lines (grid_size s) m)
unfolding layout
layout_is s es n m e d = rw (e, d)

layout-parts : (s : Shape) (xs ys : Entries) (n m : ℕ) → length (xs ++ ys) ≡ n → s.capacity - n ≡ m →
    layout (record { shape = s; entries = xs ++ ys }) ≡ head_line s n ++ (entry_lines xs ++ (entry_lines ys ++ blank_lines (grid_size s) m))
layout-parts s xs ys n m e d =
    layout_is s (xs ++ ys) n m e d
    ∙ ap (λ (l : List ℕ). head_line s n ++ l) (ap (λ (l : List ℕ). l ++ blank_lines (grid_size s) m) (entries-append xs ys) ∙ append_assoc (entry_lines xs) (entry_lines ys) (blank_lines (grid_size s) m))

entries-cons : (g : Entry) (ys : Entries) (t : List ℕ) → entry_lines (g ∷ ys) ++ t ≡ entry_line g ++ (entry_lines ys ++ t)
unfolding flatten
entries-cons g ys t = append_assoc (entry_line g) (entry_lines ys) t

blanks-cons : (size m : ℕ) → blank_lines size (suc m) ≡ blank_line size ++ blank_lines size m
unfolding flatten
blanks-cons size m = refl

sized-take : (size p : ℕ) (es : Entries) → Sized size es → Sized size (take p es)
sized-take size p es h g m = h g (rw (take-append-drop p es) at (Memᴰ.append_left (drop p es) m))

sized-drop : (size p : ℕ) (es : Entries) → Sized size es → Sized size (drop p es)
sized-drop size p es h g m = h g (rw (take-append-drop p es) at (Memᴰ.append_right (take p es) m))

-- the lines before p, with line 1
start_is : (s : Shape) (n p : ℕ) (xs : Entries) → Sized (grid_size s) xs → length xs ≡ p → length (head_line s n) + length (entry_lines xs) ≡ line_start (grid_size s) p
start_is s n p xs sized e = ap₂ ◌+◌ (length-head s n) (length-entries (grid_size s) xs sized ∙ ap (λ (k : ℕ). k * line_length (grid_size s)) e)

-- as many lines
lines_are : (size k : ℕ) (ys : Entries) → Sized size ys → length ys ≡ k → length (entry_lines ys) ≡ k * line_length size
lines_are size k ys sized e = length-entries size ys sized ∙ ap (λ (k : ℕ). k * line_length size) e

-- ---- a line put in, a line taken out

module _ (s : Shape) (xs ys : Entries) (g : Entry) (n p m : ℕ) (front : Sized (grid_size s) xs) (back : Sized (grid_size s) ys) where
  insert-parts : (b b₁ : List ℕ) → length xs ≡ p → p + length ys ≡ n → s.capacity - n ≡ suc m → b ≡ layout (record { shape = s; entries = xs ++ ys }) →
      b₁ ≡ take (line_start (grid_size s) p) b ++ (entry_line g ++ (take ((n - p) * line_length (grid_size s)) (drop (line_start (grid_size s) p) b) ++ drop ((n - p) * line_length (grid_size s) + line_length (grid_size s)) (drop (line_start (grid_size s) p) b))) →
      with_field count_place (n + 1) b₁ ≡ layout (record { shape = s; entries = xs ++ (g ∷ ys) })
  insert-parts b b₁ lx ly room e d =
      recount s n (n + 1) (entry_lines xs ++ (entry_line g ++ (entry_lines ys ++ blank_lines (grid_size s) m))) b₁
      (d ∙ put_in (head_line s n) (entry_lines xs) (entry_lines ys) (blank_line (grid_size s)) (blank_lines (grid_size s) m) (entry_line g) b _ _ _
      (e ∙ layout-parts s xs ys n (suc m) (length-append xs ys ∙ omega arith) room
      ∙ ap (λ (l : List ℕ). head_line s n ++ (entry_lines xs ++ (entry_lines ys ++ l))) (blanks-cons (grid_size s) m))
      (start_is s n p xs front lx) (lines_are (grid_size s) (n - p) ys back (omega arith)) (length-blank (grid_size s)))
      ∙ sym
      (layout-parts s xs (g ∷ ys) (n + 1) m (length-append xs (g ∷ ys) ∙ omega arith) (omega arith)
      ∙ ap (λ (l : List ℕ). head_line s (n + 1) ++ (entry_lines xs ++ l)) (entries-cons g ys (blank_lines (grid_size s) m)))

  remove-parts : (b b₁ : List ℕ) → length xs ≡ p → Fitted (grid_size s) g → p + suc (length ys) ≡ n → n ≤ s.capacity → s.capacity - n ≡ m → b ≡ layout (record { shape = s; entries = xs ++ (g ∷ ys) }) →
      b₁ ≡ take (line_start (grid_size s) p) b ++ (take ((n - (p + 1)) * line_length (grid_size s)) (drop (line_length (grid_size s)) (drop (line_start (grid_size s) p) b)) ++ (blank_line (grid_size s) ++ drop ((n - (p + 1)) * line_length (grid_size s) + line_length (grid_size s)) (drop (line_start (grid_size s) p) b))) →
      with_field count_place (n - 1) b₁ ≡ layout (record { shape = s; entries = xs ++ ys })
  remove-parts b b₁ lx lg ly fits room e d =
      recount s n (n - 1) (entry_lines xs ++ (entry_lines ys ++ (blank_line (grid_size s) ++ blank_lines (grid_size s) m))) b₁
      (d ∙ take_out (head_line s n) (entry_lines xs) (entry_line g) (entry_lines ys) (blank_lines (grid_size s) m) (blank_line (grid_size s)) b _ _ _
      (e ∙ layout-parts s xs (g ∷ ys) n m (length-append xs (g ∷ ys) ∙ omega arith) room
      ∙ ap (λ (l : List ℕ). head_line s n ++ (entry_lines xs ++ l)) (entries-cons g ys (blank_lines (grid_size s) m)))
      (start_is s n p xs front lx) (length-entry (grid_size s) g lg) (lines_are (grid_size s) (n - (p + 1)) ys back (omega arith)))
      ∙ sym
      (layout-parts s xs ys (n - 1) (suc m) (length-append xs ys ∙ omega arith) (omega arith)
      ∙ ap (λ (l : List ℕ). head_line s (n - 1) ++ (entry_lines xs ++ (entry_lines ys ++ l))) (blanks-cons (grid_size s) m))

-- a register with its entries in two parts
rejoined : (r : Register) (es : Entries) → es ≡ r.entries → layout r ≡ layout (record { shape = r.shape; entries = es })
rejoined r es e = λ i. layout (record { shape = r.shape; entries = sym e i })

pub insert-layout : (r : Register) (b b₁ : List ℕ) (g : Entry) (p : ℕ) → Sized (grid_size r.shape) r.entries → b ≡ layout r → length r.entries < r.shape.capacity → p ≤ length r.entries →
    b₁ ≡ take (line_start (grid_size r.shape) p) b
    ++ (entry_line g
    ++ (take ((length r.entries - p) * line_length (grid_size r.shape)) (drop (line_start (grid_size r.shape) p) b)
    ++ drop ((length r.entries - p) * line_length (grid_size r.shape) + line_length (grid_size r.shape)) (drop (line_start (grid_size r.shape) p) b))) →
    with_field count_place (length r.entries + 1) b₁ ≡ layout (record { shape = r.shape; entries = take p r.entries ++ (g ∷ drop p r.entries) })
insert-layout r b b₁ g p sized e room inside d =
    insert-parts r.shape (take p r.entries) (drop p r.entries) g (length r.entries) p (r.shape.capacity - length r.entries - 1)
    (sized-take _ p r.entries sized) (sized-drop _ p r.entries sized) b b₁
    (length-take-le p r.entries inside) (omega (arith, length-drop p r.entries)) (omega arith)
    (e ∙ rejoined r (take p r.entries ++ drop p r.entries) (take-append-drop p r.entries)) d

pub remove-layout : (r : Register) (b b₁ : List ℕ) (p : ℕ) → Sized (grid_size r.shape) r.entries → b ≡ layout r → length r.entries ≤ r.shape.capacity → p < length r.entries →
    b₁ ≡ take (line_start (grid_size r.shape) p) b
    ++ (take ((length r.entries - (p + 1)) * line_length (grid_size r.shape)) (drop (line_length (grid_size r.shape)) (drop (line_start (grid_size r.shape) p) b))
    ++ (blank_line (grid_size r.shape)
    ++ drop ((length r.entries - (p + 1)) * line_length (grid_size r.shape) + line_length (grid_size r.shape)) (drop (line_start (grid_size r.shape) p) b))) →
    with_field count_place (length r.entries - 1) b₁ ≡ layout (record { shape = r.shape; entries = take p r.entries ++ drop (suc p) r.entries })
remove-layout r b b₁ p sized e fits inside d =
    remove-parts r.shape (take p r.entries) (drop (suc p) r.entries) (get_or r.entries p no_entry) (length r.entries) p (r.shape.capacity - length r.entries)
    (sized-take _ p r.entries sized) (sized-drop _ (suc p) r.entries sized) b b₁
    (length-take-le p r.entries (omega arith)) (sized (get_or r.entries p no_entry) (mem-at r.entries no_entry p inside)) (omega (arith, length-drop (suc p) r.entries)) fits refl
    (e ∙ rejoined r (take p r.entries ++ (get_or r.entries p no_entry ∷ drop (suc p) r.entries)) (sym (split_at r.entries p no_entry inside))) d

-- ---- a holding changed

fields-append : (w : ℕ) (a b : List ℕ) → fields w (a ++ b) ≡ fields w a ++ fields w b
unfolding fields
fields-append w a b = ap flatten (map-append (field w) a b) ∙ flatten-append (map (field w) a) (map (field w) b)

-- a line by one of its numbers
line-parts : (pre post : List ℕ) (y : ℕ) (u : List ℕ) → (fields cell_width (pre ++ (y ∷ post)) ++ (10 ∷ [])) ++ u ≡ fields cell_width pre ++ (field cell_width y ++ (fields cell_width post ++ ((10 ∷ []) ++ u)))
unfolding fields flatten
line-parts pre post y u =
    append_assoc (fields cell_width (pre ++ (y ∷ post))) (10 ∷ []) u
    ∙ ap (λ (l : List ℕ). l ++ ((10 ∷ []) ++ u)) (fields-append cell_width pre (y ∷ post))
    ∙ append_assoc (fields cell_width pre) (field cell_width y ++ fields cell_width post) ((10 ∷ []) ++ u)
    ∙ ap (λ (l : List ℕ). fields cell_width pre ++ l) (append_assoc (field cell_width y) (fields cell_width post) ((10 ∷ []) ++ u))

module _ (e : Entry) (c : ℕ) (inside : c - 1 < length e.holdings) where
  before : List ℕ
  before = e.grid ++ take (c - 1) e.holdings

  behind : List ℕ
  behind = drop (suc (c - 1)) e.holdings

  length_before : length before ≡ length e.grid + (c - 1)
  unfolding before
  length_before = length-append e.grid (take (c - 1) e.holdings) ∙ ap (λ (k : ℕ). length e.grid + k) (length-take-le (c - 1) e.holdings (omega arith))

  entry-parts : (u : List ℕ) → entry_line e ++ u ≡ fields cell_width before ++ (field cell_width (get_or e.holdings (c - 1) 0) ++ (fields cell_width behind ++ ((10 ∷ []) ++ u)))
  unfolding entry_line before behind
  entry-parts u =
      ap (λ (l : List ℕ). (fields cell_width l ++ (10 ∷ [])) ++ u)
      (ap (λ (l : List ℕ). e.grid ++ l) (split_at e.holdings (c - 1) 0 inside) ∙ sym (append_assoc e.grid (take (c - 1) e.holdings) (get_or e.holdings (c - 1) 0 ∷ drop (suc (c - 1)) e.holdings)))
      ∙ line-parts (e.grid ++ take (c - 1) e.holdings) (drop (suc (c - 1)) e.holdings) (get_or e.holdings (c - 1) 0) u

  changed-parts : (x : ℕ) (u : List ℕ) → entry_line (record { grid = e.grid; holdings = changed c x e.holdings }) ++ u ≡ fields cell_width before ++ (field cell_width x ++ (fields cell_width behind ++ ((10 ∷ []) ++ u)))
  unfolding entry_line before behind changed
  changed-parts x u =
      ap (λ (l : List ℕ). (fields cell_width l ++ (10 ∷ [])) ++ u)
      (ap (λ (l : List ℕ). e.grid ++ l) (set_split e.holdings (c - 1) x inside) ∙ sym (append_assoc e.grid (take (c - 1) e.holdings) (x ∷ drop (suc (c - 1)) e.holdings)))
      ∙ line-parts (e.grid ++ take (c - 1) e.holdings) (drop (suc (c - 1)) e.holdings) x u

  -- the line with the number written over
  written_over : (x k : ℕ) (u t : List ℕ) → k ≡ cell_width * (length e.grid + (c - 1)) → t ≡ entry_line e ++ u →
      take k t ++ (field cell_width x ++ drop cell_width (drop k t)) ≡ entry_line (record { grid = e.grid; holdings = changed c x e.holdings }) ++ u
  written_over x k u t ke te =
      rw (te ∙ entry-parts u, take_at (fields cell_width before) _ k wide, drop_at (fields cell_width before) (field cell_width (get_or e.holdings (c - 1) 0) ++ (fields cell_width behind ++ ((10 ∷ []) ++ u))) k wide, drop_at (field cell_width (get_or e.holdings (c - 1) 0)) (fields cell_width behind ++ ((10 ∷ []) ++ u)) cell_width (length-field cell_width (get_or e.holdings (c - 1) 0)))
      (sym (changed-parts x u))
    where
      wide : length (fields cell_width before) ≡ k
      wide = length_fields cell_width before ∙ omega (arith, length_before, ke)

pub change-layout : (r : Register) (b b₁ : List ℕ) (p c x k : ℕ) → Sized (grid_size r.shape) r.entries → b ≡ layout r → p < length r.entries → 1 ≤ c → c ≤ clients → k ≡ cell_width * (grid_size r.shape + (c - 1)) →
    b₁ ≡ take (line_start (grid_size r.shape) p) b ++ (take k (drop (line_start (grid_size r.shape) p) b) ++ (field cell_width x ++ drop cell_width (drop k (drop (line_start (grid_size r.shape) p) b)))) →
    b₁ ≡ layout (record { shape = r.shape; entries = take p r.entries ++ (record { grid = (get_or r.entries p no_entry).grid; holdings = changed c x (get_or r.entries p no_entry).holdings } ∷ drop (suc p) r.entries) })
change-layout r b b₁ p c x k sized e inside low high at d =
    d
    ∙ ap₂ ◌++◌ (before-start head xs (entry_line g ++ rest) b start parts starts)
    (written_over g c held x k rest (drop start b) (at ∙ ap (λ (i : ℕ). cell_width * (i + (c - 1))) (sym fit.cells)) (from_start head xs (entry_line g ++ rest) b start parts starts))
    ∙ append_assoc head xs (entry_line g' ++ rest)
    ∙ sym (layout-parts r.shape (take p r.entries) (g' ∷ drop (suc p) r.entries) n m count' refl ∙ ap (λ (l : List ℕ). head ++ (xs ++ l)) (entries-cons g' (drop (suc p) r.entries) (blank_lines (grid_size r.shape) m)))
  where
    n : ℕ
    n = length r.entries

    m : ℕ
    m = r.shape.capacity - n

    start : ℕ
    start = line_start (grid_size r.shape) p

    g : Entry
    g = get_or r.entries p no_entry

    g' : Entry
    g' = record { grid = g.grid; holdings = changed c x g.holdings }

    fit : Fitted (grid_size r.shape) g
    fit = sized g (mem-at r.entries no_entry p inside)

    held : c - 1 < length g.holdings
    held = omega (arith, fit.held)

    head : List ℕ
    head = head_line r.shape n

    xs : List ℕ
    xs = entry_lines (take p r.entries)

    rest : List ℕ
    rest = entry_lines (drop (suc p) r.entries) ++ blank_lines (grid_size r.shape) m

    starts : length head + length xs ≡ start
    starts = start_is r.shape n p (take p r.entries) (sized-take _ p r.entries sized) (length-take-le p r.entries (omega arith))

    count : length (take p r.entries ++ (g ∷ drop (suc p) r.entries)) ≡ n
    count = ap length (sym (split_at r.entries p no_entry inside))

    count' : length (take p r.entries ++ (g' ∷ drop (suc p) r.entries)) ≡ n
    count' = length-append (take p r.entries) (g' ∷ drop (suc p) r.entries) ∙ sym (length-append (take p r.entries) (g ∷ drop (suc p) r.entries)) ∙ count

    parts : b ≡ head ++ (xs ++ (entry_line g ++ rest))
    parts =
        e ∙ rejoined r (take p r.entries ++ (g ∷ drop (suc p) r.entries)) (sym (split_at r.entries p no_entry inside))
        ∙ layout-parts r.shape (take p r.entries) (g ∷ drop (suc p) r.entries) n m count refl
        ∙ ap (λ (l : List ℕ). head ++ (xs ++ l)) (entries-cons g (drop (suc p) r.entries) (blank_lines (grid_size r.shape) m))

-- ---- a new register

-- b is as long as the shape says, and begins with line 1 of an empty register and k blank lines
pub record Opened (s : Shape) (k : ℕ) (b : List ℕ) : Type 0 where
  pub sized : length b ≡ layout_length s
  pub rest : List ℕ
  pub bytes : b ≡ head_line s 0 ++ (flatten (replicate k (blank_line (grid_size s))) ++ rest)

blank-start : (s : Shape) (k : ℕ) → length (head_line s 0) + length (blank_lines (grid_size s) k) ≡ line_start (grid_size s) k
blank-start s k = ap₂ ◌+◌ (length-head s 0) (length-blanks (grid_size s) k)

blanks-snoc : (size k : ℕ) (t : List ℕ) → blank_lines size k ++ (blank_line size ++ t) ≡ blank_lines size (k + 1) ++ t
unfolding flatten
blanks-snoc size k t = sym (append_assoc (blank_lines size k) (blank_line size) t) ∙ ap (λ (l : List ℕ). l ++ t) (sym grown)
  where
    grown : blank_lines size (k + 1) ≡ blank_lines size k ++ blank_line size
    grown =
        ap flatten (sym (replicate-append-replicate k 1 (blank_line size)))
        ∙ flatten-append (replicate k (blank_line size)) (blank_line size ∷ [])
        ∙ ap (λ (l : List ℕ). blank_lines size k ++ l) (append-nil (blank_line size))

length-opened : {s : Shape} {k : ℕ} {b : List ℕ} (o : Opened s k b) → length b ≡ line_start (grid_size s) k + length o.rest
length-opened {s} {k} o =
    ap length o.bytes
    ∙ length-append (head_line s 0) (blank_lines (grid_size s) k ++ o.rest)
    ∙ omega (arith, length-append (blank_lines (grid_size s) k) o.rest, blank-start s k)

length_over : (z b : List ℕ) (start w : ℕ) → start + w ≤ length b → length z ≡ w → length (take start b ++ (z ++ drop w (drop start b))) ≡ length b
length_over z b start w h lz =
    length-append (take start b) (z ++ drop w (drop start b))
    ∙ omega (arith, length-take-le start b (omega arith), length-append z (drop w (drop start b)), length-drop w (drop start b), length-drop start b)

pub opened_inside : {s : Shape} {k : ℕ} {b : List ℕ} → Opened s k b → k < s.capacity → line_start (grid_size s) k + line_length (grid_size s) ≤ length b
unfolding layout_length
opened_inside {s} {k} {b} o room =
    let q : (k + 1) * line_length (grid_size s) ≤ s.capacity * line_length (grid_size s) = mul-le-mul_right (line_length (grid_size s)) (omega arith) in
    rw o.sized (omega (arith, add-mul k 1 (line_length (grid_size s))))

pub opened-head : {s : Shape} (b : List ℕ) → length b ≡ layout_length s → Opened s 0 (head_line s 0 ++ drop head_length b)
unfolding flatten layout_length
opened-head {s} b e = record {
  sized = length-append (head_line s 0) (drop head_length b) ∙ omega (arith, length-head s 0, length-drop head_length b);
  rest = drop head_length b;
  bytes = refl;
}

pub opened-next : {s : Shape} {k : ℕ} {b : List ℕ} → Opened s k b → k < s.capacity →
    Opened s (k + 1) (take (line_start (grid_size s) k) b ++ (blank_line (grid_size s) ++ drop (line_length (grid_size s)) (drop (line_start (grid_size s) k) b)))
opened-next {s} {k} {b} o room = record {
  sized = length_over (blank_line (grid_size s)) b (line_start (grid_size s) k) (line_length (grid_size s)) (opened_inside o room) (length-blank (grid_size s)) ∙ o.sized;
  rest = drop (line_length (grid_size s)) o.rest;
  bytes =
      put-over (head_line s 0) (blank_lines (grid_size s) k) (take (line_length (grid_size s)) o.rest) (drop (line_length (grid_size s)) o.rest) (blank_line (grid_size s)) b (line_start (grid_size s) k) (line_length (grid_size s))
      (rw (take-append-drop (line_length (grid_size s)) o.rest) o.bytes)
      (blank-start s k)
      (length-take-le (line_length (grid_size s)) o.rest (omega (arith, length-opened o, opened_inside o room)))
      ∙ ap (λ (l : List ℕ). head_line s 0 ++ l) (blanks-snoc (grid_size s) k (drop (line_length (grid_size s)) o.rest));
}

-- the same in the form of a part put back after it is written
pub opened-head-part : {s : Shape} (b : List ℕ) {b₁ ys : List ℕ} → length b ≡ layout_length s → ys ≡ head_line s 0 → b₁ ≡ take 0 b ++ (ys ++ drop (head_length - 0) (drop 0 b)) → Opened s 0 b₁
opened-head-part b sized e d = rw (d, e) (opened-head b sized)

pub opened-all : {s : Shape} {b : List ℕ} → Opened s s.capacity b → b ≡ layout (record { shape = s; entries = [] })
unfolding layout_length flatten
opened-all {s} {b} o =
    o.bytes
    ∙ ap (λ (l : List ℕ). head_line s 0 ++ (blank_lines (grid_size s) s.capacity ++ l)) (nothing o.rest (omega (arith, length-opened o, o.sized)))
    ∙ ap (λ (l : List ℕ). head_line s 0 ++ l) (append-nil (blank_lines (grid_size s) s.capacity))
    ∙ sym (layout_is s [] 0 s.capacity refl (omega arith))
