-- A line put into a register or taken out of it, or a holding changed in it, as the code does it: the part from the line's first byte on is lent,
-- and then, where the count changes, the count is written.
--
--   Room b start moved w     ==  from start on there is room for so many bytes and a line
--   lines_fit                ==  so many lines and one more fit a register
--   room-insert, room-remove ==  there is, where a line is put in, or taken out
--   room-part                ==  it is room in the part that is lent
--   put-tail, tail-part      ==  a part up to the end
--   put-fits                 ==  the bytes are as many as before
--   bytes-inserted, bytes-removed, bytes-changed  ==  the bytes afterwards are the layout with the entry put in, taken out, or with another holding
use mathlib.Core.Path.{◌≡◌, ap, ◌∙◌}
use mathlib.Core.List.{List, ◌∷◌, ◌++◌, append-nil}
use Prim.Native.Nat.{ℕ, suc, ◌+◌, ◌-◌, ◌*◌, ◌≤◌, ◌<◌}
use native.Mathlib.Nat.{mul-le-mul}
use native.Mathlib.Omega.{arith}
use lib.ListN.{length, get_or, take, drop, length-drop}
use lib.Seq.{take_all, drop-drop, drop-length}
use borrow.Rule.Slice.PartMut.{mid_of, put_mid, same_len_mid}
use Rattle.layout.specs.Decimal.{field}
use Rattle.layout.specs.Layout.{Entry, clients, grid_size, changed, cell_width, count_place, head_length, line_length, line_start, entry_line, blank_line, layout, decode_shape, decode}
use Rattle.layout.specs.Lines.{no_entry, with_field}
use Rattle.layout.proofs.LayoutLaws.{Fitted}
use Rattle.layout.proofs.MoveLaws.{insert-layout, remove-layout, change-layout}
use Rattle.calls.specs.Valid.{Valid}
use Rattle.calls.proofs.ValidLaws.{capacity-stated, valid-register, valid-layout, valid-count, valid-sized, valid-sizes}

pub record Room (b : List ℕ) (start moved w : ℕ) : Type 0 where
  pub past_head : head_length ≤ start
  pub start-inside : start ≤ length b
  pub end-inside : start + moved + w ≤ length b
  pub small : start + moved + w ≤ head_length + 204500

pub lines_fit : (b : List ℕ) (p d c size : ℕ) → p + d + 1 ≤ c → length b ≡ line_start size c → c ≤ 500 → line_length size ≤ 409 → Room b (line_start size p) (d * line_length size) (line_length size)
lines_fit b p d c size h l a e =
    let x = mul-le-mul {n₁ = p + d + 1} {m₁ = line_length size} {n₂ = c} {m₂ = line_length size} h (omega arith) in
    let y = mul-le-mul {n₁ = p + d + 1} {m₁ = line_length size} {n₂ = 500} {m₂ = 409} (omega arith) (omega arith) in
    record { past_head = omega arith; start-inside = omega (arith, l, x); end-inside = omega (arith, l, x); small = omega (arith, y) }

-- ---- a part up to the end

module _ (b : List ℕ) (a : ℕ) (h : a ≤ length b) where
  pub tail-part : mid_of a (length b - a) b ≡ drop a b
  tail-part = take_all (length b - a) (drop a b) (omega (arith, length-drop a b))

  pub put-tail : (ys : List ℕ) → put_mid a (length b - a) b ys ≡ take a b ++ ys
  put-tail ys =
      let e : a + (length b - a) ≡ length b = omega arith in
      ap (λ (r : List ℕ). take a b ++ (ys ++ r)) (drop-drop (length b - a) a b ∙ ap (λ (i : ℕ). drop i b) e ∙ drop-length b) ∙ ap (λ (r : List ℕ). take a b ++ r) (append-nil ys)

pub room-part : {b : List ℕ} {start moved w v : ℕ} → Room b start moved w → v ≡ w → moved + v ≤ length (mid_of start (length b - start) b)
room-part {b} {start} r e = rw (tail-part b start r.start-inside) (omega (arith, length-drop start b, r.end-inside, r.start-inside))

pub put-fits : {b : List ℕ} {start moved w : ℕ} → Room b start moved w → (ys : List ℕ) → length ys ≡ length (mid_of start (length b - start) b) → head_length ≤ length (put_mid start (length b - start) b ys)
put-fits {b} {start} r ys e = omega (arith, same_len_mid start (length b - start) b ys e, r.past_head, r.start-inside)

-- ---- the lines: line p begins at a, and its length is w

module _ {size n : ℕ} {b : List ℕ} (k : Valid size n b) (p : ℕ) {a w : ℕ} (s : a ≡ line_start size p) (q : w ≡ line_length size) where
  pub room-insert : p ≤ n → n < (decode_shape b).capacity → Room b a ((n - p) * w) w
  room-insert i h =
      let z = valid-sizes k in
      rw (s, q) (lines_fit b p (n - p) (decode_shape b).capacity size (omega arith) z.length-is z.capacity-fits z.width_fits)

  pub room-remove : p < n → Room b a ((n - (p + 1)) * w) w
  room-remove h =
      let z = valid-sizes k in
      rw (s, q) (lines_fit b p (n - (p + 1)) (decode_shape b).capacity size (omega (arith, z.count_fits)) z.length-is z.capacity-fits z.width_fits)

  cells_are : size ≡ grid_size (decode b).shape
  unfolding decode
  cells_are = k.sized

  pub bytes-inserted : p ≤ n → n < (decode_shape b).capacity → (g : Entry) (ys : List ℕ) → Fitted size g →
      ys ≡ entry_line g ++ (take ((n - p) * w) (mid_of a (length b - a) b) ++ drop ((n - p) * w + line_length (length g.grid)) (mid_of a (length b - a) b)) →
      with_field count_place (n + 1) (put_mid a (length b - a) b ys) ≡ layout (record { shape = (decode b).shape; entries = take p (decode b).entries ++ (g ∷ drop p (decode b).entries) })
  bytes-inserted i h g ys gs e =
      rw (valid-count k) at
      (insert-layout (decode b) b (put_mid a (length b - a) b ys) g p (valid-sized k) (valid-layout k) (omega (arith, valid-count k, capacity-stated b)) (omega (arith, valid-count k))
      (rw (← cells_are, valid-count k, ← s, ← q) (put-tail b a (room-insert i h).start-inside ys ∙ ap (λ (l : List ℕ). take a b ++ l) (rw (tail-part b a (room-insert i h).start-inside, gs.cells, ← q) at e))))

  pub bytes-removed : p < n → (ys : List ℕ) →
      ys ≡ take ((n - (p + 1)) * w) (drop (line_length size) (mid_of a (length b - a) b)) ++ (blank_line size ++ drop ((n - (p + 1)) * w + line_length size) (mid_of a (length b - a) b)) →
      with_field count_place (n - 1) (put_mid a (length b - a) b ys) ≡ layout (record { shape = (decode b).shape; entries = take p (decode b).entries ++ drop (suc p) (decode b).entries })
  bytes-removed i ys e =
      rw (valid-count k) at
      (remove-layout (decode b) b (put_mid a (length b - a) b ys) p (valid-sized k) (valid-layout k) (valid-register k).count_fits (omega (arith, valid-count k))
      (rw (← cells_are, valid-count k, ← s, ← q) (put-tail b a (room-remove i).start-inside ys ∙ ap (λ (l : List ℕ). take a b ++ l) (rw (tail-part b a (room-remove i).start-inside, ← q) at e))))

  pub bytes-changed : p < n → (c x : ℕ) (ys : List ℕ) → 1 ≤ c → c ≤ clients →
      ys ≡ take (cell_width * (size + (c - 1))) (mid_of a (length b - a) b) ++ (field cell_width x ++ drop cell_width (drop (cell_width * (size + (c - 1))) (mid_of a (length b - a) b))) →
      put_mid a (length b - a) b ys
      ≡ layout (record { shape = (decode b).shape; entries = take p (decode b).entries ++ (record { grid = (get_or (decode b).entries p no_entry).grid; holdings = changed c x (get_or (decode b).entries p no_entry).holdings } ∷ drop (suc p) (decode b).entries) })
  bytes-changed i c x ys low high e =
      change-layout (decode b) b (put_mid a (length b - a) b ys) p c x (cell_width * (size + (c - 1))) (valid-sized k) (valid-layout k) (omega (arith, valid-count k)) low high (ap (λ (j : ℕ). cell_width * (j + (c - 1))) cells_are)
      (rw (← cells_are, ← s) (put-tail b a (room-remove i).start-inside ys ∙ ap (λ (l : List ℕ). take a b ++ l) (rw (tail-part b a (room-remove i).start-inside) at e)))
