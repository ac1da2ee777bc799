-- Entering and striking a least grid, from what the code finds to the outcome.
--
--   place-small           ==  the place is a small number
--   held_found, place-stands, stands  ==  what is found at the place says whether the grid is held, and that it stands there
--   enter-room, stands-room  ==  there is room for the lines that are moved
--   line-held             ==  its line states its holdings
--   changed-is            ==  the bytes with another holding in its line, where someone holds it then
--   gone-is, gone-kept    ==  the bytes without its line; they are those with another holding, where nobody holds it then
--   enter-full, enter-new, enter-most, enter-held  ==  the ways out of enter
--   strike-none, strike-zero, strike-held  ==  the ways out of strike
use mathlib.Core.Path.{◌≡◌, refl, sym, ap, ap₂, ◌∙◌}
use mathlib.Core.List.{List, [], ◌∷◌, ◌++◌}
use mathlib.Core.Bool.{Bool, true, false, ◌&&◌}
use Prim.Native.Nat.{ℕ, suc, ◌+◌, ◌-◌, ◌*◌, ◌≤◌, ◌<◌}
use native.Mathlib.Numerals.{add-one}
use native.Mathlib.Omega.{arith}
use lib.ListN.{length, get_or, take, drop, length-map}
use lib.Dec.{ltb}
use borrow.Author.Tests.{ltb-true}
use borrow.Rule.Slice.PartMut.{mid_of, put_mid}
use Rattle.permutations.proofs.BoolLaws.{and_yes}
use Rattle.permutations.proofs.ListLaws.{at_map}
use Rattle.grids.specs.Order.{equal}
use Rattle.grids.proofs.OrderLaws.{equal-eq}
use Rattle.layout.specs.Decimal.{field}
use Rattle.layout.specs.Layout.{Entry, clients, most_held, grids_of, changed, some_held, cell_width, count_place, line_length, line_start, entry_line, blank_line, holdings_of, decode_shape, decode}
use Rattle.layout.specs.Lines.{no_entry, first_entry, line_at, with_field}
use Rattle.calls.specs.Entries.{more, fewer, holds, holdings_in, held_by}
use Rattle.calls.specs.Calls.{placed}
use Rattle.calls.specs.Places.{Lower}
use Rattle.calls.specs.Valid.{Valid, register_with, gone_at, held_as, entered_least, struck_least}
use Rattle.layout.proofs.HoldingLaws.{first-fitted}
use Rattle.calls.proofs.HoldingLaws.{none-by}
use Rattle.calls.proofs.PlaceLaws.{there-held, kept_there, kept-gone}
use Rattle.calls.proofs.ValidLaws.{capacity-stated, valid-count, valid-ascends, valid-sizes, valid-holdings}
use Rattle.calls.proofs.LeastSteps.{held-there, entered-held, entered-most, entered-full, entered-new, struck-none, struck-held}
use Rattle.calls.proofs.ValidMoves.{Room, room-insert, room-remove, bytes-inserted, bytes-removed, bytes-changed}

module _ {n p : ℕ} {b g : List ℕ} (k : Valid (length g) n b) (h : Lower (grids_of (decode b).entries) g p) where
  abbrev size : ℕ
  size = length g

  pub place-small : (p ≤ n) × (n ≤ 500)
  place-small = let z = valid-sizes k in (omega (arith, h.within, length-map (decode b).entries (λ (x : Entry). x.grid), valid-count k), omega (arith, z.count_fits, z.capacity-fits))

  pub enter-room : {capacity a w : ℕ} → capacity ≡ (decode_shape b).capacity → n < capacity → a ≡ line_start size p → w ≡ line_length size → Room b a ((n - p) * w) w
  enter-room e r s q = room-insert k p s q place-small.0 (rw e at r)

  grids-count : length (grids_of (decode b).entries) ≡ n
  grids-count = length-map (decode b).entries (λ (x : Entry). x.grid) ∙ valid-count k

  module _ {t : Bool} (found : t ≡ (ltb p n && equal (get_or (grids_of (decode b).entries) p []) g)) where
    pub held_found : t ≡ holds g (grids_of (decode b).entries)
    held_found = found ∙ rw grids-count at (held-there (valid-ascends k) h)

    pub place-stands : t ≡ true → (p < n) × (get_or (grids_of (decode b).entries) p [] ≡ g)
    place-stands y = let e = and_yes (ltb p n) (equal (get_or (grids_of (decode b).entries) p []) g) (sym found ∙ y) in (ltb-true p n e.0, equal-eq (get_or (grids_of (decode b).entries) p []) g e.1)

    -- ---- it does not stand there

    pub enter-full : (c : ℕ) → t ≡ false → (decode_shape b).capacity ≤ n → placed 9 0 b ≡ entered_least b c g
    enter-full c y f = sym (entered-full b c h (sym held_found ∙ y) (omega (arith, valid-count k, capacity-stated b)))

    pub enter-new : (c : ℕ) → t ≡ false → n < (decode_shape b).capacity → 1 ≤ c → c ≤ clients → {a w : ℕ} → a ≡ line_start size p → w ≡ line_length size → (ys : List ℕ) {l : List ℕ} →
        ys ≡ entry_line (first_entry c g) ++ (take ((n - p) * w) (mid_of a (length b - a) b) ++ drop ((n - p) * w + line_length size) (mid_of a (length b - a) b)) →
        l ≡ with_field count_place (n + 1) (put_mid a (length b - a) b ys) →
        placed 0 (p + 1) l ≡ entered_least b c g
    enter-new c y f low high s q ys e d =
        ap₂ (λ (i : ℕ) (l : List ℕ). placed 0 i l) (add-one p) (d ∙ bytes-inserted k p s q place-small.0 f (first_entry c g) ys (first-fitted c g) e)
        ∙ sym (entered-new b c h (sym held_found ∙ y) (omega (arith, valid-count k, capacity-stated b)) low high)

    pub strike-none : (c : ℕ) → t ≡ false → placed 10 0 b ≡ struck_least b c g
    strike-none c y = sym (struck-none b c h (none-by (decode b).entries g c (sym held_found ∙ y)))

    -- ---- it stands there

    module _ (y : t ≡ true) where
      pub stands : p < n
      stands = (place-stands y).0

      -- its holdings are those that its line states
      pub line-held : holdings_of size (line_at size b p) ≡ holdings_in g (decode b).entries
      line-held =
          valid-holdings k p stands
          ∙ sym (there-held (decode b).entries (valid-ascends k) g p (omega (arith, stands, valid-count k)) (place-stands y).1)

      -- its line begins at a
      module _ {a : ℕ} (q : a ≡ line_start size p) where
        pub stands-room : {w : ℕ} → w ≡ line_length size → Room b a ((n - (p + 1)) * w) w
        stands-room v = room-remove k p q v stands

        pub changed-is : (c x : ℕ) {u : Bool} → u ≡ some_held (changed c x (holdings_in g (decode b).entries)) → u ≡ true → 1 ≤ c → c ≤ clients → (ys : List ℕ) →
            ys ≡ take (cell_width * (size + (c - 1))) (mid_of a (length b - a) b) ++ (field cell_width x ++ drop cell_width (drop (cell_width * (size + (c - 1))) (mid_of a (length b - a) b))) →
            put_mid a (length b - a) b ys ≡ held_as b c g x
        changed-is c x left z low high ys e =
            bytes-changed k p q refl stands c x ys low high e
            ∙ ap₂ (λ (r l : List ℕ). register_with b (take p (decode b).entries ++ (record { grid = r; holdings = changed c x l } ∷ drop (suc p) (decode b).entries)))
            (sym (at_map (λ (z : Entry). z.grid) (decode b).entries p no_entry [] (omega (arith, stands, valid-count k))) ∙ (place-stands y).1)
            (sym (there-held (decode b).entries (valid-ascends k) g p (omega (arith, stands, valid-count k)) (place-stands y).1))
            ∙ ap (λ (l : List Entry). register_with b l) (sym (kept_there (decode b).entries g (changed c x (holdings_in g (decode b).entries)) p h (valid-ascends k) (omega (arith, stands, valid-count k)) (place-stands y).1 (sym left ∙ z)))

        pub gone-is : {w : ℕ} → w ≡ line_length size → (ys : List ℕ) {l : List ℕ} →
            ys ≡ take ((n - (p + 1)) * w) (drop (line_length size) (mid_of a (length b - a) b)) ++ (blank_line size ++ drop ((n - (p + 1)) * w + line_length size) (mid_of a (length b - a) b)) →
            l ≡ with_field count_place (n - 1) (put_mid a (length b - a) b ys) → l ≡ gone_at b p
        gone-is v ys e d = d ∙ bytes-removed k p q v stands ys e

      pub gone-kept : (c x : ℕ) {u : Bool} → u ≡ some_held (changed c x (holdings_in g (decode b).entries)) → u ≡ false → {l : List ℕ} → l ≡ gone_at b p →
          l ≡ held_as b c g x
      gone-kept c x left z e = rw (kept-gone (decode b).entries g (changed c x (holdings_in g (decode b).entries)) p h (valid-ascends k) (omega (arith, stands, valid-count k)) (place-stands y).1 (sym left ∙ z)) e

      module _ (c : ℕ) {v : ℕ} (read : v ≡ held_by c g (decode b).entries) where
        pub enter-most : most_held ≤ v → placed 16 0 b ≡ entered_least b c g
        enter-most f = sym (entered-most b c h (sym held_found ∙ y) (omega (arith, read, f)))

        pub enter-held : v < most_held → {l : List ℕ} → l ≡ held_as b c g (v + 1) → placed 101 (p + 1) l ≡ entered_least b c g
        unfolding more held_by
        enter-held f e =
            ap₂ (λ (i : ℕ) (l : List ℕ). placed 101 i l) (add-one p) (e ∙ ap (λ (x : ℕ). held_as b c g (x + 1)) read)
            ∙ sym (entered-held b c h (sym held_found ∙ y) (omega (arith, read, f)))

        pub strike-zero : v ≡ 0 → placed 10 0 b ≡ struck_least b c g
        strike-zero z = sym (struck-none b c h (sym read ∙ z))

        pub strike-held : 0 < v → {l : List ℕ} → l ≡ held_as b c g (v - 1) → placed 0 (p + 1) l ≡ struck_least b c g
        unfolding fewer held_by
        strike-held f e =
            ap₂ (λ (i : ℕ) (l : List ℕ). placed 0 i l) (add-one p) (e ∙ ap (λ (x : ℕ). held_as b c g (x - 1)) read)
            ∙ sym (struck-held b c h (omega (arith, read, f)))
