-- What is known of a register that question 5 has passed.
--
--   capacity-stated              ==  the capacity that the bytes state
--   valid-register, valid-layout  ==  what the bytes state is a register, and they are its layout
--   valid-count, valid-ascends, valid-line, valid-holdings  ==  how many entries it has, that they ascend, and that each is what its line states
--   valid-sized                  ==  its entries have as many cells as it says and a holding for each client
--   Sizes size n capacity b      ==  the sizes, all of them small
--   valid-sizes                  ==  a register has them
--   line-fits, entry-fits        ==  a line ends within the bytes, and its place is a small number
--   entry-part                   ==  the part of the bytes that an entry's line is
use mathlib.Core.Path.{◌≡◌, refl, sym, ap, ◌∙◌}
use mathlib.Core.List.{List, []}
use mathlib.Core.Bool.{true}
use Prim.Native.Nat.{ℕ, ◌+◌, ◌-◌, ◌≤◌, ◌<◌}
use native.Mathlib.Nat.{mul-le-mul}
use native.Mathlib.Omega.{arith}
use lib.ListN.{length, get_or, take, drop}
use Rattle.grids.specs.Order.{equal}
use Rattle.grids.specs.Grids.{capped}
use Rattle.grids.proofs.OrderLaws.{equal-eq}
use Rattle.grids.proofs.QuestionLaws.{size_fits, capped_at, at-capped}
use Rattle.permutations.proofs.BoolLaws.{and_yes}
use Rattle.layout.specs.Layout.{Entry, grids_of, grid_size, head_length, line_length, line_start, layout, layout_length, cells_of, holdings_of, decode_shape, decode, Ascends, IsRegister, is_register, laid_out}
use Rattle.layout.specs.Lines.{no_entry, line_at, EntryLine}
use Rattle.layout.proofs.RegisterLaws.{register-decides, register-sized}
use Rattle.layout.proofs.LayoutLaws.{Sized}
use Rattle.layout.proofs.LineLaws.{laid-lines, line-entry, line-grid, entries-counted, line-short}
use Rattle.calls.specs.Valid.{Valid}

pub record Sizes (size n capacity : ℕ) (b : List ℕ) : Type 0 where
  pub cells_fit : size ≤ 128
  pub width_fits : line_length size ≤ 409
  pub count_fits : n ≤ capacity
  pub capacity-fits : capacity ≤ 500
  pub length-is : length b ≡ line_start size capacity

-- cells at most top are at most a greater one
capped-more : (a c : ℕ) (g : List ℕ) → a ≤ c → capped a g ≡ true → capped c g ≡ true
capped-more a c g h e = at-capped c g (λ k l. omega (arith, capped_at a g e k l))

pub capacity-stated : (b : List ℕ) → (decode_shape b).capacity ≡ (decode b).shape.capacity
unfolding decode
capacity-stated b = refl

module _ {size n : ℕ} {b : List ℕ} (k : Valid size n b) where
  pub valid-register : IsRegister (decode b)
  unfolding laid_out
  valid-register = (register-decides (decode b)).0 (and_yes (is_register (decode b)) (equal (layout (decode b)) b) k.laid).0

  pub valid-layout : b ≡ layout (decode b)
  unfolding laid_out
  valid-layout = sym (equal-eq (layout (decode b)) b (and_yes (is_register (decode b)) (equal (layout (decode b)) b) k.laid).1)

  pub valid-count : length (decode b).entries ≡ n
  valid-count = entries-counted b ∙ sym k.counts

  pub valid-ascends : Ascends (grids_of (decode b).entries)
  valid-ascends = valid-register.entries-ascend

  pub valid-line : (e : ℕ) → e < n → (EntryLine size 15 (line_at size b e)) × (cells_of size (line_at size b e) ≡ get_or (grids_of (decode b).entries) e [])
  unfolding decode_shape decode
  valid-line e h =
      let p = ((laid-lines b).0 k.laid).1 in
      let l = ((laid-lines b).0 k.laid).0.limits.grid-limits.top-limit in
      let x = p.lines e (omega (arith, k.counts)) in
      rw k.sized (record { bytes = x.bytes; at_most = capped-more _ 15 (cells_of _ (line_at _ b e)) l x.at_most; held = x.held }, sym (line-grid b e (omega (arith, k.counts))))

  pub valid-holdings : (e : ℕ) → e < n → holdings_of size (line_at size b e) ≡ (get_or (decode b).entries e no_entry).holdings
  valid-holdings e h = rw k.sized (ap (λ (x : Entry). x.holdings) (sym (line-entry b e (omega (arith, k.counts)))))

  pub valid-sized : Sized (grid_size (decode b).shape) (decode b).entries
  valid-sized = register-sized (decode b) valid-register

  pub valid-sizes : Sizes size n (decode_shape b).capacity b
  unfolding layout_length decode_shape decode
  valid-sizes =
      let p = ((laid-lines b).0 k.laid).0 in
      let l = p.limits.grid-limits in
      let fit : size ≤ 128 = omega (arith, k.sized, size_fits (decode_shape b).rows (decode_shape b).columns l.rows-limits.1 l.column-limits.1) in
      record {
        cells_fit = fit;
        width_fits = line-short size fit;
        count_fits = omega (arith, k.counts, p.count_fits);
        capacity-fits = p.limits.capacity-limits.1;
        length-is = p.sized ∙ ap (λ (x : ℕ). line_start x (decode_shape b).capacity) (sym k.sized);
      }

  pub line-fits : (e : ℕ) → e < (decode_shape b).capacity → (line_start size e + line_length size ≤ length b) × (line_start size e + line_length size ≤ head_length + 204500)
  line-fits e h = let z = valid-sizes in fits (decode_shape b).capacity h z.length-is z.capacity-fits z.width_fits
    where
      fits : (c : ℕ) → e < c → length b ≡ line_start size c → c ≤ 500 → line_length size ≤ 409 → (line_start size e + line_length size ≤ length b) × (line_start size e + line_length size ≤ head_length + 204500)
      fits c h l a d =
          let x = mul-le-mul {n₁ = e + 1} {m₁ = line_length size} {n₂ = c} {m₂ = line_length size} (omega arith) (omega arith) in
          let y = mul-le-mul {n₁ = e + 1} {m₁ = line_length size} {n₂ = 500} {m₂ = 409} (omega arith) (omega arith) in
          (omega (arith, l, x), omega (arith, y))

  pub entry-fits : (e : ℕ) → e < n → (line_start size e + line_length size ≤ length b) × (line_start size e + line_length size ≤ head_length + 204500)
  entry-fits e h = line-fits e (omega (arith, valid-sizes.count_fits))

  pub entry-part : (e : ℕ) {a w : ℕ} → a ≡ line_start size e → w ≡ line_length size → take (a + w - a) (drop a b) ≡ line_at size b e
  unfolding line_at
  entry-part e {a} {w} p q = let d : a + w - a ≡ w = omega arith in rw (d, p, q) refl
