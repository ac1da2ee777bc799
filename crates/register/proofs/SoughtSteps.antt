-- A grid sought in a register, and where it stands at its place its line as the code lends it.
--
--   sought       ==  what the search and the comparison at the place find
--   new-room     ==  where it does not stand there and the register is not full, there is room for its line
--   here, small  ==  where it does, the place is one of the entries', and the numbers are small
--   line-room    ==  there is room for its line and the lines behind it
--   line-lent    ==  the part that is lent is long enough
--   line-states  ==  it states the grid's holdings
use mathlib.Core.Path.{◌≡◌, refl, sym, ap, ◌∙◌}
use mathlib.Core.List.{List, []}
use mathlib.Core.Bool.{Bool, true, false, ◌&&◌}
use Prim.Native.Nat.{ℕ, ◌+◌, ◌-◌, ◌*◌, ◌≤◌, ◌<◌}
use native.Mathlib.Omega.{arith}
use lib.ListN.{length, get_or, drop}
use lib.Dec.{ltb}
use borrow.Rule.Slice.PartMut.{mid_of}
use Rattle.grids.specs.Order.{equal}
use Rattle.layout.specs.Layout.{clients, grids_of, line_length, line_start, holdings_of, decode_shape, decode}
use Rattle.layout.specs.Lines.{line_at}
use Rattle.layout.proofs.LineLaws.{holdings-first}
use Rattle.calls.specs.Entries.{holdings_in}
use Rattle.calls.specs.Places.{Lower}
use Rattle.calls.specs.Valid.{Valid}
use Rattle.calls.proofs.ValidLaws.{valid-sizes}
use Rattle.calls.proofs.ValidMoves.{Room, tail-part, room-part}
use Rattle.calls.proofs.ValidSteps.{place-small, enter-room, stands, stands-room, line-held}
use Rattle.register.specs.Sought.{Sought}

pub sought : {t s : Bool} {n p c : ℕ} {b g : List ℕ} → Valid (length g) n b → Lower (grids_of (decode b).entries) g p → t ≡ (ltb p n && equal (get_or (grids_of (decode b).entries) p []) g) → t ≡ s → (1 ≤ c) × (c ≤ clients) → Sought s n p c b g
sought k h e y r = record { valid = k; lower = h; found = sym y ∙ e; client-is = r }

pub new-room : {n p c capacity a w : ℕ} {b g : List ℕ} → Sought false n p c b g → capacity ≡ (decode_shape b).capacity → n < capacity → a ≡ line_start (length g) p → w ≡ line_length (length g) → Room b a ((n - p) * w) w
new-room k e r s q = enter-room k.valid k.lower e r s q

module _ {n p c : ℕ} {b g : List ℕ} (k : Sought true n p c b g) where
  pub here : p < n
  here = stands k.valid k.lower k.found refl

  pub small : (length g ≤ 128) × (p ≤ 500) × (n ≤ 500)
  small = let z = place-small k.valid k.lower in ((valid-sizes k.valid).cells_fit, omega (arith, z), z.1)

  module _ {a : ℕ} (q : a ≡ line_start (length g) p) where
    pub line-room : {w : ℕ} → w ≡ line_length (length g) → Room b a ((n - (p + 1)) * w) w
    line-room = stands-room k.valid k.lower k.found refl q

    pub line-lent : (length g ≤ 128) × (1 ≤ c) × (c ≤ clients) × (line_length (length g) ≤ length (mid_of a (length b - a) b))
    line-lent = (small.0, k.client-is.0, k.client-is.1, omega (arith, room-part (line-room refl) refl))

    pub line-states : holdings_of (length g) (mid_of a (length b - a) b) ≡ holdings_in g (decode b).entries
    unfolding line_at
    line-states =
        ap (holdings_of (length g)) (tail-part b a (line-room refl).start-inside ∙ ap (λ (i : ℕ). drop i b) q)
        ∙ sym (holdings-first (length g) (drop (line_start (length g) p) b))
        ∙ line-held k.valid k.lower k.found refl
