-- A grid that is least in its class, sought in a register. Between functions: no answer of a call is defined here.
--
--   Sought t n p c b g  ==  p is the place of g among the n entries of the valid register b, t says whether it stands there, and c is a client
use Rattle.std.specs.Prelude.{◌≡◌, List, [], Bool, ◌&&◌, ℕ, ◌≤◌, length, get_or, ltb}
use Rattle.grids.specs.Order.{equal}
use Rattle.layout.specs.Layout.{clients, grids_of, decode}
use Rattle.calls.specs.Places.{Lower}
use Rattle.calls.specs.Valid.{Valid}

pub record Sought (t : Bool) (n p c : ℕ) (b g : List ℕ) : Type 0 where
  pub valid : Valid (length g) n b
  pub lower : Lower (grids_of (decode b).entries) g p
  pub found : t ≡ (ltb p n && equal (get_or (grids_of (decode b).entries) p []) g)
  pub client-is : (1 ≤ c) × (c ≤ clients)
