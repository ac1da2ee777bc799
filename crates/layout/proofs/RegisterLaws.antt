-- What a register is, and that question 5 holds exactly for the layouts of registers.
--
--   limits-decides      ==  the test of the limits decides them
--   ascending-decides   ==  comparing each entry with the next decides that all ascend
--   holdings-decides, entry-decides  ==  the tests of holdings and of an entry decide them
--   register-decides    ==  the test of a register decides it
--   register-sized      ==  a register's entries have as many cells as its shape says, and a holding for each client
--   register-printable  ==  its numbers, cells and holdings fit their fields
--   question5-layouts   ==  question 5 gets a yes exactly for the layouts of registers
use mathlib.Core.Path.{◌≡◌, refl, sym, ap, ◌∙◌}
use mathlib.Core.List.Memᴰ
use mathlib.Core.List.{List, [], ◌∷◌, Memᴰ}
use mathlib.Core.Bool.{true}
use mathlib.Core.Logic.{◌⊎◌, inl, inr, ◌↔◌}
use Prim.Native.Nat.{ℕ}
use native.Mathlib.Omega.{arith}
use lib.ListN.{length, get_or}
use lib.Dec.{leb, ltb, eqb}
use borrow.Author.Tests.{leb-true, le-leb, ltb-true, lt-ltb, eqb-true}
use Rattle.permutations.specs.Lists.{every, some}
use Rattle.permutations.proofs.BoolLaws.{and_yes, yes_and}
use Rattle.permutations.proofs.ListLaws.{every-at, at_every, some_at, at_some, mem-at, of_mem}
use Rattle.grids.specs.Order.{◌≺◌, less, equal}
use Rattle.grids.specs.Grids.{IsGrid, is_grid, capped}
use Rattle.grids.specs.Questions.{in_range}
use Rattle.grids.proofs.OrderLaws.{≺-trans, less-decides, equal-eq, eq-equal}
use Rattle.grids.proofs.QuestionLaws.{range-yes, yes-range, grid-decides, grid-of, grid-capped}
use Rattle.layout.specs.Layout.{Shape, Entry, Register, clients, most_held, grids_of, grid_size, layout, decode, InLimits, IsHoldings, Ascends, IsRegister, in_limits, some_held, is_holdings, is_entry, ascending, is_register, laid_out}
use Rattle.layout.proofs.LayoutLaws.{Sized, Printable, decode-layout}

pub limits-decides : (s : Shape) → (in_limits s ≡ true) ↔ InLimits s
unfolding in_limits
limits-decides s = (to, back)
  where
    to : in_limits s ≡ true → InLimits s
    to e =
        let a = and_yes (in_range 1 8 s.rows) _ e in
        let b = and_yes (in_range 1 16 s.columns) _ a.1 in
        let c = and_yes (in_range 0 15 s.top) (in_range 1 500 s.capacity) b.1 in
        record {
          grid-limits = record {
            rows-limits = range-yes 1 8 s.rows a.0;
            column-limits = range-yes 1 16 s.columns b.0;
            top-limit = (range-yes 0 15 s.top c.0).1;
          };
          capacity-limits = range-yes 1 500 s.capacity c.1;
        }

    back : InLimits s → in_limits s ≡ true
    back l =
        let g = l.grid-limits in
        rw (yes-range 1 8 s.rows g.rows-limits, yes-range 1 16 s.columns g.column-limits, yes-range 0 15 s.top (omega arith, g.top-limit))
        (yes-range 1 500 s.capacity l.capacity-limits)

ascends-ascending : (l : List (List ℕ)) → Ascends l → ascending l ≡ true
unfolding ascending
ascends-ascending [] h = refl
ascends-ascending (x ∷ []) h = refl
ascends-ascending (x ∷ y ∷ l) h = yes_and (less x y) (ascending (y ∷ l)) ((less-decides x y).1 (h.0 y (Memᴰ.head refl))) (ascends-ascending (y ∷ l) h.1)

ascending-ascends : (l : List (List ℕ)) → ascending l ≡ true → Ascends l
unfolding ascending
ascending-ascends [] e = tt
ascending-ascends (x ∷ []) e = (λ y m. absurd (Memᴰ.not-nil m), tt)
ascending-ascends (x ∷ y ∷ l) e = go (and_yes (less x y) (ascending (y ∷ l)) e) (ascending-ascends (y ∷ l))
  where
    go : (less x y ≡ true) × (ascending (y ∷ l) ≡ true) → (ascending (y ∷ l) ≡ true → Ascends (y ∷ l)) → Ascends (x ∷ y ∷ l)
    go p ih = (λ z m. first z (Memᴰ.cases_cons m), ih p.1)
      where
        xy : x ≺ y
        xy = (less-decides x y).0 p.0

        first : (z : List ℕ) → (z ≡ y) ⊎ Memᴰ z l → x ≺ z
        first z (inl d) = rw d xy
        first z (inr k) = ≺-trans x y z xy ((ih p.1).0 z k)

pub ascending-decides : (l : List (List ℕ)) → (ascending l ≡ true) ↔ Ascends l
ascending-decides l = (ascending-ascends l, ascends-ascending l)

pub holdings-decides : (h : List ℕ) → (is_holdings h ≡ true) ↔ IsHoldings h
unfolding is_holdings some_held
holdings-decides h = (to, back)
  where
    to : is_holdings h ≡ true → IsHoldings h
    to e =
        let a = and_yes (eqb (length h) clients) _ e in
        let b = and_yes (capped most_held h) (some (λ x. ltb 0 x) h) a.1 in
        let i = grid-of 1 clients most_held h (eqb-true (length h) clients a.0) b.0 in
        let s = some_at (λ x. ltb 0 x) h b.1 in
        let m = of_mem h 0 s.0 s.1 in
        record {
          sized = i.sized;
          capped = i.capped;
          held = (m.0, omega (arith, m.1, i.sized), ltb-true 0 (get_or h m.0 0) (ap (ltb 0) (sym m.2) ∙ s.2));
        }

    back : IsHoldings h → is_holdings h ≡ true
    back i =
        let m = i.held in
        rw (i.sized, grid-capped 1 clients most_held h (record { sized = i.sized; capped = i.capped }))
        (at_some (λ x. ltb 0 x) h (get_or h m.0 0) (mem-at h 0 m.0 (omega (arith, m.1, i.sized))) (lt-ltb 0 (get_or h m.0 0) m.2))

pub entry-decides : (s : Shape) (e : Entry) → (is_entry s e ≡ true) ↔ (IsGrid s.rows s.columns s.top e.grid × IsHoldings e.holdings)
unfolding is_entry
entry-decides s e = (
  λ t. let p = and_yes (is_grid s.rows s.columns s.top e.grid) (is_holdings e.holdings) t in ((grid-decides s.rows s.columns s.top e.grid).0 p.0, (holdings-decides e.holdings).0 p.1),
  λ p. yes_and (is_grid s.rows s.columns s.top e.grid) (is_holdings e.holdings) ((grid-decides s.rows s.columns s.top e.grid).1 p.0) ((holdings-decides e.holdings).1 p.1),
)

pub register-decides : (r : Register) → (is_register r ≡ true) ↔ IsRegister r
unfolding is_register
register-decides r = (to, back)
  where
    to : is_register r ≡ true → IsRegister r
    to e =
        let a = and_yes (in_limits r.shape) _ e in
        let b = and_yes (leb (length r.entries) r.shape.capacity) _ a.1 in
        let c = and_yes (every (is_entry r.shape) r.entries) (ascending (grids_of r.entries)) b.1 in
        let i : (e : Entry) → Memᴰ e r.entries → IsGrid r.shape.rows r.shape.columns r.shape.top e.grid × IsHoldings e.holdings
        = λ e m. (entry-decides r.shape e).0 (every-at (is_entry r.shape) r.entries c.0 e m) in
        record {
          limits = (limits-decides r.shape).0 a.0;
          count_fits = leb-true (length r.entries) r.shape.capacity b.0;
          entry-grids = λ e m. (i e m).0;
          entry-holdings = λ e m. (i e m).1;
          entries-ascend = (ascending-decides (grids_of r.entries)).0 c.1;
        }

    back : IsRegister r → is_register r ≡ true
    back o =
        yes_and (in_limits r.shape) _ ((limits-decides r.shape).1 o.limits)
        (yes_and (leb (length r.entries) r.shape.capacity) _ (le-leb (length r.entries) r.shape.capacity o.count_fits)
        (yes_and (every (is_entry r.shape) r.entries) (ascending (grids_of r.entries))
        (at_every (is_entry r.shape) r.entries (λ e m. (entry-decides r.shape e).1 (o.entry-grids e m, o.entry-holdings e m)))
        ((ascending-decides (grids_of r.entries)).1 o.entries-ascend)))

pub register-sized : (r : Register) → IsRegister r → Sized (grid_size r.shape) r.entries
register-sized r o e m = record { cells = (o.entry-grids e m).sized; held = (o.entry-holdings e m).sized }

pub register-printable : (r : Register) → IsRegister r → Printable r
register-printable r o =
    let l = o.limits.grid-limits in
    let q = o.limits.capacity-limits in
    let c = o.count_fits in
    record {
      rows-small = omega (arith, l.rows-limits);
      columns-small = omega (arith, l.column-limits);
      top_small = omega (arith, l.top-limit);
      capacity-small = omega arith;
      count_small = omega arith;
      entries-sized = register-sized r o;
      cells-small = λ e m k h. omega (arith, l.top-limit, (o.entry-grids e m).capped k h);
      held_small = λ e m k h. omega (arith, (o.entry-holdings e m).capped k h);
    }

pub question5-layouts : (b : List ℕ) → (laid_out b ≡ true) ↔ ((r : Register) × IsRegister r × (b ≡ layout r))
unfolding laid_out
question5-layouts b = (to, back)
  where
    to : laid_out b ≡ true → (r : Register) × IsRegister r × (b ≡ layout r)
    to e =
        let p = and_yes (is_register (decode b)) (equal (layout (decode b)) b) e in
        (decode b, (register-decides (decode b)).0 p.0, sym (equal-eq (layout (decode b)) b p.1))

    back : (r : Register) × IsRegister r × (b ≡ layout r) → laid_out b ≡ true
    back h =
        rw (h.2, decode-layout h.0 (register-printable h.0 h.1), (register-decides h.0).1 h.1) (eq-equal (layout h.0) (layout h.0) refl)
