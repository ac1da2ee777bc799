-- What an enter that answers 0 does: its class is new to the set, and in the machine's bytes it stands on the line that is its place.
--
--   New s l c a t     ==  t is the step of such an enter of the grid a by client c
--   enter-new, terminal-new  ==  a step that answers 0 is one
--   without-fresh     ==  a set without a class that it has not is the same
--   new-set           ==  the class is added to the set
--   entry_read        ==  a line of the machine's bytes states the entry there
--   new-stands        ==  the line at the place is the class's
use mathlib.Core.Path.{◌≡◌, refl, sym, ap, ◌∙◌}
use mathlib.Core.List.{List, [], ◌∷◌}
use mathlib.Core.Bool.{Bool, true, false, true≢false, not, ◌||◌}
use Prim.Native.Nat.{ℕ, suc, ◌+◌, ◌-◌, ◌<◌}
use native.Mathlib.Omega.{arith}
use lib.ListN.{length, get_or, length-map, get_or-map}
use Rattle.permutations.specs.Lists.{select, some}
use Rattle.permutations.proofs.ListLaws.{at-tabulate}
use Rattle.permutations.proofs.SelectLaws.{select_yes, length-select}
use Rattle.grids.specs.Order.{less, equal}
use Rattle.layout.specs.Layout.{Shape, Entry, Register, grids_of, grid_size, count, entry_at, decode_shape, decode, some_held}
use Rattle.layout.specs.Lines.{no_entry}
use Rattle.calls.specs.Entries.{least_in, more, holds, holdings_in, held_by, place_in, insert, without}
use Rattle.calls.proofs.EntryLaws.{Entries, in-holds, new_line}
use Rattle.calls.proofs.HoldingLaws.{none-by, differs}
use Rattle.machine.specs.CallLists.{enter, terminal_enter}
use Rattle.machine.specs.Machine.{sorted, shown, Step, put, entering, step}
use Rattle.machine.proofs.SetLaws.{sorted-asc, count-sorted, holds-sorted}
use Rattle.machine.proofs.MachineLaws.{Good, register_of, reads}
use Rattle.machine.proofs.Demand3Laws.{shown-count}
use Rattle.machine.proofs.ReachedLaws.{enter-has, terminal-has}

pub record New (s : Shape) (l : Entries) (c : ℕ) (a : List ℕ) (t : Step) : Type 0 where
  pub fresh : holds (least_in s a) (grids_of l) ≡ false
  pub place_is : t.place ≡ place_in (grids_of l) (least_in s a)
  pub next-is : t.next ≡ entering l c (least_in s a)

module _ (s : Shape) (l : Entries) (c : ℕ) (a : List ℕ) where
  pub enter-new : (step s l (enter c a)).number ≡ 0 → New s l c a (step s l (enter c a))
  enter-new =
      enter-has s l c a (λ t. t.number ≡ 0 → New s l c a t) (λ k e. absurd (omega arith)) (λ h e. absurd (omega arith)) (λ h e. record { fresh = h; place_is = refl; next-is = refl })

  pub terminal-new : (step s l (terminal_enter c a)).number ≡ 0 → New s l c a (step s l (terminal_enter c a))
  terminal-new =
      terminal-has s l c a (λ t. t.number ≡ 0 → New s l c a t) (λ k e. absurd (omega arith)) (λ h e. absurd (omega arith)) (λ h e. record { fresh = h; place_is = refl; next-is = refl })

or_no : (x y : Bool) → (x || y) ≡ false → (x ≡ false) × (y ≡ false)
or_no true y e = absurd (true≢false e)
or_no false y e = (refl, e)

pub without-fresh : (r : List ℕ) (l : Entries) → holds r (grids_of l) ≡ false → without r l ≡ l
unfolding holds some without select
without-fresh r [] e = refl
without-fresh r (x ∷ l) e = let p = or_no (equal r x.grid) _ e in select_yes (differs r) x l (ap not p.0) ∙ ap (λ (k : Entries). x ∷ k) (without-fresh r l p.1)

pub entry_read : (s : Shape) (l : Entries) → Good s l → (e : ℕ) → e < length l → (entry_at (grid_size s) (shown s l) e).grid ≡ get_or (grids_of (sorted l)) e []
unfolding decode register_of
entry_read s l g e h =
    let d = reads s l g in
    ap (λ (x : Register). (entry_at (grid_size x.shape) (shown s l) e).grid) (sym d)
    ∙ ap (λ (x : Entry). x.grid) (sym (at-tabulate (count (shown s l)) (entry_at (grid_size (decode_shape (shown s l))) (shown s l)) e no_entry (omega (arith, shown-count s l g))))
    ∙ ap (λ (x : Register). (get_or x.entries e no_entry).grid) d
    ∙ sym (get_or-map (λ (x : Entry). x.grid) (sorted l) e no_entry)

module _ (s : Shape) (l : Entries) (c : ℕ) (a : List ℕ) (t : Step) (n : New s l c a t) (raised : held_by c (least_in s a) t.next ≡ held_by c (least_in s a) l + 1) where
  abbrev r : List ℕ
  r = least_in s a

  abbrev new : Entry
  new = record { grid = r; holdings = more c (holdings_in r l) }

  pub new-set : t.next ≡ new ∷ l
  unfolding put
  new-set = n.next-is ∙ go (some_held (more c (holdings_in r l))) refl
    where
      go : (x : Bool) → some_held (more c (holdings_in r l)) ≡ x → put r (more c (holdings_in r l)) l ≡ new ∷ l
      go true e = rw (e, put) (ap (λ (k : Entries). new ∷ k) (without-fresh r l n.fresh))
      go false e =
          let gone : t.next ≡ without r l = n.next-is ∙ rw (e, put) refl in
          let none : held_by c r t.next ≡ 0 = ap (held_by c r) (gone ∙ without-fresh r l n.fresh) ∙ none-by l r c n.fresh in
          absurd (omega (arith, none, raised))

  pub new-stands : Good s l → Good s t.next → (entry_at (grid_size s) (shown s t.next) (t.place - 1)).grid ≡ r
  unfolding place_in sorted
  new-stands g after =
      let before : place_in (grids_of (sorted l)) r ≡ t.place = ap suc (count-sorted (λ x. less x r) l g.once) ∙ sym n.place_is in
      let within = length-select (λ x. less x r) (grids_of l) in
      entry_read s t.next after (t.place - 1) (omega (arith, n.place_is, within, length-map l (λ (x : Entry). x.grid), ap length new-set))
      ∙ ap (λ (k : Entries). get_or (grids_of (sorted k)) (t.place - 1) []) new-set
      ∙ ap (λ (j : ℕ). get_or (grids_of (insert new (sorted l))) (j - 1) []) (sym before)
      ∙ new_line (sorted l) (sorted-asc l g.once) new (λ m. true≢false (sym (in-holds r (grids_of (sorted l)) m) ∙ holds-sorted r l ∙ n.fresh))
