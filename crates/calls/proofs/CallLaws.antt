-- The calls leave a register a register, of the same shape and length.
--
--   kept_register          ==  a register with other holdings for a grid is one, where there is room
--   stated                 ==  bytes that are laid out are those of the register that they state
--   kept_in b r h           ==  the register that b states, with the holdings h for the grid r
--   stated-fit             ==  a grid's holdings in a register are one for each client, each at most 999
--   enter-keeps, strike-keeps  ==  where enter's or strike's questions get a yes, the register with one more or one fewer is one
--   Leaves b o             ==  the outcome o leaves the register's bytes b the bytes of a register of the same shape
--   entered-leaves, struck-leaves  ==  what the calls leave of bytes that are laid out
--   unlaid-entered, unlaid-struck  ==  and of others: themselves
--   entered-laid, struck-laid  ==  question 5 still gets a yes
--   opened-length, entered-length, struck-length  ==  no call changes the length of the slice
use mathlib.Core.Path.{◌≡◌, refl, sym, ap, ◌∙◌}
use mathlib.Core.List.Memᴰ
use mathlib.Core.List.{List, [], Memᴰ}
use mathlib.Core.Bool.{Bool, true, false, ◌||◌}
use mathlib.Core.Logic.{◌⊎◌, inl, inr}
use Prim.Native.Nat.{ℕ, zero, suc, ◌-◌, ◌<◌}
use native.Mathlib.Omega.{arith}
use lib.ListN.{length}
use lib.Dec.{ltb}
use borrow.Author.Tests.{ltb-true}
use Rattle.permutations.specs.Lists.{select}
use Rattle.permutations.proofs.BoolLaws.{and_yes, or_yes, yes_or_no}
use Rattle.permutations.proofs.SelectLaws.{of-select, length-select}
use Rattle.grids.specs.Order.{equal}
use Rattle.grids.specs.Grids.{IsGrid}
use Rattle.grids.specs.Questions.{first_no}
use Rattle.grids.proofs.OrderLaws.{equal-eq}
use Rattle.grids.proofs.LeastLaws.{least-grid}
use Rattle.grids.proofs.QuestionLaws.{first_no-stop}
use Rattle.layout.specs.Layout.{Shape, Entry, Register, most_held, grids_of, layout, layout_length, holding, decode, IsHoldings, IsRegister, some_held, is_register, laid_out}
use Rattle.calls.specs.Entries.{client_questions, more, fewer, holds, holdings_in, held_by, least_in, without}
use Rattle.calls.specs.Calls.{Outcome, refusal, answered, question5, kept, open_questions, enter_questions, strike_questions, enter_into, strike_from, enter_register, strike_register, opened, entered, struck}
use Rattle.layout.proofs.LayoutLaws.{length-layout}
use Rattle.layout.proofs.RegisterLaws.{register-decides, register-sized, question5-layouts}
use Rattle.calls.proofs.AskedLaws.{open-pass, client-pass, enter-tested, strike-tested}
use Rattle.calls.proofs.RefusalLaws.{entered-refused, struck-refused}
use Rattle.calls.proofs.EntryLaws.{holds-in, of-insert, insert-asc, length-insert, select-asc}
use Rattle.calls.proofs.HoldingLaws.{held-here, HoldingsFit, holdings-fit, changed-fit, fit-held, differs, of-without, without-asc, without-none, without-shorter, without_fewer}

-- ---- registers

module _ (x : Register) (o : IsRegister x) where
  reduced-register : (t : Entry → Bool) → IsRegister (record { shape = x.shape; entries = select t x.entries })
  reduced-register t = record {
    limits = o.limits;
    count_fits = omega (arith, length-select t x.entries, o.count_fits);
    entry-grids = λ y m. o.entry-grids y (of-select t y x.entries m).0;
    entry-holdings = λ y m. o.entry-holdings y (of-select t y x.entries m).0;
    entries-ascend = select-asc t x.entries o.entries-ascend;
  }

  without-register : (r : List ℕ) → IsRegister (record { shape = x.shape; entries = without r x.entries })
  unfolding without
  without-register r = reduced-register (differs r)

  pub kept_register : (r h : List ℕ) → IsGrid x.shape.rows x.shape.columns x.shape.top r → HoldingsFit h →
      (holds r (grids_of x.entries) || ltb (length x.entries) x.shape.capacity) ≡ true → IsRegister (record { shape = x.shape; entries = kept r h x.entries })
  unfolding kept
  kept_register r h i f room = go (yes_or_no (some_held h))
    where
      e : Entry
      e = record { grid = r; holdings = h }

      fewer-than : (holds r (grids_of x.entries) ≡ true) ⊎ (ltb (length x.entries) x.shape.capacity ≡ true) → length (without r x.entries) < x.shape.capacity
      fewer-than (inl t) = omega (arith, without-shorter r x.entries (holds-in r (grids_of x.entries) t), o.count_fits)
      fewer-than (inr t) = omega (arith, without_fewer r x.entries, ltb-true (length x.entries) x.shape.capacity t)

      of-rest : (y : Entry) → Memᴰ y (without r x.entries) → Memᴰ y x.entries
      of-rest y m = of-without r x.entries y m

      grids : (y : Entry) → (y ≡ e) ⊎ Memᴰ y (without r x.entries) → IsGrid x.shape.rows x.shape.columns x.shape.top y.grid
      grids y (inl q) = rw q i
      grids y (inr m) = o.entry-grids y (of-rest y m)

      held : some_held h ≡ true → (y : Entry) → (y ≡ e) ⊎ Memᴰ y (without r x.entries) → IsHoldings y.holdings
      held t y (inl q) = rw q (fit-held h f t)
      held t y (inr m) = o.entry-holdings y (of-rest y m)

      go : (some_held h ≡ true) ⊎ (some_held h ≡ false) → IsRegister (record { shape = x.shape; entries = kept r h x.entries })
      go (inl t) = rw (t, kept) (record {
        limits = o.limits;
        count_fits = omega (arith, length-insert e (without r x.entries), fewer-than (or_yes (holds r (grids_of x.entries)) _ room));
        entry-grids = λ y m. grids y (of-insert e (without r x.entries) y m);
        entry-holdings = λ y m. held t y (of-insert e (without r x.entries) y m);
        entries-ascend = insert-asc e (without r x.entries) (without-asc r x.entries o.entries-ascend) (without-none r x.entries);
      })
      go (inr t) = rw (t, kept) (without-register r)

-- ---- what a call leaves

pub record Leaves (b : List ℕ) (o : Outcome) : Type 0 where
  pub after : Register
  pub is-register : IsRegister after
  pub same_shape : after.shape ≡ (decode b).shape
  pub bytes-are : o.bytes ≡ layout after

pub stated : (b : List ℕ) → laid_out b ≡ true → IsRegister (decode b) × (b ≡ layout (decode b))
unfolding laid_out
stated b e = let p = and_yes (is_register (decode b)) (equal (layout (decode b)) b) e in ((register-decides (decode b)).0 p.0, sym (equal-eq (layout (decode b)) b p.1))

unchanged : (b : List ℕ) (o : Outcome) → laid_out b ≡ true → o.bytes ≡ b → Leaves b o
unchanged b o e f = let s = stated b e in record { after = decode b; is-register = s.0; same_shape = refl; bytes-are = f ∙ s.1 }

answered-leaves : (k : ℕ) (b : List ℕ) (o : Outcome) → laid_out b ≡ true → (k ≡ 0 → Leaves b o) → Leaves b (answered k b o)
unfolding answered
answered-leaves zero b o e h = h refl
answered-leaves (suc k) b o e h = unchanged b _ e refl

-- the register with other holdings for the grid r
abbrev pub kept_in : List ℕ → List ℕ → List ℕ → Register
kept_in b r h = record { shape = (decode b).shape; entries = kept r h (decode b).entries }

-- those of a grid in a register fit
pub stated-fit : (b r : List ℕ) → laid_out b ≡ true → HoldingsFit (holdings_in r (decode b).entries)
stated-fit b r e = holdings-fit (decode b).entries (stated b e).0.entry-holdings r

module _ (b : List ℕ) (c : ℕ) (g : List ℕ) where
  abbrev r : List ℕ
  r = least_in (decode b).shape g

  abbrev x : Register
  x = decode b

  least_fits : first_no (client_questions x.shape c g) ≡ 0 → IsGrid x.shape.rows x.shape.columns x.shape.top r
  least_fits z = least-grid x.shape.rows x.shape.columns x.shape.top g ((client-pass x.shape c g).0 z).0

  pub enter-keeps : laid_out b ≡ true → first_no (enter_questions b x c g r) ≡ 0 → IsRegister (kept_in b r (more c (holdings_in r x.entries)))
  unfolding more held_by
  enter-keeps e z =
      let p = (enter-tested b x c g r).0 z in
      kept_register x (stated b e).0 r (more c (holdings_in r x.entries)) (least_fits p.1) (changed-fit c _ _ (omega (arith, ltb-true (held_by c r x.entries) most_held p.3)) (stated-fit b r e)) p.2

  pub strike-keeps : laid_out b ≡ true → first_no (strike_questions b x c g r) ≡ 0 → IsRegister (kept_in b r (fewer c (holdings_in r x.entries)))
  unfolding fewer held_by holding
  strike-keeps e z =
      let p = (strike-tested b x c g r).0 z in
      let h = held-here x.entries r c (ltb-true 0 (held_by c r x.entries) p.2) in
      let q = (client-pass x.shape c g).0 p.1 in
      let f = stated-fit b r e in
      kept_register x (stated b e).0 r (fewer c (holdings_in r x.entries)) (least_fits p.1) (changed-fit c _ _ (omega (arith, f.capped (c - 1) (omega (arith, q.1, q.2)))) f) (ap (λ (t : Bool). t || ltb (length x.entries) x.shape.capacity) h)

  pub entered-leaves : laid_out b ≡ true → Leaves b (entered b c g)
  unfolding entered enter_register enter_into
  entered-leaves e = answered-leaves _ b _ e λ z. record { after = kept_in b r (more c (holdings_in r x.entries)); is-register = enter-keeps e z; same_shape = refl; bytes-are = refl }

  pub struck-leaves : laid_out b ≡ true → Leaves b (struck b c g)
  unfolding struck strike_register strike_from
  struck-leaves e = answered-leaves _ b _ e λ z. record { after = kept_in b r (fewer c (holdings_in r x.entries)); is-register = strike-keeps e z; same_shape = refl; bytes-are = refl }

-- ---- bytes that are not laid out stay as they are

pub unlaid-entered : (b : List ℕ) (c : ℕ) (g : List ℕ) → laid_out b ≡ false → entered b c g ≡ refusal 5 b
unfolding enter_questions question5
unlaid-entered b c g e = entered-refused b c g 4 (first_no-stop (question5 b) _ e)

pub unlaid-struck : (b : List ℕ) (c : ℕ) (g : List ℕ) → laid_out b ≡ false → struck b c g ≡ refusal 5 b
unfolding strike_questions question5
unlaid-struck b c g e = struck-refused b c g 4 (first_no-stop (question5 b) _ e)

-- ---- layout and length

laid-after : (b : List ℕ) (o : Outcome) → Leaves b o → laid_out o.bytes ≡ true
laid-after b o l = (question5-layouts o.bytes).1 (l.after, l.is-register, l.bytes-are)

pub entered-laid : (b : List ℕ) (c : ℕ) (g : List ℕ) → laid_out b ≡ true → laid_out (entered b c g).bytes ≡ true
entered-laid b c g e = laid-after b (entered b c g) (entered-leaves b c g e)

pub struck-laid : (b : List ℕ) (c : ℕ) (g : List ℕ) → laid_out b ≡ true → laid_out (struck b c g).bytes ≡ true
struck-laid b c g e = laid-after b (struck b c g) (struck-leaves b c g e)

register-length : (r : Register) → IsRegister r → length (layout r) ≡ layout_length r.shape
register-length r o = length-layout r (register-sized r o) o.count_fits

length-after : (b : List ℕ) (o : Outcome) → laid_out b ≡ true → Leaves b o → length o.bytes ≡ length b
length-after b o e l =
    let s = stated b e in
    ap length l.bytes-are ∙ register-length l.after l.is-register ∙ ap layout_length l.same_shape ∙ sym (register-length (decode b) s.0) ∙ ap length (sym s.1)

length-kept : (b : List ℕ) (o : Outcome) → (laid_out b ≡ true → Leaves b o) → (laid_out b ≡ false → o ≡ refusal 5 b) → length o.bytes ≡ length b
length-kept b o laid unlaid = go (yes_or_no (laid_out b))
  where
    go : (laid_out b ≡ true) ⊎ (laid_out b ≡ false) → length o.bytes ≡ length b
    go (inl e) = length-after b o e (laid e)
    go (inr e) = ap (λ (x : Outcome). length x.bytes) (unlaid e)

pub entered-length : (b : List ℕ) (c : ℕ) (g : List ℕ) → length (entered b c g).bytes ≡ length b
entered-length b c g = length-kept b (entered b c g) (entered-leaves b c g) (unlaid-entered b c g)

pub struck-length : (b : List ℕ) (c : ℕ) (g : List ℕ) → length (struck b c g).bytes ≡ length b
struck-length b c g = length-kept b (struck b c g) (struck-leaves b c g) (unlaid-struck b c g)

pub opened-length : (s : Shape) (b : List ℕ) → length (opened s b).bytes ≡ length b
unfolding opened answered
opened-length s b = go (first_no (open_questions s b)) refl
  where
    empty : Register
    empty = record { shape = s; entries = [] }

    go : (k : ℕ) → first_no (open_questions s b) ≡ k → length (answered k b (record { number = 0; place = 0; bytes = layout empty })).bytes ≡ length b
    go zero e =
        length-layout empty (λ g m. absurd (Memᴰ.not-nil m)) (omega arith) ∙ sym ((open-pass s b).0 e).1
    go (suc k) e = refl
