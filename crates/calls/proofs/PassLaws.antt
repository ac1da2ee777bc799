-- Which arguments the register's calls pass, exactly: by registers, grids, clients and bounds.
--
--   Stated b           ==  the bytes b are those of a register, the one that they state
--   stated-exactly     ==  question 5 gets a yes exactly for these
--   EnterPasses b c g, enter-pass  ==  enter's questions: a register, a grid, a client, its class held or room for it, and this client's holding below 999
--   terminal-enter-pass  ==  those of a terminal's enter: the same, and at most 5 rows
--   StrikePasses b c g, strike-pass  ==  strike's: a register, a grid, a client, and its class held by this client
--   count-pass         ==  count's: a register, and bounds
use mathlib.Core.Path.{◌≡◌, refl, sym, ◌∙◌}
use mathlib.Core.List.{List, [], ◌∷◌, ◌++◌, Memᴰ}
use mathlib.Core.Bool.{Bool, true, false, ◌||◌}
use mathlib.Core.Logic.{◌⊎◌, inl, inr, ◌↔◌}
use Prim.Native.Nat.{ℕ, ◌≤◌, ◌<◌}
use native.Mathlib.Omega.{arith}
use lib.ListN.{length}
use lib.Dec.{ltb}
use borrow.Author.Tests.{ltb-true, lt-ltb}
use Rattle.permutations.proofs.BoolLaws.{yes_or_no}
use Rattle.grids.specs.Grids.{IsGrid}
use Rattle.grids.specs.Questions.{first_no, question14}
use Rattle.grids.proofs.TerminalLaws.{after-yes, after-no, after_stop, few-rows, terminal-rows}
use Rattle.bounds.specs.Bounds.{IsBounds}
use Rattle.layout.specs.Layout.{clients, most_held, grids_of, grid_size, layout, decode, IsRegister, laid_out}
use Rattle.layout.proofs.RegisterLaws.{question5-layouts}
use Rattle.calls.specs.Entries.{least_in, holds, held_by, question9, question16, client_questions}
use Rattle.calls.specs.Calls.{question5, enter_questions, strike_questions, count_questions, terminal_enter_questions}
use Rattle.calls.proofs.AskedLaws.{client-pass, enter-tested, strike-tested, count-tested}
use Rattle.calls.proofs.EntryLaws.{holds-in, in-holds}
use Rattle.calls.proofs.CallLaws.{stated}

pub record Stated (b : List ℕ) : Type 0 where
  pub is-register : IsRegister (decode b)
  pub bytes-are : b ≡ layout (decode b)

pub stated-exactly : (b : List ℕ) → (laid_out b ≡ true) ↔ Stated b
stated-exactly b = (
  λ e. let s = stated b e in record { is-register = s.0; bytes-are = s.1 },
  λ s. (question5-layouts b).1 (decode b, s.is-register, s.bytes-are),
)

pub record EnterPasses (b : List ℕ) (c : ℕ) (g : List ℕ) : Type 0 where
  pub register : Stated b
  pub grid : IsGrid (decode b).shape.rows (decode b).shape.columns (decode b).shape.top g
  pub client : (1 ≤ c) × (c ≤ clients)
  pub room : Memᴰ (least_in (decode b).shape g) (grids_of (decode b).entries) ⊎ (length (decode b).entries < (decode b).shape.capacity)
  pub below : held_by c (least_in (decode b).shape g) (decode b).entries < most_held

pub record StrikePasses (b : List ℕ) (c : ℕ) (g : List ℕ) : Type 0 where
  pub register : Stated b
  pub grid : IsGrid (decode b).shape.rows (decode b).shape.columns (decode b).shape.top g
  pub client : (1 ≤ c) × (c ≤ clients)
  pub held : 0 < held_by c (least_in (decode b).shape g) (decode b).entries

-- held, or room for it
room-or : (r : List ℕ) (l : List (List ℕ)) (n k : ℕ) → ((holds r l || ltb n k) ≡ true) ↔ (Memᴰ r l ⊎ (n < k))
room-or r l n k = (to (yes_or_no (holds r l)), back)
  where
    to : (holds r l ≡ true) ⊎ (holds r l ≡ false) → (holds r l || ltb n k) ≡ true → Memᴰ r l ⊎ (n < k)
    to (inl h) e = inl (holds-in r l h)
    to (inr h) e = inr (ltb-true n k (rw h at e))

    or-true : (x : Bool) → (x || true) ≡ true
    or-true true = refl
    or-true false = refl

    back : Memᴰ r l ⊎ (n < k) → (holds r l || ltb n k) ≡ true
    back (inl m) = rw (in-holds r l m) refl
    back (inr h) = rw (lt-ltb n k h) (or-true (holds r l))

module _ (b : List ℕ) (c : ℕ) (g : List ℕ) where
  abbrev r : List ℕ
  r = least_in (decode b).shape g

  pub enter-pass : (first_no (enter_questions b (decode b) c g r) ≡ 0) ↔ EnterPasses b c g
  enter-pass =
      let a = enter-tested b (decode b) c g r in
      let p = client-pass (decode b).shape c g in
      let o = room-or r (grids_of (decode b).entries) (length (decode b).entries) (decode b).shape.capacity in (
        λ e.
            let q = a.0 e in
            let k = p.0 q.1 in
            record { register = (stated-exactly b).0 q.0; grid = k.0; client = (k.1, k.2); room = o.0 q.2; below = ltb-true _ _ q.3 },
        λ h. a.1 ((stated-exactly b).1 h.register, p.1 (h.grid, h.client.0, h.client.1), o.1 h.room, lt-ltb _ _ h.below),
      )

  pub strike-pass : (first_no (strike_questions b (decode b) c g r) ≡ 0) ↔ StrikePasses b c g
  strike-pass =
      let a = strike-tested b (decode b) c g r in
      let p = client-pass (decode b).shape c g in (
        λ e. let q = a.0 e in let k = p.0 q.1 in record { register = (stated-exactly b).0 q.0; grid = k.0; client = (k.1, k.2); held = ltb-true _ _ q.2 },
        λ h. a.1 ((stated-exactly b).1 h.register, p.1 (h.grid, h.client.0, h.client.1), lt-ltb _ _ h.held),
      )

  -- a no of question 14 or of question 5 is a first no
  terminal-refused : (question14 (decode b).shape.rows).answer ≡ false → (laid_out b ≡ true) ⊎ (laid_out b ≡ false) → first_no (terminal_enter_questions b (decode b) c g r) ≡ 0 → ⊥
  unfolding terminal_enter_questions enter_questions question5 question14
  terminal-refused t (inl l) e =
      omega (arith, e, after-no (question14 (decode b).shape.rows) (question5 b) (client_questions (decode b).shape c g ++ (question9 (decode b) r ∷ question16 (decode b) c r ∷ [])) l t)
  terminal-refused t (inr l) e =
      omega (arith, e, after_stop (question14 (decode b).shape.rows) (question5 b) (client_questions (decode b).shape c g ++ (question9 (decode b) r ∷ question16 (decode b) c r ∷ [])) l)

  pub terminal-enter-pass : (first_no (terminal_enter_questions b (decode b) c g r) ≡ 0) ↔ (EnterPasses b c g × ((decode b).shape.rows ≤ 5))
  unfolding terminal_enter_questions
  terminal-enter-pass = (to (yes_or_no (question14 (decode b).shape.rows).answer), back)
    where
      to : ((question14 (decode b).shape.rows).answer ≡ true) ⊎ ((question14 (decode b).shape.rows).answer ≡ false) →
          first_no (terminal_enter_questions b (decode b) c g r) ≡ 0 → EnterPasses b c g × ((decode b).shape.rows ≤ 5)
      to (inl t) e =
          let h = enter-pass.0 (sym (after-yes (question14 (decode b).shape.rows) (enter_questions b (decode b) c g r) t) ∙ e) in
          (h, terminal-rows (decode b).shape.rows h.register.is-register.limits.grid-limits.rows-limits.1 t)
      to (inr t) e = absurd (terminal-refused t (yes_or_no (laid_out b)) e)

      back : EnterPasses b c g × ((decode b).shape.rows ≤ 5) → first_no (terminal_enter_questions b (decode b) c g r) ≡ 0
      back h = after-yes (question14 (decode b).shape.rows) (enter_questions b (decode b) c g r) (few-rows _ h.1) ∙ enter-pass.1 h.0

pub count-pass : (b low high : List ℕ) → (first_no (count_questions b (decode b) low high) ≡ 0) ↔ (Stated b × IsBounds (grid_size (decode b).shape) (decode b).shape.top low high)
count-pass b low high =
    let a = count-tested b (decode b) low high in
    (λ e. let q = a.0 e in ((stated-exactly b).0 q.0, q.1), λ h. a.1 ((stated-exactly b).1 h.0, h.1))
