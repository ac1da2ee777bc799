-- Enter and strike as the code takes them: questions 5, 6, 7 and 15 first, then the least grid and its place.
--
--   answered-refusal              ==  a no
--   answered-append               ==  questions asked in two groups
--   entered-asked, struck-asked, terminal-entered-asked  ==  enter, strike and a terminal's enter: the first group, then the least grid
--   held-there                    ==  a grid is held exactly where it stands at its place
--   entered-held, entered-most, entered-full, entered-new  ==  entering a least grid: it stands at its place; this client holds 999; it does not stand there and the register is full; it is put in
--   struck-none, struck-held      ==  striking it: this client holds none; it holds some
use mathlib.Core.Path.{◌≡◌, refl, sym, ap, ◌∙◌, subst}
use mathlib.Core.List.{List, [], ◌∷◌, ◌++◌}
use mathlib.Core.Bool.{Bool, true, false, ◌&&◌, ◌||◌}
use mathlib.Core.Logic.{◌⊎◌, inl, inr}
use Prim.Native.Nat.{ℕ, zero, suc, ◌+◌, ◌≤◌, ◌<◌}
use native.Mathlib.Decide.{dec_lt, ℕ_discrete}
use native.Mathlib.Omega.{arith}
use lib.ListN.{length, get_or, take, drop}
use lib.Dec.{T, ltb}
use borrow.Author.Tests.{lt-ltb, le-ltb}
use Rattle.permutations.proofs.BoolLaws.{yes_or_no}
use Rattle.grids.specs.Order.{equal}
use Rattle.grids.specs.Questions.{Question, first_no, question6, question7, question14, after_first}
use Rattle.grids.proofs.OrderLaws.{equal-eq, eq-equal}
use Rattle.grids.proofs.QuestionLaws.{Numbered, first-no-stays, first-no-next}
use Rattle.layout.specs.Layout.{Entry, clients, most_held, no_holdings, grids_of, holding, changed, decode, some_held, Ascends}
use Rattle.layout.specs.Lines.{first_entry}
use Rattle.calls.specs.Entries.{grid_questions, client_questions, question9, question10, question15, question16, more, fewer, holds, holdings_in, held_by, least_in}
use Rattle.calls.specs.Calls.{Outcome, refusal, answered, question5, kept, enter_into, strike_from, enter_questions, strike_questions, enter_register, strike_register, entered, struck, terminal_enter_questions, terminal_enter_register, terminal_entered, placed}
use Rattle.calls.specs.Places.{Lower}
use Rattle.calls.specs.Valid.{asked, terminal_asked, register_with, entered_least, struck_least}
use Rattle.layout.proofs.HoldingLaws.{length_none, length-changed, holding-changed, holding-none, some-held}
use Rattle.calls.proofs.HoldingLaws.{held_none, none-by}
use Rattle.calls.proofs.PlaceLaws.{place-lower, holds-lower, holds-not-end, holds-not-there, kept_new}

pub answered-refusal : (k : ℕ) (b : List ℕ) (o : Outcome) → (k ≡ 0 → ⊥) → answered k b o ≡ refusal k b
unfolding answered
answered-refusal zero b o h = absurd (h refl)
answered-refusal (suc k) b o h = refl

pub answered-append : (l k : List Question) (b : List ℕ) (o : Outcome) → Numbered l → answered (first_no (l ++ k)) b o ≡ answered (first_no l) b (answered (first_no k) b o)
unfolding answered
answered-append l k b o h = go (ℕ_discrete (first_no l) 0)
  where
    go : Dec (first_no l ≡ 0) → answered (first_no (l ++ k)) b o ≡ answered (first_no l) b (answered (first_no k) b o)
    go (yes z) = rw (first-no-next l k h z, z) refl
    go (no n) = rw (first-no-stays l k n, answered-refusal (first_no l) b o n, answered-refusal (first_no l) b (answered (first_no k) b o) n) refl

module _ (b : List ℕ) (c : ℕ) (g : List ℕ) where
  pub entered-asked : entered b c g ≡ answered (asked b c g) b (entered_least b c (least_in (decode b).shape g))
  unfolding entered enter_register enter_questions client_questions grid_questions asked entered_least question5 question6 question7 question15
  entered-asked =
      answered-append (question5 b ∷ client_questions (decode b).shape c g) (question9 (decode b) (least_in (decode b).shape g) ∷ question16 (decode b) c (least_in (decode b).shape g) ∷ []) b _
      (omega arith, (omega arith, (omega arith, (omega arith, tt))))

  pub terminal-entered-asked : terminal_entered b c g ≡ answered (terminal_asked b c g) b (entered_least b c (least_in (decode b).shape g))
  unfolding terminal_entered terminal_enter_register terminal_enter_questions enter_questions after_first client_questions grid_questions terminal_asked entered_least question5 question6 question7 question14 question15
  terminal-entered-asked =
      answered-append (question5 b ∷ question14 (decode b).shape.rows ∷ client_questions (decode b).shape c g)
      (question9 (decode b) (least_in (decode b).shape g) ∷ question16 (decode b) c (least_in (decode b).shape g) ∷ []) b _
      (omega arith, (omega arith, (omega arith, (omega arith, (omega arith, tt)))))

  pub struck-asked : struck b c g ≡ answered (asked b c g) b (struck_least b c (least_in (decode b).shape g))
  unfolding struck strike_register strike_questions client_questions grid_questions asked struck_least question5 question6 question7 question15
  struck-asked =
      answered-append (question5 b ∷ client_questions (decode b).shape c g) (question10 (decode b) c (least_in (decode b).shape g) ∷ []) b _
      (omega arith, (omega arith, (omega arith, (omega arith, tt))))

-- ---- held

pub held-there : {l : List (List ℕ)} {r : List ℕ} {p : ℕ} → Ascends l → Lower l r p → (ltb p (length l) && equal (get_or l p []) r) ≡ holds r l
held-there {l} {r} {p} a h = go (dec_lt p (length l)) (yes_or_no (equal (get_or l p []) r))
  where
    no_both : {t : Bool} → t ≡ false → t ≡ true → ⊥
    no_both e f = subst T (sym f ∙ e) tt

    go : Dec (p < length l) → (equal (get_or l p []) r ≡ true) ⊎ (equal (get_or l p []) r ≡ false) → (ltb p (length l) && equal (get_or l p []) r) ≡ holds r l
    go (no n) e = rw (le-ltb p (length l) (omega arith), holds-not-end h (omega arith)) refl
    go (yes i) (inl e) = rw (lt-ltb p (length l) i, e, holds-lower h i (equal-eq (get_or l p []) r e)) refl
    go (yes i) (inr e) = rw (lt-ltb p (length l) i, e, holds-not-there a h (λ q. absurd (no_both e (eq-equal (get_or l p []) r q)))) refl

-- ---- the least grid

module _ (b : List ℕ) (c : ℕ) {r : List ℕ} {p : ℕ} (h : Lower (grids_of (decode b).entries) r p) where
  abbrev es : List Entry
  es = (decode b).entries

  -- the first no of enter's questions of the register, where this client's holding is not 999
  room-asked : (t u : Bool) → holds r (grids_of es) ≡ t → ltb (length es) (decode b).shape.capacity ≡ u → (t || u) ≡ true → ltb (held_by c r es) most_held ≡ true → first_no (question9 (decode b) r ∷ question16 (decode b) c r ∷ []) ≡ 0
  unfolding question9 question16 first_no
  room-asked t u e f o m = rw (e, f, o, m, first_no) refl

  module _ (held : holds r (grids_of es) ≡ true) where
    pub entered-held : held_by c r es < most_held → entered_least b c r ≡ placed 101 (suc p) (register_with b (kept r (more c (holdings_in r es)) es))
    unfolding entered_least answered enter_into
    entered-held m = rw (room-asked true (ltb (length es) (decode b).shape.capacity) held refl refl (lt-ltb (held_by c r es) most_held m), held, place-lower h) refl

    pub entered-most : most_held ≤ held_by c r es → entered_least b c r ≡ placed 16 0 b
    unfolding entered_least question9 question16 first_no answered
    entered-most m = rw (held, le-ltb (held_by c r es) most_held m, first_no) refl

  module _ (new : holds r (grids_of es) ≡ false) where
    pub entered-full : (decode b).shape.capacity ≤ length es → entered_least b c r ≡ placed 9 0 b
    unfolding entered_least question9 first_no answered
    entered-full f = rw (new, le-ltb (length es) (decode b).shape.capacity f, first_no) refl

    pub entered-new : length es < (decode b).shape.capacity → 1 ≤ c → c ≤ clients → entered_least b c r ≡ placed 0 (suc p) (register_with b (take p es ++ (first_entry c r ∷ drop p es)))
    unfolding entered_least answered enter_into more
    entered-new f low high =
        rw (room-asked false true new (lt-ltb (length es) (decode b).shape.capacity f) refl (lt-ltb (held_by c r es) most_held small), new, place-lower h, first, kept_new es r (changed c 1 no_holdings) p h new somebody) refl
      where
        first : changed c (holding c (holdings_in r es) + 1) (holdings_in r es) ≡ changed c 1 no_holdings
        first = ap (λ (l : List ℕ). changed c (holding c l + 1) l) (held_none es r new) ∙ ap (λ (x : ℕ). changed c (x + 1) no_holdings) (holding-none c)

        small : held_by c r es < most_held
        small = omega (arith, none-by es r c new)

        somebody : some_held (changed c 1 no_holdings) ≡ true
        somebody = some-held (changed c 1 no_holdings) c (omega (arith, length-changed c 1 no_holdings, length_none)) low (omega (arith, holding-changed c 1 no_holdings low (omega (arith, length_none))))

  pub struck-none : held_by c r es ≡ 0 → struck_least b c r ≡ placed 10 0 b
  unfolding struck_least question10 first_no answered
  struck-none z = rw (z, first_no) refl

  pub struck-held : 0 < held_by c r es → struck_least b c r ≡ placed 0 (suc p) (register_with b (kept r (fewer c (holdings_in r es)) es))
  unfolding struck_least strike_from question10 first_no answered
  struck-held some = rw (lt-ltb 0 (held_by c r es) some, first_no, place-lower h) refl
