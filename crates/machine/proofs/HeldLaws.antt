-- What a call does to the holdings that the register's bytes state, on all bytes.
--
--   own-apart ==  a call of specs/Calls changes no holding of a client that it does not name, whatever the lists are
--   apart    ==  a call changes no holding of a client that it does not name, of every implementation that meets the calls' contracts
--   by_one   ==  and none by more than 1
use mathlib.Core.Path.{◌≡◌, refl, ap, ◌∙◌}
use mathlib.Core.List.{List}
use mathlib.Core.Bool.{Bool, true, false, true≢false, ◌&&◌}
use mathlib.Core.Logic.{◌⊎◌, inl, inr}
use Prim.Native.Nat.{ℕ, zero, suc, ◌+◌, ◌≤◌}
use native.Mathlib.Omega.{arith}
use lib.ListN.{length}
use lib.Dec.{eqb}
use borrow.Author.Tests.{ltb-true}
use Rattle.permutations.proofs.BoolLaws.{yes_or_no}
use Rattle.grids.specs.Order.{equal}
use Rattle.grids.specs.Questions.{first_no}
use Rattle.layout.specs.Layout.{Entry, Register, clients, changed, layout, decode, IsRegister, laid_out}
use Rattle.layout.proofs.LayoutLaws.{decode-layout}
use Rattle.layout.proofs.RegisterLaws.{register-printable}
use Rattle.calls.specs.Entries.{least_in, more, fewer, holdings_in, held_by}
use Rattle.calls.specs.Calls.{Outcome, answered, kept, enter_into, strike_from, enter_questions, strike_questions, enter_register, strike_register, entered, struck, terminal_entered}
use Rattle.machine.specs.CallLists.{Call, enter, strike, count_in, terminal_enter, Implementation, register_calls, Meets, called}
use Rattle.machine.specs.Holdings.{names, held_in, Apart, ByOne}
use Rattle.layout.proofs.HoldingLaws.{length-changed}
use Rattle.calls.proofs.HoldingLaws.{kept-becomes, one, more-held, fewer-held}
use Rattle.calls.proofs.AskedLaws.{client-pass, enter-tested, strike-tested}
use Rattle.calls.proofs.RefusalLaws.{count-unchanged}
use Rattle.calls.proofs.CallLaws.{kept_in, stated-fit, enter-keeps, strike-keeps, unlaid-entered, unlaid-struck}
use Rattle.calls.proofs.TerminalLaws.{terminal-cases}
use Rattle.machine.proofs.CallListLaws.{meets_call}

-- from x to y by at most 1, and not at all where the client is not named
record Moved (named : Bool) (x y : ℕ) : Type 0 where
  still : named ≡ false → y ≡ x
  most : (y ≤ x + 1) × (x ≤ y + 1)

unmoved : (t : Bool) (x y : ℕ) → y ≡ x → Moved t x y
unmoved t x y e = record { still = λ n. e; most = (omega (arith, e), omega (arith, e)) }

raised : (t u : Bool) (x y : ℕ) → y ≡ x + one (t && u) → Moved t x y
raised true true x y e = record { still = λ n. absurd (true≢false n); most = (omega (arith, e), omega (arith, e)) }
raised true false x y e = unmoved true x y (omega (arith, e))
raised false u x y e = unmoved false x y (omega (arith, e))

lowered : (t u : Bool) (x y : ℕ) → y + one (t && u) ≡ x → Moved t x y
lowered true true x y e = record { still = λ n. absurd (true≢false n); most = (omega (arith, e), omega (arith, e)) }
lowered true false x y e = unmoved true x y (omega (arith, e))
lowered false u x y e = unmoved false x y (omega (arith, e))

-- where a first no leaves the bytes as they are
answered-moved : (n : ℕ) (b : List ℕ) (o : Outcome) (t : Bool) (k : ℕ) (a : List ℕ) → (n ≡ 0 → Moved t (held_in b k a) (held_in o.bytes k a)) → Moved t (held_in b k a) (held_in (answered n b o).bytes k a)
unfolding answered
answered-moved zero b o t k a h = h refl
answered-moved (suc n) b o t k a h = unmoved t (held_in b k a) (held_in b k a) refl

-- what the bytes of a register with other holdings for r state
kept-held : (b r h : List ℕ) (k : ℕ) (a : List ℕ) → IsRegister (kept_in b r h) → held_in (layout (kept_in b r h)) k a ≡ held_by k a (kept r h (decode b).entries)
unfolding held_in
kept-held b r h k a o = ap (λ (x : Register). held_by k a x.entries) (decode-layout (kept_in b r h) (register-printable (kept_in b r h) o))

module _ (b : List ℕ) (c : ℕ) (g : List ℕ) (k : ℕ) (first : 1 ≤ k) (a : List ℕ) where
  abbrev r : List ℕ
  r = least_in (decode b).shape g

  abbrev es : List Entry
  es = (decode b).entries

  -- the holdings of r are one for each client
  all-of-r : laid_out b ≡ true → (x : ℕ) → length (changed c x (holdings_in r es)) ≡ clients
  all-of-r e x = length-changed c x (holdings_in r es) ∙ (stated-fit b r e).sized

  entered-raised : laid_out b ≡ true → Moved (eqb c k) (held_in b k a) (held_in (entered b c g).bytes k a)
  unfolding entered enter_register enter_into more held_in
  entered-raised e = answered-moved (first_no (enter_questions b (decode b) c g r)) b (enter_into (decode b) c r) (eqb c k) k a λ z.
      let q = (client-pass (decode b).shape c g).0 ((enter-tested b (decode b) c g r).0 z).1 in
      raised (eqb c k) (equal r a) (held_by k a es) _
      (kept-held b r (more c (holdings_in r es)) k a (enter-keeps b c g e z)
      ∙ more-held es (kept r (more c (holdings_in r es)) es) r c q.1 q.2 (stated-fit b r e).sized a k first (kept-becomes r (more c (holdings_in r es)) es (all-of-r e _)))

  struck-lowered : laid_out b ≡ true → Moved (eqb c k) (held_in b k a) (held_in (struck b c g).bytes k a)
  unfolding struck strike_register strike_from fewer held_in
  struck-lowered e = answered-moved (first_no (strike_questions b (decode b) c g r)) b (strike_from (decode b) c r) (eqb c k) k a λ z.
      let p = (strike-tested b (decode b) c g r).0 z in
      let q = (client-pass (decode b).shape c g).0 p.1 in
      lowered (eqb c k) (equal r a) (held_by k a es) _
      (ap (λ (x : ℕ). x + one (eqb c k && equal r a)) (kept-held b r (fewer c (holdings_in r es)) k a (strike-keeps b c g e z))
      ∙ fewer-held es (kept r (fewer c (holdings_in r es)) es) r c q.1 q.2 (stated-fit b r e).sized a k first (ltb-true 0 (held_by c r es) p.2) (kept-becomes r (fewer c (holdings_in r es)) es (all-of-r e _)))

  entered-moved : Moved (eqb c k) (held_in b k a) (held_in (entered b c g).bytes k a)
  entered-moved = go (yes_or_no (laid_out b))
    where
      go : (laid_out b ≡ true) ⊎ (laid_out b ≡ false) → Moved (eqb c k) (held_in b k a) (held_in (entered b c g).bytes k a)
      go (inl e) = entered-raised e
      go (inr e) = unmoved (eqb c k) (held_in b k a) (held_in (entered b c g).bytes k a) (ap (λ (o : Outcome). held_in o.bytes k a) (unlaid-entered b c g e))

  struck-moved : Moved (eqb c k) (held_in b k a) (held_in (struck b c g).bytes k a)
  struck-moved = go (yes_or_no (laid_out b))
    where
      go : (laid_out b ≡ true) ⊎ (laid_out b ≡ false) → Moved (eqb c k) (held_in b k a) (held_in (struck b c g).bytes k a)
      go (inl e) = struck-lowered e
      go (inr e) = unmoved (eqb c k) (held_in b k a) (held_in (struck b c g).bytes k a) (ap (λ (o : Outcome). held_in o.bytes k a) (unlaid-struck b c g e))

  terminal-moved : Moved (eqb c k) (held_in b k a) (held_in (terminal_entered b c g).bytes k a)
  terminal-moved =
      terminal-cases b c g (λ o. Moved (eqb c k) (held_in b k a) (held_in o.bytes k a)) entered-moved
      (unmoved (eqb c k) (held_in b k a) (held_in b k a) refl) (unmoved (eqb c k) (held_in b k a) (held_in b k a) refl)

-- ---- every call

call-moved : (b : List ℕ) (c : Call) (k : ℕ) → 1 ≤ k → (a : List ℕ) → Moved (names k c) (held_in b k a) (held_in (called register_calls b c).bytes k a)
unfolding names called register_calls
call-moved b (enter c g) k first a = entered-moved b c g k first a
call-moved b (strike c g) k first a = struck-moved b c g k first a
call-moved b (count_in low high) k first a = unmoved false _ _ (ap (λ (l : List ℕ). held_in l k a) (count-unchanged b low high))
call-moved b (terminal_enter c g) k first a = terminal-moved b c g k first a

pub own-apart : (b : List ℕ) (c : Call) (k : ℕ) → 1 ≤ k → names k c ≡ false → (r : List ℕ) → held_in (called register_calls b c).bytes k r ≡ held_in b k r
own-apart b c k first n r = (call-moved b c k first r).still n

pub apart : (i : Implementation) → Meets i → Apart i
unfolding Apart
apart i h b c l m k first n r = ap (λ (o : Outcome). held_in o.bytes k r) (meets_call i h b c l m) ∙ own-apart b c k first n r

pub by_one : (i : Implementation) → Meets i → ByOne i
unfolding ByOne
by_one i h b c l m k first r =
    let e = ap (λ (o : Outcome). held_in o.bytes k r) (meets_call i h b c l m) in
    let w = (call-moved b c k first r).most in
    (omega (arith, e, w.0), omega (arith, e, w.1))
