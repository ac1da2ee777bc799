-- An implementation whose calls meet their contracts answers and leaves, call by call, what that of specs/Calls does.
--
--   meets-own    ==  those of specs/Calls meet their contracts
--   limits-lent-shape  ==  numbers within the limits are machine words
--   small-shape, is_lent, are_lent, tested-call, tested-calls  ==  of literal numbers and calls it is computed
--   shown-bytes  ==  the machine's bytes are bytes
--   call_length, call-bytes  ==  a call keeps the length, and what it leaves of bytes is bytes
--   meets_call   ==  one call of an implementation that meets the contracts
--   meets-other  ==  an implementation that does otherwise where a slice has no bytes meets them too
--   meets-run    ==  whole lists of calls
--   enter-alike  ==  on a register of up to 5 rows both enters are alike, of every implementation that meets their contracts
use mathlib.Core.Path.{◌≡◌, refl, sym, ap, subst, ◌∙◌}
use mathlib.Core.List.{List, [], ◌∷◌}
use mathlib.Core.Bool.{Bool, true, false, ◌&&◌}
use Prim.Native.Nat.{ℕ, zero, suc}
use native.Mathlib.Omega.{arith}
use lib.ListN.{length}
use lib.Dec.{ltb}
use lib.Pow.{are_bytes}
use borrow.Author.Tests.{ltb-true}
use Rattle.permutations.specs.Lists.{All}
use Rattle.permutations.proofs.BoolLaws.{and_yes}
use Rattle.grids.specs.Lent.{Bytes, IsWord}
use Rattle.grids.proofs.LentLaws.{small_word, is_slice, tested-bytes}
use Rattle.grids.proofs.TerminalLaws.{few-rows}
use Rattle.layout.specs.Layout.{Shape, Register, decode, InLimits}
use Rattle.layout.proofs.LayoutBytes.{each_layout, layout-bytes}
use Rattle.calls.specs.Entries.{least_in, more, fewer, holdings_in}
use Rattle.calls.specs.Calls.{Outcome, placed, answered, kept, enter_into, strike_from, enter_register, strike_register, count_register, terminal_enter_register, opened, entered, struck, counted, terminal_entered}
use Rattle.machine.specs.CallLists.{Call, enter, strike, count_in, terminal_enter, Implementation, register_calls, LentShape, LentCall, Meets, called, run, EnterAlike}
use Rattle.machine.specs.Machine.{shown}
use Rattle.calls.proofs.EntryLaws.{Entries}
use Rattle.calls.proofs.RefusalLaws.{count-numbers, count-unchanged}
use Rattle.calls.proofs.CallLaws.{entered-length, struck-length}
use Rattle.calls.proofs.TerminalLaws.{terminal-entered, terminal-entered-length}
use Rattle.machine.proofs.MachineLaws.{Good, register_of, good-register}

pub meets-own : Meets register_calls
unfolding register_calls
meets-own = record {
  opens = λ s b w h. refl;
  enters = λ b c g h w k. refl;
  strikes = λ b c g h w k. refl;
  counts = λ b low high h k l. refl;
  terminal_enters = λ b c g h w k. refl;
}

pub limits-lent-shape : (s : Shape) → InLimits s → LentShape s
limits-lent-shape s l = record {
  rows-word = small_word s.rows (omega (arith, l.grid-limits.rows-limits));
  columns-word = small_word s.columns (omega (arith, l.grid-limits.column-limits));
  top-word = small_word s.top (omega (arith, l.grid-limits.top-limit));
  capacity-word = small_word s.capacity (omega (arith, l.capacity-limits));
}

-- ---- literal numbers and calls

pub small-shape : (s : Shape) → (ltb s.rows 10000000 && (ltb s.columns 10000000 && (ltb s.top 10000000 && ltb s.capacity 10000000))) ≡ true → LentShape s
small-shape s e =
    let p = and_yes (ltb s.rows 10000000) _ e in
    let q = and_yes (ltb s.columns 10000000) _ p.1 in
    let r = and_yes (ltb s.top 10000000) (ltb s.capacity 10000000) q.1 in record {
      rows-word = small_word s.rows (ltb-true s.rows 10000000 p.0);
      columns-word = small_word s.columns (ltb-true s.columns 10000000 q.0);
      top-word = small_word s.top (ltb-true s.top 10000000 r.0);
      capacity-word = small_word s.capacity (ltb-true s.capacity 10000000 r.1);
    }

abbrev pub is_lent : Call → Bool
is_lent (enter c g) = ltb c 10000000 && is_slice g
is_lent (strike c g) = ltb c 10000000 && is_slice g
is_lent (count_in low high) = is_slice low && is_slice high
is_lent (terminal_enter c g) = ltb c 10000000 && is_slice g

abbrev pub are_lent : List Call → Bool
are_lent [] = true
are_lent (c ∷ calls) = is_lent c && are_lent calls

client-lent : (c : ℕ) (g : List ℕ) → (ltb c 10000000 && is_slice g) ≡ true → IsWord c × Bytes g
client-lent c g e = let p = and_yes (ltb c 10000000) (is_slice g) e in (small_word c (ltb-true c 10000000 p.0), tested-bytes g p.1)

pub tested-call : (c : Call) → is_lent c ≡ true → LentCall c
unfolding LentCall
tested-call (enter c g) e = client-lent c g e
tested-call (strike c g) e = client-lent c g e
tested-call (count_in low high) e = let p = and_yes (is_slice low) (is_slice high) e in (tested-bytes low p.0, tested-bytes high p.1)
tested-call (terminal_enter c g) e = client-lent c g e

pub tested-calls : (calls : List Call) → are_lent calls ≡ true → All LentCall calls
tested-calls [] e = tt
tested-calls (c ∷ calls) e = let p = and_yes (is_lent c) (are_lent calls) e in (tested-call c p.0, tested-calls calls p.1)

-- ---- what is left is bytes

pub shown-bytes : (s : Shape) (l : Entries) → Good s l → Bytes (shown s l)
unfolding shown register_of
shown-bytes s l g = layout-bytes (register_of s l) (good-register s l g)

pub call_length : (b : List ℕ) (c : Call) → length (called register_calls b c).bytes ≡ length b
unfolding called register_calls
call_length b (enter c g) = entered-length b c g
call_length b (strike c g) = struck-length b c g
call_length b (count_in low high) = ap length (count-unchanged b low high)
call_length b (terminal_enter c g) = terminal-entered-length b c g

enter-each : (x : Register) (c : ℕ) (r : List ℕ) → are_bytes (enter_into x c r).bytes ≡ true
unfolding enter_into
enter-each x c r = each_layout (record { shape = x.shape; entries = kept r (more c (holdings_in r x.entries)) x.entries })

strike-each : (x : Register) (c : ℕ) (r : List ℕ) → are_bytes (strike_from x c r).bytes ≡ true
unfolding strike_from
strike-each x c r = each_layout (record { shape = x.shape; entries = kept r (fewer c (holdings_in r x.entries)) x.entries })

answered-each : (k : ℕ) (b : List ℕ) (o : Outcome) → are_bytes b ≡ true → are_bytes o.bytes ≡ true → are_bytes (answered k b o).bytes ≡ true
unfolding answered
answered-each zero b o h i = i
answered-each (suc k) b o h i = h

call-each : (b : List ℕ) (c : Call) → are_bytes b ≡ true → are_bytes (called register_calls b c).bytes ≡ true
unfolding called register_calls entered struck counted terminal_entered enter_register strike_register count_register terminal_enter_register
call-each b (enter c g) h = answered-each _ b (enter_into (decode b) c (least_in (decode b).shape g)) h (enter-each (decode b) c (least_in (decode b).shape g))
call-each b (strike c g) h = answered-each _ b (strike_from (decode b) c (least_in (decode b).shape g)) h (strike-each (decode b) c (least_in (decode b).shape g))
call-each b (count_in low high) h = rw (count-unchanged b low high) h
call-each b (terminal_enter c g) h = answered-each _ b (enter_into (decode b) c (least_in (decode b).shape g)) h (enter-each (decode b) c (least_in (decode b).shape g))

pub call-bytes : (b : List ℕ) (c : Call) → Bytes b → Bytes (called register_calls b c).bytes
call-bytes b c h = record { each = call-each b c h.each; length-word = subst IsWord (sym (call_length b c)) h.length-word }

-- ---- an implementation that meets the contracts

module _ (i : Implementation) (m : Meets i) where
  pub meets_call : (b : List ℕ) (c : Call) → Bytes b → LentCall c → called i b c ≡ called register_calls b c
  unfolding called register_calls LentCall
  meets_call b (enter c g) h l = m.enters b c g h l.0 l.1
  meets_call b (strike c g) h l = m.strikes b c g h l.0 l.1
  meets_call b (count_in low high) h l = m.counts b low high h l.0 l.1
  meets_call b (terminal_enter c g) h l = m.terminal_enters b c g h l.0 l.1

  pub meets-run : (b : List ℕ) (calls : List Call) → Bytes b → All LentCall calls → run i b calls ≡ run register_calls b calls
  unfolding run
  meets-run b [] h l = refl
  meets-run b (c ∷ calls) h l =
      ap (λ (o : Outcome). o ∷ run i o.bytes calls) (meets_call b c h l.0)
      ∙ ap (λ (x : List Outcome). called register_calls b c ∷ x) (meets-run (called register_calls b c).bytes calls (call-bytes b c h) l.1)

-- ---- the contracts speak of bytes and machine words alone

counted_or77 : Bool → List ℕ → List ℕ → List ℕ → Outcome
counted_or77 true b low high = counted b low high
counted_or77 false b low high = placed 77 0 b

other : Implementation
other = record { opens = opened; enters = entered; strikes = struck; counts = λ b low high. counted_or77 (are_bytes low) b low high; terminal_enters = terminal_entered }

pub meets-other : (i : Implementation) × Meets i × (i ≡ register_calls → ⊥)
unfolding register_calls other counted_or77
meets-other = (
  other,
  record {
    opens = λ s b w h. refl;
    enters = λ b c g h w k. refl;
    strikes = λ b c g h w k. refl;
    counts = λ b low high h k l. ap (λ (t : Bool). counted_or77 t b low high) k.each;
    terminal_enters = λ b c g h w k. refl;
  },
  λ e. omega (arith, ap (λ (i : Implementation). (i.counts [] (256 ∷ []) []).number) e, count-numbers [] (256 ∷ []) []),
)

pub enter-alike : (i : Implementation) → Meets i → EnterAlike i
unfolding EnterAlike decode
enter-alike i h b c g x y z r = h.terminal_enters b c g x y z ∙ terminal-entered b c g (few-rows _ r) ∙ sym (h.enters b c g x y z)
