-- What a caller asks besides what the order system asks. Between functions: no answer of a call is defined here.
--
--   nothing m                     ==  what the order system asks besides: it always gets a yes
--   order_system_laws, terminal_laws  ==  the laws hold of both callers
--   CallerLaws N besides questions  ==  `questions` puts the question that is asked besides after the first one; it gets a no of 1 to 8 rows alone, and a yes of at most 8 rows only if they are at most N
use Rattle.std.specs.Prelude.{◌≡◌, List, true, false, ℕ, ◌<◌, ◌≤◌, refl}
use Rattle.std.proofs.Common.{sym, arith}
use mathlib.Core.Bool.{true≢false}
use Rattle.grids.proofs.TerminalLaws.{after-yes, terminal-rows, no_rows}
use Rattle.grids.specs.Questions.{Question, first_no, question14, after_first}

abbrev pub nothing : ℕ → Question
nothing m = record { number = 14; answer = true }

pub record CallerLaws (N : ℕ) (besides : ℕ → Question) (questions : ℕ → List Question → List Question) : Type 0 where
  pub narrow : N ≤ 8
  pub numbered : (m : ℕ) → 0 < (besides m).number
  pub among : (m : ℕ) (l : List Question) → first_no (questions m l) ≡ first_no (after_first (besides m) l)
  pub rows : (m : ℕ) → (besides m).answer ≡ false → (1 ≤ m) × (m ≤ 8)
  pub few : (m : ℕ) → (besides m).answer ≡ true → m ≤ 8 → m ≤ N

pub order_system_laws : CallerLaws 8 nothing (λ m asked. asked)
order_system_laws = record {
  narrow = omega arith;
  numbered = λ m. omega arith;
  among = λ m l. sym (after-yes (nothing m) l refl);
  rows = λ m e. absurd (true≢false e);
  few = λ m e h. h;
}

pub terminal_laws : CallerLaws 5 question14 (λ m asked. after_first (question14 m) asked)
unfolding question14
terminal_laws = record {
  narrow = omega arith;
  numbered = λ m. omega arith;
  among = λ m l. refl;
  rows = λ m e. let r = no_rows m e in (omega (arith, r), omega (arith, r));
  few = λ m e h. terminal-rows m h e;
}
