-- Laws of the checks that planbook makes before any command.
--
--   over-limit, start-line, start-numbers, start-length  ==  the first no before any command, check by check: 11, 12, 1 to 4, 13
--   open-refuses       ==  a no to 1 to 4 is open's own, whatever the slice
--   Passes input       ==  an input of at most 65,536 bytes whose line 1 is laid, within the limits, with a register of at most 65,536 bytes
--   start-pass         ==  no check gets a no exactly for such an input
--   start-limits       ==  so the limits hold, and the register is short enough
use mathlib.Core.Path.{◌≡◌, refl, ◌∙◌}
use mathlib.Core.List.{List, [], ◌∷◌, ◌++◌}
use mathlib.Core.Bool.{true, false}
use mathlib.Core.Logic.{◌↔◌}
use Prim.Native.Nat.{ℕ, suc, ◌≤◌, ◌<◌}
use native.Mathlib.Omega.{arith}
use lib.ListN.{length}
use borrow.Author.Tests.{leb-true, le-leb, lt-leb}
use Rattle.grids.specs.Asked.{numbers_no}
use Rattle.grids.specs.Questions.{first_no, question1, question2, question3, question4, question6}
use Rattle.grids.proofs.QuestionLaws.{Numbered, first-no-zero, first_no-pass, first_no-stop, first-no-stays, first-no-next, range-yes, limits-asked}
use Rattle.layout.specs.Layout.{Shape, layout_length, InLimits}
use Rattle.calls.specs.Calls.{refusal, answered, open_questions, opened}
use Rattle.calls.proofs.AskedLaws.{number_questions, number-numbered, numbers-pass}
use Rattle.protocol.specs.Transcript.{byte_limit, shape_in, question11, question12, question13, start_questions, start_no}

-- ---- the checks

module _ (input : List ℕ) where
  pub over-limit : byte_limit < length input → start_no input ≡ 11
  unfolding start_no start_questions question11
  over-limit h = first_no-stop (question11 input) _ (lt-leb (length input) byte_limit h)

  module _ (short : length input ≤ byte_limit) where
    pub start-line : (question12 input).answer ≡ false → start_no input ≡ 12
    unfolding start_no start_questions question11 question12
    start-line e = first_no-pass (question11 input) _ (le-leb (length input) byte_limit short) ∙ first_no-stop (question12 input) _ e

    module _ (line : (question12 input).answer ≡ true) where
      past-line : start_no input ≡ first_no (number_questions (shape_in input) ++ (question13 (shape_in input) ∷ []))
      unfolding start_no start_questions question11
      past-line = first_no-pass (question11 input) _ (le-leb (length input) byte_limit short) ∙ first_no-pass (question12 input) _ line

      pub start-numbers : (k : ℕ) → numbers_no (shape_in input).rows (shape_in input).columns (shape_in input).top (shape_in input).capacity ≡ suc k → start_no input ≡ suc k
      unfolding numbers_no
      start-numbers k e = past-line ∙ first-no-stays (number_questions (shape_in input)) _ (λ z. omega arith) ∙ e

      past-numbers : InLimits (shape_in input) → start_no input ≡ first_no (question13 (shape_in input) ∷ [])
      unfolding numbers_no
      past-numbers h = past-line ∙ first-no-next (number_questions (shape_in input)) _ (number-numbered (shape_in input)) ((numbers-pass (shape_in input)).1 h)

      pub start-length : InLimits (shape_in input) → byte_limit < layout_length (shape_in input) → start_no input ≡ 13
      unfolding question13
      start-length h long = past-numbers h ∙ first_no-stop (question13 (shape_in input)) [] (lt-leb (layout_length (shape_in input)) byte_limit long)

pub open-refuses : (s : Shape) (k : ℕ) → numbers_no s.rows s.columns s.top s.capacity ≡ suc k → (b : List ℕ) → opened s b ≡ refusal (suc k) b
unfolding numbers_no opened open_questions answered
open-refuses s k e b = rw (first-no-stays (number_questions s) (question6 (layout_length s) (b ∷ []) ∷ []) (λ z. omega arith) ∙ e) refl

pub record Passes (input : List ℕ) : Type 0 where
  pub input-short : length input ≤ byte_limit
  pub line-laid : (question12 input).answer ≡ true
  pub limits : InLimits (shape_in input)
  pub register-short : layout_length (shape_in input) ≤ byte_limit

start-numbered : (input : List ℕ) → Numbered (start_questions input)
unfolding start_questions question11 question12 question13 question1 question2 question3 question4
start-numbered input = omega arith

pub start-pass : (input : List ℕ) → (start_no input ≡ 0) ↔ Passes input
unfolding first_no start_no start_questions question4 question11 question13
start-pass input = (to, back)
  where
    s : Shape
    s = shape_in input

    to : start_no input ≡ 0 → Passes input
    to e =
        let h = (first-no-zero (start_questions input) (start-numbered input)).0 e in
        let a = (limits-asked s.rows s.columns s.top (question4 s.capacity ∷ question13 s ∷ [])).0 h.1.1 in
        record {
          input-short = leb-true (length input) byte_limit h.0;
          line-laid = h.1.0;
          limits = record { grid-limits = a.0; capacity-limits = range-yes 1 500 s.capacity a.1.0 };
          register-short = leb-true (layout_length s) byte_limit a.1.1.0;
        }

    back : Passes input → start_no input ≡ 0
    back h = past-numbers input h.input-short h.line-laid h.limits ∙ first_no-pass (question13 s) [] (le-leb (layout_length s) byte_limit h.register-short)

pub start-limits : (input : List ℕ) → start_no input ≡ 0 → InLimits (shape_in input) × (layout_length (shape_in input) ≤ byte_limit)
start-limits input e = let h = (start-pass input).0 e in (h.limits, h.register-short)
