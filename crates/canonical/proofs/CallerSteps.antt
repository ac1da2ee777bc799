-- What a caller asks besides, as the code finds it.
--
--   admitted               ==  it got a yes, by what admit answers
--   among-yes              ==  the first no of all questions is then that of the order system's
--   among-no, turned-away  ==  it got a no: that is the first no of them all
use Rattle.std.proofs.Common.{◌≡◌, List, [], ◌∷◌, ℕ, ◌<◌, ◌≤◌, refl, sym, ◌∙◌, arith, Result, Ok}
use mathlib.Core.Bool.{Bool, true, false}
use Rattle.refusals.specs.declared.Refusal.{Refusal}
use Rattle.refusals.specs.Numbers.{asked_number}
use Rattle.refusals.proofs.NumberLaws.{yes-is}
use Rattle.grids.specs.Questions.{Question, first_no, question1}
use Rattle.grids.proofs.QuestionLaws.{first_no-pass, first_no-stop, yes-range}
use Rattle.grids.proofs.TerminalLaws.{after-yes, after-no}
use Rattle.canonical.specs.Callers.{CallerLaws}

-- one question, by its number
one-yes : (q : Question) → 0 < q.number → 0 ≡ first_no (q ∷ []) → q.answer ≡ true
one-yes q h z = go q.answer refl
  where
    go : (t : Bool) → q.answer ≡ t → t ≡ true
    go true e = refl
    go false e = absurd (omega (arith, first_no-stop q [] e))

one-no : (q : Question) (k : ℕ) → k ≡ first_no (q ∷ []) → (k ≡ 0 → ⊥) → (q.answer ≡ false) × (k ≡ q.number)
unfolding first_no
one-no q k f n = go q.answer refl
  where
    go : (t : Bool) → q.answer ≡ t → (t ≡ false) × (k ≡ q.number)
    go true e = absurd (n (f ∙ first_no-pass q [] e))
    go false e = (refl, f ∙ first_no-stop q [] e)

module _ {N : ℕ} {besides : ℕ → Question} {questions : ℕ → List Question → List Question} (laws : CallerLaws N besides questions) (m : ℕ) where
  pub admitted : {A : Type 0} {r : Result A Refusal} {y : A} → r ≡ Ok y → asked_number r ≡ first_no (besides m ∷ []) → (besides m).answer ≡ true
  admitted d e = one-yes (besides m) (laws.numbered m) (yes-is d e)

  pub among-yes : (besides m).answer ≡ true → (l : List Question) → first_no (questions m l) ≡ first_no l
  among-yes e l = laws.among m l ∙ after-yes (besides m) l e

  -- x is a question that rows within the limits get a yes for
  module _ (k : ℕ) (found : k ≡ first_no (besides m ∷ [])) (n : k ≡ 0 → ⊥) (x : Question) (l : List Question) (yes : (1 ≤ m) × (m ≤ 8) → x.answer ≡ true) where
    pub among-no : k ≡ first_no (questions m (x ∷ l))
    among-no =
        let w = one-no (besides m) k found n in
        w.1 ∙ sym (laws.among m (x ∷ l) ∙ after-no (besides m) x l (yes (laws.rows m w.0)) w.0)

  pub turned-away : (k : ℕ) → k ≡ first_no (besides m ∷ []) → (k ≡ 0 → ⊥) → (l : List Question) → k ≡ first_no (questions m (question1 m ∷ l))
  unfolding question1
  turned-away k f n l = among-no k f n (question1 m) l (yes-range 1 8 m)
