-- Question 15, asked after other questions.
--
--   client-past    ==  one of them got a no
--   client-next    ==  none did: question 15 is asked
--   client-no, client-yes  ==  it gets a no, or a yes
--   client-is      ==  a yes says that the client is 1 to 8
--   client-passes  ==  where there is no no, the others gave none and the client is 1 to 8
--   client-first   ==  the first no of the others, then question 15, is the first no of them all
use mathlib.Core.Path.{◌≡◌, refl, sym, ◌∙◌}
use mathlib.Core.List.{List, [], ◌∷◌, ◌++◌}
use Prim.Native.Nat.{ℕ, zero, suc, ◌≤◌}
use native.Mathlib.Decide.{ℕ_discrete}
use native.Mathlib.Omega.{arith}
use Rattle.grids.specs.Questions.{Question, first_no}
use Rattle.grids.proofs.QuestionLaws.{Numbered, first-no-zero, first-no-stays, first-no-next, first_no-pass, first_no-stop, range-yes, yes-range}
use Rattle.grids.proofs.QuestionSteps.{range-no}
use Rattle.layout.specs.Layout.{clients}
use Rattle.calls.specs.Entries.{question15}
use Rattle.register.specs.Asked.{client_no}

module _ (k c : ℕ) where
  pub client-past : (k ≡ 0 → ⊥) → k ≡ client_no k c
  unfolding client_no
  client-past n = go k n
    where
      go : (j : ℕ) → (j ≡ 0 → ⊥) → j ≡ client_no j c
      go zero h = absurd (h refl)
      go (suc j) h = refl

  module _ (z : k ≡ 0) where
    pub client-next : client_no k c ≡ first_no (question15 c ∷ [])
    unfolding client_no
    client-next = rw z refl

    pub client-no : ((1 ≤ c) × (c ≤ clients) → ⊥) → 15 ≡ client_no k c
    unfolding question15
    client-no h = sym (client-next ∙ first_no-stop (question15 c) [] (range-no 1 clients c h))

    pub client-yes : (1 ≤ c) × (c ≤ clients) → 0 ≡ client_no k c
    unfolding question15 first_no
    client-yes h = sym (client-next ∙ first_no-pass (question15 c) [] (yes-range 1 clients c h))

client_no_zero : (c : ℕ) → client_no 0 c ≡ first_no (question15 c ∷ [])
unfolding client_no
client_no_zero c = refl

pub client-passes : (k c : ℕ) → client_no k c ≡ 0 → (k ≡ 0) × (1 ≤ c) × (c ≤ clients)
unfolding client_no question15
client-passes zero c e = let r = range-yes 1 clients c ((first-no-zero (question15 c ∷ []) (omega arith, tt)).0 e).0 in (refl, r.0, r.1)
client-passes (suc k) c e = absurd (omega (arith, e))

pub client-is : (c : ℕ) → 0 ≡ first_no (question15 c ∷ []) → (1 ≤ c) × (c ≤ clients)
client-is c e = let p = client-passes 0 c (client_no_zero c ∙ sym e) in (p.1, p.2)

pub client-first : (l : List Question) (c : ℕ) → Numbered l → client_no (first_no l) c ≡ first_no (l ++ (question15 c ∷ []))
client-first l c h = go (ℕ_discrete (first_no l) 0)
  where
    go : Dec (first_no l ≡ 0) → client_no (first_no l) c ≡ first_no (l ++ (question15 c ∷ []))
    go (yes z) = client-next (first_no l) c z ∙ sym (first-no-next l (question15 c ∷ []) h z)
    go (no n) = sym (client-past (first_no l) c n) ∙ sym (first-no-stays l (question15 c ∷ []) n)
