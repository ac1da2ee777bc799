-- What a yes or a no tells of a fact.
--
--   holds, fails  ==  a yes where a fact holds, a no where it does not
use Rattle.std.proofs.Common.{◌≡◌, true, false, ◌↔◌, sym, refl, true≢false}

pub holds : {A : Type 0} → A → (true ≡ true) ↔ A
holds a = (λ e. a, λ x. refl)

pub fails : {A : Type 0} → (A → ⊥) → (false ≡ true) ↔ A
fails h = (λ e. absurd (true≢false (sym e)), λ a. absurd (h a))
