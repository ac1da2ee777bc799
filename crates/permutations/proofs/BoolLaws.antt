-- Tests: what a yes of a joined test says, and when two tests are equal.
--
--   and_yes, yes_and  ==  of `a && b`
--   or_yes            ==  of `a || b`
--   yes_or_no t       ==  t is true or false
--   decided, refuted  ==  of what a test decides: it holds or not, and where not the test says no
--   bool-ext          ==  tests that say yes to the same are equal
use mathlib.Core.Path.{◌≡◌, refl, sym}
use mathlib.Core.Bool.{Bool, true, false, true≢false, ◌&&◌, ◌||◌}
use mathlib.Core.Logic.{◌⊎◌, inl, inr, ◌↔◌}

pub and_yes : (a b : Bool) → (a && b) ≡ true → (a ≡ true) × (b ≡ true)
and_yes true b e = (refl, e)
and_yes false b e = absurd (true≢false (sym e))

pub yes_and : (a b : Bool) → a ≡ true → b ≡ true → (a && b) ≡ true
yes_and a b p q = rw (p, q)

pub or_yes : (a b : Bool) → (a || b) ≡ true → (a ≡ true) ⊎ (b ≡ true)
or_yes true b e = inl refl
or_yes false b e = inr e

pub yes_or_no : (t : Bool) → (t ≡ true) ⊎ (t ≡ false)
yes_or_no true = inl refl
yes_or_no false = inr refl

pub bool-ext : (s t : Bool) → (s ≡ true → t ≡ true) → (t ≡ true → s ≡ true) → s ≡ t
bool-ext true t f g = sym (f refl)
bool-ext false true f g = g refl
bool-ext false false f g = refl

pub decided : {A : Type 0} (t : Bool) → (t ≡ true) ↔ A → Dec A
decided true e = yes (e.0 refl)
decided false e = no (λ a. true≢false (sym (e.1 a)))

pub refuted : {A : Type 0} (t : Bool) → (t ≡ true) ↔ A → (A → ⊥) → t ≡ false
refuted true e h = absurd (h (e.0 refl))
refuted false e h = refl
