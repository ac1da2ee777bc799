-- What stands before the cells of a command line: its command, and the client but for command 3.
--
--   no-count, with-client   ==  a command that is no count has another number than 3
--   cells-three, cells-other  ==  how many cells, for command 3 and for another
--   lead-three, lead-other  ==  how many bytes, for command 3 and for another
--   lead-least              ==  at least one field
--   no-client, some-client  ==  the client of command 3, and of another
--   lead-no-first, lead-alone, lead-both  ==  they are laid as they should be only if the first field is; for command 3 exactly then; for another exactly if the second is besides
use mathlib.Core.Path.{◌≡◌, refl, sym, ap, ap₂, ◌∙◌}
use mathlib.Core.List.{List, ◌++◌, flatten, append-nil}
use mathlib.Core.Bool.{Bool, true, false, true≢false}
use mathlib.Core.Logic.{◌↔◌, ◌⊎◌, inl, inr}
use Prim.Native.Nat.{ℕ, ◌*◌, ◌≤◌}
use native.Mathlib.Decide.{ℕ_discrete}
use native.Mathlib.Omega.{arith}
use lib.ListN.{length, take, drop, take-append-drop, length-drop}
use lib.Seq.{take_at, drop_at, take-take, length-take-le}
use lib.Dec.{eqb}
use borrow.Author.Tests.{eq-eqb, ne_eqb}
use Rattle.layout.specs.Decimal.{field}
use Rattle.layout.specs.Layout.{fields, number_at}
use Rattle.layout.proofs.DecimalLaws.{length-field}
use Rattle.layout.proofs.LineLaws.{drop-take}
use Rattle.protocol.specs.Input.{leads, lead_length, cell_count, command_in, client_in}
use Rattle.transcript.specs.Commands.{command_number, client_of}
use Rattle.transcript.specs.declared.commands.Command.{Command}
use Rattle.transcript.specs.declared.commands.Command.TheVariants.{Enter, Strike}

-- what a match tells of a command that is no count
pub no-count : (k : Command) → ((c : ℕ) × (k ≡ Enter c)) ⊎ ((c : ℕ) × (k ≡ Strike c)) → command_number k ≡ 3 → ⊥
no-count k (inl (c, e)) q = omega (arith, ap command_number e, q)
no-count k (inr (c, e)) q = omega (arith, ap command_number e, q)

-- and of its client
pub with-client : (k : Command) (c : ℕ) → (k ≡ Enter c) ⊎ (k ≡ Strike c) → (command_number k ≡ 3 → ⊥) × (c ≡ client_of k)
with-client k c (inl e) = (λ q. omega (arith, ap command_number e, q), sym (ap client_of e))
with-client k c (inr e) = (λ q. omega (arith, ap command_number e, q), sym (ap client_of e))

module _ (k : ℕ) where
  pub cells-three : (size : ℕ) → k ≡ 3 → cell_count size k ≡ 2 * size
  unfolding cell_count
  cells-three size e = rw (eq-eqb k 3 e, cell_count) refl

  pub cells-other : (size : ℕ) → (k ≡ 3 → ⊥) → cell_count size k ≡ size
  unfolding cell_count
  cells-other size n = rw (ne_eqb k 3 n, cell_count) refl

  pub lead-three : k ≡ 3 → lead_length k ≡ 6
  unfolding lead_length
  lead-three e = rw (eq-eqb k 3 e, lead_length) refl

  pub lead-other : (k ≡ 3 → ⊥) → lead_length k ≡ 12
  unfolding lead_length
  lead-other n = rw (ne_eqb k 3 n, lead_length) refl

  pub lead-least : 6 ≤ lead_length k
  unfolding lead_length
  lead-least = go (eqb k 3) refl
    where
      go : (t : Bool) → eqb k 3 ≡ t → 6 ≤ lead_length k
      go true e = rw (e, lead_length) (omega arith)
      go false e = rw (e, lead_length) (omega arith)

  module _ (l : List ℕ) (named : k ≡ command_in l) where
    pub no-client : k ≡ 3 → client_in l ≡ 0
    unfolding client_in
    no-client e = rw (eq-eqb (command_in l) 3 (sym named ∙ e), client_in) refl

    pub some-client : (k ≡ 3 → ⊥) → client_in l ≡ number_at 6 6 l
    unfolding client_in
    some-client n = rw (ne_eqb (command_in l) 3 (λ e. n (named ∙ e)), client_in) refl

-- ---- whether they are laid as they should be

module _ (k : ℕ) (l : List ℕ) (room : lead_length k ≤ length l) where
  abbrev Laid : Type 0
  Laid = take (lead_length k) l ≡ fields 6 (leads k (client_in l))

  -- the leads of command 3 and of another, as their fields
  three-fields : k ≡ 3 → fields 6 (leads k (client_in l)) ≡ field 6 k
  unfolding fields flatten leads
  three-fields e = rw (eq-eqb k 3 e, leads) (append-nil (field 6 k))

  two_fields : (k ≡ 3 → ⊥) → fields 6 (leads k (client_in l)) ≡ field 6 k ++ field 6 (client_in l)
  unfolding fields flatten leads
  two_fields n = rw (ne_eqb k 3 n, leads) (ap (λ (x : List ℕ). field 6 k ++ x) (append-nil (field 6 (client_in l))))

  -- the first two fields of a line
  front : (k ≡ 3 → ⊥) → take 12 l ≡ take 6 l ++ take 6 (drop 6 l)
  front n = sym (take-append-drop 6 (take 12 l)) ∙ ap₂ ◌++◌ (take-take 6 12 l (omega arith)) (drop-take 6 12 l)

  six : length (take 6 l) ≡ 6
  six = length-take-le 6 l (omega (arith, lead-least k))

  first_of : take 6 l ≡ field (length (take 6 l)) k → take 6 l ≡ field 6 k
  first_of e = e ∙ ap (λ (w : ℕ). field w k) six

  lead-first : Laid → take 6 l ≡ field (length (take 6 l)) k
  lead-first p = go (ℕ_discrete k 3) ∙ sym (ap (λ (w : ℕ). field w k) six)
    where
      go : Dec (k ≡ 3) → take 6 l ≡ field 6 k
      go (yes e) = ap (λ (w : ℕ). take w l) (sym (lead-three k e)) ∙ p ∙ three-fields e
      go (no n) =
          let q = ap (λ (w : ℕ). take w l) (sym (lead-other k n)) ∙ p ∙ two_fields n in
          sym (take-take 6 12 l (omega arith)) ∙ ap (take 6) q ∙ take_at (field 6 k) (field 6 (client_in l)) 6 (length-field 6 k)

  module _ {t : Bool} (told : (t ≡ true) ↔ (take 6 l ≡ field (length (take 6 l)) k)) where
    pub lead-no-first : t ≡ false → (t ≡ true) ↔ Laid
    lead-no-first f = (λ e. absurd (true≢false (sym e ∙ f)), λ p. absurd (true≢false (sym (told.1 (lead-first p)) ∙ f)))

    pub lead-alone : k ≡ 3 → (t ≡ true) ↔ Laid
    lead-alone e = (λ y. ap (λ (w : ℕ). take w l) (lead-three k e) ∙ first_of (told.0 y) ∙ sym (three-fields e), λ p. told.1 (lead-first p))

    pub lead-both : t ≡ true → (k ≡ 3 → ⊥) → {u : Bool} {c : ℕ} → c ≡ client_in l → (u ≡ true) ↔ (take 6 (drop 6 l) ≡ field (length (take 6 (drop 6 l))) c) → (u ≡ true) ↔ Laid
    lead-both y n {u} {c} d tells = (to, back)
      where
        second-six : length (take 6 (drop 6 l)) ≡ 6
        second-six = length-take-le 6 (drop 6 l) (omega (arith, length-drop 6 l, lead-other k n))

        field_is : field (length (take 6 (drop 6 l))) c ≡ field 6 (client_in l)
        field_is = ap₂ field second-six d

        to : u ≡ true → Laid
        to v = ap (λ (w : ℕ). take w l) (lead-other k n) ∙ front n ∙ ap₂ ◌++◌ (first_of (told.0 y)) (tells.0 v ∙ field_is) ∙ sym (two_fields n)

        back : Laid → u ≡ true
        back p =
            let q = ap (λ (w : ℕ). take w l) (sym (lead-other k n)) ∙ p ∙ two_fields n in
            tells.1 (sym (drop-take 6 12 l) ∙ ap (drop 6) q ∙ drop_at (field 6 k) (field 6 (client_in l)) 6 (length-field 6 k) ∙ sym field_is)
