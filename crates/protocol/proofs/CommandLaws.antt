-- Laws of command lines: which lines are laid as documents 01 and 02 say, and the client, cells and bounds that they state.
--
--   CommandLaid size k client c l  ==  l is the line of the command k, 1 to 3, with the client, 0 where the command is 3, and the cells c: as many as the command has, none above 255
--   length-leads       ==  how many bytes stand before the cells
--   client-fits        ==  the client of a line that is laid out again as it was is below 1,000,000
--   laid-command       ==  then k, the client and c are read from it
--   laid-exactly       ==  the test of a line says yes exactly if it is the line of some command, client and cells
--   laid-length        ==  how many bytes it has then
--   in_turn low high    ==  the first of low, the first of high, the second of low, ..
--   in-turn-parts, parted-in-turn  ==  cells of an even number are the bounds read from them, in turn; bounds put in turn are read as they were
use mathlib.Core.Path.{◌≡◌, refl, sym, ap, ◌∙◌}
use mathlib.Core.List.{List, [], ◌∷◌, ◌++◌}
use mathlib.Core.Bool.{Bool, true, false}
use mathlib.Core.Logic.{◌⊎◌, inl, inr, ◌↔◌}
use Prim.Native.Nat.{ℕ, zero, suc, ◌+◌, ◌*◌, ◌≤◌, ◌<◌}
use native.Mathlib.Nat.{mul_comm}
use native.Mathlib.Omega.{arith}
use lib.ListN.{length, get_or, drop, length-append}
use lib.Seq.{drop_at, ext_get_or}
use lib.Dec.{eqb}
use borrow.Author.Tests.{eqb-true, eq-eqb}
use Rattle.permutations.proofs.BoolLaws.{and_yes, yes_and}
use Rattle.permutations.proofs.ListLaws.{length-tabulate, at-tabulate, tabulate-is}
use Rattle.grids.specs.Order.{equal}
use Rattle.grids.specs.Grids.{capped}
use Rattle.grids.specs.Questions.{in_range}
use Rattle.grids.proofs.OrderLaws.{equal-eq, eq-equal}
use Rattle.grids.proofs.QuestionLaws.{range-yes, yes-range, capped_at}
use Rattle.layout.specs.Decimal.{field, value}
use Rattle.layout.specs.Layout.{fields, number_at, cells_of}
use Rattle.layout.proofs.DecimalLaws.{value-field, field-small}
use Rattle.layout.proofs.LayoutLaws.{length_fields, length-ended, field_at, fields_read}
use Rattle.layout.proofs.LineLaws.{length-cells}
use Rattle.protocol.specs.Input.{leads, lead_length, command_line, cell_count, command_in, client_in, cells_in, is_laid}
use Rattle.protocol.specs.Commands.{lows, highs}

-- ---- command lines

pub record CommandLaid (size k client : ℕ) (c l : List ℕ) : Type 0 where
  pub command : (1 ≤ k) × (k ≤ 3)
  pub client-small : client < 1000000
  pub no-client : k ≡ 3 → client ≡ 0
  pub sized : length c ≡ cell_count size k
  pub small : capped 255 c ≡ true
  pub bytes : l ≡ command_line k client c

-- what stands before the cells
module _ (k client : ℕ) where
  alone : eqb k 3 ≡ true → leads k client ≡ k ∷ []
  unfolding leads
  alone e = rw (e, leads)

  named : eqb k 3 ≡ false → leads k client ≡ k ∷ client ∷ []
  unfolding leads
  named e = rw (e, leads)

  first-lead : (0 < length (leads k client)) × (get_or (leads k client) 0 0 ≡ k)
  first-lead = go (eqb k 3) refl
    where
      go : (t : Bool) → eqb k 3 ≡ t → (0 < length (leads k client)) × (get_or (leads k client) 0 0 ≡ k)
      go true e = rw (alone e) (omega arith, refl)
      go false e = rw (named e) (omega arith, refl)

  pub length-leads : length (fields 6 (leads k client)) ≡ lead_length k
  unfolding lead_length
  length-leads = length_fields 6 (leads k client) ∙ go (eqb k 3) refl
    where
      go : (t : Bool) → eqb k 3 ≡ t → length (leads k client) * 6 ≡ lead_length k
      go true e = rw (alone e, e, lead_length) refl
      go false e = rw (named e, e, lead_length) refl

-- the number at place i before the cells
lead-read : (k client : ℕ) (c l : List ℕ) (i : ℕ) → l ≡ command_line k client c → i < length (leads k client) → number_at 6 (i * 6) l ≡ value (field 6 (get_or (leads k client) i 0))
unfolding number_at command_line
lead-read k client c l i e h = rw e (ap value (field_at 6 (leads k client) (fields 3 c ++ (10 ∷ [])) i h))

cells-read : (n : ℕ) (c : List ℕ) → length c ≡ n → capped 255 c ≡ true → cells_of n (fields 3 c ++ (10 ∷ [])) ≡ c
unfolding cells_of number_at
cells-read n c e t =
    tabulate-is 0 c n _ e λ k h. sym (rw (mul_comm 3 k) (fields_read 2 c (10 ∷ []) k (omega arith) (omega (arith, capped_at 255 c t k (omega arith)))))

-- the client by the command
module _ (l : List ℕ) where
  no-client-in : eqb (command_in l) 3 ≡ true → client_in l ≡ 0
  unfolding client_in
  no-client-in e = rw (e, client_in)

  client-in : eqb (command_in l) 3 ≡ false → client_in l ≡ number_at 6 6 l
  unfolding client_in
  client-in e = rw (e, client_in)

module _ {size k client : ℕ} {c l : List ℕ} (o : CommandLaid size k client c l) where
  command-stated : command_in l ≡ k
  unfolding command_in
  command-stated =
      let f = first-lead k client in
      lead-read k client c l 0 o.bytes f.0 ∙ rw f.1 (value-field 5 k (omega (arith, o.command)))

  client-stated : client_in l ≡ client
  client-stated = go (eqb k 3) refl
    where
      go : (t : Bool) → eqb k 3 ≡ t → client_in l ≡ client
      go true e = no-client-in l (rw command-stated e) ∙ sym (o.no-client (eqb-true k 3 e))
      go false e =
          client-in l (rw command-stated e)
          ∙ lead-read k client c l 1 o.bytes (rw (named k client e) (omega arith))
          ∙ rw (named k client e) (value-field 5 client o.client-small)

  cells-stated : cells_in size l ≡ c
  unfolding cells_in command_line
  cells-stated =
      rw (command-stated, o.bytes, drop_at (fields 6 (leads k client)) (fields 3 c ++ (10 ∷ [])) (lead_length k) (length-leads k client)) (cells-read (cell_count size k) c o.sized o.small)

  pub laid-command : (command_in l ≡ k) × (client_in l ≡ client) × (cells_in size l ≡ c)
  laid-command = (command-stated, client-stated, cells-stated)

length-stated : (size : ℕ) (l : List ℕ) → length (cells_in size l) ≡ cell_count size (command_in l)
unfolding cells_in
length-stated size l = length-cells (cell_count size (command_in l)) (drop (lead_length (command_in l)) l)

-- a client fits its field if the line is laid out again as it was
pub client-fits : (l c : List ℕ) → l ≡ command_line (command_in l) (client_in l) c → client_in l < 1000000
client-fits l c e = go (eqb (command_in l) 3) refl
  where
    go : (t : Bool) → eqb (command_in l) 3 ≡ t → client_in l < 1000000
    go true d = omega (arith, no-client-in l d)
    go false d =
        let q = client-in l d ∙ lead-read (command_in l) (client_in l) c l 1 e (rw (named (command_in l) (client_in l) d) (omega arith)) in
        omega (arith, q, field-small 5 (get_or (leads (command_in l) (client_in l)) 1 0))

pub laid-exactly : (size : ℕ) (l : List ℕ) → (is_laid size l ≡ true) ↔ ((k : ℕ) × (client : ℕ) × (c : List ℕ) × CommandLaid size k client c l)
unfolding is_laid
laid-exactly size l = (to, back)
  where
    to : is_laid size l ≡ true → (k : ℕ) × (client : ℕ) × (c : List ℕ) × CommandLaid size k client c l
    to e =
        let a = and_yes (in_range 1 3 (command_in l)) _ e in
        let b = and_yes (equal (command_line (command_in l) (client_in l) (cells_in size l)) l) (capped 255 (cells_in size l)) a.1 in
        let d = sym (equal-eq (command_line (command_in l) (client_in l) (cells_in size l)) l b.0) in (
          command_in l,
          client_in l,
          cells_in size l,
          record {
            command = range-yes 1 3 (command_in l) a.0;
            client-small = client-fits l (cells_in size l) d;
            no-client = λ q. no-client-in l (eq-eqb (command_in l) 3 q);
            sized = length-stated size l;
            small = b.1;
            bytes = d;
          },
        )

    back : (k : ℕ) × (client : ℕ) × (c : List ℕ) × CommandLaid size k client c l → is_laid size l ≡ true
    back h =
        let o = h.3 in
        rw (command-stated o, client-stated o, cells-stated o)
        (yes_and (in_range 1 3 h.0) _ (yes-range 1 3 h.0 o.command)
        (yes_and (equal (command_line h.0 h.1 h.2) l) (capped 255 h.2) (eq-equal (command_line h.0 h.1 h.2) l (sym o.bytes)) o.small))

pub laid-length : (size : ℕ) (l : List ℕ) → is_laid size l ≡ true → length l ≡ lead_length (command_in l) + 3 * cell_count size (command_in l) + 1
unfolding command_line
laid-length size l e =
    let h = (laid-exactly size l).0 e in
    let c = h.2 in
    let o = h.3 in
    ap length o.bytes
    ∙ length-append (fields 6 (leads h.0 h.1)) (fields 3 c ++ (10 ∷ []))
    ∙ rw (command-stated o) (omega (arith, length-leads h.0 h.1, length-ended 3 c, o.sized))

-- ---- the calls of command lines

unfoldable pub in_turn : List ℕ → List ℕ → List ℕ
in_turn [] high = []
in_turn (x ∷ low) [] = []
in_turn (x ∷ low) (y ∷ high) = x ∷ y ∷ in_turn low high

at-in-turn : (low high : List ℕ) (i : ℕ) → length low ≡ length high → i < length low → (get_or (in_turn low high) (2 * i) 0 ≡ get_or low i 0) × (get_or (in_turn low high) (2 * i + 1) 0 ≡ get_or high i 0)
unfolding in_turn
at-in-turn [] high i e h = absurd (omega arith)
at-in-turn (x ∷ low) [] i e h = absurd (omega arith)
at-in-turn (x ∷ low) (y ∷ high) zero e h = (refl, refl)
at-in-turn (x ∷ low) (y ∷ high) (suc i) e h =
    let p : 2 * suc i ≡ suc (suc (2 * i)) = omega arith in
    let q : 2 * suc i + 1 ≡ suc (suc (2 * i + 1)) = omega arith in
    let r = at-in-turn low high i (omega arith) (omega arith) in
    (rw p r.0, rw q r.1)

length-in-turn : (low high : List ℕ) → length low ≡ length high → length (in_turn low high) ≡ 2 * length low
unfolding in_turn
length-in-turn [] high e = refl
length-in-turn (x ∷ low) [] e = absurd (omega arith)
length-in-turn (x ∷ low) (y ∷ high) e = omega (arith, length-in-turn low high (omega arith))

halves : (j : ℕ) → (i : ℕ) × ((j ≡ 2 * i) ⊎ (j ≡ 2 * i + 1))
halves zero = (0, inl refl)
halves (suc zero) = (0, inr refl)
halves (suc (suc j)) = go (halves j)
  where
    go : (i : ℕ) × ((j ≡ 2 * i) ⊎ (j ≡ 2 * i + 1)) → (i : ℕ) × ((suc (suc j) ≡ 2 * i) ⊎ (suc (suc j) ≡ 2 * i + 1))
    go (i, inl e) = (suc i, inl (omega arith))
    go (i, inr e) = (suc i, inr (omega arith))

pub in-turn-parts : (size : ℕ) (c : List ℕ) → length c ≡ 2 * size → in_turn (lows size c) (highs size c) ≡ c
unfolding lows highs
in-turn-parts size c e = ext_get_or 0 (in_turn low high) c (whole ∙ sym e) λ j b. at j (omega (arith, whole)) (halves j)
  where
    low : List ℕ
    low = lows size c

    high : List ℕ
    high = highs size c

    many : length low ≡ size
    many = length-tabulate 0 size (λ i. get_or c (2 * i) 0)

    same : length low ≡ length high
    same = many ∙ sym (length-tabulate 0 size (λ i. get_or c (2 * i + 1) 0))

    whole : length (in_turn low high) ≡ 2 * size
    whole = length-in-turn low high same ∙ ap (λ (n : ℕ). 2 * n) many

    at : (j : ℕ) → j < 2 * size → (i : ℕ) × ((j ≡ 2 * i) ⊎ (j ≡ 2 * i + 1)) → get_or (in_turn low high) j 0 ≡ get_or c j 0
    at j b (i, inl d) = rw d ((at-in-turn low high i same (omega (arith, many))).0 ∙ at-tabulate size (λ i. get_or c (2 * i) 0) i 0 (omega arith))
    at j b (i, inr d) = rw d ((at-in-turn low high i same (omega (arith, many))).1 ∙ at-tabulate size (λ i. get_or c (2 * i + 1) 0) i 0 (omega arith))

pub parted-in-turn : (size : ℕ) (low high : List ℕ) → length low ≡ size → length high ≡ size → (lows size (in_turn low high) ≡ low) × (highs size (in_turn low high) ≡ high)
unfolding lows highs
parted-in-turn size low high e f = (
  tabulate-is 0 low size _ e (λ i h. sym (at-in-turn low high i (omega arith) (omega arith)).0),
  tabulate-is 0 high size _ f (λ i h. sym (at-in-turn low high i (omega arith) (omega arith)).1),
)
