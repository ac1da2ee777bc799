-- A command line is read: what is known where the code refuses it, and where it does not.
--
--   laid-some, laid-range   ==  a line that is laid has at least 7 bytes, and a command 1 to 3
--   in-range                ==  a command's number is 1 to 3
--   laid-client             ==  one with a client has at least 12
--   enter-stated, strike-stated, count-stated  ==  the command that the first fields state
--   lent_cells w n l         ==  the part of the line l that is lent as the bytes of n cells, w bytes before them
--   LineParts k w n l       ==  what stands before its cells, its cells and its line feed are laid as they should be
--   laid-parts, parts-laid  ==  a line of the right length is laid exactly if its parts are
--   lent-cells              ==  the cells of the part are those of the line
--   laid-whole, lead-no, cells-no  ==  what a line of another length, other bytes before its cells, or cells that are not laid so tell
--   command-read, unlaid     ==  a line that is laid is read; one that cannot be laid is not
use mathlib.Core.Path.{◌≡◌, refl, sym, ap, ap₂, ◌∙◌}
use mathlib.Core.List.{List, [], ◌∷◌, ◌++◌}
use mathlib.Core.Bool.{Bool, true, false, true≢false}
use mathlib.Core.Logic.{◌↔◌}
use Prim.Native.Nat.{ℕ, suc, ◌+◌, ◌-◌, ◌*◌, ◌≤◌, ◌<◌}
use native.Mathlib.Omega.{arith}
use lib.ListN.{length, get_or, take, drop, take-append-drop, drop_of_length-le}
use lib.Seq.{length-take-le, take_at, drop_at, take-take, drop-drop, drop-cons, get_or_at, get_or-drop}
use Rattle.permutations.proofs.BoolLaws.{refuted}
use Rattle.permutations.proofs.ListLaws.{tabulate-ext}
use Rattle.grids.specs.Grids.{capped}
use Rattle.layout.specs.Decimal.{value}
use Rattle.layout.specs.Layout.{fields, number_at, cells_of}
use Rattle.layout.proofs.LayoutLaws.{length_fields}
use Rattle.layout.proofs.LineLaws.{drop-take, length-cells}
use Rattle.protocol.specs.Input.{leads, lead_length, command_line, cell_count, command_in, client_in, cells_in, is_laid}
use Rattle.protocol.proofs.CommandLaws.{CommandLaid, length-leads, client-fits, laid-exactly, laid-command, laid-length}
use Rattle.transcript.specs.Fields.{ReadsCells}
use Rattle.transcript.specs.declared.commands.Command.{Command}
use Rattle.transcript.specs.declared.commands.Command.TheVariants.{Enter, Strike, Count}
use Rattle.transcript.specs.Commands.{command_number, States, CommandRead}
use Rattle.transcript.proofs.LeadLaws.{lead-least, lead-other, no-client, some-client}

pub laid-some : (size : ℕ) (l : List ℕ) → is_laid size l ≡ true → 7 ≤ length l
laid-some size l e = omega (arith, laid-length size l e, lead-least (command_in l))

pub laid-range : (size : ℕ) (l : List ℕ) → is_laid size l ≡ true → (1 ≤ command_in l) × (command_in l ≤ 3)
laid-range size l e = let h = (laid-exactly size l).0 e in rw (laid-command h.3).0 h.3.command

pub in-range : (k : Command) → (1 ≤ command_number k) × (command_number k ≤ 3)
in-range (Enter c) = (omega arith, omega arith)
in-range (Strike c) = (omega arith, omega arith)
in-range Count = (omega arith, omega arith)

-- a line too short for the client that its command asks for
pub laid-client : (size : ℕ) (l : List ℕ) → is_laid size l ≡ true → (command_in l ≡ 3 → ⊥) → 12 ≤ length l
laid-client size l e n = omega (arith, laid-length size l e, lead-other (command_in l) n)

-- the command that the first fields of a line state
pub enter-stated : {l : List ℕ} {c : ℕ} → command_in l ≡ 1 → c ≡ number_at 6 6 l → States l (Enter c)
enter-stated {l} {c} e f = record { command-is = sym e; client-is = f ∙ sym (some-client 1 l (sym e) (λ q. omega arith)) }

pub strike-stated : {l : List ℕ} {c : ℕ} → command_in l ≡ 2 → c ≡ number_at 6 6 l → States l (Strike c)
strike-stated {l} {c} e f = record { command-is = sym e; client-is = f ∙ sym (some-client 2 l (sym e) (λ q. omega arith)) }

pub count-stated : {l : List ℕ} → command_in l ≡ 3 → States l Count
count-stated {l} e = record { command-is = sym e; client-is = sym (no-client 3 l (sym e) refl) }

abbrev pub lent_cells : ℕ → ℕ → List ℕ → List ℕ
lent_cells w n l = take (w + 3 * n - w) (drop w l)

pub record LineParts (k w n : ℕ) (l : List ℕ) : Type 0 where
  pub feed : get_or l (w + 3 * n) 0 ≡ 10
  pub lead : take w l ≡ fields 6 (leads k (client_in l))
  pub bytes : lent_cells w n l ≡ fields 3 (cells_of n (lent_cells w n l))
  pub at_most : capped 255 (cells_of n (lent_cells w n l)) ≡ true

pub lent-cells : (w n : ℕ) (l : List ℕ) → cells_of n (lent_cells w n l) ≡ cells_of n (drop w l)
unfolding cells_of number_at
lent-cells w n l = tabulate-ext 0 n _ _ λ i h. ap value (one i h)
  where
    v : ℕ
    v = w + 3 * n - w

    one : (i : ℕ) → i < n → take 3 (drop (3 * i) (take v (drop w l))) ≡ take 3 (drop (3 * i) (drop w l))
    one i h = rw (drop-take (3 * i) v (drop w l), take-take 3 (v - 3 * i) (drop (3 * i) (drop w l)) (omega arith))

module _ (size : ℕ) (l : List ℕ) {k w n : ℕ} (command : k ≡ command_in l) (wide : w ≡ lead_length k) (many : n ≡ cell_count size k) where
  cells_are : cells_of n (lent_cells w n l) ≡ cells_in size l
  unfolding cells_in
  cells_are = lent-cells w n l ∙ rw (many, wide, command) refl

  length-lead : length (fields 6 (leads k (client_in l))) ≡ w
  length-lead = length-leads k (client_in l) ∙ sym wide

  -- the parts of a line that is laid
  module _ (e : is_laid size l ≡ true) where
    line : CommandLaid size k (client_in l) (cells_of n (lent_cells w n l)) l
    line =
        let h = (laid-exactly size l).0 e in
        let q = laid-command h.3 in
        rw (cells_are, q.2, q.1, command, q.0) h.3

    sized : length (fields 3 (cells_of n (lent_cells w n l))) ≡ 3 * n
    sized = length_fields 3 (cells_of n (lent_cells w n l)) ∙ omega (arith, length-cells n (lent_cells w n l))

    rest : drop w l ≡ fields 3 (cells_of n (lent_cells w n l)) ++ (10 ∷ [])
    unfolding command_line
    rest = ap (drop w) line.bytes ∙ drop_at (fields 6 (leads k (client_in l))) _ w length-lead

    pub laid-parts : LineParts k w n l
    unfolding command_line
    laid-parts = record {
      feed = sym (get_or-drop w l (3 * n) 0) ∙ ap (λ (x : List ℕ). get_or x (3 * n) 0) rest ∙ get_or_at (fields 3 (cells_of n (lent_cells w n l))) 10 [] 0 (3 * n) sized;
      lead = ap (take w) line.bytes ∙ take_at (fields 6 (leads k (client_in l))) _ w length-lead;
      bytes = ap (take (w + 3 * n - w)) rest ∙ take_at (fields 3 (cells_of n (lent_cells w n l))) (10 ∷ []) (w + 3 * n - w) (sized ∙ omega arith);
      at_most = line.small;
    }

  module _ (range : (1 ≤ k) × (k ≤ 3)) (whole : length l ≡ w + 3 * n + 1) where
    pub parts-laid : LineParts k w n l → is_laid size l ≡ true
    unfolding command_line
    parts-laid p =
        (laid-exactly size l).1 (
          k,
          client_in l,
          cells_of n (lent_cells w n l),
          record {
            command = range;
            client-small = client-fits l (cells_of n (lent_cells w n l)) (rw command at bytes);
            no-client = none;
            sized = length-cells n (lent_cells w n l) ∙ many;
            small = p.at_most;
            bytes = bytes;
          },
        )
      where
        last : drop (w + 3 * n - w) (drop w l) ≡ 10 ∷ []
        last =
            let z : w + (w + 3 * n - w) ≡ w + 3 * n = omega arith in
            rw (drop-drop (w + 3 * n - w) w l, z, drop-cons l (w + 3 * n) 0 (omega arith), p.feed)
            (ap (λ (x : List ℕ). 10 ∷ x) (drop_of_length-le l {i = suc (w + 3 * n)} (omega arith)))

        bytes : l ≡ fields 6 (leads k (client_in l)) ++ (fields 3 (cells_of n (lent_cells w n l)) ++ (10 ∷ []))
        bytes =
            sym (take-append-drop w l)
            ∙ ap₂ ◌++◌ p.lead (sym (take-append-drop (w + 3 * n - w) (drop w l)) ∙ ap₂ ◌++◌ p.bytes last)

        none : k ≡ 3 → client_in l ≡ 0
        none q = no-client k l command q

  -- ---- the ways out

  pub laid-whole : is_laid size l ≡ true → length l ≡ w + 3 * n + 1
  laid-whole e = laid-length size l e ∙ rw (many, wide, command) refl

  -- the leads are those of a line
  pub lead-no : {t : Bool} → (t ≡ true) ↔ (take (lead_length k) l ≡ fields 6 (leads k (client_in l))) → t ≡ false → is_laid size l ≡ true → ⊥
  lead-no told f e = true≢false (sym (told.1 (rw (← wide) (laid-parts e).lead)) ∙ f)

  -- the cells are read into the first bytes of a slice z, and put back as ys
  module _ (z ys : List ℕ) (room : n ≤ length z) {t : Bool} (r : ReadsCells (lent_cells w n l) (length (take n z)) ys t) where
    counted : ReadsCells (lent_cells w n l) n ys t
    counted = rw (length-take-le n z room) at r

    pub cells-no : t ≡ false → is_laid size l ≡ true → ⊥
    cells-no f e = let p = laid-parts e in true≢false (sym (counted.decides.1 (p.bytes, p.at_most)) ∙ f)

    pub command-read : (c : Command) → k ≡ command_number c → States l c → (1 ≤ k) × (k ≤ 3) → length l ≡ w + 3 * n + 1 → get_or l (w + 3 * n) 0 ≡ 10 → take (lead_length k) l ≡ fields 6 (leads k (client_in l)) → t ≡ true → CommandRead size l (ys ++ drop n z) c
    command-read c is s range whole feed f y = record {
      laid = parts-laid range whole (record { feed = feed; lead = rw wide f; bytes = d.0; at_most = d.1 });
      states = s;
      cells_are = rw (← is, ← many) (take_at ys (drop n z) n counted.kept ∙ counted.read y ∙ cells_are);
    }
      where
        d : (lent_cells w n l ≡ fields 3 (cells_of n (lent_cells w n l))) × (capped 255 (cells_of n (lent_cells w n l)) ≡ true)
        d = counted.decides.0 y

pub unlaid : (size : ℕ) (l : List ℕ) → (is_laid size l ≡ true → ⊥) → is_laid size l ≡ false
unlaid size l h = refuted (is_laid size l) (λ t. t, λ t. t) h
