-- What is asked before any command, as the code goes about it.
--
--   LineTo input l i o  ==  o is l with the first i numbers of line 1 written that the input states
--   place-room       ==  a number has room at its place
--   line-none, line-next, line-decides  ==  the loop's start, one turn, and the comparison with what is written at its end
--   NoLineFeed l     ==  no byte of l is a line feed
--   no-feed-fields   ==  none is in numbers laid in fields
--   feed-first       ==  bytes without one and a line feed behind them are the first line
--   first-joined     ==  the first line and the further ones, put one after another, are the bytes
--   shape-whole, shape-lines  ==  an input that begins with line 1 of some numbers has its 25 bytes, and they are its first line
--   shape-told       ==  question 12 gets a yes exactly if the input begins with line 1 of the numbers that it states there
--   shape-states     ==  then these are the numbers that line 1 states
--   rest_lines       ==  where each check gets a yes, the further lines begin behind the first 25 bytes
--   LineRead input m n top capacity  ==  the input is short enough, line 1 is laid, and these are its numbers
--   long-refused, short-refused, line_refused, numbers-refused, length-refused  ==  the ways out with a no: 11, 12, 12, 1 to 4, 13
--   fault-handed     ==  what `?` hands on is the no of the numbers that were asked
--   passes-all, shape-read, length-read  ==  the way out with a yes
use Rattle.std.proofs.Common.{Result, Ok, Err}
use Rattle.std.specs.Result.{IsErr, IsErrAnd, MatchResult}
use Rattle.transcript.specs.declared.starts.Fault.{Fault}
use mathlib.Core.Path.{◌≡◌, refl, sym, ap, subst, ◌∙◌}
use mathlib.Core.List.{List, [], ◌∷◌, ◌++◌, flatten, append_assoc, append-nil}
use mathlib.Core.Bool.{Bool, true, false, true≢false}
use mathlib.Core.Logic.{◌↔◌}
use Prim.Native.Nat.{ℕ, zero, suc, ◌+◌, ◌-◌, ◌*◌, ◌/◌, ◌%◌, ◌≤◌, ◌<◌}
use native.Mathlib.Omega.{arith}
use lib.ListN.{length, get_or, take, drop, set, length-append, take-append-drop}
use native.Mathlib.Numerals.{add-one}
use lib.Seq.{take_at, take-take, take-suc}
use lib.Dec.{eqb}
use lib.Pointwise.{pointwise}
use Rattle.std.specs.List.{starts_with}
use Rattle.std.proofs.lemmas.Bool.Decides.{Decides-eqb}
use Rattle.std.proofs.lemmas.Slice.Eq.{slice_eq-Decides}
use Rattle.permutations.specs.Lists.{All}
use Rattle.permutations.proofs.BoolLaws.{refuted}
use Rattle.permutations.proofs.ListLaws.{all_append}
use Rattle.grids.specs.Asked.{numbers_no}
use Rattle.grids.proofs.OrderLaws.{equal-eq, eq-equal}
use Rattle.layout.specs.Decimal.{lead, field}
use Rattle.layout.specs.Layout.{Shape, fields, number_width, rows_place, columns_place, top_place, capacity_place, line_start, layout_length, number_at, decode_shape, InLimits}
use Rattle.layout.proofs.LineLaws.{drop-take}
use Rattle.layout.specs.Lines.{with_field}
use Rattle.lines.proofs.FillLaws.{Filled, fill_none, fill, filled-whole}
use Rattle.lines.proofs.HeadLaws.{fill-field}
use Rattle.calls.specs.Calls.{shape}
use Rattle.refusals.specs.declared.Refusal.{Refusal}
use Rattle.refusals.specs.Numbers.{refusal_number}
use Rattle.transcript.specs.declared.start.Start.{Start}
use Rattle.transcript.specs.Starts.{fault_number}
use Rattle.register.proofs.OpenSteps.{numbers-within, length-is}
use Rattle.protocol.specs.Input.{onto, lines, first_line, further_lines, shape_line}
use Rattle.protocol.specs.Transcript.{shape_in, question12, start_no}
use Rattle.protocol.proofs.LineLaws.{lines_other, lines-joined}
use Rattle.protocol.proofs.ShapeLaws.{length-shape, shape-length}
use Rattle.protocol.proofs.StartLaws.{over-limit, start-line, start-numbers, start-length, start-pass}

-- ---- line 1 is written

-- the numbers that the input states at the places of line 1, and these places
abbrev stated : List ℕ → List ℕ
stated input = let s = decode_shape input in s.rows ∷ s.columns ∷ s.top ∷ s.capacity ∷ []

abbrev places : List ℕ
places = rows_place ∷ columns_place ∷ top_place ∷ capacity_place ∷ []

stated-at : (input : List ℕ) (i : ℕ) → i < 4 → (get_or places i 0 ≡ i * number_width) × (get_or (stated input) i 0 ≡ number_at number_width (get_or places i 0) input)
unfolding decode_shape
stated-at input zero h = (refl, refl)
stated-at input (suc zero) h = (refl, refl)
stated-at input (suc (suc zero)) h = (refl, refl)
stated-at input (suc (suc (suc zero))) h = (refl, refl)
stated-at input (suc (suc (suc (suc i)))) h = absurd (omega arith)

pub place-room : (i : ℕ) → i < 4 → get_or places i 0 + number_width ≤ 25
place-room i h = omega (arith, (stated-at [] i h).0)

pub record LineTo (input l : List ℕ) (i : ℕ) (o : List ℕ) : Type 0 where
  pub so_far : Filled (fields number_width (take i (stated input))) l (i * number_width) o

pub line-none : (input l : List ℕ) → LineTo input l 0 l
unfolding fields flatten
line-none input l = record { so_far = fill_none l }

snoc_field : (xs : List ℕ) (x : ℕ) → fields number_width (xs ++ (x ∷ [])) ≡ fields number_width xs ++ field number_width x
unfolding fields flatten
snoc_field [] x = append-nil (field number_width x)
snoc_field (y ∷ xs) x = ap (λ (r : List ℕ). field number_width y ++ r) (snoc_field xs x) ∙ sym (append_assoc (field number_width y) (fields number_width xs) (field number_width x))

pub line-next : {input l o o' : List ℕ} {i : ℕ} (x : ℕ) → LineTo input l i o → length l ≡ 25 → i < 4 → x ≡ number_at number_width (get_or places i 0) input → o' ≡ with_field (get_or places i 0) x o → LineTo input l (i + 1) o'
line-next {input} {l} {o} {o'} {i} x t z h e y = record { so_far = rw (y, p.0, front) next }
  where
    p : (get_or places i 0 ≡ i * number_width) × (get_or (stated input) i 0 ≡ number_at number_width (get_or places i 0) input)
    p = stated-at input i h

    front : fields number_width (take (i + 1) (stated input)) ≡ fields number_width (take i (stated input)) ++ field number_width x
    front =
        let q : get_or (stated input) i 0 ≡ x = p.1 ∙ sym e in
        rw (add-one, take-suc (stated input) i 0 h, q) (snoc_field (take i (stated input)) x)

    next : Filled (fields number_width (take i (stated input)) ++ field number_width x) l ((i + 1) * number_width) (with_field (i * number_width) x o)
    next =
        let P : ℕ → Type 0 = λ k. Filled (fields number_width (take i (stated input)) ++ field number_width x) l k (with_field (i * number_width) x o) in
        let w : i * number_width + number_width ≡ (i + 1) * number_width = omega arith in
        subst P w (fill-field x t.so_far (omega arith))

pub line-decides : {input l o : List ℕ} {i : ℕ} {t : Bool} → LineTo input l i o → length l ≡ 25 → i ≡ 4 → t ≡ starts_with eqb input (set o (capacity_place + number_width) 10) → (t ≡ true) ↔ (take 25 input ≡ shape_line (decode_shape input))
unfolding shape_line
line-decides {input} {l} {o} {i} {t} r z h k =
    let x = shape_line (decode_shape input) in
    let f : Filled (fields number_width (stated input)) l 24 o = rw h at r.so_far in
    let w : set o 24 10 ≡ x = filled-whole x (fill x 10 f (omega arith) refl) refl (omega arith) in
    let k' : t ≡ pointwise eqb x (take (length x) input) = rw w at k in
    let y = slice_eq-Decides Decides-eqb x (take (length x) input) t k' in
    let q : (t ≡ true) ↔ (take (length x) input ≡ x) = (λ u. sym (y.0 u), λ u. y.1 (sym u)) in
    rw (length-shape (decode_shape input)) at q

-- ---- the first line of bytes

abbrev NoLineFeed : List ℕ → Type 0
NoLineFeed l = All (λ b. b ≡ 10 → ⊥) l

no-feed-append : (k l : List ℕ) → NoLineFeed k → NoLineFeed l → NoLineFeed (k ++ l)
no-feed-append k l g h = all_append (λ b. b ≡ 10 → ⊥) k l g h

no-feed-lead : (w x : ℕ) → NoLineFeed (lead w x)
unfolding lead
no-feed-lead zero x = tt
no-feed-lead (suc w) zero = no-feed-append (lead w zero) (32 ∷ []) (no-feed-lead w zero) (λ e. omega arith, tt)
no-feed-lead (suc w) (suc x) = no-feed-append (lead w (suc x / 10)) ((48 + suc x % 10) ∷ []) (no-feed-lead w (suc x / 10)) (λ e. omega arith, tt)

no-feed-field : (w x : ℕ) → NoLineFeed (field w x)
unfolding field
no-feed-field zero x = tt
no-feed-field (suc w) x = no-feed-append (lead w (x / 10)) ((48 + x % 10) ∷ []) (no-feed-lead w (x / 10)) (λ e. omega arith, tt)

no-feed-fields : (w : ℕ) (l : List ℕ) → NoLineFeed (fields w l)
unfolding fields flatten
no-feed-fields w [] = tt
no-feed-fields w (x ∷ l) = no-feed-append (field w x) (fields w l) (no-feed-field w x) (no-feed-fields w l)

feed-first : (l rest : List ℕ) → NoLineFeed l → lines (l ++ (10 ∷ rest)) ≡ (l ++ (10 ∷ [])) ∷ lines rest
unfolding lines onto
feed-first [] rest h = refl
feed-first (b ∷ l) rest h = lines_other b (l ++ (10 ∷ rest)) h.0 ∙ ap (onto b) (feed-first l rest h.1)

first-joined : (input : List ℕ) → first_line input ++ flatten (further_lines input) ≡ input
unfolding first_line further_lines flatten
first-joined input = go (lines input) ∙ lines-joined input
  where
    go : (ls : List (List ℕ)) → get_or ls 0 [] ++ flatten (drop 1 ls) ≡ flatten ls
    go [] = refl
    go (l ∷ ls) = refl

-- ---- line 1 of the input

number-front : (i n : ℕ) (b : List ℕ) → i + 6 ≤ n → number_at 6 i (take n b) ≡ number_at 6 i b
unfolding number_at
number-front i n b h = rw (drop-take i n b, take-take 6 (n - i) (drop i b) (omega arith)) refl

front-states : (b : List ℕ) → decode_shape (take 25 b) ≡ decode_shape b
unfolding decode_shape
front-states b = λ i. record {
  rows = number-front 0 25 b (omega arith) i;
  columns = number-front 6 25 b (omega arith) i;
  top = number-front 12 25 b (omega arith) i;
  capacity = number-front 18 25 b (omega arith) i;
}

module _ (input : List ℕ) (s : Shape) (e : take 25 input ≡ shape_line s) where
  shape-whole : 25 ≤ length input
  shape-whole = omega (arith, ap length e, length-shape s, simp length-append at (ap length (take-append-drop 25 input)))

  shape-lines : lines input ≡ shape_line s ∷ lines (drop 25 input)
  unfolding shape_line
  shape-lines =
      let l = fields 6 (s.rows ∷ s.columns ∷ s.top ∷ s.capacity ∷ []) in
      let w : input ≡ l ++ (10 ∷ drop 25 input) = sym (take-append-drop 25 input) ∙ rw e (append_assoc l (10 ∷ []) (drop 25 input)) in
      ap lines w ∙ feed-first l (drop 25 input) (no-feed-fields 6 _)

  first-is : first_line input ≡ shape_line s
  unfolding first_line
  first-is = rw shape-lines refl

  rest-is : lines (drop 25 input) ≡ further_lines input
  unfolding further_lines
  rest-is = rw shape-lines refl

pub shape-states : (input : List ℕ) → take 25 input ≡ shape_line (decode_shape input) → shape_in input ≡ decode_shape input
unfolding shape_in
shape-states input e = ap decode_shape (first-is input (decode_shape input) e ∙ sym e) ∙ front-states input

pub shape-told : (input : List ℕ) → ((question12 input).answer ≡ true) ↔ (take 25 input ≡ shape_line (decode_shape input))
unfolding question12 shape_in
shape-told input = (to, back)
  where
    front : (f g : List ℕ) → f ++ g ≡ input → length f ≡ 25 → take 25 input ≡ f
    front f g e z = rw (← e) (take_at f g 25 z)

    to : (question12 input).answer ≡ true → take 25 input ≡ shape_line (decode_shape input)
    to e =
        let t = front (first_line input) (flatten (further_lines input)) (first-joined input) (shape-length input e) in
        t ∙ sym (equal-eq (shape_line (shape_in input)) (first_line input) e) ∙ ap shape_line (ap decode_shape (sym t) ∙ front-states input)

    back : take 25 input ≡ shape_line (decode_shape input) → (question12 input).answer ≡ true
    back e = eq-equal (shape_line (shape_in input)) (first_line input) (ap shape_line (shape-states input e) ∙ sym (first-is input (decode_shape input) e))

pub rest_lines : (input : List ℕ) → start_no input ≡ 0 → (25 ≤ length input) × (lines (drop 25 input) ≡ further_lines input)
rest_lines input e =
    let l = (shape-told input).0 ((start-pass input).0 e).line-laid in
    (shape-whole input (decode_shape input) l, rest-is input (decode_shape input) l)

-- ---- the ways out

module _ (input : List ℕ) where
  pub long-refused : 65536 < length input → 11 ≡ start_no input
  long-refused h = sym (over-limit input h)

  module _ (short : length input ≤ 65536) where
    unlaid : (take 25 input ≡ shape_line (decode_shape input) → ⊥) → 12 ≡ start_no input
    unlaid n = sym (start-line input short (refuted (question12 input).answer (shape-told input) n))

    pub short-refused : length input < 25 → 12 ≡ start_no input
    short-refused h = unlaid (λ e. omega (arith, shape-whole input (decode_shape input) e))

    pub line_refused : {t : Bool} → (t ≡ true) ↔ (take 25 input ≡ shape_line (decode_shape input)) → t ≡ false → 12 ≡ start_no input
    line_refused d n = unlaid (λ e. true≢false (sym (d.1 e) ∙ n))

pub record LineRead (input : List ℕ) (m n top capacity : ℕ) : Type 0 where
  pub short : length input ≤ 65536
  pub laid : take 25 input ≡ shape_line (decode_shape input)
  pub rows-read : m ≡ number_at number_width rows_place input
  pub columns-read : n ≡ number_at number_width columns_place input
  pub top_read : top ≡ number_at number_width top_place input
  pub capacity-read : capacity ≡ number_at number_width capacity_place input

module _ {input : List ℕ} {m n top capacity : ℕ} (o : LineRead input m n top capacity) where
  states : shape m n top capacity ≡ shape_in input
  unfolding decode_shape
  states = (λ i. record { rows = o.rows-read i; columns = o.columns-read i; top = o.top_read i; capacity = o.capacity-read i }) ∙ sym (shape-states input o.laid)

  line-yes : (question12 input).answer ≡ true
  line-yes = (shape-told input).1 o.laid

  pub numbers-refused : {k : ℕ} → k ≡ numbers_no m n top capacity → (k ≡ 0 → ⊥) → k ≡ start_no input
  numbers-refused {k} e h = sym (go k (sym (e ∙ ap (λ (s : Shape). numbers_no s.rows s.columns s.top s.capacity) states)) h)
    where
      go : (k : ℕ) → numbers_no (shape_in input).rows (shape_in input).columns (shape_in input).top (shape_in input).capacity ≡ k → (k ≡ 0 → ⊥) → start_no input ≡ k
      go zero d n = absurd (n refl)
      go (suc k) d n = start-numbers input o.short line-yes k d

  module _ (z : 0 ≡ numbers_no m n top capacity) {x : ℕ} (q : x ≡ line_start (m * n) capacity) where
    within : InLimits (shape_in input)
    within = rw states at (numbers-within (shape m n top capacity) z)

    sized : x ≡ layout_length (shape_in input)
    sized = rw (← states) (length-is (shape m n top capacity) q)

    pub length-refused : 65536 < x → 13 ≡ start_no input
    length-refused h = sym (start-length input o.short line-yes within (omega (arith, sized)))

    pub passes-all : x ≤ 65536 → start_no input ≡ 0
    passes-all h = (start-pass input).1 (record { input-short = o.short; line-laid = line-yes; limits = within; register-short = omega (arith, sized) })

    pub shape-read : shape m n top capacity ≡ shape_in input
    shape-read = states

    pub length-read : x ≡ layout_length (shape_in input)
    length-read = sized

-- what `?` hands on
pub fault-handed : (P : Start → Type 0) (r : Result Start Fault) (x : Refusal) {k : ℕ} → IsErr r × IsErrAnd r (λ f. fault_number f ≡ refusal_number x) → refusal_number x ≡ k →
    MatchResult r P (λ f. fault_number f ≡ k)
fault-handed P (Ok s) x h e = absurd h.1
fault-handed P (Err f) x h e = h.1 ∙ e
