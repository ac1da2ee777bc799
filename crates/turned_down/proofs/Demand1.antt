-- Faulty programs for the register do not meet demand 1: whatever the call, its first no settles what is answered and left.
--
--   made-refuses, made-accepts, made-length  ==  what demand 1 says of an open and of a call alike
--   count_kept          ==  and of a count
--   made-always         ==  what an implementation whose calls do one thing answers
--   is_lent_made, lent-made  ==  of literals it is computed whether they can be lent
--   Case, shows p x     ==  a literal call, and the number of its first no; it is so, and of the kind p
--   Pair, shows-both p x  ==  a literal call, and the numbers of its first no and of a later question that gets a no; they are so
--   case-made, pair-made  ==  such a call, as one that can be lent
--   refusals, refusals-turned  ==  refusal_faults of one question, and of each of a list of cases
--   before, before-turned  ==  asked_before of one pair, and of each of a list
--   turns-away, grows-slice  ==  TurnsAway and GrowsSlice, of every kind
--   asked, both         ==  a case and a pair, by their numbers
--   full, most, tall, head_only  ==  the bytes of a full register with the entry zero, which client 1 holds once, of one where it holds it 999 times, of an
--                           empty one of 6 rows, and of the first line of that one alone
--   open_cases, enter_cases, strike_cases, count_cases, terminal_cases  ==  a case for each question of each call
--   open_pairs, enter_pairs, strike_pairs, count_pairs, terminal_pairs  ==  a pair for each two questions that can both get a no, one after the other
--   Computed, computed  ==  what the definitions give of them
--   The other names are those of the faults.
--   askings-turned      ==  the faults of open, enter, strike and count
use mathlib.Core.Path.{◌≡◌, refl, sym, ap, ◌∙◌}
use mathlib.Core.List.{List, [], ◌∷◌, flatten, flat_map, map}
use mathlib.Core.Bool.{Bool, true, false, true≢false, not, ◌&&◌, ◌||◌}
use Prim.Native.Nat.{ℕ, zero as nought, suc, ◌<◌}
use native.Mathlib.Omega.{arith}
use lib.ListN.{length, replicate}
use lib.Dec.{ltb, eqb}
use borrow.Author.Tests.{eqb-true, eq-eqb, ltb-true, not-true}
use Rattle.permutations.specs.Lists.{All, tabulate, numbers, select, every, some, occurrences}
use Rattle.permutations.specs.Permutations.{is_permutation, words, permutations}
use Rattle.permutations.proofs.BoolLaws.{and_yes}
use Rattle.permutations.proofs.ListLaws.{all_append}
use Rattle.grids.specs.Order.{rank, leq, less, equal}
use Rattle.grids.specs.Grids.{capped, is_grid, grid_of, arrangement}
use Rattle.grids.specs.Least.{arrangements, lesser, least_of, least}
use Rattle.grids.specs.Questions.{first_no, in_range, question1, question2, question3, question6, question7, question14, after_first, question4}
use Rattle.grids.proofs.LentLaws.{small_word, is_slice, tested-bytes}
use Rattle.bounds.specs.Prune.{question8, bounds_questions}
use Rattle.layout.specs.Decimal.{lead, field, digit, value_from, value}
use Rattle.layout.specs.Layout.{fields, entry_width, line_length, entry_line, blank_line, head_line, layout, layout_length, number_at, cells_of, holdings_of, holding, changed, count, entry_at, decode_shape, decode, in_limits, some_held, is_holdings, is_entry, ascending, is_register, laid_out}
use Rattle.calls.specs.Entries.{question9, question10, question15, question16, grid_questions, client_questions, holds, holdings_in, held_by, insert}
use Rattle.calls.specs.Calls.{Outcome, placed, shape, refusal, question5, open_questions, enter_questions, strike_questions, count_questions, terminal_enter_questions, accepted}
use Rattle.machine.specs.CallLists.{Call, enter, strike, count_in, terminal_enter, Implementation, LentCall, called, questions_of}
use Rattle.machine.specs.Machine.{sorted, shown}
use Rattle.machine.specs.Demand1.{Demand1}
use Rattle.machine.proofs.CallListLaws.{is_lent, small-shape, tested-call, limits-lent-shape}
use Rattle.turned_down.specs.RegisterFaults.{Made, opening, calling, LentMade, slice_of, questions_in, answer_to, is_open, is_enter, is_strike, is_count, is_terminal_enter, MadeOf, first_no_of, is_no, AsksBefore, TurnsAway, GrowsSlice, CountWrites, OpensNothing, EntersNothing, refusal_faults, asked_before, asking_faults}
use Rattle.turned_down.specs.Faults.{fault, Turned}
use Rattle.turned_down.proofs.RegisterCases.{cell, zero, one, zero-entry, most-entry, with, limits, always, plain}
use Rattle.turned_down.proofs.RegisterCases as cases

-- ---- demand 1 of an open and of a call alike

module _ (i : Implementation) (d : Demand1 i) where
  pub made-refuses : (m : Made) → LentMade m → (k : ℕ) → first_no (questions_in m) ≡ suc k → answer_to i m ≡ refusal (suc k) (slice_of m)
  unfolding LentMade
  made-refuses (opening s b) l = d.open-refuses s b l.0 l.1
  made-refuses (calling b c) l = d.refuses b c l.0 l.1

  pub made-accepts : (m : Made) → LentMade m → first_no (questions_in m) ≡ 0 → accepted (answer_to i m).number ≡ true
  unfolding LentMade accepted
  made-accepts (opening s b) l e =
      ap (λ (t : Bool). t || eqb (i.opens s b).number 101) (d.open-accepts s b l.0 l.1 ∙ ap (λ (k : ℕ). eqb k 0) e)
  made-accepts (calling b c) l e = d.accepts b c l.0 l.1 ∙ ap (λ (k : ℕ). eqb k 0) e

  pub made-length : (m : Made) → LentMade m → length (answer_to i m).bytes ≡ length (slice_of m)
  unfolding LentMade
  made-length (opening s b) l = d.open-length s b l.0 l.1
  made-length (calling b c) l = d.same_length b c l.0 l.1

-- a count is one of bounds on a register
count_kept : (i : Implementation) → Demand1 i → (m : Made) → is_count m ≡ true → LentMade m → (answer_to i m).bytes ≡ slice_of m
unfolding LentMade LentCall
count_kept i d (opening s b) h l = absurd (true≢false (sym h))
count_kept i d (calling b (enter c g)) h l = absurd (true≢false (sym h))
count_kept i d (calling b (strike c g)) h l = absurd (true≢false (sym h))
count_kept i d (calling b (count_in low high)) h l = d.count-unchanged b low high l.0 l.1.0 l.1.1
count_kept i d (calling b (terminal_enter c g)) h l = absurd (true≢false (sym h))

pub made-always : (k p : ℕ) (w : List ℕ → List ℕ) (m : Made) → answer_to (always k p w) m ≡ placed k p (w (slice_of m))
unfolding called
made-always k p w (opening s b) = refl
made-always k p w (calling b (enter c g)) = refl
made-always k p w (calling b (strike c g)) = refl
made-always k p w (calling b (count_in low high)) = refl
made-always k p w (calling b (terminal_enter c g)) = refl

-- ---- literal calls

abbrev pub is_lent_made : Made → Bool
is_lent_made (opening s b) = (ltb s.rows 10000000 && (ltb s.columns 10000000 && (ltb s.top 10000000 && ltb s.capacity 10000000))) && is_slice b
is_lent_made (calling b c) = is_slice b && is_lent c

lent-made : (m : Made) → is_lent_made m ≡ true → LentMade m
unfolding LentMade
lent-made (opening s b) e = let p = and_yes _ (is_slice b) e in (small-shape s p.0, tested-bytes b p.1)
lent-made (calling b c) e = let p = and_yes (is_slice b) (is_lent c) e in (tested-bytes b p.0, tested-call c p.1)

pub record Case : Type 0 where
  pub number : ℕ
  pub made : Made

abbrev pub shows : (Made → Bool) → Case → Bool
shows p x = p x.made && (is_lent_made x.made && (ltb 0 x.number && eqb (first_no (questions_in x.made)) x.number))

pub record Pair : Type 0 where
  pub numbers-asked : ℕ × ℕ
  pub made : Made

abbrev pub shows-both : (Made → Bool) → Pair → Bool
shows-both p x =
    shows p (record { number = x.numbers-asked.1; made = x.made }) && (not (eqb x.numbers-asked.0 x.numbers-asked.1) && some (is_no x.numbers-asked.0) (questions_in x.made))

module _ (p : Made → Bool) where
  case-made : (x : Case) → shows p x ≡ true → (on : MadeOf p) × (first_no_of on ≡ x.number) × (0 < x.number)
  case-made x e =
      let q = and_yes (p x.made) _ e in
      let r = and_yes (is_lent_made x.made) _ q.1 in
      let t = and_yes (ltb 0 x.number) _ r.1 in
      (record { made = x.made; kind = q.0; lent = lent-made x.made r.0 }, eqb-true _ x.number t.1, ltb-true 0 x.number t.0)

  -- ---- each question

  refusals : (k : ℕ) (on : MadeOf p) → first_no_of on ≡ suc k → All Turned (refusal_faults p (suc k))
  unfolding refusal_faults
  refusals k on e = (
    record {
      example = plain 0 0;
      done = record { on = on; asked = e; other = λ z. let q = ap (λ (o : Outcome). o.number) (made-always 0 0 (λ b. b) on.made) in omega arith };
      refused = λ i f d. f.other (ap (λ (o : Outcome). o.number) (made-refuses i d f.on.made f.on.lent k f.asked));
    },
    (
      record {
        example = plain 0 1;
        done = record { on = on; asked = e; placed = λ z. let q = ap (λ (o : Outcome). o.place) (made-always 0 1 (λ b. b) on.made) in omega arith };
        refused = λ i f d. f.placed (ap (λ (o : Outcome). o.place) (made-refuses i d f.on.made f.on.lent k f.asked));
      },
      (
        record {
          example = always 0 0 (λ b. 0 ∷ b);
          done = record { on = on; asked = e; written = λ z. let q = ap (λ (o : Outcome). length o.bytes) (made-always 0 0 (λ b. 0 ∷ b) on.made) in let r = ap length z in omega arith };
          refused = λ i f d. f.written (ap (λ (o : Outcome). o.bytes) (made-refuses i d f.on.made f.on.lent k f.asked));
        },
        tt,
      ),
    ),
  )

  pub refusals-turned : (l : List Case) → every (shows p) l ≡ true → All Turned (flat_map (refusal_faults p) (map (λ (x : Case). x.number) l))
  unfolding flat_map flatten every
  refusals-turned [] e = tt
  refusals-turned (x ∷ l) e =
      let q = and_yes (shows p x) _ e in
      let c = case-made x q.0 in
      all_append Turned (refusal_faults p x.number) _ (go x.number c.0 c.1 c.2) (refusals-turned l q.1)
    where
      go : (n : ℕ) (on : MadeOf p) → first_no_of on ≡ n → 0 < n → All Turned (refusal_faults p n)
      go nought on e h = absurd (omega arith)
      go (suc k) on e h = refusals k on e

  -- ---- the order

  before : (m n : ℕ) (on : MadeOf p) → first_no_of on ≡ n → 0 < n → eqb m n ≡ false → some (is_no m) (questions_in on.made) ≡ true → Turned (fault Demand1 (AsksBefore m n p))
  before m nought on e h other also = absurd (omega arith)
  before m (suc k) on e h other also = record {
    example = plain m 0;
    done = record { on = on; asked = e; also = also; says = ap (λ (o : Outcome). o.number) (made-always m 0 (λ b. b) on.made) };
    refused = λ i f d.
        true≢false (sym (eq-eqb m (suc k) (sym f.says ∙ ap (λ (o : Outcome). o.number) (made-refuses i d f.on.made f.on.lent k f.asked))) ∙ other);
  }

  pub before-turned : (l : List Pair) → every (shows-both p) l ≡ true → All Turned (asked_before p (map (λ (x : Pair). x.numbers-asked) l))
  unfolding asked_before every case-made
  before-turned [] e = tt
  before-turned (x ∷ l) e =
      let q = and_yes (shows-both p x) _ e in
      let r = and_yes (shows p (record { number = x.numbers-asked.1; made = x.made })) _ q.0 in
      let s = and_yes (not (eqb x.numbers-asked.0 x.numbers-asked.1)) _ r.1 in
      let c = case-made _ r.0 in
      (before x.numbers-asked.0 x.numbers-asked.1 c.0 c.1 c.2 (not-true _ s.0) s.1, before-turned l q.1)

  -- ---- refusing what passes, and growing the slice

  pub turns-away : (m : Made) → p m ≡ true → is_lent_made m ≡ true → first_no (questions_in m) ≡ 0 → Turned (fault Demand1 (TurnsAway p))
  unfolding accepted
  turns-away m h l e = record {
    example = plain 9 0;
    done = record { on = record { made = m; kind = h; lent = lent-made m l }; asked = e; refused = ap (λ (o : Outcome). accepted o.number) (made-always 9 0 (λ b. b) m) };
    refused = λ i f d. true≢false (sym (made-accepts i d f.on.made f.on.lent f.asked) ∙ f.refused);
  }

  pub grows-slice : (m : Made) → p m ≡ true → is_lent_made m ≡ true → Turned (fault Demand1 (GrowsSlice p))
  grows-slice m h l = record {
    example = always 0 0 (λ b. 0 ∷ b);
    done = record { on = record { made = m; kind = h; lent = lent-made m l }; longer = omega (arith, ap (λ (o : Outcome). length o.bytes) (made-always 0 0 (λ b. 0 ∷ b) m)) };
    refused = λ i f d. omega (arith, f.longer, made-length i d f.on.made f.on.lent);
  }

-- ---- the cases

abbrev pub asked : ℕ → Made → Case
asked n m = record { number = n; made = m }

abbrev pub both : ℕ → ℕ → Made → Pair
both m n x = record { numbers-asked = (m, n); made = x }

abbrev pub full : List ℕ
full = layout (record { shape = shape 1 1 1 1; entries = zero-entry ∷ [] })

abbrev pub most : List ℕ
most = with (most-entry ∷ [])

abbrev pub tall : List ℕ
tall = layout (record { shape = shape 6 1 1 1; entries = [] })

abbrev pub head_only : List ℕ
head_only = head_line (shape 6 1 1 1) 0

abbrev pub open_cases : List Case
open_cases =
    asked 1 (opening (shape 0 1 1 1) [])
    ∷ asked 2 (opening (shape 1 17 1 1) [])
    ∷ asked 3 (opening (shape 1 1 16 1) [])
    ∷ asked 4 (opening (shape 1 1 1 0) (replicate 31 0))
    ∷ asked 6 (opening cell [])
    ∷ []

abbrev pub open_pairs : List Pair
open_pairs = both 2 1 (opening (shape 9 0 1 1) []) ∷ both 3 2 (opening (shape 1 17 16 1) []) ∷ both 4 3 (opening (shape 1 1 16 501) []) ∷ both 6 4 (opening (shape 1 1 1 0) []) ∷ []

-- those that enter and a terminal's enter have alike
abbrev pub enter_cases : (ℕ → List ℕ → Call) → List Case
enter_cases call =
    asked 6 (calling (with []) (call 1 []))
    ∷ asked 7 (calling (with []) (call 1 (2 ∷ [])))
    ∷ asked 15 (calling (with []) (call 9 zero))
    ∷ asked 9 (calling full (call 1 one))
    ∷ asked 16 (calling most (call 1 zero))
    ∷ []

abbrev pub enter_pairs : (ℕ → List ℕ → Call) → List Pair
enter_pairs call =
    both 7 6 (calling (with []) (call 1 (2 ∷ 2 ∷ [])))
    ∷ both 15 7 (calling (with []) (call 9 (2 ∷ [])))
    ∷ both 9 15 (calling full (call 9 one))
    ∷ both 16 15 (calling most (call 0 zero))
    ∷ []

abbrev pub strike_cases : List Case
strike_cases =
    asked 5 (calling [] (strike 1 zero))
    ∷ asked 6 (calling (with []) (strike 1 []))
    ∷ asked 7 (calling (with []) (strike 1 (2 ∷ [])))
    ∷ asked 15 (calling (with []) (strike 9 zero))
    ∷ asked 10 (calling full (strike 2 zero))
    ∷ []

abbrev pub strike_pairs : List Pair
strike_pairs =
    both 6 5 (calling [] (strike 1 zero))
    ∷ both 7 6 (calling (with []) (strike 1 (2 ∷ 2 ∷ [])))
    ∷ both 15 7 (calling (with []) (strike 9 (2 ∷ [])))
    ∷ both 10 15 (calling full (strike 9 zero))
    ∷ []

abbrev pub count_cases : List Case
count_cases =
    asked 5 (calling [] (count_in [] []))
    ∷ asked 6 (calling (with []) (count_in zero []))
    ∷ asked 7 (calling (with []) (count_in zero (2 ∷ [])))
    ∷ asked 8 (calling (with []) (count_in one zero))
    ∷ []

abbrev pub count_pairs : List Pair
count_pairs =
    both 6 5 (calling [] (count_in zero zero))
    ∷ both 7 6 (calling (with []) (count_in (2 ∷ 2 ∷ []) zero))
    ∷ both 8 7 (calling (with []) (count_in (2 ∷ []) zero))
    ∷ []

abbrev pub terminal_cases : List Case
terminal_cases = asked 5 (calling [] (terminal_enter 1 zero)) ∷ asked 14 (calling tall (terminal_enter 1 (replicate 6 0))) ∷ enter_cases terminal_enter

abbrev pub terminal_pairs : List Pair
terminal_pairs = both 14 5 (calling head_only (terminal_enter 1 zero)) ∷ both 6 14 (calling tall (terminal_enter 1 zero)) ∷ enter_pairs terminal_enter

pub record Computed : Type 0 where
  pub opens : every (shows is_open) open_cases ≡ true
  pub opens-both : every (shows-both is_open) open_pairs ≡ true
  pub enters : every (shows is_enter) (asked 5 (calling [] (enter 1 zero)) ∷ enter_cases enter) ≡ true
  pub enters-both : every (shows-both is_enter) (both 6 5 (calling [] (enter 1 zero)) ∷ enter_pairs enter) ≡ true
  pub strikes : every (shows is_strike) strike_cases ≡ true
  pub strikes-both : every (shows-both is_strike) strike_pairs ≡ true
  pub counts : every (shows is_count) count_cases ≡ true
  pub counts-both : every (shows-both is_count) count_pairs ≡ true
  pub terminals : every (shows is_terminal_enter) terminal_cases ≡ true
  pub terminals-both : every (shows-both is_terminal_enter) terminal_pairs ≡ true
  pub open_lent : is_lent_made (opening cell (with [])) ≡ true
  pub open-passes : first_no (open_questions cell (with [])) ≡ 0
  pub enter-lent : is_lent_made (calling (with []) (enter 1 zero)) ≡ true
  pub enter-passes : first_no (questions_of (with []) (enter 1 zero)) ≡ 0
  pub strike-lent : is_lent_made (calling full (strike 1 zero)) ≡ true
  pub strike-passes : first_no (questions_of full (strike 1 zero)) ≡ 0
  pub count-lent : is_lent_made (calling (with []) (count_in zero zero)) ≡ true
  pub count-passes : first_no (questions_of (with []) (count_in zero zero)) ≡ 0
  pub terminal-lent : is_lent_made (calling (with []) (terminal_enter 1 zero)) ≡ true
  pub terminal-passes : first_no (questions_of (with []) (terminal_enter 1 zero)) ≡ 0

pub computed : Computed
unfolding tabulate numbers select every some occurrences flatten flat_map is_permutation words permutations rank leq less equal capped is_grid grid_of arrangement arrangements lesser least_of least first_no in_range question1 question2 question3 question6 question7 question14 after_first question8 bounds_questions lead field digit value_from value fields entry_width line_length entry_line blank_line head_line layout layout_length number_at cells_of holdings_of holding changed count entry_at decode_shape decode in_limits some_held is_holdings is_entry ascending is_register laid_out holds holdings_in held_by question4 question5 question9 question10 question15 question16 grid_questions client_questions open_questions enter_questions strike_questions count_questions terminal_enter_questions questions_of sorted shown insert
computed = record {
  opens = refl;
  opens-both = refl;
  enters = refl;
  enters-both = refl;
  strikes = refl;
  strikes-both = refl;
  counts = refl;
  counts-both = refl;
  terminals = refl;
  terminals-both = refl;
  open_lent = refl;
  open-passes = refl;
  enter-lent = refl;
  enter-passes = refl;
  strike-lent = refl;
  strike-passes = refl;
  count-lent = refl;
  count-passes = refl;
  terminal-lent = refl;
  terminal-passes = refl;
}

-- ---- the others

refuses-opens : Turned (fault Demand1 OpensNothing)
unfolding OpensNothing
refuses-opens = record {
  example = plain 1 0;
  done = λ s b w l z. omega arith;
  refused = λ i f d.
      let l = tested-bytes (with []) (cases.computed).none-slice in
      f cell (with []) (limits-lent-shape cell limits) l (eqb-true _ 0 (d.open-accepts cell (with []) (limits-lent-shape cell limits) l ∙ ap (λ (k : ℕ). eqb k 0) computed.open-passes));
}

refuses-enters : Turned (fault Demand1 EntersNothing)
unfolding EntersNothing called accepted
refuses-enters = record {
  example = plain 9 0;
  done = λ b c g x y z. refl;
  refused = λ i f d.
      let l = tested-bytes (with []) (cases.computed).none-slice in
      true≢false (sym (d.accepts (with []) (enter 1 zero) l (tested-call _ refl) ∙ ap (λ (k : ℕ). eqb k 0) computed.enter-passes) ∙ f (with []) 1 zero l (small_word 1 (omega arith)) (tested-bytes zero refl));
}

count-writes : Turned (fault Demand1 CountWrites)
count-writes = record {
  example = always 0 0 (λ b. 0 ∷ b);
  done = record {
    on = record { made = calling (with []) (count_in zero zero); kind = refl; lent = lent-made (calling (with []) (count_in zero zero)) computed.count-lent };
    written = λ z. let q = ap (λ (o : Outcome). length o.bytes) (made-always 0 0 (λ b. 0 ∷ b) (calling (with []) (count_in zero zero))) in let r = ap length z in omega arith;
  };
  refused = λ i f d. f.written (count_kept i d f.on.made f.on.kind f.on.lent);
}

pub askings-turned : All Turned asking_faults
unfolding asking_faults
askings-turned =
    all_append Turned (flat_map (refusal_faults is_open) (1 ∷ 2 ∷ 3 ∷ 4 ∷ 6 ∷ [])) _ (refusals-turned is_open open_cases computed.opens)
    (all_append Turned (flat_map (refusal_faults is_enter) (5 ∷ 6 ∷ 7 ∷ 15 ∷ 9 ∷ 16 ∷ [])) _ (refusals-turned is_enter (asked 5 (calling [] (enter 1 zero)) ∷ enter_cases enter) computed.enters)
    (all_append Turned (flat_map (refusal_faults is_strike) (5 ∷ 6 ∷ 7 ∷ 15 ∷ 10 ∷ [])) _ (refusals-turned is_strike strike_cases computed.strikes)
    (all_append Turned (flat_map (refusal_faults is_count) (5 ∷ 6 ∷ 7 ∷ 8 ∷ [])) _ (refusals-turned is_count count_cases computed.counts)
    (all_append Turned (asked_before is_open ((2, 1) ∷ (3, 2) ∷ (4, 3) ∷ (6, 4) ∷ [])) _ (before-turned is_open open_pairs computed.opens-both)
    (all_append Turned (asked_before is_enter ((6, 5) ∷ (7, 6) ∷ (15, 7) ∷ (9, 15) ∷ (16, 15) ∷ [])) _ (before-turned is_enter (both 6 5 (calling [] (enter 1 zero)) ∷ enter_pairs enter) computed.enters-both)
    (all_append Turned (asked_before is_strike ((6, 5) ∷ (7, 6) ∷ (15, 7) ∷ (10, 15) ∷ [])) _ (before-turned is_strike strike_pairs computed.strikes-both)
    (all_append Turned (asked_before is_count ((6, 5) ∷ (7, 6) ∷ (8, 7) ∷ [])) _ (before-turned is_count count_pairs computed.counts-both) (
      refuses-opens,
      (
        refuses-enters,
        (
          turns-away is_open (opening cell (with [])) refl computed.open_lent computed.open-passes,
          (
            turns-away is_enter (calling (with []) (enter 1 zero)) refl computed.enter-lent computed.enter-passes,
            (
              turns-away is_strike (calling full (strike 1 zero)) refl computed.strike-lent computed.strike-passes,
              (
                turns-away is_count (calling (with []) (count_in zero zero)) refl computed.count-lent computed.count-passes,
                (
                  grows-slice is_open (opening cell (with [])) refl computed.open_lent,
                  (
                    grows-slice is_enter (calling (with []) (enter 1 zero)) refl computed.enter-lent,
                    (
                      grows-slice is_strike (calling full (strike 1 zero)) refl computed.strike-lent,
                      (
                        grows-slice is_count (calling (with []) (count_in zero zero)) refl computed.count-lent,
                        (
                          count-writes,
                          tt,
                        ),
                      ),
                    ),
                  ),
                ),
              ),
            ),
          ),
        ),
      ),
    ))))))))
