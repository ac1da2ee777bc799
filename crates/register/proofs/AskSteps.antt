-- Questions 5, 6, 7 and 15, with what a caller asks besides after 5, from what the code finds to what is asked.
--
--   laid-yes          ==  question 5 got a yes
--   laid-head         ==  a register is longer than line 1
--   head_rows, head-columns, head-top, head-capacity  ==  line 1 as the code holds it
--   head-limits, head-size, head-valid  ==  its numbers are within the limits, and the register has them
--   represent-asked   ==  of a register's numbers, and a slice of the right length, represent asks questions 6 and 7
--   LeastPart, least-part  ==  where the least grid is written
--   asked-5           ==  question 5 gets a no: the first no is 5
--   client-asked      ==  the first no before 15, and then question 15
--   caller-first      ==  the first no before 15 is that of represent
--   represent-no, client-number, written-least  ==  represent is refused; it is not, and the client's question is asked; the least grid is written then
--   asks-no           ==  what `?` hands on
--   asked-ready, asked-fits, asked-valid  ==  what is known where each got a yes
--   call-refused, call-least  ==  a call that asks these first, and then goes by the least grid
use Rattle.std.proofs.Common.{Result, Ok, Err}
use Rattle.std.specs.Result.{IsErr, IsErrAnd}
use mathlib.Core.Path.{◌≡◌, refl, sym, ap, ap₂, ◌∙◌}
use mathlib.Core.List.{List, [], ◌∷◌, ◌++◌}
use mathlib.Core.Bool.{Bool, true, false, not}
use mathlib.Core.Logic.{◌⊎◌, inl, inr}
use Prim.Native.Nat.{ℕ, ◌*◌, ◌≤◌}
use native.Mathlib.Omega.{arith}
use lib.ListN.{length, take, drop}
use lib.Seq.{length-take-le, take_at}
use Rattle.std.proofs.Common.{length-append, length-drop}
use borrow.Author.Tests.{eq-eqb, not-false}
use Rattle.refusals.specs.declared.Refusal.{Refusal}
use Rattle.refusals.specs.Numbers.{refusal_number, asked_number}
use Rattle.refusals.proofs.NumberLaws.{handed-as, no-some, no-is, yes-is}
use Rattle.permutations.specs.declared.orders.Orders.{Orders}
use Rattle.grids.specs.Least.{least}
use Rattle.grids.specs.Questions.{Question, first_no, Limits, question1, question6, question7, after_first}
use Rattle.grids.proofs.TerminalLaws.{after-yes, after-no, after_stop}
use Rattle.grids.proofs.QuestionLaws.{first_no-pass, limits-pass, yes-range, size_fits}
use Rattle.permutations.specs.Lists.{every}
use Rattle.permutations.proofs.BoolLaws.{yes_or_no}
use Rattle.canonical.specs.Callers.{CallerLaws}
use Rattle.canonical.specs.Answers.{represented}
use Rattle.canonical.specs.Represent.{RepresentedBy, represent_questions}
use Rattle.canonical.proofs.CallLaws.{represented-number, represented-done}
use Rattle.layout.specs.Layout.{head_length, Shape, layout_length, decode_shape, decode, laid_out}
use Rattle.layout.proofs.LineLaws.{laid-lines}
use Rattle.lines.specs.declared.head.Head.{Head}
use Rattle.lines.specs.Head.{States}
use Rattle.calls.specs.Entries.{grid_questions, client_questions, question15, least_in}
use Rattle.calls.specs.Calls.{Outcome, answered, question5, placed}
use Rattle.calls.specs.Valid.{Valid}
use Rattle.calls.proofs.LeastSteps.{answered-refusal}
use Rattle.calls.proofs.ValidLaws.{valid-sizes}
use Rattle.register.specs.Asked.{client_no, asked_by, Ready, Asks}
use Rattle.register.proofs.ClientSteps.{client-past, client-next, client-first}

pub laid-yes : {t : Bool} (b : List ℕ) → t ≡ laid_out b → not t ≡ false → laid_out b ≡ true
laid-yes {t} b e y = sym e ∙ not-false t y

pub laid-head : (b : List ℕ) → laid_out b ≡ true → head_length ≤ length b
unfolding layout_length
laid-head b laid = omega (arith, ((laid-lines b).0 laid).0.sized)

pub represent-asked : (m n top : ℕ) (g out : List ℕ) → Limits m n top → length out ≡ m * n → first_no (represent_questions m n top g out) ≡ first_no (question6 (m * n) (g ∷ []) ∷ question7 top (g ∷ []) ∷ [])
unfolding represent_questions question6 every
represent-asked m n top g out l e = limits-pass m n top _ l ∙ rw (eq-eqb (length out) (m * n) e) refl

module _ {b : List ℕ} {h : Head} (laid : laid_out b ≡ true) (st : States b h) where
  head_rows : h.rows ≡ (decode_shape b).rows
  head_rows = ap (λ (s : Shape). s.rows) st.shape

  head-columns : h.columns ≡ (decode_shape b).columns
  head-columns = ap (λ (s : Shape). s.columns) st.shape

  head-top : h.top ≡ (decode_shape b).top
  head-top = ap (λ (s : Shape). s.top) st.shape

  pub head-capacity : h.capacity ≡ (decode_shape b).capacity
  head-capacity = ap (λ (s : Shape). s.capacity) st.shape

  pub head-limits : Limits h.rows h.columns h.top
  head-limits = rw (head_rows, head-columns, head-top) ((laid-lines b).0 laid).0.limits.grid-limits

  pub head-size : h.rows * h.columns ≤ 128
  head-size = size_fits h.rows h.columns head-limits.rows-limits.1 head-limits.column-limits.1

  pub head-valid : Valid (h.rows * h.columns) h.count b
  head-valid = record { laid = laid; sized = ap₂ ◌*◌ head_rows head-columns; counts = st.counts }

  grid-asked : (g : List ℕ) → first_no (question6 (h.rows * h.columns) (g ∷ []) ∷ question7 h.top (g ∷ []) ∷ []) ≡ first_no (question5 b ∷ grid_questions (decode b).shape g)
  unfolding grid_questions decode question5
  grid-asked g = rw (head_rows, head-columns, head-top) (sym (first_no-pass (question5 b) (grid_questions (decode_shape b) g) laid))

  represent-first : (g out : List ℕ) → length out ≡ h.rows * h.columns → first_no (represent_questions h.rows h.columns h.top g out) ≡ first_no (question5 b ∷ grid_questions (decode b).shape g)
  represent-first g out l = represent-asked h.rows h.columns h.top g out head-limits l ∙ grid-asked g

-- the part of an array of 128 cells to which the least grid is written, and the array with what was written
pub record LeastPart (size : ℕ) (out out' : List ℕ) : Type 0 where
  pub sized : length (take size out) ≡ size
  pub kept : length (out' ++ drop size out) ≡ 128
  pub front : take size (out' ++ drop size out) ≡ out'

pub least-part : {b : List ℕ} {h : Head} → laid_out b ≡ true → States b h → (out : List ℕ) → length out ≡ 128 → (out' : List ℕ) → length out' ≡ length (take (h.rows * h.columns) out) → LeastPart (h.rows * h.columns) out out'
least-part {h = h} laid st out l out' e =
    let fits = head-size laid st in
    let sized = length-take-le (h.rows * h.columns) out (omega (arith, fits)) in
    record {
      sized = sized;
      kept = omega (arith, length-append out' (drop (h.rows * h.columns) out), length-drop (h.rows * h.columns) out, fits, e ∙ sized);
      front = take_at out' _ (h.rows * h.columns) (e ∙ sized);
    }

-- what a caller asks besides
module _ {N : ℕ} {besides : ℕ → Question} {questions : ℕ → List Question → List Question} (laws : CallerLaws N besides questions) (b : List ℕ) (c : ℕ) (g : List ℕ) where
  abbrev before-client : List Question
  before-client = question5 b ∷ grid_questions (decode b).shape g

  -- question 5 gets a no
  pub asked-5 : laid_out b ≡ false → 5 ≡ asked_by questions b c g
  unfolding question5
  asked-5 e = sym (laws.among _ _ ∙ after_stop _ (question5 b) (client_questions (decode b).shape c g) e)

  client-asked : client_no (first_no (questions (decode b).shape.rows before-client)) c ≡ asked_by questions b c g
  unfolding client_questions grid_questions after_first question5 question6 question7
  client-asked =
      ap (λ (k : ℕ). client_no k c) (laws.among (decode b).shape.rows before-client)
      ∙ client-first (after_first (besides (decode b).shape.rows) before-client) c (omega arith, (omega (arith, laws.numbered (decode b).shape.rows), (omega arith, (omega arith, tt))))
      ∙ sym (laws.among (decode b).shape.rows _)

  module _ {h : Head} (laid : laid_out b ≡ true) (st : States b h) where
    caller-first : (out : List ℕ) → length out ≡ h.rows * h.columns →
        first_no (questions h.rows (represent_questions h.rows h.columns h.top g out)) ≡ first_no (questions (decode b).shape.rows before-client)
    unfolding represent_questions decode question1 question5
    caller-first out l = laws.among h.rows _ ∙ go (yes_or_no (besides h.rows).answer) ∙ sym (rw (← head_rows laid st) (laws.among h.rows _))
      where
        go : ((besides h.rows).answer ≡ true) ⊎ ((besides h.rows).answer ≡ false) →
            first_no (after_first (besides h.rows) (represent_questions h.rows h.columns h.top g out)) ≡ first_no (after_first (besides h.rows) before-client)
        go (inl e) = after-yes _ _ e ∙ represent-first laid st g out l ∙ sym (after-yes _ _ e)
        go (inr e) = after-no _ (question1 h.rows) _ (yes-range 1 8 h.rows (laws.rows h.rows e)) e ∙ sym (after-no _ (question5 b) _ laid e)

    -- r is what represent answers
    module _ (out out' : List ℕ) (l : length out ≡ h.rows * h.columns) (r : Result (Orders N) Refusal)
        (done : RepresentedBy N (first_no (questions h.rows (represent_questions h.rows h.columns h.top g out))) h.rows h.columns g out (represented r out')) where
      represent-number : asked_number r ≡ first_no (questions (decode b).shape.rows before-client)
      represent-number = go r refl
        where
          go : (s : Result (Orders N) Refusal) → r ≡ s → asked_number r ≡ first_no (questions (decode b).shape.rows before-client)
          go (Ok o) e = rw e (represented-number N _ _ _ _ _ _ (rw e at done)) ∙ caller-first out l
          go (Err x) e = rw e (represented-number N _ _ _ _ _ _ (rw e at done)) ∙ caller-first out l

      pub represent-no : {x : Refusal} → r ≡ Err x → refusal_number x ≡ asked_by questions b c g
      represent-no {x} e =
          let k = no-is e represent-number in
          k ∙ client-past _ c (λ z. no-some e (k ∙ z)) ∙ client-asked

      module _ {o : Orders N} (e : r ≡ Ok o) where
        past : first_no (questions (decode b).shape.rows before-client) ≡ 0
        past = sym (yes-is e represent-number)

        pub client-number : {k : ℕ} → k ≡ first_no (question15 c ∷ []) → k ≡ asked_by questions b c g
        client-number d = d ∙ sym (client-next _ c past) ∙ client-asked

        pub written-least : out' ≡ least_in (decode b).shape g
        unfolding decode
        written-least =
            (represented-done N _ _ _ _ _ (represented {N = N} (Ok o) out') (caller-first out l ∙ past) (rw e at done)).written
            ∙ ap₂ (λ (m n : ℕ). least m n g) (head_rows laid st) (head-columns laid st)

pub asks-no : {k c : ℕ} {b g least : List ℕ} (r : Result Head Refusal) (x : Refusal) → IsErr r × IsErrAnd r (λ y. y ≡ x) → length least ≡ 128 → refusal_number x ≡ k → Asks k c b g least r
asks-no {k} {c} {b} {g} {least} r x h l e = handed-as (λ r. Asks k c b g least r) r x h (record { number_is = e; kept = l; ready = tt })

-- a call that asks these first, and then goes by the least grid
module _ {j c : ℕ} {b g out : List ℕ} {r : Result Head Refusal} (k : Asks j c b g out r) where
  module _ {h : Head} (d : r ≡ Ok h) where
    pub asked-ready : Ready c b g out h
    asked-ready = rw d at k.ready

    pub asked-fits : h.rows * h.columns ≤ length out
    asked-fits = omega (arith, k.kept, (valid-sizes asked-ready.valid).cells_fit)

    pub asked-valid : Valid (length (take (h.rows * h.columns) out)) h.count b
    asked-valid = rw (length-take-le (h.rows * h.columns) out asked-fits) asked-ready.valid

  module _ (f : List ℕ → Outcome) {x : Outcome} (e : x ≡ answered j b (f (least_in (decode b).shape g))) where
    pub call-refused : {y : Refusal} → r ≡ Err y → placed (refusal_number y) 0 b ≡ x
    call-refused {y} d =
        let n = no-is d k.number_is in
        ap (λ (i : ℕ). placed i 0 b) n ∙ sym (e ∙ answered-refusal j b _ (λ z. no-some d (n ∙ z)))

    pub call-least : {h : Head} → r ≡ Ok h → {o : Outcome} → o ≡ f (take (h.rows * h.columns) out) → o ≡ x
    unfolding answered
    call-least d q =
        q ∙ ap f (asked-ready d).least-is ∙ sym (e ∙ ap (λ (i : ℕ). answered i b (f (least_in (decode b).shape g))) (sym (yes-is d k.number_is)) ∙ yes)
      where
        yes : answered 0 b (f (least_in (decode b).shape g)) ≡ f (least_in (decode b).shape g)
        yes = refl
