-- Faulty programs for same do not meet its contract.
--
--   Computed, computed  ==  the small cases that show it
--   at-m1, at-sums, at-m5, at-m6  ==  calls of two grids
--   meets, answers, agrees  ==  what a program answers that meets the contract: its number and the cells that agree are those of the definitions
--   agrees-103          ==  with 103 as many cells agree as those of the representatives do
--   The other names are those of the faults.
use mathlib.Core.Path.{◌≡◌, refl, sym, ◌∙◌}
use mathlib.Core.List.{[], ◌∷◌, flat_map}
use mathlib.Core.Bool.{true, false, true≢false}
use mathlib.Core.Logic.{inl, ⊎_elim}
use native.Mathlib.Omega.{arith}
use Rattle.permutations.specs.Lists.{tabulate, numbers, select, every, some, occurrences, All}
use Rattle.permutations.specs.Permutations.{identity, is_permutation, words, permutations}
use Rattle.grids.specs.Order.{rank, leq, equal}
use Rattle.grids.specs.CommonPrefix.{common_prefix_length}
use Rattle.grids.specs.Grids.{capped, grid_of, row, column, arrangement, OneClass, one_class}
use Rattle.grids.specs.Least.{arrangements, lesser, least_of, least}
use Rattle.grids.specs.Questions.{first_no, in_range, question1, question2, question3, question6, question7}
use Rattle.grids.proofs.GridLaws.{class-passes, passes-class}
use Rattle.canonical.specs.Same.{same_questions, Compared, same_number, same_agreed}
use Rattle.canonical.specs.Programs.{SameProgram, MeetsSame}
use Rattle.canonical.proofs.CallLaws.{compared-number, compared-one, compared-starts, compared-refused, same-zero, same-first-no, produces-past}
use Rattle.canonical.proofs.AgreedLaws.{asked-103, same-agreed}
use Rattle.turned_down.specs.RepresentFaults.{Sent, on, sorted_both_ways}
use Rattle.turned_down.specs.SameFaults.{DeniesClass, row_sums, JudgesByRowSums, ComparesSorted, OrdersFromB, SameFillsPastRows, SameFillsPastColumns, IgnoresB, MovesRowsUnmatched, MovesColumnsUnmatched, agreeing, AgreesAsSent, MiscountsByOne, AgreesInNone, AgreesRefusing, same_faults}
use Rattle.turned_down.specs.Faults.{fault, Turned}
use Rattle.turned_down.proofs.Differences.{unequal}
use Rattle.turned_down.proofs.Plans.{m1, m1-least, m5, m5-least, m5-back, m6-a, m6-b, sending}

record Computed : Type 0 where
  m1-asked : first_no (same_questions 2 3 3 m1 m1-least) ≡ 0
  m1-one : one_class 2 3 m1 m1-least ≡ true
  m1-sorted : sorted_both_ways 2 3 m1 ≡ true
  m1-least-sorted : sorted_both_ways 2 3 m1-least ≡ true
  sums-asked : first_no (same_questions 1 2 2 (0 ∷ 2 ∷ []) (1 ∷ 1 ∷ [])) ≡ 0
  sums-two : one_class 1 2 (0 ∷ 2 ∷ []) (1 ∷ 1 ∷ []) ≡ false
  one-sum : equal (row_sums 1 2 (0 ∷ 2 ∷ [])) (row_sums 1 2 (1 ∷ 1 ∷ [])) ≡ true
  m5-backwards : arrangement 1 3 (0 ∷ []) m5-back m5-least ≡ m5
  m5-forwards : equal (arrangement 1 3 (0 ∷ []) m5-back m5) m5-least ≡ false
  b-asked : first_no (same_questions 1 1 0 (0 ∷ []) (1 ∷ [])) ≡ 7
  a-capped : capped 0 (0 ∷ []) ≡ true
  some-rows : equal [] (identity 8) ≡ false
  some-columns : equal [] (identity 16) ≡ false
  parting-agreed : common_prefix_length (least 1 2 (1 ∷ 0 ∷ [])) (least 1 2 (1 ∷ 2 ∷ [])) ≡ 0
  parting-as-sent : common_prefix_length (1 ∷ 0 ∷ []) (1 ∷ 2 ∷ []) ≡ 1
  m6-agreed : common_prefix_length (least 2 2 m6-a) (least 2 2 m6-b) ≡ 1

computed : Computed
unfolding tabulate numbers select every some occurrences flat_map identity is_permutation words permutations rank leq equal capped grid_of row column arrangement one_class first_no in_range question1 question2 question3 question6 question7 same_questions common_prefix_length arrangements lesser least_of least sorted_both_ways row_sums
computed = record {
  m1-asked = refl;
  m1-one = refl;
  m1-sorted = refl;
  m1-least-sorted = refl;
  sums-asked = refl;
  sums-two = refl;
  one-sum = refl;
  m5-backwards = refl;
  m5-forwards = refl;
  b-asked = refl;
  a-capped = refl;
  some-rows = refl;
  some-columns = refl;
  parting-agreed = refl;
  parting-as-sent = refl;
  m6-agreed = refl;
}

abbrev at-m1 : Sent
at-m1 = sending 2 3 3 m1 m1-least refl

abbrev at-sums : Sent
at-sums = sending 1 2 2 (0 ∷ 2 ∷ []) (1 ∷ 1 ∷ []) refl

abbrev at-m5 : Sent
at-m5 = sending 1 3 3 m5 m5-least refl

abbrev at-m6 : Sent
at-m6 = sending 2 2 1 m6-a m6-b refl

m1-class : OneClass 2 3 m1 m1-least
m1-class = passes-class 2 3 m1 m1-least computed.m1-one

module _ (f : SameProgram) (c : MeetsSame f) (s : Sent) where
  meets : Compared s.rows s.columns s.top s.first s.second (on f s)
  unfolding MeetsSame
  meets = c _ _ _ _ _ s.lent

  answers : (on f s).number ≡ on same_number s
  unfolding same_number
  answers = (compared-number 8 _ _ _ _ _ _ _ meets).0

  agrees : (on f s).agreed ≡ on same_agreed s
  unfolding same_agreed
  agrees = (compared-number 8 _ _ _ _ _ _ _ meets).1

  agrees-103 : (on f s).number ≡ 103 → (on f s).agreed ≡ agreeing s
  agrees-103 e = agrees ∙ same-agreed _ _ _ _ _ (asked-103 _ _ _ _ _ (sym answers ∙ e))

denies-class : Turned (fault MeetsSame DeniesClass)
denies-class = record {
  example = λ m n top a b. record { number = 103; agreed = 0; rows = []; columns = [] };
  done = record { sent = at-m1; asked = computed.m1-asked; one-class = m1-class; denied = λ z. omega arith };
  refused = λ f d c. d.denied (answers f c d.sent ∙ (same-zero _ _ _ _ _ d.asked).1 d.one-class);
}

judges-by-row-sums : Turned (fault MeetsSame JudgesByRowSums)
judges-by-row-sums = record {
  example = λ m n top a b. record { number = 0; agreed = 0; rows = []; columns = [] };
  done = record {
    sent = at-sums;
    asked = computed.sums-asked;
    two-classes = λ o. true≢false (sym (class-passes 1 2 (0 ∷ 2 ∷ []) (1 ∷ 1 ∷ []) o) ∙ computed.sums-two);
    one-sum = computed.one-sum;
    said = refl;
  };
  refused = λ f d c. d.two-classes ((same-zero _ _ _ _ _ d.asked).0 (sym (answers f c d.sent) ∙ d.said));
}

compares-sorted : Turned (fault MeetsSame ComparesSorted)
compares-sorted = record {
  example = λ m n top a b. record { number = 103; agreed = 0; rows = []; columns = [] };
  done = record {
    sent = at-m1;
    asked = computed.m1-asked;
    one-class = m1-class;
    first-sorted = computed.m1-sorted;
    second-sorted = computed.m1-least-sorted;
    said = refl;
  };
  refused = λ f d c.
      let z = answers f c d.sent ∙ (same-zero _ _ _ _ _ d.asked).1 d.one-class in
      omega (arith, z, d.said);
}

-- ---- the orders

orders-from-b : Turned (fault MeetsSame OrdersFromB)
orders-from-b = record {
  example = λ m n top a b. record { number = 0; agreed = 0; rows = 0 ∷ []; columns = m5-back };
  done = record { sent = at-m5; zero = refl; from-b = computed.m5-backwards; not-from-a = unequal _ _ computed.m5-forwards };
  refused = λ f d c. d.not-from-a (compared-one 8 _ _ _ _ _ _ _ d.zero (meets f c d.sent)).produced.gives;
}

same-fills-past-rows : Turned (fault MeetsSame SameFillsPastRows)
same-fills-past-rows = record {
  example = λ m n top a b. record { number = 0; agreed = 0; rows = []; columns = [] };
  done = record { sent = at-m5; zero = refl; fills = record { at = 7; past = omega arith; within = omega arith; other = λ e. omega arith } };
  refused = λ f d c.
      d.fills.other
      ((produces-past 8 _ _ _ _ _ _ (compared-one 8 _ _ _ _ _ _ _ d.zero (meets f c d.sent)).produced).2 d.fills.at d.fills.within d.fills.past);
}

same-fills-past-columns : Turned (fault MeetsSame SameFillsPastColumns)
same-fills-past-columns = record {
  example = λ m n top a b. record { number = 0; agreed = 0; rows = []; columns = [] };
  done = record { sent = at-m5; zero = refl; fills = record { at = 15; past = omega arith; within = omega arith; other = λ e. omega arith } };
  refused = λ f d c.
      d.fills.other
      ((produces-past 8 _ _ _ _ _ _ (compared-one 8 _ _ _ _ _ _ _ d.zero (meets f c d.sent)).produced).3 d.fills.at d.fills.within d.fills.past);
}

moves-rows-unmatched : Turned (fault MeetsSame MovesRowsUnmatched)
moves-rows-unmatched = record {
  example = λ m n top a b. record { number = 1; agreed = 0; rows = []; columns = identity 16 };
  done = record { sent = sending 0 0 0 [] [] refl; not-zero = λ z. omega arith; moves = unequal [] (identity 8) computed.some-rows };
  refused = λ f d c. d.moves (compared-starts 8 _ _ _ _ _ _ _ d.not-zero (meets f c d.sent)).row-identity;
}

moves-columns-unmatched : Turned (fault MeetsSame MovesColumnsUnmatched)
moves-columns-unmatched = record {
  example = λ m n top a b. record { number = 103; agreed = 0; rows = identity 8; columns = [] };
  done = record { sent = at-m6; not-zero = λ z. omega arith; moves = unequal [] (identity 16) computed.some-columns };
  refused = λ f d c. d.moves (compared-starts 8 _ _ _ _ _ _ _ d.not-zero (meets f c d.sent)).column-identity;
}

-- ---- the questions, and the cells that agree

ignores-b : Turned (fault MeetsSame IgnoresB)
ignores-b = record {
  example = λ m n top a b. record { number = 0; agreed = 0; rows = []; columns = [] };
  done = record { sent = sending 1 1 0 (0 ∷ []) (1 ∷ []) refl; asked = computed.b-asked; first-capped = computed.a-capped; unrefused = λ z. omega arith };
  refused = λ f d c. d.unrefused (answers f c d.sent ∙ same-first-no _ _ _ _ _ 6 d.asked);
}

agrees-as-sent : Turned (fault MeetsSame AgreesAsSent)
agrees-as-sent = record {
  example = λ m n top a b. record { number = 103; agreed = common_prefix_length a b; rows = []; columns = [] };
  done = record {
    sent = sending 1 2 2 (1 ∷ 0 ∷ []) (1 ∷ 2 ∷ []) refl;
    with-103 = refl;
    as-sent = refl;
    not-agreeing = λ e. omega (arith, e, computed.parting-as-sent, computed.parting-agreed);
  };
  refused = λ f d c. d.not-agreeing (sym d.as-sent ∙ agrees-103 f c d.sent d.with-103);
}

miscounts-by-one : Turned (fault MeetsSame MiscountsByOne)
miscounts-by-one = record {
  example = λ m n top a b. record { number = 103; agreed = 2; rows = []; columns = [] };
  done = record { sent = at-m6; with-103 = refl; by_one = inl (omega (arith, computed.m6-agreed)) };
  refused = λ f d c. let e = agrees-103 f c d.sent d.with-103 in ⊎_elim (λ x. omega (arith, e, x)) (λ x. omega (arith, e, x)) d.by_one;
}

agrees-in-none : Turned (fault MeetsSame AgreesInNone)
agrees-in-none = record {
  example = λ m n top a b. record { number = 0; agreed = 0; rows = []; columns = [] };
  done = record { sent = at-m5; zero = refl; some-cells = λ e. omega (arith, e); none = refl };
  refused = λ f d c. d.some-cells (sym (compared-one 8 _ _ _ _ _ _ _ d.zero (meets f c d.sent)).agreed-is ∙ d.none);
}

agrees-refusing : Turned (fault MeetsSame AgreesRefusing)
agrees-refusing = record {
  example = λ m n top a b. record { number = 7; agreed = 1; rows = []; columns = [] };
  done = record { sent = sending 1 1 0 (0 ∷ []) (1 ∷ []) refl; not-zero = λ z. omega arith; not-103 = λ z. omega arith; agrees = λ e. omega arith };
  refused = λ f d c. d.agrees (compared-refused 8 _ _ _ _ _ _ _ d.not-zero d.not-103 (meets f c d.sent)).agreed-is;
}

pub sames-turned : All Turned same_faults
unfolding same_faults
sames-turned = (denies-class, (judges-by-row-sums, (compares-sorted, (orders-from-b, (same-fills-past-rows, (same-fills-past-columns, (ignores-b, (moves-rows-unmatched, (moves-columns-unmatched, (agrees-as-sent, (miscounts-by-one, (agrees-in-none, (agrees-refusing, tt)))))))))))))
