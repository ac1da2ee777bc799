-- Faulty programs for represent do not meet its contract.
--
--   turning             ==  two rows with the same values, of which the second is to come first
--   Computed, computed  ==  the small cases that show it
--   at-m1, at-turning, at-m5  ==  calls of a grid within the limits
--   writes-least        ==  an answer as demand 2 says it writes the least grid
--   handed-back         ==  it does not hand back a grid that is not least
--   fits, meets         ==  what a program answers that meets demand 2, and one that meets the contract
--   The other names are those of the faults.
use mathlib.Core.Path.{◌≡◌, refl, sym, ap, ◌∙◌}
use mathlib.Core.List.{List, [], ◌∷◌, flat_map}
use mathlib.Core.Bool.{true, false, true≢false}
use Prim.Native.Nat.{ℕ}
use native.Mathlib.Omega.{arith}
use Rattle.permutations.specs.Lists.{tabulate, numbers, select, every, some, occurrences, All}
use Rattle.permutations.specs.Permutations.{identity, is_permutation, words, permutations}
use Rattle.grids.specs.Order.{rank, leq, equal}
use Rattle.grids.specs.Grids.{capped, grid_of, row, column, permuted_row, arrangement}
use Rattle.grids.specs.Least.{arrangements, lesser, least_of, least}
use Rattle.grids.specs.Questions.{first_no, in_range, question1, question2, question3, question6, question7}
use Rattle.grids.proofs.LeastLaws.{least-unique, least-is}
use Rattle.canonical.specs.Represent.{represent_questions, Represented}
use Rattle.canonical.specs.Programs.{RepresentProgram, MeetsRepresent}
use Rattle.canonical.specs.Demand2.{AnswersLeast, RepresentLeast}
use Rattle.canonical.proofs.CallLaws.{represented-number, represented-refused, produces-past}
use Rattle.turned_down.specs.RepresentFaults.{Sent, on, Fitting, HandsBack, OneForTwo, RefusesPlan, sorted_both_ways, SortsByTurns, equal_rows, first_row_first, FollowsFirst, OrdersBackwards, FillsPastRows, FillsPastColumns, IgnoresLength, IgnoresCells, WritesRefusing, MovesRowsRefusing, MovesColumnsRefusing, represent_faults}
use Rattle.turned_down.specs.Faults.{fault, Turned}
use Rattle.turned_down.proofs.Differences.{unequal}
use Rattle.turned_down.proofs.Plans.{m1, m5, m5-least, m5-back, sending, fitting}

abbrev turning : List ℕ
turning = 1 ∷ 2 ∷ 0 ∷ 0 ∷ 1 ∷ 2 ∷ []

record Computed : Type 0 where
  m1-asked : first_no (represent_questions 2 3 3 m1 m1) ≡ 0
  m1-not-least : equal (least 2 3 m1) m1 ≡ false
  m1-sorted : sorted_both_ways 2 3 m1 ≡ true
  zero-asked : first_no (represent_questions 1 1 1 (0 ∷ []) (0 ∷ [])) ≡ 0
  one-asked : first_no (represent_questions 1 1 1 (1 ∷ []) (0 ∷ [])) ≡ 0
  two-leasts : equal (least 1 1 (0 ∷ [])) (least 1 1 (1 ∷ [])) ≡ false
  turning-asked : first_no (represent_questions 2 3 2 turning turning) ≡ 0
  turning-equal : equal_rows 3 turning ≡ true
  turning-first : first_row_first 3 turning turning ≡ true
  turning-second : first_row_first 3 turning (least 2 3 turning) ≡ false
  m5-asked : first_no (represent_questions 1 3 3 m5 m5) ≡ 0
  m5-backwards : arrangement 1 3 (0 ∷ []) m5-back m5-least ≡ m5
  m5-forwards : equal (arrangement 1 3 (0 ∷ []) m5-back m5) m5-least ≡ false
  length-asked : first_no (represent_questions 1 1 0 [] (0 ∷ [])) ≡ 6
  cells-asked : first_no (represent_questions 1 1 0 (1 ∷ []) (0 ∷ [])) ≡ 7
  some-rows : equal [] (identity 8) ≡ false
  some-columns : equal [] (identity 16) ≡ false

computed : Computed
unfolding tabulate numbers select every some occurrences flat_map identity is_permutation words permutations rank leq equal capped grid_of row column permuted_row arrangement arrangements lesser least_of least first_no in_range question1 question2 question3 question6 question7 represent_questions sorted_both_ways equal_rows first_row_first
computed = record {
  m1-asked = refl;
  m1-not-least = refl;
  m1-sorted = refl;
  zero-asked = refl;
  one-asked = refl;
  two-leasts = refl;
  turning-asked = refl;
  turning-equal = refl;
  turning-first = refl;
  turning-second = refl;
  m5-asked = refl;
  m5-backwards = refl;
  m5-forwards = refl;
  length-asked = refl;
  cells-asked = refl;
  some-rows = refl;
  some-columns = refl;
}

abbrev at-m1 : Fitting 8
at-m1 = fitting 8 2 3 3 m1 m1 refl (omega arith) computed.m1-asked

abbrev at-turning : Fitting 8
at-turning = fitting 8 2 3 2 turning turning refl (omega arith) computed.turning-asked

abbrev at-m5 : Fitting 8
at-m5 = fitting 8 1 3 3 m5 m5 refl (omega arith) computed.m5-asked

-- ---- grids within the limits

module _ (most : ℕ) (f : RepresentProgram) where
  pub writes-least : (s : Fitting most) → AnswersLeast most s.sent.rows s.sent.columns s.sent.first (on f s.sent) →
      (on f s.sent).out ≡ least s.sent.rows s.sent.columns s.sent.first
  writes-least s a = least-unique _ _ _ _ _ a.is-least (least-is _ _ _ s.grid.sized)

  pub handed-back : (d : HandsBack most f) →
      AnswersLeast most d.fitting.sent.rows d.fitting.sent.columns d.fitting.sent.first (on f d.fitting.sent) → ⊥
  handed-back d a = d.not_least (sym (writes-least d.fitting a) ∙ d.back)

fits : (f : RepresentProgram) → RepresentLeast f → (s : Fitting 8) → AnswersLeast 8 s.sent.rows s.sent.columns s.sent.first (on f s.sent)
unfolding RepresentLeast
fits f c s = c _ _ _ _ _ s.limits s.grid s.sent.lent.second s.out-sized

hands-back : Turned (fault RepresentLeast (HandsBack 8))
hands-back = record {
  example = λ m n top g out. record { number = 0; rows = []; columns = []; out = g };
  done = record { fitting = at-m1; not_least = unequal _ m1 computed.m1-not-least; back = refl };
  refused = λ f d c. handed-back 8 f d (fits f c d.fitting);
}

one-for-two : Turned (fault RepresentLeast OneForTwo)
one-for-two = record {
  example = λ m n top g out. record { number = 0; rows = []; columns = []; out = [] };
  done = record {
    fitting = fitting 8 1 1 1 (0 ∷ []) (0 ∷ []) refl (omega arith) computed.zero-asked;
    other = fitting 8 1 1 1 (1 ∷ []) (0 ∷ []) refl (omega arith) computed.one-asked;
    two-leasts = unequal _ _ computed.two-leasts;
    one = refl;
  };
  refused = λ f d c.
      d.two-leasts (sym (writes-least 8 f d.fitting (fits f c d.fitting)) ∙ d.one ∙ writes-least 8 f d.other (fits f c d.other));
}

refuses-plan : Turned (fault RepresentLeast RefusesPlan)
refuses-plan = record {
  example = λ m n top g out. record { number = 1; rows = []; columns = []; out = out };
  done = record { fitting = at-m1; refuses = λ z. omega arith };
  refused = λ f d c. d.refuses (fits f c d.fitting).number_is;
}

sorts-by-turns : Turned (fault RepresentLeast SortsByTurns)
sorts-by-turns = record {
  example = λ m n top g out. record { number = 0; rows = []; columns = []; out = g };
  done = record { back = record { fitting = at-m1; not_least = unequal _ m1 computed.m1-not-least; back = refl }; sorted = computed.m1-sorted };
  refused = λ f d c. handed-back 8 f d.back (fits f c d.back.fitting);
}

follows-first : Turned (fault RepresentLeast FollowsFirst)
follows-first = record {
  example = λ m n top g out. record { number = 0; rows = []; columns = []; out = g };
  done = record {
    fitting = at-turning;
    two-rows = refl;
    equally-good = computed.turning-equal;
    second-first = computed.turning-second;
    follows = computed.turning-first;
  };
  refused = λ f d c.
      true≢false
      (sym d.follows
      ∙ ap (first_row_first d.fitting.sent.columns d.fitting.sent.first) (writes-least 8 f d.fitting (fits f c d.fitting))
      ∙ d.second-first);
}

orders-backwards : Turned (fault RepresentLeast OrdersBackwards)
orders-backwards = record {
  example = λ m n top g out. record { number = 0; rows = 0 ∷ []; columns = m5-back; out = m5-least };
  done = record { fitting = at-m5; backwards = computed.m5-backwards; not-forwards = unequal _ _ computed.m5-forwards };
  refused = λ f d c. d.not-forwards (fits f c d.fitting).produced.gives;
}

fills-past-rows : Turned (fault RepresentLeast FillsPastRows)
fills-past-rows = record {
  example = λ m n top g out. record { number = 0; rows = []; columns = []; out = g };
  done = record { fitting = at-m5; fills = record { at = 7; past = omega arith; within = omega arith; other = λ e. omega arith } };
  refused = λ f d c. d.fills.other ((produces-past 8 _ _ _ _ _ _ (fits f c d.fitting).produced).2 d.fills.at d.fills.within d.fills.past);
}

fills-past-columns : Turned (fault RepresentLeast FillsPastColumns)
fills-past-columns = record {
  example = λ m n top g out. record { number = 0; rows = []; columns = []; out = g };
  done = record { fitting = at-m5; fills = record { at = 15; past = omega arith; within = omega arith; other = λ e. omega arith } };
  refused = λ f d c. d.fills.other ((produces-past 8 _ _ _ _ _ _ (fits f c d.fitting).produced).3 d.fills.at d.fills.within d.fills.past);
}

-- ---- the questions, and refusals

meets : (f : RepresentProgram) → MeetsRepresent f → (s : Sent) → Represented s.rows s.columns s.top s.first s.second (on f s)
unfolding MeetsRepresent
meets f c s = c _ _ _ _ _ s.lent

ignores-length : Turned (fault MeetsRepresent IgnoresLength)
ignores-length = record {
  example = λ m n top g out. record { number = 0; rows = []; columns = []; out = out };
  done = record { sent = sending 1 1 0 [] (0 ∷ []) refl; asked = computed.length-asked; out-sized = refl; unrefused = λ z. omega arith };
  refused = λ f d c. d.unrefused (represented-number 8 _ _ _ _ _ _ (meets f c d.sent) ∙ d.asked);
}

ignores-cells : Turned (fault MeetsRepresent IgnoresCells)
ignores-cells = record {
  example = λ m n top g out. record { number = 0; rows = []; columns = []; out = out };
  done = record { sent = sending 1 1 0 (1 ∷ []) (0 ∷ []) refl; asked = computed.cells-asked; unrefused = λ z. omega arith };
  refused = λ f d c. d.unrefused (represented-number 8 _ _ _ _ _ _ (meets f c d.sent) ∙ d.asked);
}

writes-refusing : Turned (fault MeetsRepresent WritesRefusing)
unfolding equal
writes-refusing = record {
  example = λ m n top g out. record { number = 1; rows = []; columns = []; out = [] };
  done = record { sent = sending 0 0 0 [] (0 ∷ []) refl; refuses = λ z. omega arith; writes = unequal [] (0 ∷ []) refl };
  refused = λ f d c. d.writes (represented-refused 8 _ _ _ _ _ _ d.refuses (meets f c d.sent)).unchanged;
}

moves-rows-refusing : Turned (fault MeetsRepresent MovesRowsRefusing)
moves-rows-refusing = record {
  example = λ m n top g out. record { number = 1; rows = []; columns = []; out = out };
  done = record { sent = sending 0 0 0 [] (0 ∷ []) refl; refuses = λ z. omega arith; moves = unequal [] (identity 8) computed.some-rows };
  refused = λ f d c. d.moves (represented-refused 8 _ _ _ _ _ _ d.refuses (meets f c d.sent)).starting.row-identity;
}

moves-columns-refusing : Turned (fault MeetsRepresent MovesColumnsRefusing)
moves-columns-refusing = record {
  example = λ m n top g out. record { number = 1; rows = []; columns = []; out = out };
  done = record { sent = sending 0 0 0 [] (0 ∷ []) refl; refuses = λ z. omega arith; moves = unequal [] (identity 16) computed.some-columns };
  refused = λ f d c. d.moves (represented-refused 8 _ _ _ _ _ _ d.refuses (meets f c d.sent)).starting.column-identity;
}

pub represents-turned : All Turned represent_faults
unfolding represent_faults
represents-turned = (hands-back, (one-for-two, (refuses-plan, (sorts-by-turns, (follows-first, (orders-backwards, (fills-past-rows, (fills-past-columns, (ignores-length, (ignores-cells, (writes-refusing, (moves-rows-refusing, (moves-columns-refusing, tt)))))))))))))
