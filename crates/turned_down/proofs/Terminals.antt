-- Faulty programs for a terminal's represent and same do not meet their contracts, nor demand 2.
--
--   at-six, at_five, at-nine  ==  calls of represent and same of so many rows
--   eight, five-eight   ==  a row order of 8 positions; 5 positions are not 8
--   Computed, computed  ==  the small cases that show it
--   fits, meets, number_is, many-14, only-many  ==  what a program answers that meets demand 2 at a terminal, or the contract of represent
--   same_meets, same-number-is, same-many-14, same-refuses, same-only-many  ==  and one that meets that of same
--   The other names are those of the faults.
use mathlib.Core.Path.{◌≡◌, refl, sym, ap, ◌∙◌}
use mathlib.Core.List.{List, [], ◌∷◌, flat_map}
use mathlib.Core.Bool.{false}
use Prim.Native.Nat.{ℕ, ◌≤◌}
use native.Mathlib.Omega.{arith}
use lib.ListN.{length, replicate}
use Rattle.permutations.specs.Lists.{tabulate, numbers, select, every, some, occurrences, All}
use Rattle.permutations.specs.Permutations.{identity, is_permutation, words, permutations}
use Rattle.permutations.proofs.PaddedLaws.{length-identity}
use Rattle.grids.specs.Order.{rank, leq, equal}
use Rattle.grids.specs.Grids.{capped, grid_of, arrangement}
use Rattle.grids.specs.Least.{arrangements, lesser, least_of, least}
use Rattle.grids.specs.Questions.{first_no, in_range, question1, question2, question3, question6, question7}
use Rattle.canonical.specs.Represent.{represent_questions, terminal_represent_questions, TerminalRepresented}
use Rattle.canonical.specs.Same.{SameRefused, terminal_same_questions, TerminalCompared, terminal_same_number}
use Rattle.canonical.specs.Programs.{RepresentProgram, SameProgram, MeetsTerminalRepresent, MeetsTerminalSame, RepresentAlike, SameAlike}
use Rattle.canonical.specs.Demand2.{AnswersLeast, TerminalRepresentLeast}
use Rattle.canonical.proofs.CallLaws.{represented-number, represented-done, represented-refused, compared-number, compared-one, compared-starts, compared-refused, produces-past}
use Rattle.canonical.proofs.TerminalCalls.{terminal-represent-many, terminal-represent-14, terminal-same-many, terminal-same-14}
use Rattle.turned_down.specs.RepresentFaults.{Sent, on, Fitting, HandsBack}
use Rattle.turned_down.specs.TerminalFaults.{HandsBackMany, representing, comparing, AsksColumnsFirst, RefusesFewRows, Refuses9Rows, Never14, represent_rows, compared_rows, Keeps8Positions, Keeps8Refusing, AgreesWith14, BothSets, RepresentsUnlike, ComparesUnlike, terminal_faults}
use Rattle.turned_down.specs.Faults.{fault, Turned}
use Rattle.turned_down.proofs.Differences.{unequal}
use Rattle.turned_down.proofs.Plans.{m5, three, sending, fitting}
use Rattle.turned_down.proofs.Represent.{handed-back}

-- calls of 6 rows and too many columns, of 5 rows, and of 9

abbrev at-six : Sent
at-six = sending 6 17 0 [] [] refl

abbrev at_five : Sent
at_five = sending 5 1 0 (replicate 5 0) (replicate 5 0) refl

abbrev at-nine : Sent
at-nine = sending 9 0 0 [] [] refl

-- a row order of 8 positions, and that 5 positions are not 8
abbrev eight : List ℕ
eight = 0 ∷ 1 ∷ 2 ∷ 3 ∷ 4 ∷ 5 ∷ 6 ∷ 7 ∷ []

five-eight : (p : List ℕ) → p ≡ identity 5 → length p ≡ 8 → ⊥
five-eight p e h = omega (arith, ap length e, length-identity 5, h)

record Computed : Type 0 where
  m5-asked : first_no (represent_questions 1 3 3 m5 m5) ≡ 0
  m5-moved : equal (least 1 3 m5) m5 ≡ false
  three-asked : first_no (represent_questions 3 1 1 three three) ≡ 0
  three-moved : equal (least 3 1 three) three ≡ false

computed : Computed
unfolding tabulate numbers select every some occurrences flat_map is_permutation words permutations rank leq equal capped grid_of arrangement arrangements lesser least_of least first_no in_range question1 question2 question3 question6 question7 represent_questions
computed = record {
  m5-asked = refl;
  m5-moved = refl;
  three-asked = refl;
  three-moved = refl;
}

-- ---- represent

fits : (f : RepresentProgram) → TerminalRepresentLeast f → (s : Fitting 5) → AnswersLeast 5 s.sent.rows s.sent.columns s.sent.first (on f s.sent)
unfolding TerminalRepresentLeast
fits f c s = c _ _ _ _ _ s.few s.limits s.grid s.sent.lent.second s.out-sized

terminal-hands-back : Turned (fault TerminalRepresentLeast (HandsBack 5))
terminal-hands-back = record {
  example = λ m n top g out. record { number = 0; rows = []; columns = []; out = g };
  done = record { fitting = fitting 5 1 3 3 m5 m5 refl (omega arith) computed.m5-asked; not_least = unequal _ m5 computed.m5-moved; back = refl };
  refused = λ f d c. handed-back 5 f d (fits f c d.fitting);
}

hands-back-many : Turned (fault TerminalRepresentLeast HandsBackMany)
hands-back-many = record {
  example = λ m n top g out. record { number = 0; rows = []; columns = []; out = g };
  done = record {
    back = record { fitting = fitting 5 3 1 1 three three refl (omega arith) computed.three-asked; not_least = unequal _ three computed.three-moved; back = refl };
    many = omega arith;
  };
  refused = λ f d c. handed-back 5 f d.back (fits f c d.back.fitting);
}

-- what a program answers that meets the contract of a terminal's represent
module _ (f : RepresentProgram) (c : MeetsTerminalRepresent f) (s : Sent) where
  meets : TerminalRepresented s.rows s.columns s.top s.first s.second (on f s)
  unfolding MeetsTerminalRepresent
  meets = c _ _ _ _ _ s.lent

  number_is : (on f s).number ≡ first_no (on terminal_represent_questions s)
  number_is = represented-number 5 _ _ _ _ _ _ meets

  many-14 : (6 ≤ s.rows) × (s.rows ≤ 8) → (on f s).number ≡ 14
  many-14 h = number_is ∙ terminal-represent-many _ _ _ _ _ h.0 h.1

  only-many : (on f s).number ≡ 14 → (6 ≤ s.rows) × (s.rows ≤ 8)
  only-many e = terminal-represent-14 _ _ _ _ _ (sym number_is ∙ e)

asks-columns-first : Turned (fault MeetsTerminalRepresent (λ f. AsksColumnsFirst (representing f)))
asks-columns-first = record {
  example = λ m n top g out. record { number = 2; rows = []; columns = []; out = out };
  done = record { sent = at-six; many = (omega arith, omega arith); wide = omega arith; columns-first = refl };
  refused = λ f d c. omega (arith, many-14 f c d.sent d.many, d.columns-first);
}

refuses-few-rows : Turned (fault MeetsTerminalRepresent (λ f. RefusesFewRows (representing f)))
refuses-few-rows = record {
  example = λ m n top g out. record { number = 14; rows = []; columns = []; out = out };
  done = record { sent = at_five; few = omega arith; refuses = refl };
  refused = λ f d c. let h = only-many f c d.sent d.refuses in omega (arith, h, d.few);
}

refuses-9-rows : Turned (fault MeetsTerminalRepresent (λ f. Refuses9Rows (representing f)))
refuses-9-rows = record {
  example = λ m n top g out. record { number = 14; rows = []; columns = []; out = out };
  done = record { sent = at-nine; above = omega arith; refuses = refl };
  refused = λ f d c. let h = only-many f c d.sent d.refuses in omega (arith, h, d.above);
}

never-14 : Turned (fault MeetsTerminalRepresent (λ f. Never14 (representing f)))
never-14 = record {
  example = λ m n top g out. record { number = 0; rows = []; columns = []; out = out };
  done = record { sent = at-six; many = (omega arith, omega arith); unrefused = λ z. omega arith };
  refused = λ f d c. d.unrefused (many-14 f c d.sent d.many);
}

keeps-8-positions : Turned (fault MeetsTerminalRepresent (λ f. Keeps8Positions (representing f) (represent_rows f)))
keeps-8-positions = record {
  example = λ m n top g out. record { number = 0; rows = eight; columns = []; out = out };
  done = record { sent = at_five; zero = refl; eight = refl };
  refused = λ f d c.
      let m = meets f c d.sent in
      let p = (represented-done 5 _ _ _ _ _ _ (sym (number_is f c d.sent) ∙ d.zero) m).produced in
      omega (arith, (produces-past 5 _ _ _ _ _ _ p).0, d.eight);
}

keeps-8-refusing : Turned (fault MeetsTerminalRepresent (λ f. Keeps8Refusing (representing f) (represent_rows f)))
keeps-8-refusing = record {
  example = λ m n top g out. record { number = 1; rows = eight; columns = []; out = out };
  done = record { sent = at-nine; not-zero = λ z. omega arith; eight = refl };
  refused = λ f d c. five-eight _ (represented-refused 5 _ _ _ _ _ _ d.not-zero (meets f c d.sent)).starting.row-identity d.eight;
}

-- ---- same

-- what a program answers that meets the contract of a terminal's same
module _ (f : SameProgram) (c : MeetsTerminalSame f) (s : Sent) where
  same_meets : TerminalCompared s.rows s.columns s.top s.first s.second (on f s)
  unfolding MeetsTerminalSame
  same_meets = c _ _ _ _ _ s.lent

  same-number-is : (on f s).number ≡ on terminal_same_number s
  unfolding terminal_same_number
  same-number-is = (compared-number 5 _ _ _ _ _ _ _ same_meets).0

  same-many-14 : (6 ≤ s.rows) × (s.rows ≤ 8) → (on f s).number ≡ 14
  same-many-14 h = same-number-is ∙ (terminal-same-many _ _ _ _ _ h.0 h.1).0

  same-refuses : (on f s).number ≡ 14 → SameRefused 5 (first_no (on terminal_same_questions s)) (on f s)
  same-refuses e = compared-refused 5 _ _ _ _ _ _ _ (λ z. omega (arith, e, z)) (λ z. omega (arith, e, z)) same_meets

  same-only-many : (on f s).number ≡ 14 → (6 ≤ s.rows) × (s.rows ≤ 8)
  same-only-many e = terminal-same-14 _ _ _ _ _ (sym (same-refuses e).number_is ∙ e)

same-asks-columns-first : Turned (fault MeetsTerminalSame (λ f. AsksColumnsFirst (comparing f)))
same-asks-columns-first = record {
  example = λ m n top a b. record { number = 2; agreed = 0; rows = []; columns = [] };
  done = record { sent = at-six; many = (omega arith, omega arith); wide = omega arith; columns-first = refl };
  refused = λ f d c. omega (arith, same-many-14 f c d.sent d.many, d.columns-first);
}

same-refuses-few-rows : Turned (fault MeetsTerminalSame (λ f. RefusesFewRows (comparing f)))
same-refuses-few-rows = record {
  example = λ m n top a b. record { number = 14; agreed = 0; rows = []; columns = [] };
  done = record { sent = at_five; few = omega arith; refuses = refl };
  refused = λ f d c. let h = same-only-many f c d.sent d.refuses in omega (arith, h, d.few);
}

same-refuses-9-rows : Turned (fault MeetsTerminalSame (λ f. Refuses9Rows (comparing f)))
same-refuses-9-rows = record {
  example = λ m n top a b. record { number = 14; agreed = 0; rows = []; columns = [] };
  done = record { sent = at-nine; above = omega arith; refuses = refl };
  refused = λ f d c. let h = same-only-many f c d.sent d.refuses in omega (arith, h, d.above);
}

same-never-14 : Turned (fault MeetsTerminalSame (λ f. Never14 (comparing f)))
same-never-14 = record {
  example = λ m n top a b. record { number = 0; agreed = 0; rows = []; columns = [] };
  done = record { sent = at-six; many = (omega arith, omega arith); unrefused = λ z. omega arith };
  refused = λ f d c. d.unrefused (same-many-14 f c d.sent d.many);
}

same-keeps-8-positions : Turned (fault MeetsTerminalSame (λ f. Keeps8Positions (comparing f) (compared_rows f)))
same-keeps-8-positions = record {
  example = λ m n top a b. record { number = 0; agreed = 5; rows = eight; columns = [] };
  done = record { sent = at_five; zero = refl; eight = refl };
  refused = λ f d c. omega (arith, (produces-past 5 _ _ _ _ _ _ (compared-one 5 _ _ _ _ _ _ _ d.zero (same_meets f c d.sent)).produced).0, d.eight);
}

same-keeps-8-refusing : Turned (fault MeetsTerminalSame (λ f. Keeps8Refusing (comparing f) (compared_rows f)))
same-keeps-8-refusing = record {
  example = λ m n top a b. record { number = 1; agreed = 0; rows = eight; columns = [] };
  done = record { sent = at-nine; not-zero = λ z. omega arith; eight = refl };
  refused = λ f d c. five-eight _ (compared-starts 5 _ _ _ _ _ _ _ d.not-zero (same_meets f c d.sent)).row-identity d.eight;
}

agrees-with-14 : Turned (fault MeetsTerminalSame AgreesWith14)
agrees-with-14 = record {
  example = λ m n top a b. record { number = 14; agreed = 1; rows = []; columns = [] };
  done = record { sent = at-six; with-14 = refl; agrees = λ e. omega arith };
  refused = λ f d c. d.agrees (same-refuses f c d.sent d.with-14).agreed-is;
}

-- ---- both sets

represents-unlike : Turned (fault (λ (p : BothSets RepresentProgram). RepresentAlike p.system p.terminal) RepresentsUnlike)
unfolding RepresentAlike equal
represents-unlike = record {
  example = record {
    system = λ m n top g out. record { number = 0; rows = []; columns = []; out = [] };
    terminal = λ m n top g out. record { number = 0; rows = []; columns = []; out = 0 ∷ [] };
  };
  done = record { sent = at_five; few = omega arith; one_number = refl; two-grids = unequal (0 ∷ []) [] refl };
  refused = λ p d c. d.two-grids (c _ _ _ _ _ d.sent.lent d.few).1;
}

compares-unlike : Turned (fault (λ (p : BothSets SameProgram). SameAlike p.system p.terminal) ComparesUnlike)
unfolding SameAlike
compares-unlike = record {
  example = record {
    system = λ m n top a b. record { number = 0; agreed = 0; rows = []; columns = [] };
    terminal = λ m n top a b. record { number = 0; agreed = 1; rows = []; columns = [] };
  };
  done = record { sent = at_five; few = omega arith; one_number = refl; unlike = λ e. omega arith };
  refused = λ p d c. d.unlike (c _ _ _ _ _ d.sent.lent d.few).1;
}

pub terminals-turned : All Turned terminal_faults
unfolding terminal_faults
terminals-turned = (terminal-hands-back, (hands-back-many, (asks-columns-first, (refuses-few-rows, (refuses-9-rows, (never-14, (same-asks-columns-first, (same-refuses-few-rows, (same-refuses-9-rows, (same-never-14, (keeps-8-positions, (keeps-8-refusing, (same-keeps-8-positions, (same-keeps-8-refusing, (agrees-with-14, (represents-unlike, (compares-unlike, tt)))))))))))))))))
