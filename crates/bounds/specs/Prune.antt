-- What prune answers and writes, on all arguments.
--
--   question8 size low high    ==  is every low at most its high?
--   bounds_questions size top low high  ==  questions 6, 7 and 8 of two bounds
--   prune_questions m n top low high    ==  the questions that prune asks
--   Pruned                     ==  the number, the count of values removed, and the two slices afterwards
--   pruned_to number count low high  ==  such an outcome
--   pruned_yes m n top low high ==  prune's outcome where every question gets a yes
--   pruned m n top low high    ==  prune's outcome
use Rattle.std.specs.Prelude.{List, [], ◌∷◌, true, false, ℕ, zero, suc, ◌*◌, get_or, leb}
use Rattle.permutations.specs.Lists.{numbers, every}
use Rattle.grids.specs.Order.{rank}
use Rattle.grids.specs.Questions.{Question, first_no, question1, question2, question3, question6, question7}
use Rattle.bounds.specs.Kept.{obeyed, kept_low, kept_high, removed}
use Rattle.bounds.specs.Allperm.{allperm}

unfoldable pub question8 : ℕ → List ℕ → List ℕ → Question
question8 size low high = record { number = 8; answer = every (λ k. leb (rank (get_or low k 0)) (rank (get_or high k 0))) (numbers size) }

unfoldable pub bounds_questions : ℕ → ℕ → List ℕ → List ℕ → List Question
bounds_questions size top low high = question6 size (low ∷ high ∷ []) ∷ question7 top (low ∷ high ∷ []) ∷ question8 size low high ∷ []

abbrev pub prune_questions : ℕ → ℕ → ℕ → List ℕ → List ℕ → List Question
prune_questions m n top low high = question1 m ∷ question2 n ∷ question3 top ∷ bounds_questions (m * n) top low high

pub record Pruned : Type 0 where
  pub number : ℕ
  pub count : ℕ
  pub low : List ℕ
  pub high : List ℕ

abbrev pub pruned_to : ℕ → ℕ → List ℕ → List ℕ → Pruned
pruned_to number count low high = record { number = number; count = count; low = low; high = high }

unfoldable pub pruned_yes : ℕ → ℕ → ℕ → List ℕ → List ℕ → Pruned
pruned_yes m n top low high =
    elim (obeyed (allperm m n) (m * n) top low high) [
      | true ↦ record {
        number = 0;
        count = removed (allperm m n) (m * n) top low high;
        low = kept_low (allperm m n) (m * n) top low high;
        high = kept_high (allperm m n) (m * n) top low high;
      }
      | false ↦ record { number = 102; count = 0; low = low; high = high }
    ]

unfoldable pub pruned : ℕ → ℕ → ℕ → List ℕ → List ℕ → Pruned
pruned m n top low high =
    elim (first_no (prune_questions m n top low high)) [
      | zero ↦ pruned_yes m n top low high
      | suc k ↦ record { number = suc k; count = 0; low = low; high = high }
    ]
