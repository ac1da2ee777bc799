-- Document 01's number and count for each answer of prune, and of a call that counts.
--
--   pruning_number r, pruning_count r  ==  the number and the count of values removed
--   counting_count r                   ==  the count; 0 where a question gets a no
use Rattle.std.specs.Prelude.{ℕ, Result, Ok, Err}
use Rattle.refusals.specs.declared.Refusal.{Refusal}
use Rattle.refusals.specs.Numbers.{refusal_number}
use Rattle.bounds.specs.declared.prune.NotPruned.{NotPruned}
use Rattle.bounds.specs.declared.prune.NotPruned.TheVariants.{NoGrid, Refused}

abbrev pub pruning_number : Result ℕ NotPruned → ℕ
pruning_number (Ok count) = 0
pruning_number (Err NoGrid) = 102
pruning_number (Err (Refused x)) = refusal_number x

abbrev pub pruning_count : Result ℕ NotPruned → ℕ
pruning_count (Ok count) = count
pruning_count (Err x) = 0

abbrev pub counting_count : Result ℕ Refusal → ℕ
counting_count (Ok count) = count
counting_count (Err x) = 0
