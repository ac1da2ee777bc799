-- `images` meets its contract. The loop's invariant: only rows that are reached are marked.
use Rattle.two_values.specs.Symmetries.{Images}
use Rattle.two_values.proofs.symmetries.images.Given as goal

abbrev pub invariant-loop-r : goal.invariant-loop-r
invariant-loop-r l = Images l.m l.map l.initial.out l.out
