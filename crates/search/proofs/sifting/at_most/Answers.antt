-- `at_most` meets its contract.
use Rattle.std.proofs.Common.{ℕ, ◌+◌, ◌-◌, ◌*◌, ◌/◌, ap, ◌∙◌}
use lib.Bits.{bit_and, and_le_r}
use Rattle.search.specs.RowSets.{lane}
use Rattle.search.proofs.LaneLaws.{ones, bytes_8, levels-le, compared, compared-lane, word_of}
use Rattle.search.proofs.sifting.at_most.Goals as goal

pub overflow_sub-result : goal.overflow_sub-result
overflow_sub-result c = levels-le c.args.word c.args.v c.requires.0.bytes c.requires.0.small

pub returns : goal.returns
unfolding ones compared
returns c = record {
  lanes = (λ i l. ap (λ (x : ℕ). lane i (bit_and (x / 128) 72340172838076673)) (word_of c.args.v c.args.word)
      ∙ compared-lane c.args.v 8 c.args.word i c.requires.1 (bytes_8 c.args.word c.requires.0.bytes) c.requires.0.small l);
  small = and_le_r ((9259542123273814144 + 72340172838076673 * c.args.v - c.args.word) / 128) 72340172838076673;
}
