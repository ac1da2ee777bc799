-- `write_blank` meets its contract.
use Rattle.std.proofs.Common.{◌-◌, arith, rules}
use Rattle.layout.specs.Layout.{line_length}
use Rattle.lines.proofs.LineLaws.{blank-written}
use Rattle.lines.proofs.entries.write_blank.Goals as goal

pub overflow_sub-end : goal.overflow_sub-end
unfolding line_length
overflow_sub-end c = omega arith

pub bounds-part-end : goal.bounds-part-end
unfolding line_length
bounds-part-end c = omega arith

pub returns : goal.returns
unfolding line_length
returns c = blank-written c.args.part.now c.args.size (c.line_length-end.result - 1) (omega arith) (omega arith) (c.fill.ensures.after (λ y e. search rules))
