-- `run` meets its contract: the register is opened, the command lines are answered, and the register is copied behind what was printed for them.
use Rattle.transcript.proofs.RunSteps.{ready-runs, ran-room, ran}
use Rattle.transcript.proofs.run.run.Goals as goal

pub answer_lines-printed-requires : goal.answer_lines-printed-requires
answer_lines-printed-requires c = ready-runs c.requires c.open_register.ensures

pub slice_bounds-copy_from_slice-end : goal.slice_bounds-copy_from_slice-end
slice_bounds-copy_from_slice-end c = ran-room c.requires.passes c.requires.room c.answer_lines-printed.ensures

pub returns : goal.returns
returns c = ran c.requires.passes c.requires.room c.answer_lines-printed.ensures c.copy_from_slice.new.self c.copy_from_slice.ensures.after
