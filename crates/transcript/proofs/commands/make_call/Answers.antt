-- `make_call` meets its contract: each arm answers the command that it is for.
use mathlib.Core.Path.{refl, sym, ap, ◌∙◌}
use Rattle.transcript.specs.Commands.{command_number}
use Rattle.transcript.proofs.CallSteps.{enter-of, strike-of, bounds_of, bounds-cells}
use Rattle.transcript.proofs.commands.make_call.Goals as goal

pub returns-in-Enter : goal.returns-in-Enter
returns-in-Enter c =
    let x = c.into.ensures in
    rw (x.0, x.1, c.in-Enter.is) (c.enter.ensures ∙ sym (enter-of _ _ _ _ _ _ refl))

pub returns-in-Strike : goal.returns-in-Strike
returns-in-Strike c =
    let x = c.into-in-Strike.ensures in
    rw (x.0, x.1, c.in-Strike.is) (c.strike.ensures ∙ sym (strike-of _ _ _ _ _ _ refl))

pub count_pruned-requires : goal.count_pruned-requires
count_pruned-requires c = bounds-cells _ (ap command_number c.in-Count.is) c.requires

pub returns-in-Count : goal.returns-in-Count
returns-in-Count c =
    let s = c.args.start in
    rw c.in-Count.is (c.count_pruned.ensures ∙ sym (bounds_of s.rows s.columns s.top 0 c.args.register.now c.args.cells.now refl))
