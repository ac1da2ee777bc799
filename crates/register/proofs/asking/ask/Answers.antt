-- Question 5 gets a no, or what represent answers and then question 15 is the first no.
use Rattle.std.proofs.Common.{sym, ◌∙◌, arith}
use lib.Seq.{length-take-le}
use Rattle.register.proofs.AskSteps.{laid-head, head-size, head-valid, head-capacity, asked-5, asks-no, represent-no, client-number, written-least, least-part}
use Rattle.register.proofs.ClientSteps.{client-is}
use Rattle.register.proofs.asking.ask.Goals as goal

pub returns-then-not-is_laid_out : goal.returns-then-not-is_laid_out
returns-then-not-is_laid_out g c =
    let a = c.args in
    record { number_is = asked-5 g.met.C.Caller.laws a.register.now a.client a.grid.now (sym c.if-not-is_laid_out.ensures); kept = c.requires; ready = tt }

pub read_head-head-requires : goal.read_head-head-requires
read_head-head-requires g c = laid-head _ (sym c.if-not-is_laid_out.ensures)

pub overflow_mul-size : goal.overflow_mul-size
overflow_mul-size g c = omega (arith, head-size (sym c.if-not-is_laid_out.ensures) c.read_head-head.ensures)

pub slice_bounds-represent-end : goal.slice_bounds-represent-end
slice_bounds-represent-end g c = omega (arith, head-size (sym c.if-not-is_laid_out.ensures) c.read_head-head.ensures, c.requires)

pub slice_bounds-represent-end-2 : goal.slice_bounds-represent-end-2
slice_bounds-represent-end-2 g c = sym (length-take-le _ _ (omega (arith, head-size (sym c.if-not-is_laid_out.ensures) c.read_head-head.ensures, c.requires)))

pub returns-in_err-represent : goal.returns-in_err-represent
returns-in_err-represent g c =
    let a = c.args in
    let laid = sym c.if-not-is_laid_out.ensures in
    let st = c.read_head-head.ensures in
    let part = least-part laid st a.least.now c.requires c.represent.new.out c.represent.auto.out in
    asks-no _ _ c.from_residual.ensures part.kept
    (represent-no g.met.C.Caller.laws a.register.now a.client a.grid.now laid st _ _ part.sized _ c.represent.ensures.answer c.in_err-represent.was)

pub returns-in_err-ask_client : goal.returns-in_err-ask_client
returns-in_err-ask_client g c =
    let a = c.args in
    let laid = sym c.if-not-is_laid_out.ensures in
    let st = c.read_head-head.ensures in
    let part = least-part laid st a.least.now c.requires c.represent.new.out c.represent.auto.out in
    asks-no _ _ c.from_residual-in_err-ask_client.ensures part.kept
    (client-number g.met.C.Caller.laws a.register.now a.client a.grid.now laid st _ _ part.sized _ c.represent.ensures.answer c.in_ok-represent.was c.in_err-ask_client.ensures)

pub returns : goal.returns
returns g c =
    let a = c.args in
    let laid = sym c.if-not-is_laid_out.ensures in
    let st = c.read_head-head.ensures in
    let part = least-part laid st a.least.now c.requires c.represent.new.out c.represent.auto.out in
    record {
      number_is = client-number g.met.C.Caller.laws a.register.now a.client a.grid.now laid st _ _ part.sized _ c.represent.ensures.answer c.in_ok-represent.was c.in_ok-ask_client.ensures;
      kept = part.kept;
      ready = record {
        valid = head-valid laid st;
        client-is = client-is _ c.in_ok-ask_client.ensures;
        capacity-is = head-capacity laid st;
        least-is = part.front ∙ written-least g.met.C.Caller.laws a.register.now a.client a.grid.now laid st _ _ part.sized _ c.represent.ensures.answer c.in_ok-represent.was;
      };
    }
