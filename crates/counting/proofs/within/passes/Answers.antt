-- `passes` meets its contract.
use native.Mathlib.Omega.{arith}
use Rattle.counting.proofs.PassLaws.{passes-is, ranks-byte}
use Rattle.counting.proofs.within.passes.Goals as goal

pub returns : goal.returns
returns c =
    let s = c.stated in
    let r = c.rank in
    (passes-is _ _ _ _ s.result r.result _ s.ensures r.ensures c.above.ensures, ranks-byte _ _ s.result r.result s.ensures r.ensures (omega (arith, r.type_inv)))
