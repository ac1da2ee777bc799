-- A refusal has the number of the first no; past the questions the two least arrangements decide, and where these are equal, a's orders
-- followed by the inverses of b's carry a to b.
use Rattle.std.proofs.Common.{refl, sym, ◌∙◌, arith}
use Rattle.refusals.proofs.NumberLaws.{no-some}
use Rattle.canonical.proofs.CallLaws.{same-pass}
use Rattle.canonical.proofs.CallSteps.{same-refused-by, agreed-small, same_differs, same_gives, narrowed-produces, followed_of}
use Rattle.canonical.proofs.same.same.Goals as goal
use Rattle.canonical.proofs.same.same.Goals.{then-is_eq, else-is_eq}

pub returns-in_err-ask_same-clause-answer : goal.returns-in_err-ask_same-clause-answer
returns-in_err-ask_same-clause-answer g c =
    let e = c.in_err-ask_same in
    same-refused-by _ _ _ _ _ _ _ _ _ c.from_residual.ensures e.ensures.asked (λ z. no-some e.was (e.ensures.asked ∙ z))

pub least_orders-p-requires : goal.least_orders-p-requires
least_orders-p-requires g c =
    let q = c.in_ok-ask_same.ensures.passed refl in
    let f = (same-pass _ _ _ _ _).0 q.1 in
    (q.0, f.0.column-limits.1, f.1.sized)

pub least_orders-q-requires : goal.least_orders-q-requires
least_orders-q-requires g c =
    let q = c.in_ok-ask_same.ensures.passed refl in
    let f = (same-pass _ _ _ _ _).0 q.1 in
    (q.0, f.0.column-limits.1, f.2.sized)

pub overflow_cast-agreed : goal.overflow_cast-agreed
overflow_cast-agreed g c =
    let f = (same-pass _ _ _ _ _).0 (c.in_ok-ask_same.ensures.passed refl).1 in
    omega (arith, agreed-small _ _ _ _ _ _ _ f c.least_orders-p.ensures c.least_orders-q.ensures _ c.compare_arrangements-compared.ensures)

pub returns-clause-answer : goal.returns-clause-answer
returns-clause-answer g c =
    let pass = c.in_ok-ask_same.ensures.passed refl in
    let few = pass.0 in
    let f = (same-pass _ _ _ _ _).0 pass.1 in
    let z = sym c.in_ok-ask_same.ensures.asked in
    let lp = c.least_orders-p.ensures in
    let lq = c.least_orders-q.ensures in
    let found = c.compare_arrangements-compared.ensures in
    elim c.if-is_eq.branch [
      | then-is_eq w ↦
          let narrow = g.met.C.Caller.laws.narrow in
          let p = w.narrowed-p.ensures.rows narrow in
          let q = w.narrowed-q.ensures.rows narrow in
          let x = narrowed-produces _ _ few narrow lp p w.narrowed-p.ensures.columns in
          let y = narrowed-produces _ _ few narrow lq q w.narrowed-q.ensures.columns in
          let i = w.inverse.ensures.rows (omega arith) in
          let r = w.composed.ensures.rows (omega arith) in
          let j = w.inverse.ensures.columns in
          rw w.orders-is
          (same_gives _ _ _ _ _ _ _ f lp lq _ found _ c.is_eq.ensures w.if-is_eq.true _ _ _ _ _ _ _ z refl refl x y
          (followed_of _ _ _ _ _ _ _ _ _ f.0.rows-limits.0 few (record { permutation = x.row-permutation; rest = x.row-rest }) (record { permutation = y.row-permutation; rest = y.row-rest })
          (p.size ∙ lp.orders.rows.size) (q.size ∙ lq.orders.rows.size) i.size i.numbers r.numbers)
          (followed_of _ _ _ _ _ _ _ _ _ f.0.column-limits.0 f.0.column-limits.1 (record { permutation = x.column-permutation; rest = x.column-rest }) (record { permutation = y.column-permutation; rest = y.column-rest })
          (w.narrowed-p.ensures.columns.size ∙ lp.orders.columns.size) (w.narrowed-q.ensures.columns.size ∙ lq.orders.columns.size) j.size j.numbers w.composed.ensures.columns.numbers))
      | else-is_eq w ↦
          rw w.orders-is
          (same_differs _ _ _ _ _ _ _ f lp lq _ found _ c.is_eq.ensures w.if-is_eq.false _ _ _ z refl refl (record { row-identity = refl; column-identity = refl }))
    ]
