use Rattle.std.proofs.Common.{◌<◌, arith}
use Rattle.permutations.specs.Rows.{row_number}
use Rattle.permutations.proofs.ArrayLaws.{map-set}
use Rattle.search.proofs.SymmetryLaws.{row_at, row_below, carrying-next, carrying-all}
use Rattle.search.proofs.symmetries.KnownSymmetries.with.Goals as goal

pub bounds-out-kept : goal.bounds-out-kept
bounds-out-kept c =
    let z = c.requires in
    let h = row_below _ c.args.first c.loop-i.i c.args.tables.now.are_tables.rows_fit (omega arith) z.1 in
    omega (arith, z.0.few)

pub loop-i-preserved : goal.loop-i-preserved
loop-i-preserved c =
    let l = c.loop-i in
    let a = c.args in
    let z = c.requires in
    let room : a.self.count < 4 = omega (arith, z.0.few) in (
      rw (map-set row_number)
          (carrying-next _ _ _ _ _ l.i _ _ _ c.args.tables.now.are_tables.rows_fit room (omega arith) z.1 (row_at a.first l.i) (row_at a.second l.i) l.invariant.0),
      l.invariant.1,
    )

pub returns-clause-known : goal.returns-clause-known
returns-clause-known c =
    let l = c.loop-i in
    let z = c.requires in
    let room : c.args.self.count < 4 = omega (arith, z.0.few) in
    rw l.invariant.1 (carrying-all _ _ _ _ _ _ _ l.i _ c.args.tables.now.are_tables.rows_fit room (omega arith) z.1 z.2 z.3 z.0 l.invariant.0)
