-- `span_of` meets its contract.
use Rattle.scan.specs.Tables.{span_of}
use Rattle.scan.proofs.tables.span_of.Goals as goal

pub returns : goal.returns
unfolding span_of
returns c = cc
