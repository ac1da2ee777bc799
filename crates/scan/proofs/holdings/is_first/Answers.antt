-- `is_first` meets its contract.
use mathlib.Core.Path.{refl}
use native.Mathlib.Omega.{arith}
use borrow.Author.Tests.{le-leb, lt-leb}
use Rattle.scan.specs.Holdings.{is_first}
use Rattle.scan.proofs.holdings.is_first.Goals as goal

pub returns-in-49-to-57 : goal.returns-in-49-to-57
unfolding is_first
returns-in-49-to-57 c = rw (le-leb 49 c.args.byte (omega arith), le-leb c.args.byte 57 (omega arith)) refl

pub returns-in_default : goal.returns-in_default
unfolding is_first
returns-in_default c = rw (lt-leb 49 c.args.byte (omega arith)) refl

pub returns-in_default-2 : goal.returns-in_default-2
unfolding is_first
returns-in_default-2 c = rw (le-leb 49 c.args.byte (omega arith), lt-leb c.args.byte 57 (omega arith)) refl
