use native.Mathlib.Omega.{arith}
use Rattle.grids.proofs.QuestionLaws.{size_fits}
use Rattle.canonical.proofs.comparing.compare_arrangements.Goals as goal

pub overflow_mul-size : goal.overflow_mul-size
overflow_mul-size c = let a = c.args in omega (arith, size_fits a.m a.n (omega arith) (omega arith))
