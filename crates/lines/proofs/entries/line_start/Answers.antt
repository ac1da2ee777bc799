-- `line_start` meets its contract.
use Rattle.std.proofs.Common.{ℕ, ◌+◌, ◌*◌, ◌≤◌, ap, mul-le-mul, arith}
use Rattle.layout.specs.Layout.{head_length}
use Rattle.lines.proofs.entries.line_start.Goals as goal

-- at most 500 lines of at most 409 bytes

small : (c : goal.After-line_length) → c.args.e * c.line_length.result ≤ 204500
small c = mul-le-mul {n₁ = c.args.e} {m₁ = c.line_length.result} {n₂ = 500} {m₂ = 409} c.requires.1 c.line_length.ensures.1

pub returns : goal.returns
returns c = (ap (λ (w : ℕ). head_length + c.args.e * w) c.line_length.ensures.0, omega (arith, small c))
