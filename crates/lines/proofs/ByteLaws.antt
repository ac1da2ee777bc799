-- Laws of bytes.
--
--   ten-one, ten-other  ==  a 1, and another byte
use Rattle.std.proofs.Common.{◌≡◌, ℕ, refl, eq-eqb, ne_eqb}
use Rattle.lines.specs.Bytes.{ten}

pub ten-one : (byte : ℕ) → byte ≡ 49 → 10 ≡ ten byte
unfolding ten
ten-one byte e = rw (eq-eqb byte 49 e, ten) refl

pub ten-other : (byte : ℕ) → (byte ≡ 49 → ⊥) → 0 ≡ ten byte
unfolding ten
ten-other byte n = rw (ne_eqb byte 49 n, ten) refl
