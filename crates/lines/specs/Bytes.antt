-- Bytes as numbers. A cell's field is two spaces and a digit, or a space, a 1 and a digit. Between functions: no answer of a call is defined here.
--
--   above byte base     ==  how far a byte is above another, round the 256
--   ten byte            ==  10 for a 1, 0 for another byte
--   stated byte before  ==  the cell whose field ends with a byte and has another before it; round the 256 where they end none
use Rattle.std.specs.Prelude.{ℕ, ◌+◌, ◌-◌, ◌%◌, true, false, ◌==◌}

unfoldable pub above : ℕ → ℕ → ℕ
above byte base = (byte + (256 - base)) % 256

unfoldable pub ten : ℕ → ℕ
ten byte = elim (byte == 49) [ true ↦ 10 | false ↦ 0 ]

unfoldable pub stated : ℕ → ℕ → ℕ
stated byte before = (above byte 48 + ten before) % 256
