-- Question 5 answers as the table says.
--
--   registers-hold  ==  the statement
use mathlib.Core.Path.{◌≡◌, refl, sym}
use mathlib.Core.List.{flatten}
use mathlib.Core.Bool.{Bool, true, false, true≢false, not}
use Rattle.permutations.specs.Lists.{tabulate, every, some}
use Rattle.permutations.proofs.ListLaws.{every-all}
use Rattle.grids.specs.Order.{rank, less, leq, equal}
use Rattle.grids.specs.Grids.{capped, is_grid}
use Rattle.grids.specs.Questions.{in_range}
use Rattle.layout.specs.Decimal.{lead, field, digit, value_from, value}
use Rattle.layout.specs.Layout.{fields, entry_width, line_length, entry_line, blank_line, head_line, layout, number_at, count, cells_of, holdings_of, entry_at, decode_shape, decode, in_limits, some_held, is_holdings, is_entry, ascending, is_register, laid_out}
use Rattle.worked_cases.specs.Text.{bytes, text}
use Rattle.worked_cases.specs.Registers.{RegisterCase, registers, RegistersHold}

agree : Bool → Bool → Bool
agree x true = x
agree x false = not x

agree-equal : (x y : Bool) → agree x y ≡ true → x ≡ y
unfolding agree
agree-equal true true e = refl
agree-equal true false e = absurd (true≢false (sym e))
agree-equal false true e = absurd (true≢false (sym e))
agree-equal false false e = refl

pub registers-hold : RegistersHold
unfolding agree RegistersHold registers bytes text flatten tabulate every some rank less leq equal capped is_grid in_range lead field digit value_from value fields entry_width line_length entry_line blank_line head_line layout number_at count cells_of holdings_of entry_at decode_shape decode in_limits some_held is_holdings is_entry ascending is_register laid_out
registers-hold = every-all (λ (c : RegisterCase). laid_out (text c.lines) ≡ c.answer) (λ (c : RegisterCase). agree (laid_out (text c.lines)) c.answer) (λ c t. agree-equal _ _ t) registers refl
