-- The lines of a register's bytes, by their places; question 5 line by line. Between functions: no answer of a call is defined here.
--
--   no_entry                   ==  what stands where there is no entry
--   first_entry c g            ==  the entry of a grid that client c alone holds, once
--   line_at size b e           ==  the bytes of line e of the entries, the first being 0, its line feed included
--   with_field at x b          ==  b with the number x in the field from `at` on, as wide as those of line 1
--   EntryLine size top l       ==  l is the line of an entry whose cells are at most top, with holdings
--   EntriesLaid size top n b   ==  the first n lines are lines of entries, each of which comes before the next
--   BlanksLaid size from to b  ==  the lines from `from` up to `to` are blank
--   HeadLaid b                 ==  line 1 and the length are as laid out: the limits, the count at most the capacity
use Rattle.std.specs.Prelude.{◌≡◌, List, [], ◌++◌, true, ℕ, ◌+◌, ◌≤◌, ◌<◌, length, take, drop}
use Rattle.grids.specs.Order.{◌≺◌}
use Rattle.grids.specs.Grids.{capped}
use Rattle.layout.specs.Decimal.{field}
use Rattle.layout.specs.Layout.{Entry, no_holdings, changed, cells_of, holdings_of, entry_of, is_holdings, number_width, head_length, line_length, line_start, entry_line, blank_line, head_line, layout_length, count, decode_shape, InLimits}

abbrev pub no_entry : Entry
no_entry = record { grid = []; holdings = [] }

abbrev pub first_entry : ℕ → List ℕ → Entry
first_entry c g = record { grid = g; holdings = changed c 1 no_holdings }

unfoldable pub line_at : ℕ → List ℕ → ℕ → List ℕ
line_at size b e = take (line_length size) (drop (line_start size e) b)

unfoldable pub with_field : ℕ → ℕ → List ℕ → List ℕ
with_field at x b = take at b ++ (field number_width x ++ drop number_width (drop at b))

pub record EntryLine (size top : ℕ) (l : List ℕ) : Type 0 where
  pub bytes : l ≡ entry_line (entry_of size l)
  pub at_most : capped top (cells_of size l) ≡ true
  pub held : is_holdings (holdings_of size l) ≡ true

pub record EntriesLaid (size top n : ℕ) (b : List ℕ) : Type 0 where
  pub lines : (e : ℕ) → e < n → EntryLine size top (line_at size b e)
  pub ascend : (e : ℕ) → e + 1 < n → cells_of size (line_at size b e) ≺ cells_of size (line_at size b (e + 1))

pub record BlanksLaid (size from to : ℕ) (b : List ℕ) : Type 0 where
  pub lines : (e : ℕ) → from ≤ e → e < to → line_at size b e ≡ blank_line size

pub record HeadLaid (b : List ℕ) : Type 0 where
  pub limits : InLimits (decode_shape b)
  pub count_fits : count b ≤ (decode_shape b).capacity
  pub sized : length b ≡ layout_length (decode_shape b)
  pub line : take head_length b ≡ head_line (decode_shape b) (count b)
