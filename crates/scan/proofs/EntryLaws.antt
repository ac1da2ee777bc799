-- Laws of the scan of the lines: the ways out of each function.
--
--   cells-none, cells-agreed     ==  no cell is laid out; those are that agree with cells that are
--   line-none, line-not, line-decides  ==  a line without its line feed, one whose holdings are not laid out, and one that has both, whose first cells are laid out
--   next-not, next-decides       ==  a line that is not laid out, and one that is, compared
--   Begins, line_begins          ==  where a line begins
--   lines_none, lines-one, lines_next  ==  no line, the first line, and one line more
--   lines-first-not, lines-not, lines-all  ==  the first line is not laid out; a further line does not follow; all are passed
use mathlib.Core.Path.{◌≡◌, refl, sym, ◌∙◌}
use mathlib.Core.List.{List}
use mathlib.Core.Bool.{Bool, true, false, true≢false}
use mathlib.Core.Logic.{◌↔◌}
use Prim.Native.Nat.{ℕ, ◌+◌, ◌-◌, ◌*◌, ◌/◌, ◌≤◌, ◌<◌}
use native.Mathlib.Omega.{arith}
use native.Mathlib.Nat.{not-suc-le-zero}
use native.Mathlib.Decide.{dec_lt}
use lib.ListN.{get_or}
use Rattle.layout.specs.Layout.{head_length, line_length, line_start}
use Rattle.layout.proofs.LineLaws.{start-zero, next_start, cells-inside}
use Rattle.lines.proofs.AnswerLaws.{fails}
use Rattle.scan.specs.Cells.{CellBytes, CellsLaid, Same}
use Rattle.scan.specs.Fits.{all_fit}
use Rattle.scan.specs.Holdings.{HoldingsLaid}
use Rattle.scan.specs.Lines.{LineLaid, Precedes, Follows, LinesLaid}
use Rattle.scan.specs.declared.tables.Tables.{Tables}
use Rattle.scan.proofs.CellLaws.{fit-cells}
use Rattle.scan.proofs.LineLaws.{start-within}
use Rattle.scan.proofs.OrderLaws.{same_byte}

-- ---- one line

pub cells-none : (top : ℕ) (b : List ℕ) (at : ℕ) → CellsLaid top b at 0
unfolding CellsLaid
cells-none top b at i c = absurd (not-suc-le-zero c)

pub cells-agreed : (size top : ℕ) (b : List ℕ) (p q k n : ℕ) → CellsLaid top b p size → Same b p q n → n ≤ 3 * size → k ≡ n / 3 → CellsLaid top b q k
unfolding CellsLaid Same
cells-agreed size top b p q k n h s l d i c =
    rw (s (3 * i) (omega arith), same_byte b p q n (3 * i) 1 s (omega arith), same_byte b p q n (3 * i) 2 s (omega arith)) at (h i (omega arith))

cells-part : (size top : ℕ) (b : List ℕ) (at k : ℕ) → CellsLaid top b at size → k ≤ size → CellsLaid top b (at + 3 * k) (size - k)
unfolding CellsLaid
cells-part size top b at k h l i c =
    let z : at + 3 * (k + i) ≡ at + 3 * k + 3 * i = omega arith in
    rw z at (h (k + i) (omega arith))

cells-join : (size top : ℕ) (b : List ℕ) (at k : ℕ) → CellsLaid top b at k → CellsLaid top b (at + 3 * k) (size - k) → k ≤ size → CellsLaid top b at size
unfolding CellsLaid
cells-join size top b at k h g l i c = go (dec_lt i k)
  where
    go : Dec (i < k) → CellBytes top (get_or b (at + 3 * i) 0) (get_or b (at + 3 * i + 1) 0) (get_or b (at + 3 * i + 2) 0)
    go (yes d) = h i d
    go (no d) =
        let z : at + 3 * k + 3 * (i - k) ≡ at + 3 * i = omega arith in
        rw z at (g (i - k) (omega arith))

module _ (tables : Tables) (b : List ℕ) (at length : ℕ) (e : length ≡ line_length tables.size) where
  pub line-none : (get_or b (at + length - 1) 0 ≡ 10 → ⊥) → (false ≡ true) ↔ LineLaid tables.size tables.top b at
  line-none f = fails (λ h. f (rw e h.feed))

  pub line-not : (r : Bool) → (r ≡ true) ↔ HoldingsLaid b (at + 3 * tables.size) → r ≡ false → (false ≡ true) ↔ LineLaid tables.size tables.top b at
  line-not r d f = fails (λ h. true≢false (sym (d.1 h.holdings-laid) ∙ f))

  pub line-decides : ((i : ℕ) → get_or b i 0 < 256) → (k : ℕ) (r : Bool) → 1 ≤ at → k ≤ tables.size → CellsLaid tables.top b at k → get_or b (at + length - 1) 0 ≡ 10 → HoldingsLaid b (at + 3 * tables.size) →
      r ≡ all_fit (3 * (tables.size - k)) b (at + 3 * k - 1) tables.base tables.teen tables.span (39 + tables.top) → (r ≡ true) ↔ LineLaid tables.size tables.top b at
  line-decides low k r h l front feed held f = (
    λ y. record { feed = rw e at feed; cells-laid = cells-join tables.size tables.top b at k front (others.0 (sym f ∙ y)) l; holdings-laid = held },
    λ w. f ∙ others.1 (cells-part tables.size tables.top b at k w.cells-laid l),
  )
    where
      others : (all_fit (3 * (tables.size - k)) b (at + 3 * k - 1) tables.base tables.teen tables.span (39 + tables.top) ≡ true) ↔ CellsLaid tables.top b (at + 3 * k) (tables.size - k)
      others = let z : at + 3 * k - 1 + 1 ≡ at + 3 * k = omega arith in rw z at (fit-cells tables.size tables.top b (at + 3 * k - 1) tables.base tables.teen tables.span tables.bases tables.teens tables.spans tables.low low (tables.size - k) (omega arith))

module _ (size top : ℕ) (b : List ℕ) (p q : ℕ) (t : Bool) (laid : (t ≡ true) ↔ LineLaid size top b q) where
  pub next-not : t ≡ false → (false ≡ true) ↔ Follows size top b p q
  next-not e = fails (λ w. true≢false (sym (laid.1 w.laid) ∙ e))

  pub next-decides : t ≡ true → (r : Bool) → (r ≡ true) ↔ Precedes size b p q → (r ≡ true) ↔ Follows size top b p q
  next-decides e r o = (λ y. record { laid = laid.0 e; order = o.0 y }, λ f. o.1 f.order)

-- ---- all lines

pub lines_none : (size top n : ℕ) (b : List ℕ) → n ≡ 0 → (true ≡ true) ↔ LinesLaid size top n b
lines_none size top n b e = (λ y. record { lines = λ i c. absurd (omega arith); ascend = λ i c. absurd (omega arith) }, λ w. refl)

pub lines-one : (size top at : ℕ) (b : List ℕ) → at ≡ head_length → LineLaid size top b at → LinesLaid size top 1 b
lines-one size top at b z h = record {
  lines = λ e c. let d : e ≡ 0 = omega arith in rw (d, start-zero size, ← z) h;
  ascend = λ e c. absurd (omega arith);
}

pub lines-first-not : (size top n at : ℕ) (b : List ℕ) → 0 < n → at ≡ head_length → (r : Bool) → (r ≡ true) ↔ LineLaid size top b at → r ≡ false → (false ≡ true) ↔ LinesLaid size top n b
lines-first-not size top n at b h z r w f = fails (λ l. true≢false (sym (w.1 (rw (start-zero size, ← z) at (l.lines 0 h))) ∙ f))

-- line e begins behind the one before it, and is within the first n lines; each line has w bytes
pub record Begins (size e n w : ℕ) : Type 0 where
  pub here : head_length + e * w ≡ line_start size e
  pub before : head_length + e * w - w ≡ line_start size (e - 1)
  pub above : head_length + e * w - w < head_length + e * w
  pub within : head_length + e * w + line_length size ≤ line_start size n

pub line_begins : (size e n w : ℕ) → 1 ≤ e → e < n → w ≡ line_length size → Begins size e n w
line_begins size e n w l h z = record {
  here = rw z refl;
  before = rw z (omega (arith, y));
  above = rw z (omega (arith, y, cells-inside size));
  within = rw z (start-within size e n h);
}
  where
    y : line_start size e ≡ line_start size (e - 1) + line_length size
    y = let q : e - 1 + 1 ≡ e = omega arith in rw q at (next_start size (e - 1))

module _ (size top e at next : ℕ) (b : List ℕ) (later : 1 ≤ e) (here : next ≡ line_start size e) (before : at ≡ line_start size (e - 1)) where
  pub lines_next : LinesLaid size top e b → Follows size top b at next → LinesLaid size top (e + 1) b
  lines_next h f = record { lines = λ i c. line i c (dec_lt i e); ascend = λ i c. after i c (dec_lt (i + 1) e) }
    where
      line : (i : ℕ) → i < e + 1 → Dec (i < e) → LineLaid size top b (line_start size i)
      line i c (yes d) = h.lines i d
      line i c (no d) = let z : i ≡ e = omega arith in rw (z, ← here) f.laid

      after : (i : ℕ) → i + 1 < e + 1 → Dec (i + 1 < e) → Precedes size b (line_start size i) (line_start size (i + 1))
      after i c (yes d) = h.ascend i d
      after i c (no d) =
          let z : i ≡ e - 1 = omega arith in
          let y : e - 1 + 1 ≡ e = omega arith in
          rw (z, y, ← here, ← before) f.order

  pub lines-not : (n : ℕ) → e < n → (r : Bool) → (r ≡ true) ↔ Follows size top b at next → r ≡ false → (false ≡ true) ↔ LinesLaid size top n b
  lines-not n h r w f = fails (λ l. true≢false (sym (w.1 (follows l)) ∙ f))
    where
      follows : LinesLaid size top n b → Follows size top b at next
      follows l = record {
        laid = rw here (l.lines e h);
        order = let y : e - 1 + 1 ≡ e = omega arith in rw (here, before) (rw y at (l.ascend (e - 1) (omega arith)));
      }

pub lines-all : (size top e n : ℕ) (b : List ℕ) → n ≡ e → LinesLaid size top e b → (true ≡ true) ↔ LinesLaid size top n b
lines-all size top e n b z h = (λ y. rw z h, λ w. refl)
