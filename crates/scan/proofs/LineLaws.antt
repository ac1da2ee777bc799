-- A line of an entry, by its bytes: the two ways to say that it is laid out are one.
--
--   holdings-inside         ==  a line has more bytes than its cells and holdings
--   laid-entry, entry-laid  ==  the bytes of a line are laid out exactly where it is the line of an entry
--   start-within            ==  a line ends where a later one begins, or before
--   lines-entries           ==  the same of all lines of entries
use mathlib.Core.Path.{◌≡◌, refl, sym, ap, ap₂, ◌∙◌}
use mathlib.Core.List.{List, [], ◌∷◌, ◌++◌, flatten}
use mathlib.Core.Bool.{true, false, true≢false}
use mathlib.Core.Logic.{◌⊎◌, inl, inr, ◌↔◌}
use Prim.Native.Nat.{ℕ, zero, suc, ◌+◌, ◌-◌, ◌*◌, ◌≤◌, ◌<◌}
use native.Mathlib.Omega.{arith}
use native.Mathlib.Nat.{mul_comm, add-mul, mul-le-mul_right}
use native.Mathlib.Decide.{dec_lt}
use borrow.Author.Tests.{eq-eqb, lt-ltb}
use lib.ListN.{length, get_or, take, drop, take-append-drop, length-append, get_or-append}
use lib.Seq.{drop-cons, take-add, take-take, drop-drop, get_or_at, get_or-take, get_or-drop, get_or-append-add, drop-length}
use lib.Dec.{eqb, ltb}
use Rattle.permutations.specs.Lists.{tabulate}
use Rattle.permutations.proofs.BoolLaws.{yes_and, yes_or_no}
use Rattle.permutations.proofs.ListLaws.{tabulate-is, tabulate-ext, mem-at, at_some}
use Rattle.grids.specs.Grids.{capped}
use Rattle.grids.proofs.QuestionLaws.{capped_at, at-capped}
use Rattle.layout.specs.Decimal.{field, value}
use Rattle.layout.specs.Layout.{clients, most_held, fields, cell_width, entry_width, line_length, line_start, entry_line, number_at, cells_of, holdings_of, some_held, is_holdings}
use Rattle.layout.specs.Lines.{line_at, EntryLine, EntriesLaid}
use Rattle.layout.proofs.LayoutLaws.{length_fields, field_at}
use Rattle.layout.proofs.LineLaws.{drop-take, next_start, length-line, cells-inside, length-cells, cell_at, length-holdings, holding-at}
use Rattle.layout.proofs.RegisterLaws.{holdings-decides}
use Rattle.scan.specs.Cells.{CellsLaid}
use Rattle.scan.specs.Holdings.{HoldingBytes, HoldingsLaid}
use Rattle.scan.specs.Lines.{LineLaid, Precedes, LinesLaid}
use Rattle.scan.proofs.CellLaws.{three, NumberField, bytes-field, field-bytes}
use Rattle.scan.proofs.HoldingLaws.{holding-field, field-holding, none-zero, zero-none}

-- ---- lists

-- pieces of three bytes that are fields, put together
fields-of : (n s : ℕ) (f : ℕ → ℕ) (l : List ℕ) → ((k : ℕ) → k < n → take 3 (drop (3 * k) l) ≡ field 3 (f (s + k))) → take (3 * n) l ≡ fields 3 (tabulate s n f)
unfolding fields tabulate flatten
fields-of zero s f l h = refl
fields-of (suc n) s f l h =
    ap (λ (x : ℕ). take x l) e ∙ take-add 3 (3 * n) l ∙ ap₂ ◌++◌ first (fields-of n (suc s) f (drop 3 l) later)
  where
    e : 3 * suc n ≡ 3 + 3 * n
    e = omega arith

    first : take 3 l ≡ field 3 (f s)
    first = let z : s + 0 ≡ s = omega arith in h 0 (omega arith) ∙ ap (λ (x : ℕ). field 3 (f x)) z

    later : (k : ℕ) → k < n → take 3 (drop (3 * k) (drop 3 l)) ≡ field 3 (f (suc s + k))
    later k c =
        let u : 3 + 3 * k ≡ 3 * (k + 1) = omega arith in
        let v : s + (k + 1) ≡ suc s + k = omega arith in
        ap (take 3) (drop-drop (3 * k) 3 l ∙ ap (λ (x : ℕ). drop x l) u) ∙ h (k + 1) (omega arith) ∙ ap (λ (x : ℕ). field 3 (f x)) v

-- what stands behind the cells does not bear on them
cells-before : (size n : ℕ) (l : List ℕ) → 3 * size < n → cells_of size (take n l) ≡ cells_of size l
unfolding cells_of number_at
cells-before size n l h = tabulate-ext 0 size _ _ (λ k c. ap value (ap (take 3) (drop-take (3 * k) n l) ∙ take-take 3 (n - 3 * k) (drop (3 * k) l) (omega arith)))

-- ---- one line

pub holdings-inside : (size : ℕ) → 3 * size + cell_width * clients < line_length size
unfolding line_length entry_width
holdings-inside size = omega arith

-- the numbers of a line: its cells, and its holdings behind them
abbrev numbers_of : ℕ → List ℕ → List ℕ
numbers_of size l = cells_of size l ++ holdings_of size l

module _ (size : ℕ) (l : List ℕ) where
  numbers-long : length (numbers_of size l) ≡ size + clients
  numbers-long = length-append (cells_of size l) (holdings_of size l) ∙ ap₂ ◌+◌ (length-cells size l) (length-holdings size l)

  numbers-at : (k : ℕ) → k < size + clients → get_or (numbers_of size l) k 0 ≡ number_at 3 (3 * k) l
  numbers-at k h = go (dec_lt k size)
    where
      go : Dec (k < size) → get_or (numbers_of size l) k 0 ≡ number_at 3 (3 * k) l
      go (yes c) = get_or-append (cells_of size l) (holdings_of size l) 0 k (omega (arith, length-cells size l)) ∙ cell_at size l k c
      go (no c) =
          let z : size + (k - size) ≡ k = omega arith in
          rw z at (rw (length-cells size l) at (get_or-append-add (cells_of size l) (holdings_of size l) (k - size) 0) ∙ holding-at size l (k - size) (omega arith))

module _ (size top : ℕ) (b : List ℕ) (at : ℕ) (l : List ℕ) (t : top ≤ 15) (long : length l ≡ line_length size) (same : (i : ℕ) → i < line_length size → get_or l i 0 ≡ get_or b (at + i) 0) where
  wide : line_length size ≡ 3 * (size + clients) + 1
  unfolding line_length entry_width
  wide = refl

  number-bytes : (k : ℕ) → k < size + clients → take 3 (drop (3 * k) l) ≡ get_or b (at + 3 * k) 0 ∷ get_or b (at + 3 * k + 1) 0 ∷ get_or b (at + 3 * k + 2) 0 ∷ []
  number-bytes k h =
      let w : 3 * k + 2 < line_length size = omega (arith, wide) in
      three l (3 * k) (omega arith)
      ∙ rw (same (3 * k) (omega arith), same (3 * k + 1) (omega arith), same (3 * k + 2) (omega arith))
      (ap₂ (λ (x y : ℕ). get_or b (at + 3 * k) 0 ∷ get_or b x 0 ∷ get_or b y 0 ∷ []) (omega arith) (omega arith))

  number : ℕ → ℕ
  number k = value (get_or b (at + 3 * k) 0 ∷ get_or b (at + 3 * k + 1) 0 ∷ get_or b (at + 3 * k + 2) 0 ∷ [])

  number_read : (k : ℕ) → k < size + clients → number_at 3 (3 * k) l ≡ number k
  unfolding number_at number
  number_read k h = ap value (number-bytes k h)

  cells_at : (k : ℕ) → k < size → get_or (cells_of size l) k 0 ≡ number k
  cells_at k h = cell_at size l k h ∙ number_read k (omega arith)

  holdings-at : (k : ℕ) → k < clients → get_or (holdings_of size l) k 0 ≡ number (size + k)
  holdings-at k h = holding-at size l k h ∙ number_read (size + k) (omega arith)

  feed-at : get_or b (at + line_length size - 1) 0 ≡ get_or b (at + 3 * (size + clients)) 0
  feed-at = let e : at + line_length size - 1 ≡ at + 3 * (size + clients) = omega (arith, wide) in rw e

  ends : drop (3 * (size + clients)) l ≡ get_or b (at + 3 * (size + clients)) 0 ∷ []
  ends =
      let w = wide in
      let e : suc (3 * (size + clients)) ≡ length l = omega arith in
      drop-cons l (3 * (size + clients)) 0 (omega arith) ∙ ap₂ (λ (x : ℕ) (r : List ℕ). x ∷ r) (same (3 * (size + clients)) (omega arith)) (ap (λ (x : ℕ). drop x l) e ∙ drop-length l)

  -- the holding of client k + 1, by its place in the line
  holding-from : (k : ℕ) → at + 3 * size + 3 * k ≡ at + 3 * (size + k)
  holding-from k = omega arith

  module _ (h : LineLaid size top b at) where
    laid-holding : (k : ℕ) → k < clients → HoldingBytes (get_or b (at + 3 * (size + k)) 0) (get_or b (at + 3 * (size + k) + 1) 0) (get_or b (at + 3 * (size + k) + 2) 0)
    laid-holding k c = rw (holding-from k) at (h.holdings-laid.fields_laid k c)

    laid-number : (k : ℕ) → k < size + clients → NumberField most_held (get_or b (at + 3 * k) 0) (get_or b (at + 3 * k + 1) 0) (get_or b (at + 3 * k + 2) 0)
    unfolding CellsLaid NumberField
    laid-number k c = go (dec_lt k size)
      where
        go : Dec (k < size) → NumberField most_held (get_or b (at + 3 * k) 0) (get_or b (at + 3 * k + 1) 0) (get_or b (at + 3 * k + 2) 0)
        go (yes d) = let f = bytes-field top _ _ _ t (h.cells-laid k d) in (f.0, omega (arith, f.1))
        go (no d) = let z : size + (k - size) ≡ k = omega arith in rw z at (holding-field _ _ _ (laid-holding (k - size) (omega arith)))

    -- where no holding is more than 0
    none-held : some_held (holdings_of size l) ≡ false → (k : ℕ) → k < clients → number (size + k) ≡ 0
    unfolding some_held
    none-held n k c = go (dec_lt 0 (number (size + k)))
      where
        go : Dec (0 < number (size + k)) → number (size + k) ≡ 0
        go (yes p) =
            absurd (true≢false (sym (at_some (λ x. ltb 0 x) (holdings_of size l) _ (mem-at (holdings_of size l) 0 k (omega (arith, length-holdings size l))) (lt-ltb 0 (get_or (holdings_of size l) k 0) (omega (arith, p, holdings-at k c)))) ∙ n))
        go (no p) = omega arith

    laid-held : is_holdings (holdings_of size l) ≡ true
    unfolding is_holdings some_held number NumberField
    laid-held =
        yes_and (eqb (length (holdings_of size l)) clients) _ (eq-eqb (length (holdings_of size l)) clients (length-holdings size l))
        (yes_and (capped most_held (holdings_of size l)) _ (at-capped most_held (holdings_of size l) (λ k c. let d : k < clients = omega (arith, length-holdings size l) in rw (holdings-at k d) (laid-number (size + k) (omega arith)).1))
        (go (yes_or_no (some_held (holdings_of size l)))))
      where
        go : (some_held (holdings_of size l) ≡ true) ⊎ (some_held (holdings_of size l) ≡ false) → some_held (holdings_of size l) ≡ true
        go (inl y) = y
        go (inr n) = absurd (h.holdings-laid.some-held (λ k c. rw (holding-from k) (zero-none _ _ _ (laid-number (size + k) (omega arith)) (none-held n k c))))

    pub laid-entry : EntryLine size top l
    unfolding CellsLaid NumberField number entry_line
    laid-entry = record {
      bytes =
          sym (take-append-drop (3 * (size + clients)) l)
          ∙ ap₂ ◌++◌
          (fields-of (size + clients) 0 (λ k. number_at 3 (3 * k) l) l pieces ∙ ap (fields 3) (tabulate-is 0 (numbers_of size l) (size + clients) _ (numbers-long size l) (numbers-at size l)))
          (ends ∙ ap (λ (x : ℕ). x ∷ []) (sym feed-at ∙ h.feed));
      at_most = at-capped top (cells_of size l) (λ k c. let d : k < size = omega (arith, length-cells size l) in rw (cells_at k d) (bytes-field top _ _ _ t (h.cells-laid k d)).1);
      held = laid-held;
    }
      where
        pieces : (k : ℕ) → k < size + clients → take 3 (drop (3 * k) l) ≡ field 3 (number_at 3 (3 * (0 + k)) l)
        pieces k c =
            let z : k ≡ 0 + k = omega arith in
            number-bytes k c ∙ (laid-number k c).0 ∙ ap (field 3) (sym (number_read k c) ∙ ap (λ (x : ℕ). number_at 3 (3 * x) l) z)

  module _ (e : EntryLine size top l) where
    entry-number : (k : ℕ) → k < size + clients → (get_or b (at + 3 * k) 0 ∷ get_or b (at + 3 * k + 1) 0 ∷ get_or b (at + 3 * k + 2) 0 ∷ []) ≡ field 3 (number k)
    unfolding entry_line
    entry-number k c =
        sym (number-bytes k c)
        ∙ ap (λ (x : List ℕ). take 3 (drop (3 * k) x)) e.bytes
        ∙ ap (λ (i : ℕ). take 3 (drop i (fields 3 (numbers_of size l) ++ (10 ∷ [])))) (mul_comm 3 k)
        ∙ field_at 3 (numbers_of size l) (10 ∷ []) k (omega (arith, numbers-long size l))
        ∙ ap (field 3) (numbers-at size l k c ∙ number_read k c)

    entry-holding : (k : ℕ) → k < clients → HoldingBytes (get_or b (at + 3 * (size + k)) 0) (get_or b (at + 3 * (size + k) + 1) 0) (get_or b (at + 3 * (size + k) + 2) 0)
    unfolding NumberField number
    entry-holding k c = field-holding _ _ _ (entry-number (size + k) (omega arith), rw (holdings-at k c) at (((holdings-decides (holdings_of size l)).0 e.held).capped k c))

    entry-held : HoldingsLaid b (at + 3 * size)
    unfolding number
    entry-held = record {
      fields_laid = λ k c. rw (holding-from k) (entry-holding k c);
      some-held = λ a. let i = ((holdings-decides (holdings_of size l)).0 e.held).held in
          let z : number (size + i.0) ≡ 0 = none-zero _ _ _ (entry-holding i.0 i.1) (rw (holding-from i.0) at (a i.0 i.1)) in
          omega (arith, i.2, holdings-at i.0 i.1, z);
    }

    pub entry-laid : LineLaid size top b at
    unfolding CellsLaid NumberField number entry_line
    entry-laid = record {
      feed =
          feed-at
          ∙ sym (same (3 * (size + clients)) (omega (arith, wide)))
          ∙ ap (λ (x : List ℕ). get_or x (3 * (size + clients)) 0) e.bytes
          ∙ get_or_at (fields 3 (numbers_of size l)) 10 [] 0 (3 * (size + clients)) (length_fields 3 (numbers_of size l) ∙ omega (arith, numbers-long size l));
      cells-laid = λ k c. field-bytes top _ _ _ t (
        entry-number k (omega arith),
        rw (cells_at k c) at (capped_at top (cells_of size l) e.at_most k (omega (arith, length-cells size l))),
      );
      holdings-laid = entry-held;
    }

-- ---- all lines

pub start-within : (size e n : ℕ) → e < n → line_start size e + line_length size ≤ line_start size n
start-within size e n h = omega (arith, add-mul e 1 (line_length size), mul-le-mul_right (line_length size) h)

module _ (size top n : ℕ) (b : List ℕ) (t : top ≤ 15) (fits : line_start size n ≤ length b) where
  line-long : (e : ℕ) → e < n → length (line_at size b e) ≡ line_length size
  line-long e h = length-line size b e (omega (arith, next_start size e, start-within size e n h))

  line_same : (e i : ℕ) → i < line_length size → get_or (line_at size b e) i 0 ≡ get_or b (line_start size e + i) 0
  unfolding line_at
  line_same e i h = get_or-take (line_length size) (drop (line_start size e) b) i 0 h ∙ get_or-drop (line_start size e) b i 0

  laid : (e : ℕ) → e < n → EntryLine size top (line_at size b e) → LineLaid size top b (line_start size e)
  laid e h = entry-laid size top b (line_start size e) (line_at size b e) t (line-long e h) (line_same e)

  entry : (e : ℕ) → e < n → LineLaid size top b (line_start size e) → EntryLine size top (line_at size b e)
  entry e h = laid-entry size top b (line_start size e) (line_at size b e) t (line-long e h) (line_same e)

  stated : (e : ℕ) → cells_of size (line_at size b e) ≡ cells_of size (drop (line_start size e) b)
  unfolding line_at
  stated e = cells-before size (line_length size) (drop (line_start size e) b) (cells-inside size)

  pub lines-entries : LinesLaid size top n b ↔ EntriesLaid size top n b
  unfolding Precedes
  lines-entries = (to, back)
    where
      to : LinesLaid size top n b → EntriesLaid size top n b
      to h = record {
        lines = λ e c. entry e c (h.lines e c);
        ascend = λ e c. rw (stated e, stated (e + 1)) (h.ascend e c);
      }

      back : EntriesLaid size top n b → LinesLaid size top n b
      back h = record {
        lines = λ e c. laid e c (h.lines e c);
        ascend = λ e c. rw (stated e, stated (e + 1)) at (h.ascend e c);
      }
