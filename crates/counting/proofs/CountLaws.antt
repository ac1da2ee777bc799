-- Laws of the count.
--
--   select-snoc             ==  an element more, of those that pass a test
--   one_more, one-yes, one-no  ==  one more where a test says yes
--   CountedBefore b low high found e  ==  found is how many entries before entry e lie in the bounds
--   Room size found from length  ==  the numbers that the code makes of them are small, and the line lies inside
--   part_at                 ==  a byte of a part
--   entry-line              ==  an entry's line, with the register's top
--   parts-fit               ==  the parts that are the bytes of a line's cells and those a byte earlier
--   bounds-ordered          ==  what the tables ask of bounds
--   counting-none, counting-room, counting-next, counting-all  ==  the count of no entry, the room for a line more, an entry more, all entries
use mathlib.Core.Path.{◌≡◌, refl, sym, ap, ap₂, ◌∙◌}
use mathlib.Core.List.{List, [], ◌∷◌, ◌++◌}
use mathlib.Core.Bool.{Bool, true, false}
use Prim.Native.Nat.{ℕ, suc, ◌+◌, ◌-◌, ◌*◌, ◌≤◌, ◌<◌}
use native.Mathlib.Numerals.{add-one}
use native.Mathlib.Omega.{arith}
use lib.ListN.{length, get_or, take, drop, length-take, length-drop}
use lib.Seq.{take-suc, take_all, get_or-take, get_or-drop, length-take-le}
use Rattle.permutations.specs.Lists.{select}
use Rattle.permutations.proofs.SelectLaws.{select_yes, select_no, length-select}
use Rattle.bounds.specs.Bounds.{IsBounds, in_bounds}
use Rattle.layout.specs.Layout.{grids_of, head_length, line_length, line_start, cells_of, decode_shape, decode}
use Rattle.layout.specs.Lines.{line_at, EntryLine}
use Rattle.layout.proofs.LineLaws.{laid-lines, cells-inside, line-grid, grids-counted}
use Rattle.calls.specs.Valid.{Valid}
use Rattle.calls.proofs.ValidLaws.{valid-sizes, entry-fits}
use Rattle.counting.specs.Within.{LineOutcome, OrderedBounds, BoundTables}
use Rattle.counting.proofs.LineLaws.{line-within}

abbrev pub one_more : ℕ → Bool → ℕ
one_more found within = elim within [ true ↦ found + 1 | false ↦ found ]

pub one-yes : (found : ℕ) {r : Bool} → r ≡ true → found + 1 ≡ one_more found r
one-yes found e = rw (e, one_more) refl

pub one-no : (found : ℕ) {r : Bool} → r ≡ false → found ≡ one_more found r
one-no found e = rw (e, one_more) refl

select-snoc : (t : List ℕ → Bool) (l : List (List ℕ)) (x : List ℕ) → length (select t (l ++ (x ∷ []))) ≡ one_more (length (select t l)) (t x)
unfolding select
select-snoc t [] x = go (t x) refl
  where
    go : (b : Bool) → t x ≡ b → length (select t (x ∷ [])) ≡ one_more 0 (t x)
    go true e = rw (e, select, one_more)
    go false e = rw (e, select, one_more)
select-snoc t (y ∷ l) x = go (t y) refl (select-snoc t l x)
  where
    more : (n : ℕ) (b : Bool) → suc (one_more n b) ≡ one_more (suc n) b
    more n true = omega arith
    more n false = refl

    go : (b : Bool) → t y ≡ b → length (select t (l ++ (x ∷ []))) ≡ one_more (length (select t l)) (t x) → length (select t (y ∷ (l ++ (x ∷ [])))) ≡ one_more (length (select t (y ∷ l))) (t x)
    go true e ih = rw (select_yes t y (l ++ (x ∷ [])) e, select_yes t y l e) (ap suc ih ∙ more (length (select t l)) (t x))
    go false e ih = rw (select_no t y (l ++ (x ∷ [])) e, select_no t y l e) ih

pub record CountedBefore (b low high : List ℕ) (found e : ℕ) : Type 0 where
  pub counted : found ≡ length (select (in_bounds (length low) (decode_shape b).top low high) (take e (grids_of (decode b).entries)))

pub record Room (size found from length : ℕ) : Type 0 where
  pub few : found < 500
  pub after-head : head_length ≤ from
  pub inside : from + line_length size ≤ length
  pub small : from + line_length size ≤ head_length + 204500
  pub wider : 3 * size < line_length size
  pub narrow : 3 * size ≤ 384

part_at : (b : List ℕ) (start n k : ℕ) → k < n → get_or (take n (drop start b)) k 0 ≡ get_or b (start + k) 0
part_at b start n k h = get_or-take n (drop start b) k 0 h ∙ get_or-drop start b k 0

entry-line : {size n : ℕ} {b : List ℕ} → Valid size n b → (e : ℕ) → e < n → (EntryLine size (decode_shape b).top (line_at size b e)) × ((decode_shape b).top ≤ 15)
entry-line {size} {n} {b} k e h =
    let p = (laid-lines b).0 k.laid in
    (rw k.sized (p.1.lines e (omega (arith, k.counts))), p.0.limits.grid-limits.top-limit)

-- the bytes of a line's cells and those a byte earlier, as the code lends them
pub parts-fit : (size from found : ℕ) (b : List ℕ) → Room size found from (length b) →
    (length (take (from + 3 * size - from) (drop from b)) ≤ 384) × (length (take (from + 3 * size - from) (drop from b)) ≤ length (take (from + 3 * size - 1 - (from - 1)) (drop (from - 1) b)))
parts-fit size from found b r =
    let x = length-take-le (from + 3 * size - from) (drop from b) (omega (arith, r.inside, r.wider, length-drop from b)) in
    let y = length-take-le (from + 3 * size - 1 - (from - 1)) (drop (from - 1) b) (omega (arith, r.inside, r.wider, r.after-head, length-drop (from - 1) b)) in
    (omega (arith, x, r.narrow), omega (arith, x, y, r.after-head))

pub bounds-ordered : {n top : ℕ} {b low high : List ℕ} → Valid (length low) n b → IsBounds (length low) top low high → OrderedBounds low high
bounds-ordered k i = record { few = (valid-sizes k).cells_fit; as_many = sym i.high-size; in_order = i.in_order }

module _ {n : ℕ} {b low high : List ℕ} (k : Valid (length low) n b) where
  pub counting-none : CountedBefore b low high 0 0
  unfolding select
  counting-none = record { counted = refl }

  pub counting-room : {found from e : ℕ} → from ≡ line_start (length low) e → CountedBefore b low high found e → e < n → Room (length low) found from (length b)
  counting-room {found} {from} {e} place c h =
      let z = valid-sizes k in
      let f = entry-fits k e h in
      record {
        few = omega (arith, c.counted, length-select (in_bounds (length low) (decode_shape b).top low high) (take e (grids_of (decode b).entries)), length-take e (grids_of (decode b).entries), z.count_fits, z.capacity-fits);
        after-head = omega (arith, place);
        inside = omega (arith, place, f.0);
        small = omega (arith, place, f.1);
        wider = cells-inside (length low);
        narrow = omega (arith, z.cells_fit);
      }

  pub counting-next : {found from e : ℕ} {lows spans : List ℕ} {r : Bool} (more : ℕ) → from ≡ line_start (length low) e → CountedBefore b low high found e → e < n →
      IsBounds (length low) (decode_shape b).top low high → BoundTables (length low) low high lows spans →
      LineOutcome r (length (take (from + 3 * length low - from) (drop from b))) (take (from + 3 * length low - from) (drop from b)) (take (from + 3 * length low - 1 - (from - 1)) (drop (from - 1) b)) lows spans →
      more ≡ one_more found r → CountedBefore b low high more (e + 1)
  unfolding line_at
  counting-next {found} {from} {e} {lows} {spans} {r} more place c h i t o m = record {
    counted = m ∙ ap₂ one_more c.counted within ∙ sym (select-snoc (in_bounds (length low) (decode_shape b).top low high) (take e (grids_of (decode b).entries)) (get_or (grids_of (decode b).entries) e [])) ∙ ap (λ (x : List (List ℕ)). length (select (in_bounds (length low) (decode_shape b).top low high) x)) one-more;
  }
    where
      one-more : take e (grids_of (decode b).entries) ++ (get_or (grids_of (decode b).entries) e [] ∷ []) ≡ take (e + 1) (grids_of (decode b).entries)
      one-more = sym (take-suc (grids_of (decode b).entries) e [] (omega (arith, grids-counted b, k.counts))) ∙ ap (λ (j : ℕ). take j (grids_of (decode b).entries)) (sym (add-one e))

      room : Room (length low) found from (length b)
      room = counting-room place c h

      line : List ℕ
      line = take (from + 3 * length low - from) (drop from b)

      before : List ℕ
      before = take (from + 3 * length low - 1 - (from - 1)) (drop (from - 1) b)

      wide : length line ≡ 3 * length low
      wide = length-take-le (from + 3 * length low - from) (drop from b) (omega (arith, room.inside, room.wider, length-drop from b)) ∙ omega arith

      stands : (j : ℕ) → j < 3 * length low → get_or (line_at (length low) b e) j 0 ≡ get_or b (from + j) 0
      stands j m = part_at b (line_start (length low) e) (line_length (length low)) j (omega (arith, room.wider)) ∙ ap (λ (s : ℕ). get_or b (s + j) 0) (sym place)

      same : (j : ℕ) → j < 3 * length low → get_or line j 0 ≡ get_or (line_at (length low) b e) j 0
      same j m = part_at b from (from + 3 * length low - from) j (omega arith) ∙ sym (stands j m)

      earlier : (j : ℕ) → j + 1 < 3 * length low → get_or before (j + 1) 0 ≡ get_or (line_at (length low) b e) j 0
      earlier j m =
          let z : from - 1 + (j + 1) ≡ from + j = omega (arith, room.after-head) in
          part_at b (from - 1) (from + 3 * length low - 1 - (from - 1)) (j + 1) (omega (arith, room.after-head)) ∙ ap (λ (s : ℕ). get_or b s 0) z ∙ sym (stands j (omega arith))

      cells : cells_of (length low) (line_at (length low) b e) ≡ get_or (grids_of (decode b).entries) e []
      cells = rw k.sized (sym (line-grid b e (omega (arith, k.counts))))

      within : r ≡ in_bounds (length low) (decode_shape b).top low high (get_or (grids_of (decode b).entries) e [])
      within =
          let l = entry-line k e h in
          line-within line before l.0 l.1 same earlier t i r (rw wide at o) ∙ ap (in_bounds (length low) (decode_shape b).top low high) cells

  pub counting-all : {found e : ℕ} → CountedBefore b low high found e → n ≤ e → found ≡ length (select (in_bounds (length low) (decode_shape b).top low high) (grids_of (decode b).entries))
  counting-all {found} {e} c h =
      let z = grids-counted b ∙ sym k.counts in
      let a = take_all e (grids_of (decode b).entries) (omega arith) in
      rw a at c.counted
