-- The turns of `place`'s loop, and what comes before it.
--
--   thins-itself    ==  a set of rows is as good as itself
--   node-left       ==  the rows left at a node
--   some_next       ==  the set of the rows that give the least next row is not empty
--   Begun           ==  all that holds before the loop, of what is found so far, whatever was the best before it
--   begun_kept, begun-written, begun-either  ==  so it is: where no key is written, where the next one is, and in either case
--   begun-order, begun-equal, begun-copy  ==  where one row is left that makes no difference, the best's row order is one of all rows, the two arrangements are equal, and the branch is searched
--   back_at f m      ==  f that goes back to m
--   Turn            ==  all that holds before a turn of the loop, whatever was the best before it
--   turn-row, turn-row-below  ==  the number of the row at position t, and that it is below 8
--   turn-first, turn-skip, turn-stands, turn-back, turn-next, turn-all  ==  the steps of PlaceLaws, of a turn
use Rattle.std.proofs.Common.{◌≡◌, ℕ, suc, ◌+◌, ◌<◌, ◌≤◌, Bool, true, false, ◌⊎◌, List, get_or, set, sym, refl, ◌∙◌, inl, inr, true≢false}
use Rattle.permutations.specs.declared.rows.RowNumber.{RowNumber}
use Rattle.permutations.specs.Permutations.{swapped}
use Rattle.permutations.specs.Padded.{IsPadded}
use Rattle.permutations.specs.Rows.{row_number}
use Rattle.branches.specs.Branches.{Next, IsNext}
use Rattle.branches.specs.SortedRows.{sorted_rows}
use Rattle.search.specs.declared.node.Node.{Node}
use Rattle.search.specs.declared.node.Candidates.{Candidates}
use Rattle.search.specs.declared.found.Found.{Found}
use Rattle.search.specs.RowSets.{IsRowSet, HasRow, Thins}
use Rattle.search.specs.Domination.{Left}
use Rattle.search.specs.Search.{keys_of, is_ready, keyed_at, rows_of, SpreadsWith, Standing, AtNode, NextRows, Deeper, IsFollowed, Matched, Cuts, Lowers, Outcome}
use Rattle.search.proofs.RowSetLaws.{none-set, none-of-zero}
use Rattle.search.proofs.SymmetryLaws.{row_at, row_below}
use Rattle.search.proofs.PlaceLaws.{keys_with-ready, keys_with-are, keys_with-size, Following, outcome-for, following-first, following-skip, followed-stands, followed-back, following-next, followed-all}
use Rattle.search.proofs.ReachedLaws.{last-equal, last-copy}

-- ---- the rows chosen

pub thins-itself : {m n : ℕ} {g : List ℕ} {k : ℕ} {p : List ℕ} {s : ℕ} → IsRowSet s → Thins m n g k p s s
unfolding Next
thins-itself set = record { set = set; fewer = λ x h. h; as-good = λ t kt tm h. (t, kt, tm, h, λ r c. c) }

pub node-left : {m n : ℕ} {g : List ℕ} {two : Bool} {low : ℕ} {y w x : List ℕ} {node : Node} → AtNode m n g two low y w x node → Left m n g y w node.placed (rows_of node.rows) node.after.counts node.rest.bytes
node-left s = record {
  rows_fit = s.tables.rows_fit;
  columns-fit = s.tables.columns-fit;
  size = s.tables.size;
  small = s.tables.valued.small;
  by_rows = s.tables.by_rows;
  by-columns = s.tables.by-columns;
  placed-fits = s.placed-fits;
  order = s.rows;
  places = s.places;
  left = s.rest;
}

pub some_next : {m n : ℕ} {g : List ℕ} {two : Bool} {low : ℕ} {y : List ℕ} {node : Node} {c : Candidates} → NextRows m n g two low y node c → c.rows.bytes ≡ 0 → ⊥
some_next {c = c} h e = none-of-zero c.rows.bytes _ e (h.every h.some.0 h.some.1)

-- ---- before the loop

pub record Begun (m n : ℕ) (g : List ℕ) (two : Bool) (low : ℕ) (y w x : List ℕ) (node : Node) (c : Candidates) (old : Found) (new : Bool) (now : Found) : Type 0 where
  pub before : Found
  pub stands : Standing m n g two low y w x node before
  pub within : node.placed < m
  pub next : NextRows m n g two low y node c
  pub same-best : before.best ≡ old.best
  pub kept-best : before.best ≡ now.best
  pub following : (chosen : ℕ) → Following m n g two low node.placed (rows_of node.rows) node.fresh before chosen node.placed new now 0

module _ {m n : ℕ} {g : List ℕ} {two : Bool} {low : ℕ} {y w x : List ℕ} {node : Node} {c : Candidates} {before old : Found} {known : ℕ} {b new written : Bool} (s : Standing m n g two low y w x node before) (km : node.placed < m)
    (next : NextRows m n g two low y node c) (same : before.best ≡ old.best) (ready : node.fresh ≡ false → is_ready before.keys ≡ true) (e : known ≡ get_or (keys_of before.keys) node.placed 0) (cuts : Cuts node.fresh known c.key b)
    (uncut : b ≡ false) (lowers : Lowers node.fresh known c.key new) (writes : (written ≡ true → new ≡ true) × (two ≡ true → new ≡ true → written ≡ true)) where
  pub begun_kept : written ≡ false → Begun m n g two low y w x node c old new before
  begun_kept z = record {
    before = before;
    stands = s;
    within = km;
    next = next;
    same-best = same;
    kept-best = refl;
    following = λ chosen. following-first s km c next chosen known b new before 0 ready e cuts uncut lowers refl refl refl refl refl refl
        (λ v. refl) (λ v u. absurd (true≢false (sym (writes.1 v u) ∙ z))) s.keys-size (λ r. none-of-zero 0 r refl);
  }

  pub begun-written : written ≡ true → Begun m n g two low y w x node c old new (keyed_at before node.placed c.key)
  begun-written z = record {
    before = before;
    stands = s;
    within = km;
    next = next;
    same-best = same;
    kept-best = refl;
    following = λ chosen. following-first s km c next chosen known b new (keyed_at before node.placed c.key) 0 ready e cuts uncut lowers refl refl (keys_with-ready _ _ before.keys) refl refl refl
        (λ v. absurd (true≢false (sym (writes.0 z) ∙ v))) (λ v u. keys_with-are _ _ before.keys (s.ready v)) (keys_with-size _ _ before.keys s.keys-size) (λ r. none-of-zero 0 r refl);
  }

  pub begun-either : {now : Found} → ((written ≡ true) × (now ≡ keyed_at before node.placed c.key)) ⊎ ((written ≡ false) × (now ≡ before)) → Begun m n g two low y w x node c old new now
  begun-either (inl h) = rw h.1 (begun-written h.0)
  begun-either (inr h) = rw h.1 (begun_kept h.0)

module _ {m n : ℕ} {g : List ℕ} {two : Bool} {low : ℕ} {y w x : List ℕ} {node : Node} {c : Candidates} {old : Found} {new : Bool} {now : Found} (h : Begun m n g two low y w x node c old new now) (one : node.placed + 1 ≡ m) (z : new ≡ false) where
  begun : Following m n g two low node.placed (rows_of node.rows) node.fresh h.before 0 node.placed false now 0
  begun = rw z at (h.following 0)

  pub begun-order : IsPadded 8 m (rows_of now.best)
  begun-order = (begun.started refl).known.rows

  pub begun-equal : sorted_rows m n g (rows_of now.best) ≡ sorted_rows m n g (rows_of node.rows)
  begun-equal = last-equal h.stands h.within one begun

  pub begun-copy : (f : Found) → Matched m n g (rows_of node.rows) now f → Outcome m n g two low node.placed (rows_of node.rows) node.fresh old f
  begun-copy f d = outcome-for h.before old f h.same-best (last-copy h.stands h.within one begun f d)

-- ---- the loop

abbrev pub back_at : Found → ℕ → Found
back_at f m = record { best = f.best; after = f.after; keys = f.keys; symmetries = f.symmetries; back = m; apart = f.apart }

pub record Turn (m n : ℕ) (g : List ℕ) (two : Bool) (low : ℕ) (y w x : List ℕ) (node : Node) (c : Candidates) (chosen : ℕ) (best : List RowNumber) (t : ℕ) (new : Bool) (now : Found) (covered : ℕ) : Type 0 where
  pub before : Found
  pub stands : Standing m n g two low y w x node before
  pub within : node.placed < m
  pub next : NextRows m n g two low y node c
  pub thins : Thins m n g node.placed (rows_of node.rows) c.rows.bytes chosen
  pub same-best : before.best ≡ best
  pub set : IsRowSet covered
  pub following : Following m n g two low node.placed (rows_of node.rows) node.fresh before chosen t new now covered

pub turn-first : {m n : ℕ} {g : List ℕ} {two : Bool} {low : ℕ} {y w x : List ℕ} {node : Node} {c : Candidates} {chosen : ℕ} {old : Found} {new : Bool} {now : Found} → Begun m n g two low y w x node c old new now →
    Thins m n g node.placed (rows_of node.rows) c.rows.bytes chosen → Turn m n g two low y w x node c chosen now.best node.placed new now 0
turn-first {chosen = chosen} h thins = record {
  before = h.before;
  stands = h.stands;
  within = h.within;
  next = h.next;
  thins = thins;
  same-best = h.kept-best;
  set = none-set;
  following = h.following chosen;
}

module _ {m n : ℕ} {g : List ℕ} {two : Bool} {low : ℕ} {y w x : List ℕ} {node : Node} {c : Candidates} {chosen : ℕ} {best : List RowNumber} {t : ℕ} {new : Bool} {now : Found} {covered : ℕ} (tm : t < m)
    (h : Turn m n g two low y w x node c chosen best t new now covered) where
  abbrev k : ℕ
  k = node.placed

  abbrev p : List ℕ
  p = rows_of node.rows

  -- the next turn, from what holds before it
  turned : (t' : ℕ) (new' : Bool) (now' : Found) (covered' : ℕ) → IsRowSet covered' → Following m n g two low k p node.fresh h.before chosen t' new' now' covered' → Turn m n g two low y w x node c chosen best t' new' now' covered'
  turned t' new' now' covered' set f = record {
    before = h.before;
    stands = h.stands;
    within = h.within;
    next = h.next;
    thins = h.thins;
    same-best = h.same-best;
    set = set;
    following = f;
  }

  -- the row at position t
  pub turn-row : row_number (get_or node.rows t record { 0 = 0 }) ≡ get_or p t 0
  turn-row = row_at node.rows t

  pub turn-row-below : row_number (get_or node.rows t record { 0 = 0 }) < 8
  turn-row-below = row_below m node.rows t h.stands.tables.rows_fit tm h.stands.rows

  module _ (b : Bool) (f : IsFollowed chosen covered (row_number (get_or node.rows t record { 0 = 0 })) b) where
    told : IsFollowed chosen covered (get_or p t 0) b
    told = rw turn-row at f

    pub turn-skip : b ≡ false → Turn m n g two low y w x node c chosen best (t + 1) new now covered
    turn-skip z = turned (t + 1) new now covered h.set (following-skip h.stands h.within chosen t new now covered tm h.following (told.passed_over z))

    module _ (z : b ≡ true) (d : Node) (u : Deeper m y node t new d) where
      marked : HasRow chosen (get_or p t 0)
      marked = told.has z

      is-next : IsNext m n g k p t
      is-next = h.next.only t h.following.first tm (h.thins.fewer (get_or p t 0) marked)

      pub turn-stands : Standing m n g two low y w x d now
      turn-stands = followed-stands h.stands h.within chosen t new now covered tm h.following marked is-next d u.rows u.placed u.refined u.rest u.same-fresh

      module _ (out : Found) (o : Outcome m n g two low d.placed (rows_of d.rows) d.fresh now out) where
        came : Outcome m n g two low (suc k) (swapped p k t) new now out
        came = rw (u.placed, u.rows, u.same-fresh) at o

        pub turn-back : out.back < k → (old : Found) → best ≡ old.best → Outcome m n g two low k p node.fresh old out
        turn-back l old same = outcome-for h.before old out (h.same-best ∙ same) (followed-back h.stands h.within chosen t new now covered tm h.following marked is-next out came l)

        pub turn-next : k ≤ out.back → (covered' : ℕ) → SpreadsWith m n g k p covered (row_number (get_or node.rows t record { 0 = 0 })) covered' → Turn m n g two low y w x node c chosen best (t + 1) false (back_at out m) covered'
        turn-next l covered' spread =
            turned (t + 1) false (back_at out m) covered' spread.set
            (following-next h.stands h.within chosen t new now covered tm h.following marked is-next out came (back_at out m) refl refl refl refl refl refl refl covered' (rw turn-row at spread) l)

pub turn-all : {m n : ℕ} {g : List ℕ} {two : Bool} {low : ℕ} {y w x : List ℕ} {node : Node} {c : Candidates} {chosen : ℕ} {best : List RowNumber} {t : ℕ} {new : Bool} {now : Found} {covered : ℕ} → m ≤ t →
    Turn m n g two low y w x node c chosen best t new now covered → (old : Found) → best ≡ old.best → Outcome m n g two low node.placed (rows_of node.rows) node.fresh old now
turn-all {c = c} {chosen} {t = t} {new} {now} {covered} mt h old same =
    outcome-for h.before old now (h.same-best ∙ same) (followed-all h.stands h.within c h.next chosen t new now covered mt h.thins h.following)
