-- What the search finds where all rows are placed, or all but one that makes no difference.
--
--   reached-new   ==  a new best: the row order at hand
--   reached-copy  ==  an arrangement that equals the best: where the two row orders part, and the symmetries known
--   last-equal    ==  where one row is left and the best's last row is the least, the two arrangements are equal
--   last-copy     ==  so that the branch is searched
use Rattle.std.proofs.Common.{◌≡◌, ℕ, suc, ◌+◌, ◌<◌, ◌≤◌, Bool, true, false, List, get_or, take, sym, refl, ap, ◌∙◌, inl, inr, true≢false, arith, get_or-take, length}
use native.Mathlib.Decide.{ℕ_discrete}
use Rattle.permutations.specs.declared.rows.RowNumber.{RowNumber}
use Rattle.permutations.specs.Permutations.{swapped}
use Rattle.permutations.specs.Padded.{IsPadded}
use Rattle.permutations.specs.Sums.{sum_to}
use Rattle.grids.proofs.OrderLaws.{≼_refl}
use Rattle.branches.specs.Branches.{Begins, Covers, IsNext}
use Rattle.branches.specs.SortedRows.{PlacesBy, sorted_rows, IsApart}
use Rattle.branches.proofs.BranchLaws.{covers-next, covers-agree, placed-stay, placed-next}
use Rattle.branches.proofs.SortedRows.{sorted-agree, sorted-placed}
use Rattle.branches.proofs.RefinedLaws.{places-agree}
use Rattle.branches.proofs.ApartLaws.{apart-is}
use Rattle.search.specs.declared.node.Node.{Node}
use Rattle.search.specs.declared.found.Found.{Found}
use Rattle.search.specs.Search.{keys_of, is_ready, rows_of, Follows, Standing, Matched, Alike, Outcome}
use Rattle.search.proofs.PlaceLaws.{Following, Started, known-still}

-- an arrangement by the order p that equals the best's, of which so much is found
module _ {m n : ℕ} {g p : List ℕ} (o : IsPadded 8 m p) (before f : Found) (same : sorted_rows m n g (rows_of before.best) ≡ sorted_rows m n g p) (h : Matched m n g p before f) where
  first : (i : ℕ) → i < m → get_or (take m p) i 0 ≡ get_or p i 0
  first i im = get_or-take m p i 0 im

  pub alike-best : (k : ℕ) → k ≤ m → f.back < m → Alike m n g k p (rows_of before.best) f.back
  unfolding Begins
  alike-best k km l = record {
    rows = take m p;
    row-permutation = o.permutation;
    begins = λ i ik. first i (omega arith);
    gives = sorted-agree m n g (take m p) p first ∙ sym same;
    agrees = λ i ib. first i (omega arith) ∙ h.back.same i ib;
    parts = λ e. h.back.parts l (sym (first f.back l) ∙ e);
  }

module _ {m n : ℕ} {g : List ℕ} {two : Bool} {low : ℕ} {y w x : List ℕ} {node : Node} {before : Found} (s : Standing m n g two low y w x node before) where
  abbrev p : List ℕ
  p = rows_of node.rows

  module _ (end : node.placed ≡ m) where
    places : PlacesBy m n g p node.after.counts
    places = rw end at s.places

    pub reached-new : node.fresh ≡ true → (f : Found) → f.best ≡ node.rows → f.after.counts ≡ node.after.counts → (two ≡ true → keys_of f.keys ≡ keys_of before.keys) → length (keys_of f.keys) ≡ 8 → is_ready f.keys ≡ two → f.back ≡ before.back → f.symmetries ≡ before.symmetries →
        f.apart ≡ sum_to 16 (λ c. get_or node.after.counts c 0) → Outcome m n g two low node.placed p node.fresh before f
    unfolding Begins IsApart
    reached-new z f b c k kz r l v e = record {
      known = record { rows = rw b s.rows; keys = λ t i im. rw (k (sym r ∙ t), b) (s.keys (sym r ∙ t) i (omega (arith, end))); places = rw (b, c) places };
      keys-size = kz;
      ready = λ t. r ∙ t;
      leading = ap (λ (o : List RowNumber). sorted_rows node.placed n g (rows_of o)) b;
      lower = λ t. absurd (true≢false (sym z ∙ t));
      from = inr (λ i im. ap (λ (o : List RowNumber). get_or (rows_of o) i 0) b);
      covers = λ t. rw end (sorted-placed m n g p (rows_of f.best) (ap (λ (o : List RowNumber). sorted_rows m n g (rows_of o)) b));
      alike = λ t. absurd (omega (arith, end, l, s.back));
      back = omega (arith, l, s.back);
      pairs = inr (e ∙ apart-is m n g (take m p) node.after.counts s.tables.columns-fit s.rows.permutation (record { size = places.size; holds = λ d d16. places.holds d d16 ∙ places-agree m n g p (take m p) (λ i im. sym (get_or-take m p i 0 im)) d }));
      symmetries = rw v s.symmetries;
    }

    pub reached-copy : node.fresh ≡ false → (f : Found) → Matched m n g p before f → Outcome m n g two low node.placed p node.fresh before f
    unfolding Begins
    reached-copy z f h = record {
      known = known-still before f h.best h.after h.keys (λ t. sym h.ready ∙ t) fw.known;
      keys-size = rw h.keys s.keys-size;
      ready = λ t. h.ready ∙ s.ready t;
      leading = rw h.best fw.leading;
      lower = λ t. rw h.best (≼_refl (sorted_rows m n g (rows_of before.best)));
      from = inl (z, ap rows_of h.best);
      covers = λ t. rw (h.best, end) (sorted-placed m n g p (rows_of before.best) same);
      alike = λ t. rw h.best (alike-best s.rows before f same h node.placed (omega (arith, end)) (omega (arith, end)));
      back = h.back.up_to;
      pairs = rw h.apart s.pairs;
      symmetries = h.symmetries;
    }
      where
        fw : Follows m n g two low node.placed p before
        fw = s.follows z

        same : sorted_rows m n g (rows_of before.best) ≡ sorted_rows m n g p
        same = rw end at fw.leading

  -- one row is left
  module _ (km : node.placed < m) (one : node.placed + 1 ≡ m) {chosen : ℕ} {now : Found} {covered : ℕ} (h : Following m n g two low node.placed p node.fresh before chosen node.placed false now covered) where
    abbrev k : ℕ
    k = node.placed

    started : Started m n g two low k p node.fresh before chosen k now covered
    started = h.started refl

    -- the row left stands where it is placed
    stays : (i : ℕ) → i < m → get_or (swapped p k k) i 0 ≡ get_or p i 0
    stays i im = go (ℕ_discrete i k)
      where
        go : Dec (i ≡ k) → get_or (swapped p k k) i 0 ≡ get_or p i 0
        go (yes e) = rw e (placed-next m n g k p s.tables.rows_fit km s.rows k km)
        go (no ne) = placed-stay m n g k p s.tables.rows_fit km s.rows k (omega arith) i (omega arith)

    last-next : IsNext m n g k p k
    last-next = record {
      left = omega arith;
      within = km;
      least = λ u ku um. let e : u ≡ k = omega arith in rw e (≼_refl (sorted_rows (suc k) n g (swapped p k k)));
    }

    pub last-equal : sorted_rows m n g (rows_of now.best) ≡ sorted_rows m n g p
    last-equal = let e : suc k ≡ m = omega arith in rw e at (started.next k last-next) ∙ sorted-agree m n g (swapped p k k) p stays

    pub last-copy : (f : Found) → Matched m n g p now f → Outcome m n g two low k p node.fresh before f
    unfolding Begins
    last-copy f c = record {
      known = known-still now f c.best c.after c.keys (λ t. sym c.ready ∙ t) started.known;
      keys-size = rw c.keys h.keys-size;
      ready = λ t. c.ready ∙ h.ready t;
      leading = rw c.best started.leading;
      lower = λ t. rw c.best (started.lower t);
      from = rw c.best started.from;
      covers = λ t. rw c.best (covers-next m n g k p s.tables.rows_fit km s.rows (sorted_rows m n g (rows_of now.best)) each);
      alike = λ t. rw c.best (alike-best s.rows now f last-equal c k (omega arith) (omega arith));
      back = c.back.up_to;
      pairs = rw c.apart h.pairs;
      symmetries = c.symmetries;
    }
      where
        each : (t : ℕ) → k ≤ t → t < m → Covers m n g (suc k) (swapped p k t) (sorted_rows m n g (rows_of now.best))
        each t kt tm =
            let e : t ≡ k = omega arith in
            let z : suc k ≡ m = omega arith in
            rw (e, z) (covers-agree m n g m p (swapped p k k) (sorted_rows m n g (rows_of now.best)) stays (sorted-placed m n g p (rows_of now.best) last-equal))
