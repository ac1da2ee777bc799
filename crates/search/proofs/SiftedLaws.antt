-- The loop that sifts a block, and block after block.
--
--   Going s w c rest i v left  ==  left has the rows that lead for i places of the block, and none of them has a count above i at a value below v
--   going_start, going-keep, going-skip  ==  at first; rows kept; none kept
--   going-low    ==  where none is kept, v is not yet 15
--   going-lone   ==  one row alone is the one that leads to the end of the block
--   at-most-le   ==  no more are counted than there are
--   sifts-none, sifts-block  ==  before the first place all rows lead; a block further
--   sifts-lone   ==  one row alone leads to the end
--   starts_none, starts-next ==  a block starts at 0, and where one ends
use Rattle.std.proofs.Common.{◌≡◌, ℕ, suc, ◌+◌, ◌-◌, ◌<◌, ◌≤◌, leb, ◌↔◌, ap, not-suc-le-zero, arith}
use native.Mathlib.Decide.{ℕ_discrete, dec_le, dec_lt}
use Rattle.branches.specs.Sifting.{at_most, SortedBlock, Leads, Threshold, BlockEnds, Starts, Sifts, NoLater}
use Rattle.branches.proofs.AtMostLaws.{count_most, block_at, at-most-all}
use Rattle.branches.proofs.SiftingLaws.{keep-leads, threshold-same, lone-leads}
use Rattle.search.specs.RowSets.{lane, IsRowSet, HasRow}
use Rattle.search.specs.Sifting.{LeadsTo}
use Rattle.search.proofs.RowSetLaws.{row-found, none-of-zero}

pub record Going (s w : ℕ) (c : ℕ → ℕ → ℕ) (rest i v left : ℕ) : Type 0 where
  pub set : IsRowSet left
  pub some : left ≡ 0 → ⊥
  pub leads : LeadsTo s w i c rest left
  pub none : (u : ℕ) → u < v → (y : ℕ) → HasRow left y → at_most w (c y) u ≤ i

pub going_start : (s w : ℕ) (c : ℕ → ℕ → ℕ) (rest : ℕ) → IsRowSet rest → (rest ≡ 0 → ⊥) → Going s w c rest 0 0 rest
unfolding LeadsTo
going_start s w c rest f ne = record {
  set = f;
  some = ne;
  leads = λ all K b st x. let e : s + 0 ≡ s = omega arith in rw e (st x);
  none = λ u b y m. absurd (omega arith);
}

module _ (s w : ℕ) (c : ℕ → ℕ → ℕ) (rest i v left keep n : ℕ) (iw : i < w) (h : Going s w c rest i v left)
    (rows : (x : ℕ) → HasRow keep x ↔ (HasRow left x × (i < lane x n))) (counts : (x : ℕ) → x < 8 → lane x n ≡ at_most w (c x) v) where
  same : (x : ℕ) → HasRow left x → lane x n ≡ at_most w (c x) v
  unfolding HasRow
  same x m = counts x m.0

  pub going-keep : IsRowSet keep → (keep ≡ 0 → ⊥) → Going s w c rest (i + 1) v keep
  unfolding LeadsTo
  going-keep f ne = record {
    set = f;
    some = ne;
    leads = λ all K b st x. let e : s + (i + 1) ≡ suc (s + i) = omega arith in rw e (onward all K b (h.leads all K b st) x);
    none = λ u b y m. omega (arith, h.none u b y ((rows y).0 m).0);
  }
    where
      found : Threshold (HasRow left) (λ x u. at_most w (c x) u) i v
      found = let r = row-found keep f ne in let m = (rows r.0).0 r.1 in record {
        row = r.0;
        of = m.0;
        more = omega (arith, m.1, same r.0 m.0);
        none = h.none;
      }

      onward : (all : ℕ) (K : ℕ → ℕ → ℕ) → ((x : ℕ) → HasRow all x → SortedBlock s w (c x) (K x)) → ((x : ℕ) → HasRow left x ↔ Leads (s + i) (HasRow all) K x) → (x : ℕ) → HasRow keep x ↔ Leads (suc (s + i)) (HasRow all) K x
      onward all K b ih x = (
        (λ a. let m = (rows x).0 a in step.0 ((ih x).0 m.0, omega (arith, m.1, same x m.0))),
        (λ a. let m = step.1 a in let l = (ih x).1 m.0 in (rows x).1 (l, omega (arith, m.1, same x l))),
      )
        where
          step : (Leads (s + i) (HasRow all) K x × (i < at_most w (c x) v)) ↔ Leads (suc (s + i)) (HasRow all) K x
          step =
              keep-leads (s + i) (HasRow all) K (λ y u. at_most w (c y) u) i v (λ y r u. block_at s w (c y) (K y) (b y r) i u iw)
              (threshold-same (HasRow left) (Leads (s + i) (HasRow all) K) (λ y u. at_most w (c y) u) i v ih found) x

  -- where none is kept
  none_more : keep ≡ 0 → (y : ℕ) → HasRow left y → i < at_most w (c y) v → ⊥
  none_more z y m b = none-of-zero keep y z ((rows y).1 (m, omega (arith, b, same y m)))

  pub going-skip : keep ≡ 0 → Going s w c rest i (v + 1) left
  going-skip z = record {
    set = h.set;
    some = h.some;
    leads = h.leads;
    none = λ u b y m. go u b y m (ℕ_discrete u v) (dec_le (at_most w (c y) u) i);
  }
    where
      go : (u : ℕ) → u < v + 1 → (y : ℕ) → HasRow left y → Dec (u ≡ v) → Dec (at_most w (c y) u ≤ i) → at_most w (c y) u ≤ i
      go u b y m d (yes a) = a
      go u b y m (yes e) (no a) = absurd (none_more z y m (omega (arith, ap (λ (k : ℕ). at_most w (c y) k) e)))
      go u b y m (no ne) (no a) = h.none u (omega arith) y m

  pub going-low : keep ≡ 0 → ((x j : ℕ) → x < 8 → c x j ≤ 15) → v < 15
  unfolding HasRow
  going-low z cap = go (dec_lt v 15)
    where
      go : Dec (v < 15) → v < 15
      go (yes a) = a
      go (no a) = let r = row-found left h.set h.some in
          absurd (none_more z r.0 r.1 (omega (arith, at-most-all w (c r.0) v (λ j b. omega (arith, cap r.0 j r.1.0)))))

pub at-most-le : (w : ℕ) (c : ℕ → ℕ) (v : ℕ) → at_most w c v ≤ w
unfolding at_most
at-most-le w c v = count_most w (λ j. leb (c j) v)

pub going-lone : (s w : ℕ) (c : ℕ → ℕ → ℕ) (rest i v left : ℕ) → i ≤ w → Going s w c rest i v left → ((x y : ℕ) → HasRow left x → HasRow left y → x ≡ y) → LeadsTo s w w c rest left
unfolding LeadsTo
going-lone s w c rest i v left iw h lone all K b st x = (λ a. on.0 ((ih x).0 a), λ a. (ih x).1 (on.1 a))
  where
    ih : (y : ℕ) → HasRow left y ↔ Leads (s + i) (HasRow all) K y
    ih = h.leads all K b st

    r : (y : ℕ) × HasRow left y
    r = row-found left h.set h.some

    on : Leads (s + i) (HasRow all) K x ↔ Leads (s + w) (HasRow all) K x
    on =
        lone-leads (s + i) (s + w) (HasRow all) K r.0 (omega arith) ((ih r.0).0 r.1)
        (λ y l. lone y r.0 ((ih y).1 l) r.1) x

-- ---- block after block

pub sifts-none : (n : ℕ) (ends : ℕ → ℕ) (c : ℕ → ℕ → ℕ → ℕ) (rest : ℕ) → Sifts n ends c (HasRow rest) 0 (HasRow rest)
unfolding Sifts NoLater
sifts-none n ends c rest K b x = (λ a. record { of = a; least = λ y d t t0. absurd (not-suc-le-zero t0) }, λ a. a.of)

pub starts_none : (ends : ℕ → ℕ) → Starts ends 0
unfolding Starts
starts_none ends p b = absurd (omega arith)

module _ (n : ℕ) (ends : ℕ → ℕ) (b : BlockEnds n ends) (s e : ℕ) (sn : s < n) (es : e ≡ ends s) where
  pub starts-next : Starts ends s → Starts ends e
  unfolding Starts
  starts-next st p pe = go (dec_lt p s)
    where
      go : Dec (p < s) → ends p ≤ e
      go (yes h) = omega (arith, st p h, b.further s sn)
      go (no h) = omega (arith, b.same s p sn (omega arith) (omega arith))

  pub sifts-block : (c : ℕ → ℕ → ℕ → ℕ) (rest left r : ℕ) → Starts ends s → Sifts n ends c (HasRow rest) s (HasRow left) → LeadsTo s (e - s) (e - s) (c s) left r →
      Sifts n ends c (HasRow rest) e (HasRow r)
  unfolding Sifts LeadsTo
  sifts-block c rest left r st h g K d x =
      let far : s + (e - s) ≡ e = omega (arith, b.further s sn) in
      let blocks : (y : ℕ) → HasRow rest y → SortedBlock s (e - s) (c s y) (K y) = rw es (d s sn st) in
      rw far at (g rest K blocks (h K d) x)

pub sifts-lone : (n : ℕ) (ends : ℕ → ℕ) (c : ℕ → ℕ → ℕ → ℕ) (rest s left : ℕ) → s ≤ n → IsRowSet left → (left ≡ 0 → ⊥) →
    ((x y : ℕ) → HasRow left x → HasRow left y → x ≡ y) → Sifts n ends c (HasRow rest) s (HasRow left) → Sifts n ends c (HasRow rest) n (HasRow left)
unfolding Sifts
sifts-lone n ends c rest s left sn f ne lone h K d x = (λ a. on.0 ((h K d x).0 a), λ a. (h K d x).1 (on.1 a))
  where
    r : (y : ℕ) × HasRow left y
    r = row-found left f ne

    on : Leads s (HasRow rest) K x ↔ Leads n (HasRow rest) K x
    on = lone-leads s n (HasRow rest) K r.0 sn ((h K d r.0).0 r.1) (λ y l. lone y r.0 ((h K d y).1 l) r.1) x
