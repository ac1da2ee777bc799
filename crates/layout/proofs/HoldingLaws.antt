-- Holdings by client: one changed, all 0, and whether anyone holds something.
--
--   length-changed, holding-changed, holding-other  ==  where one is changed: how many there are, the one, and another client's
--   length_none, none-at, holding-none  ==  holdings that are all 0
--   first-fitted       ==  an entry that one client alone holds, once, has a holding for each client
--   holdings-ext       ==  holdings are equal where every client's are
--   held-some, some-held, none-held  ==  not all are 0 exactly where some client's is not
use mathlib.Core.Path.{◌≡◌, refl, sym, ap, ◌∙◌}
use mathlib.Core.List.{List}
use mathlib.Core.Bool.{true, false, true≢false}
use Prim.Native.Nat.{ℕ, zero, suc, ◌+◌, ◌-◌, ◌≤◌, ◌<◌}
use native.Mathlib.Decide.{dec_lt}
use native.Mathlib.Omega.{arith}
use lib.ListN.{length, get_or, replicate, length-set, length-replicate}
use lib.Seq.{get_or-set_same, get_or-set_other}
use lib.Dec.{ltb}
use borrow.Author.Tests.{ltb-true, lt-ltb}
use Rattle.permutations.proofs.ListLaws.{tabulate-ext, tabulate-get_or, mem-at, of_mem, some_at, at_some}
use Rattle.layout.specs.Layout.{clients, no_holdings, holding, changed, some_held}
use Rattle.layout.specs.Lines.{first_entry}
use Rattle.layout.proofs.LayoutLaws.{Fitted}

-- ---- one client's

pub length-changed : (c x : ℕ) (h : List ℕ) → length (changed c x h) ≡ length h
unfolding changed
length-changed c x h = length-set h (c - 1) x

pub holding-changed : (c x : ℕ) (h : List ℕ) → 1 ≤ c → c ≤ length h → holding c (changed c x h) ≡ x
unfolding changed holding
holding-changed c x h low high = get_or-set_same h (c - 1) x 0 (omega arith)

pub holding-other : (c k x : ℕ) (h : List ℕ) → 1 ≤ c → 1 ≤ k → (c ≡ k → ⊥) → holding k (changed c x h) ≡ holding k h
unfolding changed holding
holding-other c k x h a b n = get_or-set_other h (c - 1) (k - 1) x 0 (λ e. n (omega arith))

zero-at : (n i : ℕ) → get_or {A = ℕ} (replicate n 0) i 0 ≡ 0
zero-at zero i = refl
zero-at (suc n) zero = refl
zero-at (suc n) (suc i) = zero-at n i

pub none-at : (i : ℕ) → get_or no_holdings i 0 ≡ 0
none-at i = zero-at clients i

pub holding-none : (c : ℕ) → holding c no_holdings ≡ 0
unfolding holding
holding-none c = none-at (c - 1)

pub length_none : length no_holdings ≡ clients
length_none = length-replicate {A = ℕ} clients 0

pub first-fitted : (c : ℕ) (g : List ℕ) → Fitted (length g) (first_entry c g)
first-fitted c g = record { cells = refl; held = length-changed c 1 no_holdings ∙ length_none }

-- ---- all of them

pub holdings-ext : (g h : List ℕ) → length g ≡ clients → length h ≡ clients → ((k : ℕ) → 1 ≤ k → k ≤ clients → holding k g ≡ holding k h) → g ≡ h
unfolding holding
holdings-ext g h a b same =
    sym (tabulate-get_or 0 g clients a)
    ∙ tabulate-ext 0 clients _ _ (λ i l. let e : i + 1 - 1 ≡ i = omega arith in rw e at (same (i + 1) (omega arith) (omega arith)))
    ∙ tabulate-get_or 0 h clients b

pub held-some : (h : List ℕ) → length h ≡ clients → some_held h ≡ true → (k : ℕ) × (1 ≤ k) × (k ≤ clients) × (0 < holding k h)
unfolding some_held holding
held-some h z t =
    let s = some_at (λ x. ltb 0 x) h t in
    let m = of_mem h 0 s.0 s.1 in
    let e : m.0 + 1 - 1 ≡ m.0 = omega arith in
    (m.0 + 1, omega arith, omega (arith, m.1, z), rw e (ltb-true 0 (get_or h m.0 0) (ap (ltb 0) (sym m.2) ∙ s.2)))

pub some-held : (h : List ℕ) (k : ℕ) → k ≤ length h → 1 ≤ k → 0 < holding k h → some_held h ≡ true
unfolding some_held holding
some-held h k inside low p = at_some (λ x. ltb 0 x) h (get_or h (k - 1) 0) (mem-at h 0 (k - 1) (omega arith)) (lt-ltb 0 (get_or h (k - 1) 0) p)

pub none-held : (h : List ℕ) → length h ≡ clients → some_held h ≡ false → h ≡ no_holdings
none-held h z t = holdings-ext h no_holdings z length_none (λ k a b. go k a b (dec_lt 0 (holding k h)) ∙ sym (holding-none k))
  where
    go : (k : ℕ) → 1 ≤ k → k ≤ clients → Dec (0 < holding k h) → holding k h ≡ 0
    go k a b (yes p) = absurd (true≢false (sym (some-held h k (omega arith) a p) ∙ t))
    go k a b (no p) = omega arith
