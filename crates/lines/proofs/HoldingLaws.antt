-- The holdings of an entry's line, read by client.
--
--   holding-inside        ==  a holding's three bytes are inside the line
--   holding-stated        ==  what they state is the client's holding
--   length-after          ==  where one is changed, there is still one for each client
--   after-own, after-other  ==  the changed one, and another's
--   NoneTo c h            ==  no client before c holds anything
--   none_first, none-next, none-all  ==  before the first one; one client more; all of them
--   one-held              ==  a client holds something
use Rattle.std.proofs.Common.{◌≡◌, ℕ, ◌+◌, ◌-◌, ◌*◌, ◌<◌, ◌≤◌, true, false, List, length, get_or, sym, ap, ◌∙◌, true≢false, arith}
use native.Mathlib.Decide.{dec_lt}
use Rattle.permutations.proofs.BoolLaws.{bool-ext}
use Rattle.layout.specs.Layout.{clients, cell_width, entry_width, line_length, number_at, holdings_of, holding, changed, some_held}
use Rattle.layout.proofs.HoldingLaws.{length-changed, holding-changed, holding-other, held-some, some-held}
use Rattle.layout.proofs.LineLaws.{length-holdings, holding-at}

pub holding-inside : (size c : ℕ) → 1 ≤ c → c ≤ clients → cell_width * (size + (c - 1)) + cell_width ≤ line_length size
unfolding line_length entry_width
holding-inside size c a b = omega arith

pub holding-stated : (size : ℕ) (l : List ℕ) (c : ℕ) {x : ℕ} → 1 ≤ c → c ≤ clients → x ≡ number_at cell_width (cell_width * (size + (c - 1))) l → x ≡ holding c (holdings_of size l)
unfolding holding
holding-stated size l c a b e = e ∙ sym (holding-at size l (c - 1) (omega arith))

pub length-after : (size : ℕ) (l : List ℕ) (c x : ℕ) → length (changed c x (holdings_of size l)) ≡ clients
length-after size l c x = length-changed c x (holdings_of size l) ∙ length-holdings size l

pub after-own : (size : ℕ) (l : List ℕ) (c d x : ℕ) → 1 ≤ c → c ≤ clients → d ≡ c → x ≡ holding d (changed c x (holdings_of size l))
after-own size l c d x a b e = rw e (sym (holding-changed c x (holdings_of size l) a (omega (arith, length-holdings size l))))

pub after-other : (h : List ℕ) (c d x : ℕ) {y : ℕ} → 1 ≤ c → 1 ≤ d → (d ≡ c → ⊥) → y ≡ holding d h → y ≡ holding d (changed c x h)
after-other h c d x a b n e = e ∙ sym (holding-other c d x h a b (λ q. n (sym q)))

-- ---- whether anyone holds something

pub record NoneTo (c : ℕ) (h : List ℕ) : Type 0 where
  pub none : (k : ℕ) → k + 1 < c → get_or h k 0 ≡ 0

pub none_first : (h : List ℕ) → NoneTo 1 h
none_first h = record { none = λ k b. absurd (omega arith) }

pub none-next : {c : ℕ} {h : List ℕ} (x : ℕ) → NoneTo c h → x ≡ holding c h → x ≤ 0 → NoneTo (c + 1) h
unfolding holding
none-next {c} {h} x n e z = record { none = λ k b. go k b (dec_lt (k + 1) c) }
  where
    go : (k : ℕ) → k + 1 < c + 1 → Dec (k + 1 < c) → get_or h k 0 ≡ 0
    go k b (yes l) = n.none k l
    go k b (no l) =
        let i : k ≡ c - 1 = omega arith in
        let y : x ≡ 0 = omega arith in
        ap (λ (j : ℕ). get_or h j 0) i ∙ sym e ∙ y

pub none-all : {c : ℕ} {h : List ℕ} → NoneTo c h → clients < c → length h ≡ clients → false ≡ some_held h
unfolding holding
none-all {c} {h} n b l = bool-ext false (some_held h) (λ f. absurd (true≢false (sym f))) λ t.
    let s = held-some h l t in
    absurd (omega (arith, s.1, s.3, n.none (s.0 - 1) (omega (arith, s.1, s.2))))

pub one-held : (h : List ℕ) (c : ℕ) {x : ℕ} → x ≡ holding c h → 0 < x → 1 ≤ c → c ≤ clients → length h ≡ clients → true ≡ some_held h
one-held h c e p a b l = sym (some-held h c (omega arith) a (omega (arith, e, p)))
