-- Laws of tables with three bytes for each cell.
--
--   length-put                ==  a table keeps its length
--   cells-none, cells-next    ==  no cell, and a cell more
--   thirds-at                 ==  the bytes of a cell
use Rattle.std.proofs.Common.{◌≡◌, ℕ, ◌+◌, ◌*◌, ◌<◌, ◌≤◌, List, length, get_or, set, ◌∙◌, not-suc-le-zero, arith, length-set, get_or-set_other, get_or-set_same}
use native.Mathlib.Decide.{dec_lt}
use Rattle.lines.specs.Tables.{put, Cellwise, Thirds}

pub length-put : (table : List ℕ) (k a b c : ℕ) → length (put table k a b c) ≡ length table
unfolding put
length-put table k a b c = length-set (set (set table (3 * k) a) (3 * k + 1) b) (3 * k + 2) c ∙ length-set (set table (3 * k) a) (3 * k + 1) b ∙ length-set table (3 * k) a

pub cells-none : (table : List ℕ) (a b : ℕ) (P : ℕ → ℕ → Type 0) → Cellwise table 0 a b P
cells-none table a b P k l = absurd (not-suc-le-zero l)

pub cells-next : (table : List ℕ) (n a b c : ℕ) (P : ℕ → ℕ → Type 0) → 3 * n + 3 ≤ length table → P n c → Cellwise table n a b P → Cellwise (put table n a b c) (n + 1) a b P
unfolding put
cells-next table n a b c P room last h k l = go (dec_lt k n)
  where
    one : List ℕ
    one = set table (3 * n) a

    two : List ℕ
    two = set one (3 * n + 1) b

    three : List ℕ
    three = set two (3 * n + 2) c

    long-one : length one ≡ length table
    long-one = length-set table (3 * n) a

    long-two : length two ≡ length table
    long-two = length-set one (3 * n + 1) b ∙ long-one

    old : (j : ℕ) → j < 3 * n → get_or three j 0 ≡ get_or table j 0
    old j m =
        get_or-set_other two (3 * n + 2) j c 0 (λ e. omega (arith, m, e))
        ∙ get_or-set_other one (3 * n + 1) j b 0 (λ e. omega (arith, m, e))
        ∙ get_or-set_other table (3 * n) j a 0 (λ e. omega (arith, m, e))

    go : Dec (k < n) → (get_or three (3 * k) 0 ≡ a) × (get_or three (3 * k + 1) 0 ≡ b) × P k (get_or three (3 * k + 2) 0)
    go (yes m) =
        let g = h k m in
        (old (3 * k) (omega arith) ∙ g.0, old (3 * k + 1) (omega arith) ∙ g.1, rw (old (3 * k + 2) (omega arith)) g.2)
    go (no m) =
        let e : k ≡ n = omega (arith, l) in
        rw e (
          get_or-set_other two (3 * n + 2) (3 * n) c 0 (λ e. omega (arith, e)) ∙ get_or-set_other one (3 * n + 1) (3 * n) b 0 (λ e. omega (arith, e)) ∙ get_or-set_same table (3 * n) a 0 (omega (arith, room)),
          get_or-set_other two (3 * n + 2) (3 * n + 1) c 0 (λ e. omega (arith, e)) ∙ get_or-set_same one (3 * n + 1) b 0 (omega (arith, room, long-one)),
          rw (get_or-set_same two (3 * n + 2) c 0 (omega (arith, room, long-two))) last,
        )

pub thirds-at : (table : List ℕ) (n a b : ℕ) (f : ℕ → ℕ) (k : ℕ) → Thirds table n a b f → k < n → (get_or table (3 * k) 0 ≡ a) × (get_or table (3 * k + 1) 0 ≡ b) × (get_or table (3 * k + 2) 0 ≡ f k)
thirds-at table n a b f k h l = h k l
