-- Laws of the counts of levels.
--
--   tally-zero    ==  of no columns
--   tally-is      ==  as the theory of sifting counts
--   column-small  ==  a column of a list is one of 16
--   level-word    ==  a word of a table of levels is one of levels
--   levels-cap    ==  levels are at most 15
--   counted-sum   ==  the bytes of a count to which the column at place u is added
--   level-words   ==  the words of a table by columns have levels in their bytes
use Rattle.std.proofs.Common.{◌≡◌, ℕ, zero, suc, ◌+◌, ◌-◌, ◌*◌, ◌<◌, ◌≤◌, Bool, true, false, leb, List, get_or, sym, refl, ap, ◌∙◌, ap₂, arith}
use Rattle.permutations.specs.Sums.{sum_to, indicator, count}
use Rattle.branches.specs.Sifting.{at_most}
use Rattle.search.specs.RowSets.{lane}
use Rattle.search.specs.ColumnLists.{column_at, levels_of, LevelWords}
use Rattle.search.specs.Tables.{ByColumns}
use Rattle.search.specs.Sifting.{IsLevels, at_most_one, tally}
use Rattle.search.proofs.LaneLaws.{lane-add, at_most_one-le}

pub tally-zero : (v : ℕ) (ws : List ℕ) (l i s k : ℕ) → k ≡ 0 → tally v ws l i s k ≡ 0
unfolding tally
tally-zero v ws l i s k e = ap (tally v ws l i s) e

tally-next : (v : ℕ) (ws : List ℕ) (l i s u c : ℕ) → s ≤ u → c ≡ column_at l u →
    tally v ws l i s (u + 1 - s) ≡ tally v ws l i s (u - s) + at_most_one v (lane i (get_or ws c 0))
unfolding tally levels_of
tally-next v ws l i s u c su e =
    let more : u + 1 - s ≡ suc (u - s) = omega arith in
    let here : s + (u - s) ≡ u = omega arith in
    ap (tally v ws l i s) more ∙ ap (λ (z : ℕ). tally v ws l i s (u - s) + at_most_one v (lane i (get_or ws z 0))) (ap (column_at l) here ∙ sym e)

tally-le : (v : ℕ) (ws : List ℕ) (l i s k : ℕ) → tally v ws l i s k ≤ k
unfolding tally
tally-le v ws l i s zero = omega arith
tally-le v ws l i s (suc k) = omega (arith, tally-le v ws l i s k, at_most_one-le v (levels_of ws l s i k))

pub tally-is : (v : ℕ) (ws : List ℕ) (l x s k : ℕ) → tally v ws l x s k ≡ at_most k (levels_of ws l s x) v
unfolding tally at_most count sum_to indicator at_most_one
tally-is v ws l x s zero = refl
tally-is v ws l x s (suc k) = ap₂ (λ (p q : ℕ). p + q) (tally-is v ws l x s k) (go (leb (levels_of ws l s x k) v))
  where
    go : (t : Bool) → elim t [ true ↦ 1 | false ↦ 0 ] ≡ indicator t
    go true = refl
    go false = refl

pub column-small : (l u : ℕ) → column_at l u < 16
unfolding column_at
column-small l u = omega arith

pub level-word : (ws : List ℕ) (c : ℕ) → LevelWords ws → c < 16 → IsLevels (get_or ws c 0)
unfolding LevelWords
level-word ws c h l = record { bytes = (h c l).0; small = (h c l).1 }

pub levels-cap : (ws : List ℕ) (l s : ℕ) → LevelWords ws → (x j : ℕ) → x < 8 → levels_of ws l s x j ≤ 15
unfolding levels_of
levels-cap ws l s h x j b = (level-word ws (column_at l (s + j)) h (column-small l (s + j))).small x b

pub counted-sum : (v : ℕ) (ws : List ℕ) (l s u c n m : ℕ) → s ≤ u → u < 16 → c ≡ column_at l u → ((i : ℕ) → i < 8 → lane i n ≡ tally v ws l i s (u - s)) →
    ((i : ℕ) → i < 8 → lane i m ≡ at_most_one v (lane i (get_or ws c 0))) → (i : ℕ) → i < 8 → lane i (n + m) ≡ tally v ws l i s (u + 1 - s)
counted-sum v ws l s u c n m su ul e hn hm i b =
    lane-add i n m (λ j k. omega (arith, hn j (omega arith), tally-le v ws l j s (u - s), hm j (omega arith), at_most_one-le v (lane j (get_or ws c 0))))
    ∙ ap₂ (λ (p q : ℕ). p + q) (hn i b) (hm i b) ∙ sym (tally-next v ws l i s u c su e)

pub level-words : (y w : List ℕ) → ((i : ℕ) → get_or y i 0 ≤ 15) → ByColumns y w → LevelWords w
unfolding LevelWords
level-words y w small h c c16 = (h.bytes c, λ r r8. rw (h.holds r c r8 c16) (small (r * 16 + c)))
