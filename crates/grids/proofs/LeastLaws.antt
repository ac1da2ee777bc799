-- Laws of the least arrangement.
--
--   least-unique               ==  there is only one
--   least-is                   ==  what is computed is least
--   is-least                   ==  whatever is least is what is computed
--   least-in-class, least-no-later  ==  it is in the grid's class, and comes no later than any grid of the class
--   class-least, least-class, one-class-one-least  ==  two grids are in one class exactly when their least grids are equal
--   least-least                ==  the least of a least is itself
--   least-grid, length-least   ==  the least of a grid is a grid, and as long
use mathlib.Core.Path.{◌≡◌, refl, sym, ◌∙◌}
use mathlib.Core.List.Memᴰ
use mathlib.Core.List.{List, [], ◌∷◌, map, Memᴰ}
use mathlib.Core.Bool.{true, false}
use mathlib.Core.Logic.{◌⊎◌, inl, inr, ◌↔◌}
use Prim.Native.Nat.{ℕ, ◌*◌}
use lib.ListN.{length}
use Rattle.permutations.specs.Permutations.{permutations}
use Rattle.permutations.proofs.ListLaws.{in-flat_map, of-flat_map}
use Rattle.permutations.proofs.PermutationTest.{permutation-listed, listed-permutation}
use Rattle.grids.specs.Order.{◌≼◌, leq}
use Rattle.grids.specs.Grids.{IsGrid, arrangement, OneClass}
use Rattle.grids.specs.Least.{IsLeast, arrangements, lesser, least_of, least}
use Rattle.grids.proofs.OrderLaws.{≼_refl, ≼_trans, ≼-antisymm, leq-spec}
use Rattle.grids.proofs.GridLaws.{class-refl, class-trans, class-sym, class-length, class-grid}

pub least-unique : (m n : ℕ) (g r s : List ℕ) → IsLeast m n g r → IsLeast m n g s → r ≡ s
least-unique m n g r s a b = ≼-antisymm r s (a.no-later s b.arranged) (b.no-later r a.arranged)

-- ---- the first of several

abbrev Lesser : List ℕ → List ℕ → List ℕ → Type 0
Lesser a b r = ((r ≡ a) × (a ≼ b)) ⊎ ((r ≡ b) × (b ≼ a))

lesser-cases : (a b : List ℕ) → Lesser a b (lesser a b)
unfolding lesser
lesser-cases a b = go (leq-spec a b)
  where
    go : ((leq a b ≡ true) × (a ≼ b)) ⊎ ((leq a b ≡ false) × (b ≼ a)) → Lesser a b (lesser a b)
    go (inl h) = inl (rw (h.0, lesser), h.1)
    go (inr h) = inr (rw (h.0, lesser), h.1)

lesser-both : (a b r : List ℕ) → Lesser a b r → (r ≼ a) × (r ≼ b)
lesser-both a b r (inl h) = rw h.0 (≼_refl a, h.1)
lesser-both a b r (inr h) = rw h.0 (h.1, ≼_refl b)

least_of-some : (g : List ℕ) (l : List (List ℕ)) → (least_of g l ≡ g) ⊎ Memᴰ (least_of g l) l
unfolding least_of
least_of-some g [] = inl refl
least_of-some g (x ∷ l) = go (least_of-some g l) (lesser-cases x (least_of g l))
  where
    go : (least_of g l ≡ g) ⊎ Memᴰ (least_of g l) l → Lesser x (least_of g l) (lesser x (least_of g l)) → (lesser x (least_of g l) ≡ g) ⊎ Memᴰ (lesser x (least_of g l)) (x ∷ l)
    go ih (inl h) = inr (Memᴰ.head h.0)
    go (inl e) (inr h) = inl (h.0 ∙ e)
    go (inr k) (inr h) = inr (Memᴰ.tail (Memᴰ.cast h.0 k))

least_of-no-later : (g : List ℕ) (l : List (List ℕ)) (s : List ℕ) → Memᴰ s l → least_of g l ≼ s
unfolding least_of
least_of-no-later g [] s h = absurd (Memᴰ.not-nil h)
least_of-no-later g (x ∷ l) s h = go (least_of-no-later g l s) (Memᴰ.cases_cons h) (lesser-both x (least_of g l) _ (lesser-cases x (least_of g l)))
  where
    go : (Memᴰ s l → least_of g l ≼ s) → (s ≡ x) ⊎ Memᴰ s l → (lesser x (least_of g l) ≼ x) × (lesser x (least_of g l) ≼ least_of g l) → lesser x (least_of g l) ≼ s
    go ih (inl e) b = rw e b.0
    go ih (inr k) b = ≼_trans (lesser x (least_of g l)) (least_of g l) s b.1 (ih k)

in-arrangements : (m n : ℕ) (g s : List ℕ) → OneClass m n g s → Memᴰ s (arrangements m n g)
unfolding arrangements
in-arrangements m n g s c =
    Memᴰ.cast (sym c.gives)
    (in-flat_map (λ p. map (λ q. arrangement m n p q g) (permutations n)) c.rows (arrangement m n c.rows c.columns g) (permutations m)
    (permutation-listed m c.rows c.row-permutation)
    (Memᴰ.map (λ (q : List ℕ). arrangement m n c.rows q g) (permutation-listed n c.columns c.column-permutation)))

of-arrangements : (m n : ℕ) (g s : List ℕ) → Memᴰ s (arrangements m n g) → OneClass m n g s
unfolding arrangements
of-arrangements m n g s h =
    let a = of-flat_map (λ p. map (λ q. arrangement m n p q g) (permutations n)) s (permutations m) h in
    let b = Memᴰ.of_map (λ (q : List ℕ). arrangement m n a.0 q g) (permutations n) a.2 in
    record { rows = a.0; columns = b.0; row-permutation = listed-permutation m a.0 a.1; column-permutation = listed-permutation n b.0 b.1; gives = b.2 }

-- ---- what is computed is what is meant

pub least-is : (m n : ℕ) (g : List ℕ) → length g ≡ m * n → IsLeast m n g (least m n g)
unfolding least
least-is m n g e = record {
  arranged = go (least_of-some g (arrangements m n g));
  no-later = λ s c. least_of-no-later g (arrangements m n g) s (in-arrangements m n g s c);
}
  where
    go : (least_of g (arrangements m n g) ≡ g) ⊎ Memᴰ (least_of g (arrangements m n g)) (arrangements m n g) → OneClass m n g (least_of g (arrangements m n g))
    go (inl p) = rw p (class-refl m n g e)
    go (inr k) = of-arrangements m n g (least_of g (arrangements m n g)) k

pub is-least : (m n : ℕ) (g r : List ℕ) → length g ≡ m * n → IsLeast m n g r → r ≡ least m n g
is-least m n g r e h = least-unique m n g r (least m n g) h (least-is m n g e)

pub least-in-class : (m n : ℕ) (g : List ℕ) → length g ≡ m * n → OneClass m n g (least m n g)
least-in-class m n g e = (least-is m n g e).arranged

pub length-least : (m n : ℕ) (g : List ℕ) → length g ≡ m * n → length (least m n g) ≡ m * n
length-least m n g e = class-length m n g (least m n g) (least-in-class m n g e)

pub least-no-later : (m n : ℕ) (g s : List ℕ) → length g ≡ m * n → OneClass m n g s → least m n g ≼ s
least-no-later m n g s e c = (least-is m n g e).no-later s c

-- ---- classes

pub class-least : (m n : ℕ) (a b : List ℕ) → length a ≡ m * n → OneClass m n a b → least m n a ≡ least m n b
class-least m n a b e c =
    is-least m n b (least m n a) (class-length m n a b c) (record {
      arranged = class-trans m n b a (least m n a) (class-sym m n a b e c) (least-in-class m n a e);
      no-later = λ s k. least-no-later m n a s e (class-trans m n a b s c k);
    })

pub least-class : (m n : ℕ) (a b : List ℕ) → length a ≡ m * n → length b ≡ m * n → least m n a ≡ least m n b → OneClass m n a b
least-class m n a b e f q =
    class-trans m n a (least m n b) b (rw q at (least-in-class m n a e)) (class-sym m n b (least m n b) f (least-in-class m n b f))

pub one-class-one-least : (m n : ℕ) (a b : List ℕ) → length a ≡ m * n → length b ≡ m * n → OneClass m n a b ↔ (least m n a ≡ least m n b)
one-class-one-least m n a b e f = (class-least m n a b e, least-class m n a b e f)

pub least-least : (m n : ℕ) (g : List ℕ) → length g ≡ m * n → least m n (least m n g) ≡ least m n g
least-least m n g e = sym (class-least m n g (least m n g) e (least-in-class m n g e))

pub least-grid : (m n top : ℕ) (g : List ℕ) → IsGrid m n top g → IsGrid m n top (least m n g)
least-grid m n top g i = class-grid m n top g (least m n g) i (least-in-class m n g i.sized)
