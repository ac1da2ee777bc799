-- Lists filled from the front, and a field written in its place.
--
--   Filled p l k o   ==  o is l with p written over its first k elements
--   fill_none        ==  nothing is written yet
--   fill             ==  one byte more
--   fill-front       ==  a front in place
--   fill-rest        ==  the front of the part from place k on, up to the end
--   fill-part        ==  a field more, written into the part up to place e
--   filled, filled-whole  ==  what o is; where all of it is filled
--   in_place         ==  a number written into the part of w bytes from a place on
use Rattle.std.proofs.Common.{◌≡◌, ℕ, suc, ◌+◌, ◌-◌, ◌<◌, ◌≤◌, List, [], ◌∷◌, ◌++◌, length, get_or, take, drop, set, sym, refl, ap, ◌∙◌, append_assoc, append-nil, add-one, arith, length-append, length-drop, drop_of_length-le, length-take-le, take_all, drop-cons, drop-drop, take_at, drop_at}
use lib.Seq.{set_at}
use Rattle.layout.specs.Decimal.{field}
use Rattle.layout.proofs.DecimalLaws.{length-field}

pub record Filled (p l : List ℕ) (k : ℕ) (o : List ℕ) : Type 0 where
  pub size : length o ≡ length l
  pub front : length p ≡ k
  pub within : k ≤ length l
  pub bytes : o ≡ p ++ drop k l

pub fill_none : (l : List ℕ) → Filled [] l 0 l
fill_none l = record { size = refl; front = refl; within = omega arith; bytes = refl }

made : (p l : List ℕ) (k : ℕ) (o : List ℕ) → length p ≡ k → k ≤ length l → o ≡ p ++ drop k l → Filled p l k o
made p l k o h b e = record {
  size = ap length e ∙ length-append p (drop k l) ∙ omega (arith, length-drop k l);
  front = h;
  within = b;
  bytes = e;
}

pub fill-front : (p l : List ℕ) → length p ≤ length l → Filled p l (length p) (p ++ drop (length p) l)
fill-front p l h = made p l (length p) (p ++ drop (length p) l) refl h refl

pub fill : {p l : List ℕ} {k : ℕ} {o : List ℕ} (q : List ℕ) (x : ℕ) → Filled p l k o → k < length l → q ≡ p ++ (x ∷ []) → Filled q l (k + 1) (set o k x)
fill {p} {l} {k} {o} q x f h e =
    made q l (k + 1) (set o k x) (ap length e ∙ length-append p (x ∷ []) ∙ omega (arith, f.front)) (omega arith)
    (rw (add-one, e, append_assoc, f.bytes, drop-cons l k 0 h) (set_at p (get_or l k 0) (drop (suc k) l) x k f.front))

pub fill-part : {p l : List ℕ} {k : ℕ} {o : List ℕ} (q : List ℕ) (e x : ℕ) (ys : List ℕ) → Filled p l k o → k ≤ e → e ≤ length l →
    ys ≡ field (length (take (e - k) (drop k o))) x → q ≡ p ++ field (e - k) x → Filled q l e (take k o ++ (ys ++ drop (e - k) (drop k o)))
fill-part {p} {l} {k} {o} q e x ys f a b y r =
    let m : length (take (e - k) (drop k l)) ≡ e - k = length-take-le (e - k) (drop k l) (omega (arith, length-drop k l)) in
    let t : take k o ≡ p = rw f.bytes (take_at p (drop k l) k f.front) in
    let d : drop k o ≡ drop k l = rw f.bytes (drop_at p (drop k l) k f.front) in
    let z : k + (e - k) ≡ e = omega arith in
    made q l e (take k o ++ (ys ++ drop (e - k) (drop k o)))
    (ap length r ∙ length-append p (field (e - k) x) ∙ omega (arith, f.front, length-field (e - k) x)) b
    (rw (r, y, t, d, m, drop-drop (e - k) k l, z) (sym (append_assoc p (field (e - k) x) (drop e l))))

pub fill-rest : {p l : List ℕ} {k : ℕ} {o : List ℕ} (q ys : List ℕ) (m : ℕ) → Filled p l k o → k + length q ≤ length l → length l ≤ k + m →
    ys ≡ q ++ drop (length q) (take m (drop k o)) → Filled (p ++ q) l (k + length q) (take k o ++ (ys ++ drop m (drop k o)))
fill-rest {p} {l} {k} {o} q ys m f b n y =
    let t : take k o ≡ p = rw f.bytes (take_at p (drop k l) k f.front) in
    let d : drop k o ≡ drop k l = rw f.bytes (drop_at p (drop k l) k f.front) in
    let a : take m (drop k l) ≡ drop k l = take_all m (drop k l) (omega (arith, length-drop k l)) in
    let z : drop m (drop k l) ≡ [] = drop_of_length-le (drop k l) {i = m} (omega (arith, length-drop k l)) in
    let e : ys ≡ q ++ drop (k + length q) l = y ∙ rw (d, a, drop-drop (length q) k l) refl in
    made (p ++ q) l (k + length q) (take k o ++ (ys ++ drop m (drop k o)))
    (length-append p q ∙ ap (λ (n : ℕ). n + length q) f.front) b
    (rw (t, d, z, e, append-nil) (sym (append_assoc p q (drop (k + length q) l))))

pub filled : {p l : List ℕ} {k : ℕ} {o : List ℕ} (q : List ℕ) (n : ℕ) → Filled p l k o → p ≡ q → k ≡ n → o ≡ q ++ drop n l
filled q n f e h = rw (← e, ← h) f.bytes

pub filled-whole : {p l : List ℕ} {k : ℕ} {o : List ℕ} (q : List ℕ) → Filled p l k o → p ≡ q → length l ≤ k → o ≡ q
filled-whole {p} {l} {k} {o} q f e h = f.bytes ∙ rw (drop_of_length-le l {i = k} h) (append-nil p ∙ e)

pub in_place : (w : ℕ) (b ys : List ℕ) (at x : ℕ) → at + w ≤ length b → ys ≡ field (length (take (at + w - at) (drop at b))) x →
    take at b ++ (ys ++ drop (at + w - at) (drop at b)) ≡ take at b ++ (field w x ++ drop w (drop at b))
in_place w b ys at x h e =
    let z : at + w - at ≡ w = omega arith in
    rw (e, z, length-take-le w (drop at b) (omega (arith, length-drop at b)))
