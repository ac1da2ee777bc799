-- Laws of numbers by their binary digits.
--
--   word-zero, word_next  ==  no digits, and a digit more
--   word-ext              ==  equal digits
--   word-less             ==  a number of n digits is less than 2 to the power of n
--   word-injective        ==  equal numbers have equal digits
--   word_and              ==  the digits that two numbers have both
--   word_more             ==  a digit more
--   word-exchanged        ==  a digit 1 exchanged with a digit 0
--   word-alone            ==  where b is the only digit that the first number has and the second has not
--   WordedTo w f d c out  ==  out has w words: of d digits, those before c of a digit more; digit e of the word at x is f e x
--   worded-none, worded-cell, worded-turn  ==  at first, a word of a digit more, at the end of a turn
--   worded-small          ==  a word of no more digits than k is less than 2 to the power of k
use mathlib.Core.Path.{◌≡◌, refl, sym, ap, ap₂, ◌∙◌}
use mathlib.Core.List.{List}
use Prim.Native.Nat.{ℕ, zero, suc, ◌+◌, ◌-◌, ◌*◌, ◌/◌, ◌%◌, ◌^◌, ◌≤◌, ◌<◌, min}
use native.Mathlib.Nat.{not-suc-le-zero, two-pow-succ}
use native.Mathlib.Omega.{arith}
use native.Mathlib.Decide.{ℕ_discrete}
use native.Mathlib.Numerals.{add-one}
use lib.Bits.{bit_and, and_step}
use lib.ListN.{length, get_or, set, replicate, length-set, length-replicate, get_or-replicate}
use lib.Pow.{pow_mono}
use lib.Seq.{get_or-set_same, get_or-set_other}
use Rattle.permutations.proofs.Transpositions.{exchange, exchange-first, exchange-second, exchange-other}
use Rattle.two_values.specs.Words.{word}

pub word-zero : (f : ℕ → ℕ) → word 0 f ≡ 0
unfolding word
word-zero f = refl

pub word_next : (n : ℕ) (f : ℕ → ℕ) → word (suc n) f ≡ 2 * word n f + f n
unfolding word
word_next n f = refl

pub word-ext : (n : ℕ) (f g : ℕ → ℕ) → ((i : ℕ) → i < n → f i ≡ g i) → word n f ≡ word n g
word-ext zero f g h = word-zero f ∙ sym (word-zero g)
word-ext (suc n) f g h = omega (arith, word_next n f, word_next n g, word-ext n f g (λ i b. h i (omega arith)), h n (omega arith))

pub word-less : (n : ℕ) (f : ℕ → ℕ) → ((i : ℕ) → i < n → f i ≤ 1) → word n f < 2 ^ n
word-less zero f h = omega (arith, word-zero f)
word-less (suc n) f h = omega (arith, word_next n f, word-less n f (λ i b. h i (omega arith)), h n (omega arith), two-pow-succ n)

pub word-injective : (n : ℕ) (f g : ℕ → ℕ) → ((i : ℕ) → i < n → f i ≤ 1) → ((i : ℕ) → i < n → g i ≤ 1) → word n f ≡ word n g → (i : ℕ) → i < n → f i ≡ g i
word-injective zero f g hf hg e i b = absurd (not-suc-le-zero b)
word-injective (suc n) f g hf hg e i b = go (word-injective n f g (λ i c. hf i (omega arith)) (λ i c. hg i (omega arith)) (omega (arith, word_next n f, word_next n g, hf n (omega arith), hg n (omega arith)))) (ℕ_discrete i n)
  where
    go : ((i : ℕ) → i < n → f i ≡ g i) → Dec (i ≡ n) → f i ≡ g i
    go ih (yes z) = ap f z ∙ omega (arith, word_next n f, word_next n g, hf n (omega arith), hg n (omega arith)) ∙ sym (ap g z)
    go ih (no nz) = ih i (omega arith)

-- one digit of each
and-digits : (h k x y : ℕ) → x ≤ 1 → y ≤ 1 → bit_and (2 * h + x) (2 * k + y) ≡ 2 * bit_and h k + min x y
and-digits h k x y hx hy =
    let a : (2 * h + x) / 2 ≡ h = omega arith in
    let b : (2 * k + y) / 2 ≡ k = omega arith in
    let c : (2 * h + x) % 2 ≡ x = omega arith in
    let d : (2 * k + y) % 2 ≡ y = omega arith in
    and_step (2 * h + x) (2 * k + y) ∙ omega (arith, ap₂ bit_and a b, ap₂ min c d)

pub word_and : (n : ℕ) (f g : ℕ → ℕ) → ((i : ℕ) → i < n → f i ≤ 1) → ((i : ℕ) → i < n → g i ≤ 1) → bit_and (word n f) (word n g) ≡ word n (λ i. min (f i) (g i))
word_and zero f g hf hg = rw (word-zero f, word-zero (λ i. min (f i) (g i)))
word_and (suc n) f g hf hg =
    ap₂ bit_and (word_next n f) (word_next n g)
    ∙ and-digits (word n f) (word n g) (f n) (g n) (hf n (omega arith)) (hg n (omega arith))
    ∙ omega (arith, word_next n (λ i. min (f i) (g i)), word_and n f g (λ i b. hf i (omega arith)) (λ i b. hg i (omega arith)))

pub word_more : (n : ℕ) (f g : ℕ → ℕ) (b : ℕ) → b < n → ((i : ℕ) → i < n → (i ≡ b → ⊥) → f i ≡ g i) → g b ≡ f b + 1 → word n g ≡ word n f + 2 ^ ((n - 1) - b)
word_more zero f g b h same e = absurd (not-suc-le-zero h)
word_more (suc n) f g b h same e = go (λ c. word_more n f g b c (λ i d. same i (omega arith)) e) (ℕ_discrete b n)
  where
    go : (b < n → word n g ≡ word n f + 2 ^ ((n - 1) - b)) → Dec (b ≡ n) → word (suc n) g ≡ word (suc n) f + 2 ^ ((suc n - 1) - b)
    go ih (yes z) =
        let k : (suc n - 1) - b ≡ 0 = omega arith in
        let o : 2 ^ ((suc n - 1) - b) ≡ 2 ^ 0 = ap (λ (k : ℕ). 2 ^ k) k in
        omega (arith, o, word_next n f, word_next n g, word-ext n f g (λ i c. same i (omega arith) (omega arith)), e, ap f z, ap g z)
    go ih (no nz) =
        let k : (suc n - 1) - b ≡ suc ((n - 1) - b) = omega arith in
        let o : 2 ^ ((suc n - 1) - b) ≡ 2 ^ suc ((n - 1) - b) = ap (λ (k : ℕ). 2 ^ k) k in
        omega (arith, o, two-pow-succ ((n - 1) - b), word_next n f, word_next n g, ih (omega arith), same n (omega arith) (omega arith))

-- f with the digit x at b
put-or : (f : ℕ → ℕ) (b x i : ℕ) → Dec (i ≡ b) → ℕ
put-or f b x i (yes e) = x
put-or f b x i (no e) = f i

put : (ℕ → ℕ) → ℕ → ℕ → ℕ → ℕ
put f b x i = put-or f b x i (ℕ_discrete i b)

put_same : (f : ℕ → ℕ) (b x : ℕ) → put f b x b ≡ x
unfolding put put-or
put_same f b x = go (ℕ_discrete b b)
  where
    go : (d : Dec (b ≡ b)) → put-or f b x b d ≡ x
    go (yes e) = refl
    go (no e) = absurd (e refl)

put_other : (f : ℕ → ℕ) (b x i : ℕ) → (i ≡ b → ⊥) → put f b x i ≡ f i
unfolding put put-or
put_other f b x i ne = go (ℕ_discrete i b)
  where
    go : (d : Dec (i ≡ b)) → put-or f b x i d ≡ f i
    go (yes e) = absurd (ne e)
    go (no e) = refl

pub word-exchanged : (n : ℕ) (f : ℕ → ℕ) (c d : ℕ) → c < n → d < n → f c ≡ 1 → f d ≡ 0 → word n (λ j. f (exchange c d j)) + 2 ^ ((n - 1) - c) ≡ word n f + 2 ^ ((n - 1) - d)
word-exchanged n f c d cn dn fc fd =
    let ne : d ≡ c → ⊥ = λ z. let o : f d ≡ f c = ap f z in absurd (omega arith) in
    let off : ℕ → ℕ = put f c 0 in
    omega
    (arith, word_more n off f c cn (λ i b z. put_other f c 0 i z) (omega (arith, put_same f c 0)), word_more n off (λ j. f (exchange c d j)) d dn (λ i b z. same i z (ℕ_discrete i c)) (omega (arith, put_other f c 0 d ne, ap f (exchange-second c d))))
  where
    same : (i : ℕ) → (i ≡ d → ⊥) → Dec (i ≡ c) → put f c 0 i ≡ f (exchange c d i)
    same i z (yes y) = omega (arith, ap (put f c 0) y, put_same f c 0, ap (λ (t : ℕ). f (exchange c d t)) y, ap f (exchange-first c d))
    same i z (no y) = put_other f c 0 i y ∙ ap f (sym (exchange-other c d i y z))

pub word-alone : (n : ℕ) (f g : ℕ → ℕ) (b : ℕ) → ((i : ℕ) → i < n → f i ≤ 1) → ((i : ℕ) → i < n → g i ≤ 1) → b < n → f b ≡ 1 → g b ≡ 0 → bit_and (word n f) (word n g) + 2 ^ ((n - 1) - b) ≡ word n f →
    (i : ℕ) → i < n → (i ≡ b → ⊥) → f i ≤ g i
word-alone n f g b hf hg bn fb gb e i h ne =
    let both : ℕ → ℕ = λ i. min (f i) (g i) in
    let more : word n (put both b 1) ≡ word n both + 2 ^ ((n - 1) - b) = word_more n both (put both b 1) b bn (λ i c z. sym (put_other both b 1 i z)) (omega (arith, put_same both b 1)) in
    let all : word n (put both b 1) ≡ word n f = omega (arith, word_and n f g hf hg) in
    omega (arith, word-injective n (put both b 1) f (λ i c. most i c (ℕ_discrete i b)) hf all i h, put_other both b 1 i ne)
  where
    most : (i : ℕ) → i < n → Dec (i ≡ b) → put (λ i. min (f i) (g i)) b 1 i ≤ 1
    most i c (yes z) = omega (arith, ap (put (λ i. min (f i) (g i)) b 1) z, put_same (λ i. min (f i) (g i)) b 1)
    most i c (no z) = omega (arith, put_other (λ i. min (f i) (g i)) b 1 i z, hf i c)

-- ---- words that a loop makes

pub record WordedTo (w : ℕ) (f : ℕ → ℕ → ℕ) (d c : ℕ) (out : List ℕ) : Type 0 where
  pub size : length out ≡ w
  pub done : (x : ℕ) → x < c → x < w → get_or out x 0 ≡ word (suc d) (λ e. f e x)
  pub todo : (x : ℕ) → c ≤ x → x < w → get_or out x 0 ≡ word d (λ e. f e x)

pub worded-none : (w : ℕ) (f : ℕ → ℕ → ℕ) (out : List ℕ) → out ≡ replicate w 0 → WordedTo w f 0 0 out
worded-none w f out e = record {
  size = ap length e ∙ length-replicate w 0;
  done = λ x h. absurd (not-suc-le-zero h);
  todo = λ x h b. ap (λ (l : List ℕ). get_or l x 0) e ∙ get_or-replicate w x 0 0 b ∙ sym (word-zero (λ e. f e x));
}

module _ {w : ℕ} {f : ℕ → ℕ → ℕ} {d c : ℕ} {out : List ℕ} (s : WordedTo w f d c out) where
  pub worded-cell : (v : ℕ) → c < w → v ≡ f d c → WordedTo w f d (c + 1) (set out c (2 * get_or out c 0 + v))
  worded-cell v h e = record {
    size = length-set out c _ ∙ s.size;
    done = λ x b xw. go x b xw (ℕ_discrete x c);
    todo = λ x b xw. get_or-set_other out c x _ 0 (omega arith) ∙ s.todo x (omega arith) xw;
  }
    where
      go : (x : ℕ) → x < c + 1 → x < w → Dec (x ≡ c) → get_or (set out c (2 * get_or out c 0 + v)) x 0 ≡ word (suc d) (λ e. f e x)
      go x b xw (yes y) =
          rw y (get_or-set_same out c _ 0 (omega (arith, s.size)) ∙ omega (arith, e, s.todo c (omega arith) h, word_next d (λ e. f e c)))
      go x b xw (no y) = get_or-set_other out c x _ 0 y ∙ s.done x (omega arith) xw

  pub worded-turn : w ≤ c → WordedTo w f (d + 1) 0 out
  worded-turn h = record { size = s.size; done = λ x b. absurd (not-suc-le-zero b); todo = λ x b xw. rw add-one (s.done x (omega arith) xw) }

  pub worded-small : (k : ℕ) → d ≤ k → ((e x : ℕ) → f e x ≤ 1) → (x : ℕ) → c ≤ x → x < w → get_or out x 0 < 2 ^ k
  worded-small k h bits x cx xw = omega (arith, s.todo x cx xw, word-less d (λ e. f e x) (λ e b. bits e x), pow_mono h)
