-- A set held in any number of words of 64 digits, the highest first: each operation, word by word. Assumes nothing.
use mathlib.Core.Bool.{Bool, false, cond}
use mathlib.Core.List.{List, [], ◌∷◌, ◌++◌}
use mathlib.Core.Path.{◌≡◌, refl, sym, ap, ap₂, ◌∙◌, subst}
use mathlib.Core.Logic.{◌⊎◌, inl, inr}
use Prim.Native.Nat.{ℕ, zero, suc, ◌+◌, ◌-◌, ◌*◌, ◌/◌, ◌%◌, ◌^◌, ◌≤◌, ◌<◌, min}
use native.Mathlib.Nat.{mul_assoc, mod-eq_of_lt, mod-lt, div-eq_of_lt, zero-mul}
use native.Mathlib.Numerals.{add-one}
use native.Mathlib.Omega.{arith}
use borrow.Author.Tests.{eq-eqb, ne_eqb, lt-ltb, le-ltb, ltb-true}
use lib.Dec.{eqb, ltb}
use lib.ListN.{length, get_or, set, length-append, length-set}
use lib.Seq.{sets, get_or-set_same, get_or-set_other}
use lib.Pow.{pow_pos, pow_mono, pow-add, mod-pow-add, field, mod-mod-pow, shr-shr}
use Rattle.sets.specs.Sets.{bit, has, one, full, meet, union, minus, size, before, lowest}
use Rattle.sets.specs.Words.{number, words, words_at}
use Rattle.sets.proofs.Glue.{glue, glue_lt, glue_above, glue_below, meet_glue, union_glue, minus_glue, size_glue, before_above, before_below, lowest_low, lowest_high}
use Rattle.sets.proofs.Laws.{ext_below, parts_lt, one_lt, minus_lt, minus_empty, size_empty, has_empty, has_one}
use Rattle.sets.proofs.Members.{has_full}
use Rattle.sets.proofs.Tests.{lt_or_le, same_or_not}

-- n words, each of 64 digits
pub data Fits : ℕ → List ℕ → Type 0 where
  none : Fits zero []
  more : {n w : ℕ} {ws : List ℕ} → w < 2 ^ 64 → Fits n ws → Fits (suc n) (w ∷ ws)

pub fits_length : {n : ℕ} {ws : List ℕ} → Fits n ws → length ws ≡ n
fits_length none = refl
fits_length (more h f) = ap suc (fits_length f)

pub fits_first : {n w : ℕ} {ws : List ℕ} → Fits (suc n) (w ∷ ws) → w < 2 ^ 64
fits_first (more h f) = h

-- the highest word, and the number of the others
pub number_cons : (w n : ℕ) (ws : List ℕ) → length ws ≡ n → number (w ∷ ws) ≡ glue (64 * n) w (number ws)
unfolding number glue
number_cons w n ws e = ap (λ (k : ℕ). w * 2 ^ (64 * k) + number ws) e

pub number_none : number [] ≡ 0
unfolding number
number_none = refl

pub number_one : (w : ℕ) → number (w ∷ []) ≡ w
unfolding number
number_one w = omega arith

pub number_lt : {n : ℕ} {ws : List ℕ} → Fits n ws → number ws < 2 ^ (64 * n)
number_lt none = subst (λ (x : ℕ). x < 1) (sym number_none) (omega arith)
number_lt (more {n = n} {w = w} {ws = ws} h f) =
    let e : 64 + 64 * n ≡ 64 * suc n = omega arith in
    subst (λ (k : ℕ). number (w ∷ ws) < 2 ^ k) e
    (subst (λ (x : ℕ). x < 2 ^ (64 + 64 * n)) (sym (number_cons w n ws (fits_length f))) (glue_lt 64 (64 * n) w (number ws) h (number_lt f)))

-- ---- two sets, word by word

abbrev pub both : (ℕ → ℕ → ℕ) → List ℕ → List ℕ → List ℕ
both f [] ys = []
both f (x ∷ xs) [] = []
both f (x ∷ xs) (y ∷ ys) = f x y ∷ both f xs ys

both_length : (f : ℕ → ℕ → ℕ) {n : ℕ} {xs ys : List ℕ} → Fits n xs → Fits n ys → length (both f xs ys) ≡ n
both_length f none none = refl
both_length f (more h a) (more k b) = ap suc (both_length f a b)

-- an operation that goes piece by piece goes word by word
module _ (f : ℕ → ℕ → ℕ) (start : f 0 0 ≡ 0)
    (step : (k a b r s : ℕ) → r < 2 ^ k → s < 2 ^ k → f (glue k a r) (glue k b s) ≡ glue k (f a b) (f r s)) where
  by_words : {n : ℕ} {xs ys : List ℕ} → Fits n xs → Fits n ys → f (number xs) (number ys) ≡ number (both f xs ys)
  by_words none none = ap₂ f number_none number_none ∙ start ∙ sym number_none
  by_words (more {n = n} {w = x} {ws = xs} h a) (more {w = y} {ws = ys} k b) =
      ap₂ f (number_cons x n xs (fits_length a)) (number_cons y n ys (fits_length b))
      ∙ step (64 * n) x y (number xs) (number ys) (number_lt a) (number_lt b)
      ∙ ap (glue (64 * n) (f x y)) (by_words a b) ∙ sym (number_cons (f x y) n (both f xs ys) (both_length f a b))

pub meet_words : {n : ℕ} {xs ys : List ℕ} → Fits n xs → Fits n ys → meet (number xs) (number ys) ≡ number (both meet xs ys)
meet_words = by_words meet start meet_glue
  where
    start : meet 0 0 ≡ 0
    start = unfold meet in refl

pub union_words : {n : ℕ} {xs ys : List ℕ} → Fits n xs → Fits n ys → union (number xs) (number ys) ≡ number (both union xs ys)
union_words = by_words union start union_glue
  where
    start : union 0 0 ≡ 0
    start = unfold union in refl

pub minus_words : {n : ℕ} {xs ys : List ℕ} → Fits n xs → Fits n ys → minus (number xs) (number ys) ≡ number (both minus xs ys)
minus_words = by_words minus (minus_empty 0) (λ k a b r s hr hs. minus_glue k a b r s hr hs (minus_lt k r s hr))

-- ---- how many parts

abbrev pub sizes : List ℕ → ℕ
sizes [] = 0
sizes (w ∷ ws) = size w + sizes ws

pub size_words : {n : ℕ} {ws : List ℕ} → Fits n ws → size (number ws) ≡ sizes ws
size_words none = ap size number_none ∙ size_empty
size_words (more {n = n} {w = w} {ws = ws} h f) =
    ap size (number_cons w n ws (fits_length f)) ∙ size_glue (64 * n) w (number ws) (number_lt f) ∙ ap (λ (k : ℕ). size w + k) (size_words f)

-- ---- equal, and in order: the highest words decide where they differ, else the others

module _ {n : ℕ} {xs ys : List ℕ} (x y : ℕ) (a : Fits n xs) (b : Fits n ys) where
  at_x : number (x ∷ xs) ≡ glue (64 * n) x (number xs)
  at_x = number_cons x n xs (fits_length a)

  at_y : number (y ∷ ys) ≡ glue (64 * n) y (number ys)
  at_y = number_cons y n ys (fits_length b)

  pub heads : number (x ∷ xs) ≡ number (y ∷ ys) → x ≡ y
  heads e = glue_above (64 * n) x (number xs) y (number ys) (number_lt a) (number_lt b) (sym at_x ∙ e ∙ at_y)

  pub rests : number (x ∷ xs) ≡ number (y ∷ ys) → number xs ≡ number ys
  rests e = glue_below (64 * n) x (number xs) y (number ys) (number_lt a) (number_lt b) (sym at_x ∙ e ∙ at_y)

  pub before_apart : (x ≡ y → ⊥) → before (number (x ∷ xs)) (number (y ∷ ys)) ≡ before x y
  before_apart p = ap₂ before at_x at_y ∙ before_above (64 * n) x (number xs) y (number ys) (number_lt a) (number_lt b) p

  pub before_rest : x ≡ y → before (number (x ∷ xs)) (number (y ∷ ys)) ≡ before (number xs) (number ys)
  before_rest e = ap₂ before at_x at_y ∙ before_below (64 * n) x (number xs) y (number ys) e

-- words of one number are the same words
pub number_inj : {n : ℕ} {xs ys : List ℕ} → Fits n xs → Fits n ys → number xs ≡ number ys → xs ≡ ys
number_inj none none e = refl
number_inj (more {n = n} {w = x} {ws = xs} h a) (more {w = y} {ws = ys} k b) e = ap₂ ◌∷◌ (heads x y a b e) (number_inj a b (rests x y a b e))

-- sets are the same exactly where all their words are
pub same_apart : {n : ℕ} {xs ys : List ℕ} → Fits n xs → Fits n ys → (xs ≡ ys → ⊥) → false ≡ eqb (number xs) (number ys)
same_apart {xs = xs} {ys = ys} a b p = sym (ne_eqb (number xs) (number ys) (λ e. p (number_inj a b e)))

-- ---- the lowest part: the lowest word decides where it has one, else the others

-- the words above the lowest, and the lowest
pub number_snoc : (ws : List ℕ) (w : ℕ) → number (ws ++ (w ∷ [])) ≡ glue 64 (number ws) w
unfolding number glue
number_snoc [] w = omega arith
number_snoc (v ∷ ws) w =
    let p = 2 ^ (64 * length ws) in
    let e : 64 * length (ws ++ (w ∷ [])) ≡ 64 * length ws + 64 = omega (arith, length-append ws (w ∷ [])) in
    let q : 2 ^ (64 * length (ws ++ (w ∷ []))) ≡ p * 2 ^ 64 = ap (λ (k : ℕ). 2 ^ k) e ∙ pow-add 2 (64 * length ws) 64 in
    let m : v * 2 ^ (64 * length (ws ++ (w ∷ []))) ≡ v * p * 2 ^ 64 = ap (λ (k : ℕ). v * k) q ∙ sym (mul_assoc v p (2 ^ 64)) in
    omega (arith, number_snoc ws w)

-- the lowest part of n, and v where it has none
abbrev pub low_in_lem : ℕ → ℕ → ℕ
low_in_lem v n = cond (eqb n 0) v (lowest n)

low_some : (v n : ℕ) → (n ≡ 0 → ⊥) → low_in_lem v n ≡ lowest n
low_some v n p = ap (λ (t : Bool). cond t v (lowest n)) (ne_eqb n 0 p)

low_none : (v n : ℕ) → n ≡ 0 → low_in_lem v n ≡ v
low_none v n e = ap (λ (t : Bool). cond t v (lowest n)) (eq-eqb n 0 e)

pub low_here : (v w : ℕ) (ws : List ℕ) → w < 2 ^ 64 → (w ≡ 0 → ⊥) → low_in_lem (64 + v) (number (ws ++ (w ∷ []))) ≡ low_in_lem 64 w
low_here v w ws h p =
    let e = number_snoc ws w in
    let some : glue 64 (number ws) w ≡ 0 → ⊥ = λ z. p (zero_low z) in
    ap (low_in_lem (64 + v)) e ∙ low_some (64 + v) (glue 64 (number ws) w) some ∙ lowest_low 64 (number ws) w h p ∙ sym (low_some 64 w p)
  where
    zero_low : glue 64 (number ws) w ≡ 0 → w ≡ 0
    zero_low z = unfold glue in omega arith

pub low_above : (v w : ℕ) (ws : List ℕ) → w ≡ 0 → low_in_lem (64 + v) (number (ws ++ (w ∷ []))) ≡ 64 + low_in_lem v (number ws)
low_above v w ws z = ap (low_in_lem (64 + v)) (number_snoc ws w ∙ ap (glue 64 (number ws)) z) ∙ go (same_or_not (number ws) 0)
  where
    zero_high : glue 64 (number ws) 0 ≡ 0 → number ws ≡ 0
    zero_high q = unfold glue in omega arith

    high_zero : number ws ≡ 0 → glue 64 (number ws) 0 ≡ 0
    high_zero q = unfold glue in omega arith

    go : (number ws ≡ 0) ⊎ (number ws ≡ 0 → ⊥) → low_in_lem (64 + v) (glue 64 (number ws) 0) ≡ 64 + low_in_lem v (number ws)
    go (inl q) = low_none (64 + v) (glue 64 (number ws) 0) (high_zero q) ∙ ap (λ (k : ℕ). 64 + k) (sym (low_none v (number ws) q))
    go (inr q) =
        low_some (64 + v) (glue 64 (number ws) 0) (λ y. q (zero_high y)) ∙ lowest_high 64 (number ws) q ∙ ap (λ (k : ℕ). 64 + k) (sym (low_some v (number ws) q))

-- ---- the words of a number

pub words_fit : (m n : ℕ) → Fits m (words m n)
unfolding words
words_fit zero n = none
words_fit (suc m) n = more (mod-lt (n / 2 ^ (64 * m)) (pow_pos 64)) (words_fit m n)

pub words_length : (m n : ℕ) → length (words m n) ≡ m
words_length m n = fits_length (words_fit m n)

pub number_words : (m n : ℕ) → number (words m n) ≡ n % 2 ^ (64 * m)
unfolding words
number_words zero n = number_none ∙ omega arith
number_words (suc m) n =
    let e : 64 + 64 * m ≡ 64 * suc m = omega arith in
    number_cons (n / 2 ^ (64 * m) % 2 ^ 64) m (words m n) (words_length m n)
    ∙ ap (glue (64 * m) (n / 2 ^ (64 * m) % 2 ^ 64)) (number_words m n) ∙ sym (there m n) ∙ ap (λ (k : ℕ). n % 2 ^ k) e
  where
    there : (m n : ℕ) → n % 2 ^ (64 + 64 * m) ≡ glue (64 * m) (n / 2 ^ (64 * m) % 2 ^ 64) (n % 2 ^ (64 * m))
    there m n = unfold glue in mod-pow-add n 64 (64 * m)

pub number_back : (m n : ℕ) → n < 2 ^ (64 * m) → number (words m n) ≡ n
number_back m n h = number_words m n ∙ mod-eq_of_lt h

pub words_back : {n : ℕ} {ws : List ℕ} → Fits n ws → words n (number ws) ≡ ws
words_back {n} {ws} f = number_inj (words_fit n (number ws)) f (number_back n (number ws) (number_lt f))

-- ---- one word of a number

-- c digits of the word that begins at f, from its digit b on
pub part_word_lem : (c b f n : ℕ) → b + c ≤ 64 → n / 2 ^ f % 2 ^ 64 / 2 ^ b % 2 ^ c ≡ n / 2 ^ (f + b) % 2 ^ c
part_word_lem c b f n h =
    let e : 64 ≡ 64 - b + b = omega arith in
    let l : 64 - b ≡ 64 - b - c + c = omega arith in
    ap (λ (k : ℕ). n / 2 ^ f % 2 ^ k / 2 ^ b % 2 ^ c) e ∙ ap (λ (x : ℕ). x % 2 ^ c) (field (n / 2 ^ f) (64 - b) b)
    ∙ ap (λ (k : ℕ). n / 2 ^ f / 2 ^ b % 2 ^ k % 2 ^ c) l ∙ mod-mod-pow (n / 2 ^ f / 2 ^ b) (64 - b - c) c ∙ ap (λ (x : ℕ). x % 2 ^ c) (shr-shr n f b)

pub has_word : (i f n : ℕ) → i < 64 → has i (n / 2 ^ f % 2 ^ 64) ≡ has (f + i) n
unfolding has
has_word i f n h = ap bit (part_word_lem 1 i f n (omega arith))

-- the words of the set of q alone
module _ (q f : ℕ) where
  one_none : q < f ⊎ (f + 64 ≤ q) → (i : ℕ) → i < 64 → has i 0 ≡ has i (one q / 2 ^ f % 2 ^ 64)
  one_none z i l = has_empty i ∙ sym (has_word i f (one q) l ∙ has_one (f + i) q ∙ ne_eqb (f + i) q (go z))
    where
      go : q < f ⊎ (f + 64 ≤ q) → f + i ≡ q → ⊥
      go (inl a) e = omega arith
      go (inr a) e = omega arith

  word_none : q < f ⊎ (f + 64 ≤ q) → 0 ≡ one q / 2 ^ f % 2 ^ 64
  word_none z = ext_below 64 0 (one q / 2 ^ f % 2 ^ 64) (pow_pos 64) (mod-lt (one q / 2 ^ f) (pow_pos 64)) (one_none z)

  pub word_before : q < f → 0 ≡ one q / 2 ^ f % 2 ^ 64
  word_before h = word_none (inl h)

  pub word_behind : f ≤ q → 64 ≤ q - f → 0 ≡ one q / 2 ^ f % 2 ^ 64
  word_behind h l = word_none (inr (omega arith))

  pub word_in : f ≤ q → q - f < 64 → one (q - f) ≡ one q / 2 ^ f % 2 ^ 64
  word_in h l = ext_below 64 (one (q - f)) (one q / 2 ^ f % 2 ^ 64) (one_lt 64 (q - f) l) (mod-lt (one q / 2 ^ f) (pow_pos 64)) same
    where
      go : (i : ℕ) → (i ≡ q - f) ⊎ (i ≡ q - f → ⊥) → eqb i (q - f) ≡ eqb (f + i) q
      go i (inl e) = eq-eqb i (q - f) e ∙ sym (eq-eqb (f + i) q (omega arith))
      go i (inr e) = ne_eqb i (q - f) e ∙ sym (ne_eqb (f + i) q (λ z. e (omega arith)))

      same : (i : ℕ) → i < 64 → has i (one (q - f)) ≡ has i (one q / 2 ^ f % 2 ^ 64)
      same i b = has_one i (q - f) ∙ go i (same_or_not i (q - f)) ∙ sym (has_word i f (one q) b ∙ has_one (f + i) q)

pub full_lt : (p w : ℕ) → p ≤ w → full p < 2 ^ w
full_lt p w h = parts_lt w (full p) (λ q t. let l : q < p = ltb-true q p (sym (has_full q p) ∙ t) in omega arith)

-- the words of the set of all parts below p
pub word_full : (p f : ℕ) → full (min (p - f) 64) ≡ full p / 2 ^ f % 2 ^ 64
word_full p f = ext_below 64 (full (min (p - f) 64)) (full p / 2 ^ f % 2 ^ 64) small (mod-lt (full p / 2 ^ f) (pow_pos 64)) same
  where
    small : full (min (p - f) 64) < 2 ^ 64
    small = full_lt (min (p - f) 64) 64 (omega arith)

    go : (i : ℕ) → i < 64 → (f + i < p) ⊎ (p ≤ f + i) → ltb i (min (p - f) 64) ≡ ltb (f + i) p
    go i b (inl l) = lt-ltb i (min (p - f) 64) (omega arith) ∙ sym (lt-ltb (f + i) p l)
    go i b (inr l) = le-ltb i (min (p - f) 64) (omega arith) ∙ sym (le-ltb (f + i) p l)

    same : (i : ℕ) → i < 64 → has i (full (min (p - f) 64)) ≡ has i (full p / 2 ^ f % 2 ^ 64)
    same i b = has_full i (min (p - f) 64) ∙ go i b (lt_or_le (f + i) p) ∙ sym (has_word i f (full p) b ∙ has_full (f + i) p)

-- past the words of n there is none
pub word_past : (m i n : ℕ) → n < 2 ^ (64 * m) → m ≤ i → 0 ≡ n / 2 ^ (64 * i) % 2 ^ 64
word_past m i n h l =
    let b : 64 * m ≤ 64 * i = omega arith in
    let p : 2 ^ (64 * m) ≤ 2 ^ (64 * i) = pow_mono b in
    let z : n / 2 ^ (64 * i) ≡ 0 = div-eq_of_lt (omega arith) in
    sym (ap (λ (x : ℕ). x % 2 ^ 64) z)

-- ---- words in a list

pub sets_other : (ws xs : List ℕ) (k p : ℕ) → (p < k) ⊎ (k + length ws ≤ p) → get_or (sets xs k ws) p 0 ≡ get_or xs p 0
sets_other [] xs k p h = refl
sets_other (w ∷ ws) xs k p h = sets_other ws (set xs k w) (suc k) p (next h) ∙ get_or-set_other xs k p w 0 (apart h)
  where
    next : (p < k) ⊎ (k + suc (length ws) ≤ p) → (p < suc k) ⊎ (suc k + length ws ≤ p)
    next (inl l) = inl (omega arith)
    next (inr l) = inr (omega arith)

    apart : (p < k) ⊎ (k + suc (length ws) ≤ p) → p ≡ k → ⊥
    apart (inl l) e = omega arith
    apart (inr l) e = omega arith

-- words that are written are read
pub at_sets : (ws xs : List ℕ) (k : ℕ) → k + length ws ≤ length xs → words_at (length ws) (sets xs k ws) k ≡ ws
unfolding words_at
at_sets [] xs k h = refl
at_sets (w ∷ ws) xs k h =
    ap₂ ◌∷◌ (sets_other ws (set xs k w) (suc k) k (inl (omega arith)) ∙ get_or-set_same xs k w 0 (omega arith))
    (ap (words_at (length ws) (sets (set xs k w) (suc k) ws)) (add-one k) ∙ at_sets ws (set xs k w) (suc k) (omega (arith, length-set xs k w)))

pub at_same : (m : ℕ) (xs ys : List ℕ) (k : ℕ) → ((p : ℕ) → k ≤ p → p < k + m → get_or xs p 0 ≡ get_or ys p 0) → words_at m xs k ≡ words_at m ys k
unfolding words_at
at_same zero xs ys k f = refl
at_same (suc m) xs ys k f =
    ap₂ ◌∷◌ (f k (omega arith) (omega arith)) (at_same m xs ys (k + 1) (λ p l h. f p (omega arith) (omega arith)))

pub at_zero : (m : ℕ) (xs : List ℕ) (k : ℕ) → ((p : ℕ) → get_or xs p 0 ≡ 0) → number (words_at m xs k) ≡ 0
unfolding words_at number
at_zero zero xs k f = refl
at_zero (suc m) xs k f = omega (arith, zero-mul (2 ^ (64 * length (words_at m xs (k + 1)))), ap (λ (x : ℕ). x * 2 ^ (64 * length (words_at m xs (k + 1)))) (f k), at_zero m xs (k + 1) f)

-- words written one after the other
abbrev pub write : List ℕ → ℕ → List ℕ → List ℕ
write xs k [] = xs
write xs k (w ∷ ws) = write (set xs k w) (k + 1) ws

pub write_sets : (ws xs : List ℕ) (k : ℕ) → write xs k ws ≡ sets xs k ws
write_sets [] xs k = refl
write_sets (w ∷ ws) xs k = ap (λ (j : ℕ). write (set xs k w) j ws) (add-one k) ∙ write_sets ws (set xs k w) (suc k)
