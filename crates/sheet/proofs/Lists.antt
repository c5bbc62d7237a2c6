-- Lists that a function gives, and lists written to the start of lent space. Assumes nothing.
use mathlib.Core.Path.{◌≡◌, refl, sym, ap, ap₂, ◌∙◌}
use mathlib.Core.Logic.{◌⊎◌, inl, inr}
use mathlib.Core.List.{[], List, ◌∷◌, ◌++◌, map}
use Prim.Native.Nat.{ℕ, zero, suc, ◌+◌, ◌<◌, ◌≤◌}
use native.Mathlib.Omega.{arith}
use native.Mathlib.Numerals.{add-one}
use lib.ListN.{length, get_or, drop, set, length-append, get_or-append}
use lib.Seq.{drop-cons, set_at, append_snoc, get_or_at}
use Rattle.sets.specs.Lists.{from, below}
use Rattle.sets.proofs.Tests.{lt_or_le}
use Rattle.sheet.specs.Sheet.{list_of}

module _ {A : Type 0} where
  from_more : (f : ℕ → A) (i n : ℕ) → map f (from i (suc n)) ≡ map f (from i n) ++ (f (i + n) ∷ [])
  unfolding from
  from_more f i zero = ap (λ (j : ℕ). f j ∷ []) (let e : i ≡ i + 0 = omega arith in e)
  from_more f i (suc n) =
      ap (λ (l : List A). f i ∷ l) (from_more f (suc i) n ∙ ap (λ (j : ℕ). map f (from (suc i) n) ++ (f j ∷ [])) (let e : suc i + n ≡ i + suc n = omega arith in e))

  pub list_of_none : (f : ℕ → A) → list_of f 0 ≡ []
  unfolding list_of below from
  list_of_none f = refl

  pub list_of_more : (f : ℕ → A) (n : ℕ) → list_of f (suc n) ≡ list_of f n ++ (f n ∷ [])
  unfolding list_of below
  list_of_more f n = from_more f 0 n ∙ ap (λ (j : ℕ). map f (from 0 n) ++ (f j ∷ [])) (let e : 0 + n ≡ n = omega arith in e)

  pub list_of_length : (f : ℕ → A) (n : ℕ) → length (list_of f n) ≡ n
  list_of_length f zero = ap length (list_of_none f)
  list_of_length f (suc n) =
      ap length (list_of_more f n) ∙ length-append (list_of f n) (f n ∷ []) ∙ ap (λ (k : ℕ). k + 1) (list_of_length f n) ∙ add-one n

  pub list_of_ext : (f g : ℕ → A) (n : ℕ) → ((j : ℕ) → j < n → f j ≡ g j) → list_of f n ≡ list_of g n
  list_of_ext f g zero h = list_of_none f ∙ sym (list_of_none g)
  list_of_ext f g (suc n) h =
      list_of_more f n ∙ ap₂ (λ (l : List A) (x : A). l ++ (x ∷ [])) (list_of_ext f g n (λ j l. h j (omega arith))) (h n (omega arith)) ∙ sym (list_of_more g n)

  pub list_of_at : (f : ℕ → A) (n j : ℕ) (d : A) → j < n → get_or (list_of f n) j d ≡ f j
  list_of_at f zero j d h = absurd (omega arith)
  list_of_at f (suc n) j d h = ap (λ (l : List A). get_or l j d) (list_of_more f n) ∙ go (list_of_at f n j d) (lt_or_le j n)
    where
      go : (j < n → get_or (list_of f n) j d ≡ f j) → (j < n) ⊎ (n ≤ j) → get_or (list_of f n ++ (f n ∷ [])) j d ≡ f j
      go rest (inl l) = get_or-append (list_of f n) (f n ∷ []) d j (let e : length (list_of f n) ≡ n = list_of_length f n in omega arith) ∙ rest l
      go rest (inr l) = let e : n ≡ j = omega arith in get_or_at (list_of f n) (f n) [] d j (list_of_length f n ∙ e) ∙ ap f e

pub list_of_map : {A B : Type 0} (g : A → B) (f : ℕ → A) (n : ℕ) → map g (list_of f n) ≡ list_of (λ j. g (f j)) n
unfolding list_of below
list_of_map g f n = go (from 0 n)
  where
    go : (l : List ℕ) → map g (map f l) ≡ map (λ j. g (f j)) l
    go [] = refl
    go (x ∷ l) = ap (λ m. g (f x) ∷ m) (go l)

-- ---- written to the start of lent space, element by element

pub put_none : (f : ℕ → ℕ) (d : List ℕ) → d ≡ list_of f 0 ++ drop 0 d
put_none f d = sym (ap (λ (l : List ℕ). l ++ d) (list_of_none f))

pub put_more : (f : ℕ → ℕ) (j : ℕ) (d t : List ℕ) → j < length d → t ≡ list_of f j ++ drop j d → set t j (f j) ≡ list_of f (j + 1) ++ drop (j + 1) d
put_more f j d t h e =
    ap (λ (l : List ℕ). set l j (f j)) (e ∙ ap (λ (l : List ℕ). list_of f j ++ l) (drop-cons d j 0 h))
    ∙ set_at (list_of f j) (get_or d j 0) (drop (suc j) d) (f j) j (list_of_length f j)
    ∙ sym (append_snoc (list_of f j) (f j) (drop (suc j) d))
    ∙ ap₂ (λ (l : List ℕ) (k : ℕ). l ++ drop k d) (sym (list_of_more f j) ∙ ap (list_of f) (sym (add-one j))) (sym (add-one j))
