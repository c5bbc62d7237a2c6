-- Weights never rise in a legal list, so the links of weight t or more are its first ones. Assumes nothing.
use mathlib.Core.Path.{◌≡◌, refl, sym, ap, ap₂, ◌∙◌}
use mathlib.Core.Logic.{◌⊎◌, inl, inr}
use mathlib.Core.Bool.{true}
use mathlib.Core.List.Memᴰ
use mathlib.Core.List.{List, [], ◌∷◌, ◌++◌, append-nil}
use Prim.Native.Nat.{ℕ, zero, suc, ◌≤◌, ◌<◌}
use native.Mathlib.Omega.{arith}
use lib.Dec.{leb}
use lib.ListN.{length, get_or, take, drop}
use lib.Seq.{take-suc, take-length, split_at}
use Rattle.sets.specs.Lists.{◌∈◌}
use Rattle.sets.proofs.Tests.{lt_or_le}
use Rattle.sets.proofs.ListLaws.{keep_append}
use Rattle.percolation.specs.Links.{Link, link, heavy}
use Rattle.percolation.specs.Steps.{legal}
use Rattle.percolation.proofs.Accepted.{legal_falling}
use Rattle.percolation.proofs.Levels.{heavy_all, heavy_none}

-- each of the links weighs t or more
abbrev pub AllHeavy : ℕ → List Link → Type 0
AllHeavy t L = (l : Link) → l ∈ L → t ≤ l.weight

pub heavy_append : (t : ℕ) (L M : List Link) → heavy t (L ++ M) ≡ heavy t L ++ heavy t M
unfolding heavy
heavy_append t L M = keep_append (λ l. leb t l.weight) L M

pub none_heavy : (t : ℕ) → AllHeavy t []
none_heavy t l m = absurd (Memᴰ.not-nil m)

pub heavy_more : (t : ℕ) (L : List Link) (l : Link) → AllHeavy t L → t ≤ l.weight → AllHeavy t (L ++ (l ∷ []))
heavy_more t L l h w m i = go (Memᴰ.append_cases L i)
  where
    last : (m ≡ l) ⊎ m ∈ [] → t ≤ m.weight
    last (inl e) = omega (arith, w, ap (λ (x : Link). x.weight) e)
    last (inr n) = absurd (Memᴰ.not-nil n)

    go : m ∈ L ⊎ m ∈ (l ∷ []) → t ≤ m.weight
    go (inl n) = h m n
    go (inr n) = last (Memᴰ.cases_cons n)

-- the first links, up to one that weighs less
module _ (p t : ℕ) (L : List Link) (ok : legal p L ≡ true) where
  pub heavy_stop : (A B : List Link) (l : Link) → L ≡ A ++ (l ∷ B) → AllHeavy t A → l.weight < t → heavy t L ≡ A
  heavy_stop A B l e h w =
      ap (heavy t) e ∙ heavy_append t A (l ∷ B)
      ∙ ap₂ ◌++◌ (heavy_all t A h) (heavy_none t (l ∷ B) (λ m i. low m (Memᴰ.cases_cons i))) ∙ append-nil A
    where
      low : (m : Link) → (m ≡ l) ⊎ m ∈ B → m.weight < t
      low m (inl f) = omega (arith, w, ap (λ (x : Link). x.weight) f)
      low m (inr i) = omega (arith, w, legal_falling p L ok A B l m e i)

  pub take_stop : (j : ℕ) (d : Link) → j < length L → AllHeavy t (take j L) → (get_or L j d).weight < t → take j L ≡ heavy t L
  take_stop j d h a w = sym (heavy_stop (take j L) (drop (suc j) L) (get_or L j d) (split_at L j d h) a w)

  pub take_every : (j : ℕ) → j ≡ length L → AllHeavy t (take j L) → take j L ≡ heavy t L
  take_every j e a = ap (λ (n : ℕ). take n L) e ∙ take-length L ∙ sym (heavy_all t L (λ l m. a l (rw (e, take-length L) m)))

-- so some number of first links are just those of weight t or more
module _ (p t : ℕ) (L : List Link) (ok : legal p L ≡ true) where
  abbrev Found : Type 0
  Found = (r : ℕ) × (r ≤ length L) × (take r L ≡ heavy t L)

  find : (n : ℕ) → n ≤ length L → AllHeavy t (take n L) ⊎ Found
  find zero h = inl (none_heavy t)
  find (suc n) h = go (find n (omega arith))
    where
      d : Link
      d = link 0 0 0

      one : AllHeavy t (take n L) → ((get_or L n d).weight < t) ⊎ (t ≤ (get_or L n d).weight) → AllHeavy t (take (suc n) L) ⊎ Found
      one a (inl w) = inr (n, omega arith, take_stop p t L ok n d (omega arith) a w)
      one a (inr w) = inl (rw (take-suc L n d (omega arith)) (heavy_more t (take n L) (get_or L n d) a w))

      go : AllHeavy t (take n L) ⊎ Found → AllHeavy t (take (suc n) L) ⊎ Found
      go (inl a) = one a (lt_or_le (get_or L n d).weight t)
      go (inr f) = inr f

  pub heavy_first : (r : ℕ) × (r ≤ length L) × (take r L ≡ heavy t L)
  heavy_first = go (find (length L) (omega arith))
    where
      go : AllHeavy t (take (length L) L) ⊎ Found → Found
      go (inl a) = (length L, omega arith, take_every p t L ok (length L) refl a)
      go (inr f) = f
