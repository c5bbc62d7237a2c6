-- The levels of the links to come: the weight of the next link, then the levels of the links after its level. Assumes nothing.
use mathlib.Core.Path.{◌≡◌, refl, sym, ap, ◌∙◌, subst}
use mathlib.Core.Logic.{◌⊎◌, inl, inr}
use mathlib.Core.Bool.{true}
use mathlib.Core.List.Memᴰ
use mathlib.Core.List.{List, [], ◌∷◌, ◌++◌}
use Prim.Native.Nat.{ℕ, suc, ◌+◌, ◌-◌, ◌≤◌, ◌<◌}
use native.Mathlib.Omega.{arith}
use lib.Dec.{ltb}
use lib.ListN.{length, get_or, take, drop, length-append, length-take, length-drop, take-append-drop, drop_of_length-le}
use lib.Seq.{split_at, drop-cons, get_or-drop, drop-append-le, drop-drop}
use borrow.Author.Tests.{lt-ltb}
use Rattle.sets.specs.Lists.{◌∈◌}
use Rattle.sets.proofs.Tests.{lt_or_le}
use Rattle.sets.proofs.ListLaws.{Holds, Rising, rising_same, get_d_member}
use Rattle.percolation.specs.Links.{Link, heavy, cliques, family}
use Rattle.percolation.specs.Levels.{levels}
use Rattle.percolation.specs.Steps.{legal}
use Rattle.percolation.proofs.Accepted.{legal_falling}
use Rattle.percolation.proofs.Families.{linked_mono, cliques_mono}
use Rattle.percolation.proofs.Levels.{falling, levels_of, levels_at, levels_falling, heavy_of, heavy_at, heavy_all}
use Rattle.runs.proofs.Falling.{heavy_append}
use Rattle.runs.proofs.Ran.{between}

-- no link is left: no level
pub levels_end : (L : List Link) (i : ℕ) → length L ≤ i → levels (drop i L) ≡ []
unfolding levels
levels_end L i h = ap levels (drop_of_length-le L h)

-- the first j links are those of weight w or more
module _ (L : List Link) (j w : ℕ) (e : take j L ≡ heavy w L) where
  -- they make the cliques of the level
  pub cliques_take : (p k : ℕ) → cliques (take j L) p k ≡ family L p k w
  unfolding family
  cliques_take p k = ap (λ (M : List Link). cliques M p k) e

  -- which has the cliques of fewer
  pub cliques_front : (p k i : ℕ) → i ≤ j → Holds (family L p k w) (cliques (take i L) p k)
  cliques_front p k i h =
      subst (λ (F : List ℕ). Holds F (cliques (take i L) p k)) (cliques_take p k)
      (cliques_mono (take i L) (take j L) p p k (linked_mono (take i L) (take j L)
      (λ l m. subst (λ (M : List Link). l ∈ M) (between i j L h) (Memᴰ.append_left (drop i (take j L)) m))) (omega arith))

  first_heavy : (l : Link) → l ∈ take j L → w ≤ l.weight
  first_heavy l m = (heavy_of w L (subst (λ (M : List Link). l ∈ M) e m)).1

  -- none is left of those
  rest_none : length (heavy w (drop j L)) ≡ 0
  rest_none =
      let f : take j L ≡ take j L ++ heavy w (drop j L) =
      e ∙ ap (heavy w) (sym (take-append-drop j L)) ∙ heavy_append w (take j L) (drop j L)
      ∙ ap (λ (M : List Link). M ++ heavy w (drop j L)) (heavy_all w (take j L) first_heavy) in
      omega (arith, ap length f, length-append (take j L) (heavy w (drop j L)))

  rest_light : (l : Link) → l ∈ drop j L → l.weight < w
  rest_light l m = go (lt_or_le l.weight w)
    where
      empty : (M : List Link) → length M ≡ 0 → l ∈ M → ⊥
      empty [] z n = Memᴰ.not-nil n
      empty (x ∷ M) z n = omega arith

      go : (l.weight < w) ⊎ (w ≤ l.weight) → l.weight < w
      go (inl h) = h
      go (inr h) = absurd (empty (heavy w (drop j L)) rest_none (heavy_at w (drop j L) m h))

  module _ (p i : ℕ) (d : Link) (ok : legal p L ≡ true) (fits : i < length L) (weighs : w ≡ (get_or L i d).weight) where
    next_in : get_or L i d ∈ drop i L
    next_in = rw (drop-cons L i d fits) (Memᴰ.head refl)

    -- the next link is one of them
    pub rest_further : i < j
    rest_further = go (lt_or_le i j)
      where
        go : (i < j) ⊎ (j ≤ i) → i < j
        go (inl h) = h
        go (inr h) =
            let f : i ≡ j + (i - j) = omega arith in
            let g : get_or (drop j L) (i - j) d ≡ get_or L i d = get_or-drop j L (i - j) d ∙ ap (λ (n : ℕ). get_or L n d) (sym f) in
            let m : get_or L i d ∈ drop j L = Memᴰ.cast (sym g) (get_d_member (drop j L) (i - j) d (omega (arith, length-drop j L))) in
            absurd (omega (arith, rest_light (get_or L i d) m))

    -- the links to come: those up to the j-th weigh w
    rest_cases : (l : Link) → l ∈ drop i L → (l.weight ≡ w) ⊎ l ∈ drop j L
    rest_cases l m = go (Memᴰ.append_cases (drop i (take j L)) (subst (λ (M : List Link). l ∈ M) parts m))
      where
        parts : drop i L ≡ drop i (take j L) ++ drop j L
        parts =
            ap (drop i) (sym (take-append-drop j L))
            ∙ drop-append-le i (take j L) (drop j L) (omega (arith, length-take j L, rest_further))

        first : l ∈ drop i (take j L) → l ∈ take j L
        first n = subst (λ (M : List Link). l ∈ M) (take-append-drop i (take j L)) (Memᴰ.append_right (take i (take j L)) n)

        light : (l ≡ get_or L i d) ⊎ l ∈ drop (suc i) L → l.weight ≤ w
        light (inl f) = omega (arith, ap (λ (x : Link). x.weight) f)
        light (inr n) = omega (arith, legal_falling p L ok (take i L) (drop (suc i) L) (get_or L i d) l (split_at L i d fits) n)

        below : l.weight ≤ w
        below = light (Memᴰ.cases_cons (subst (λ (M : List Link). l ∈ M) (drop-cons L i d fits) m))

        go : l ∈ drop i (take j L) ⊎ l ∈ drop j L → (l.weight ≡ w) ⊎ l ∈ drop j L
        go (inl n) = let f : l.weight ≡ w = omega (arith, below, first_heavy l (first n)) in inl f
        go (inr n) = inr n

    rest_in : (l : Link) → l ∈ drop j L → l ∈ drop i L
    rest_in l m =
        let f : j ≡ i + (j - i) = omega (arith, rest_further) in
        subst (λ (M : List Link). l ∈ M) (take-append-drop (j - i) (drop i L))
        (Memᴰ.append_right (take (j - i) (drop i L)) (subst (λ (M : List Link). l ∈ M) (ap (λ (n : ℕ). drop n L) f ∙ sym (drop-drop (j - i) i L)) m))

    pub levels_rest : levels (drop i L) ≡ w ∷ levels (drop j L)
    unfolding Rising
    levels_rest =
        rising_same (λ v u. ltb u v) falling (levels (drop i L)) (w ∷ levels (drop j L)) (levels_falling (drop i L))
        ((λ y m. let q = levels_of (drop j L) y m in lt-ltb y w (omega (arith, q.2, rest_light q.0 q.1))), levels_falling (drop j L)) to fro
      where
        to : Holds (w ∷ levels (drop j L)) (levels (drop i L))
        to y m = go (rest_cases q.0 q.1)
          where
            q : (l : Link) × l ∈ drop i L × (y ≡ l.weight)
            q = levels_of (drop i L) y m

            go : (q.0.weight ≡ w) ⊎ q.0 ∈ drop j L → y ∈ (w ∷ levels (drop j L))
            go (inl f) = Memᴰ.head (q.2 ∙ f)
            go (inr n) = Memᴰ.tail (Memᴰ.cast q.2 (levels_at (drop j L) q.0 n))

        fro : Holds (levels (drop i L)) (w ∷ levels (drop j L))
        fro y m = go (Memᴰ.cases_cons m)
          where
            go : (y ≡ w) ⊎ y ∈ levels (drop j L) → y ∈ levels (drop i L)
            go (inl f) = Memᴰ.cast (f ∙ weighs) (levels_at (drop i L) (get_or L i d) next_in)
            go (inr n) = let q = levels_of (drop j L) y n in Memᴰ.cast q.2 (levels_at (drop i L) q.0 (rest_in q.0 q.1))
