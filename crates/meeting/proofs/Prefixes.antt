-- First links of a legal list: what they join stays joined, and two k-cliques meet at the weight of the last of the fewest that join them. Assumes
-- nothing.
use mathlib.Core.Path.{◌≡◌, sym, ap, ◌∙◌, subst}
use mathlib.Core.Logic.{◌⊎◌, inl, inr}
use mathlib.Core.Bool.{true, false}
use mathlib.Core.List.Memᴰ
use mathlib.Core.List.{List}
use Prim.Native.Nat.{ℕ, zero, suc, ◌+◌, ◌-◌, ◌≤◌, ◌<◌}
use native.Mathlib.Omega.{arith}
use lib.ListN.{length, get_or, take, drop, take-append-drop, length-drop}
use lib.Seq.{take-suc, split_at, get_or-take, get_or-drop, length-take-le}
use Rattle.sets.specs.Lists.{◌∈◌}
use Rattle.sets.proofs.Tests.{never, lt_or_le}
use Rattle.sets.proofs.ListLaws.{Holds, get_d_member}
use Rattle.percolation.specs.Percolate.{adjacent, Chain, joined}
use Rattle.percolation.specs.Links.{Link, link, heavy, cliques, family}
use Rattle.percolation.specs.Levels.{met, never as not-met, meeting}
use Rattle.percolation.specs.Steps.{legal}
use Rattle.percolation.proofs.Accepted.{legal_positive, legal_falling}
use Rattle.percolation.proofs.Chains.{chain_mono, joined_chain, chain_joined}
use Rattle.percolation.proofs.Families.{linked_mono, cliques_mono}
use Rattle.percolation.proofs.Levels.{heavy_of, heavy_at}
use Rattle.percolation.proofs.Meet.{meeting_at, never_at}
use Rattle.runs.proofs.Ran.{between}
use Rattle.runs.proofs.Falling.{AllHeavy, none_heavy, heavy_more, heavy_first}

-- the link of number j; what stands past the end is never read
abbrev pub link_at : List Link → ℕ → Link
link_at L j = get_or L j (link 0 0 0)

-- ---- more links

pub held_cliques : (L M : List Link) (p k : ℕ) → Holds M L → Holds (cliques M p k) (cliques L p k)
held_cliques L M p k h = cliques_mono L M p p k (linked_mono L M h) (omega arith)

pub held_joined : (L M : List Link) (p k a b : ℕ) → Holds M L → joined k (cliques L p k) a b ≡ true → joined k (cliques M p k) a b ≡ true
held_joined L M p k a b h t = chain_joined k (cliques M p k) a b (chain_mono (held_cliques L M p k h) (joined_chain k (cliques L p k) a b t))

pub prefix_held : (L : List Link) (i j : ℕ) → i ≤ j → Holds (take j L) (take i L)
prefix_held L i j h x m = subst (λ (N : List Link). x ∈ N) (between i j L h) (Memᴰ.append_left (drop i (take j L)) m)

pub prefix_all : (L : List Link) (n : ℕ) → Holds L (take n L)
prefix_all L n x m = subst (λ (N : List Link). x ∈ N) (take-append-drop n L) (Memᴰ.append_left (drop n L) m)

-- what the first links join stays joined
pub joined_longer : (L : List Link) (p k a b i j : ℕ) → i ≤ j → joined k (cliques (take i L) p k) a b ≡ true → joined k (cliques (take j L) p k) a b ≡ true
joined_longer L p k a b i j h t = held_joined (take i L) (take j L) p k a b (prefix_held L i j h) t

-- ---- the meeting weight

module _ (L : List Link) (p k : ℕ) (two : 2 ≤ k) (ok : legal p L ≡ true) where
  -- weights never rise
  falls : (i j : ℕ) → i ≤ j → j < length L → (link_at L j).weight ≤ (link_at L i).weight
  falls i j h l = go (lt_or_le i j)
    where
      d : Link
      d = link 0 0 0

      go : (i < j) ⊎ (j ≤ i) → (link_at L j).weight ≤ (link_at L i).weight
      go (inl g) =
          let e : suc i + (j - suc i) ≡ j = omega arith in
          let m : get_or (drop (suc i) L) (j - suc i) d ∈ drop (suc i) L = get_d_member (drop (suc i) L) (j - suc i) d
          (omega (arith, length-drop (suc i) L)) in
          legal_falling p L ok (take i L) (drop (suc i) L) (link_at L i) (link_at L j) (split_at L i d (omega arith))
          (subst (λ (x : Link). x ∈ drop (suc i) L) (get_or-drop (suc i) L (j - suc i) d ∙ ap (link_at L) e) m)
      go (inr g) = let e : i ≡ j = omega arith in omega (arith, ap (λ (z : ℕ). (link_at L z).weight) e)

  -- the first links weigh no less than the next
  first_heavy : (j : ℕ) → j < length L → (n : ℕ) → n ≤ suc j → AllHeavy (link_at L j).weight (take n L)
  first_heavy j l zero h = none_heavy (link_at L j).weight
  first_heavy j l (suc n) h =
      subst (AllHeavy (link_at L j).weight) (sym (take-suc L n (link 0 0 0) (omega arith)))
      (heavy_more (link_at L j).weight (take n L) (link_at L n) (first_heavy j l n (omega arith)) (falls n j (omega arith) l))

  module _ (a b : ℕ) where
    -- the last of the fewest first links that join them has their meeting weight
    pub first_met : (n : ℕ) → 1 ≤ n → n ≤ length L → joined k (cliques (take n L) p k) a b ≡ true → joined k (cliques (take (n - 1) L) p k) a b ≡ false
        → meeting L p k a b ≡ met (link_at L (n - 1)).weight
    unfolding family
    first_met n some within t f =
        meeting_at L p k two (legal_positive p L ok) a b w
        (record { positive = legal_positive p L ok (link_at L j) (get_d_member L j (link 0 0 0) in_l); joined = reached; top = λ u _ c. top u c })
      where
        j : ℕ
        j = n - 1

        in_l : n - 1 < length L
        in_l = omega arith

        w : ℕ
        w = (link_at L (n - 1)).weight

        kept : Holds (heavy w L) (take n L)
        kept l m = heavy_at w L (prefix_all L n l m) (first_heavy (n - 1) in_l n (omega arith) l m)

        reached : Chain (adjacent k) (cliques (heavy w L) p k) a b
        reached = chain_mono (held_cliques (take n L) (heavy w L) p k kept) (joined_chain k (cliques (take n L) p k) a b t)

        -- a higher threshold keeps fewer links, which do not join them
        top : (u : ℕ) → Chain (adjacent k) (cliques (heavy u L) p k) a b → u ≤ w
        top u c = go (lt_or_le w u) (heavy_first p u L ok)
          where
            low : (r : ℕ) → r ≤ length L → take r L ≡ heavy u L → n ≤ r → u ≤ w
            low r h e g =
                let m : get_or (take r L) (n - 1) (link 0 0 0) ∈ take r L = get_d_member (take r L) (n - 1) (link 0 0 0)
                (omega (arith, length-take-le r L h)) in
                (heavy_of u L
                (subst (λ (M : List Link). link_at L (n - 1) ∈ M) e
                (subst (λ (x : Link). x ∈ take r L) (get_or-take r L (n - 1) (link 0 0 0) (omega arith)) m))).1

            pick : (r : ℕ) → r ≤ length L → take r L ≡ heavy u L → (r < n) ⊎ (n ≤ r) → u ≤ w
            pick r h e (inr g) = low r h e g
            pick r h e (inl g) =
                never (joined k (cliques (take (n - 1) L) p k) a b)
                (joined_longer L p k a b r (n - 1) (omega arith)
                (chain_joined k (cliques (take r L) p k) a b (subst (λ (M : List Link). Chain (adjacent k) (cliques M p k) a b) (sym e) c)))
                f

            go : (w < u) ⊎ (u ≤ w) → (r : ℕ) × (r ≤ length L) × (take r L ≡ heavy u L) → u ≤ w
            go (inl g) r = pick r.0 r.1 r.2 (lt_or_le r.0 n)
            go (inr g) r = g

    -- where all links do not join them they never meet
    pub never_met : joined k (cliques L p k) a b ≡ false → meeting L p k a b ≡ not-met
    unfolding family
    never_met f =
        never_at L p k two (legal_positive p L ok) a b (λ t _ c.
        never (joined k (cliques L p k) a b)
        (chain_joined k (cliques L p k) a b (chain_mono (held_cliques (heavy t L) L p k (λ l m. (heavy_of t L m).0)) c)) f)
