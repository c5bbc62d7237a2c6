-- Percolation of a family F of k-sets: adjacency, chains, classes, communities. The family is any list of sets. Assumes nothing.
use Rattle.std.specs.Prelude.{◌≡◌, Bool, true, false, not, ◌&&◌, ℕ, suc, eqb, leb}
use mathlib.Core.List.{List, [], ◌∷◌, ◌++◌, map, flatten}
use Rattle.sets.specs.Lists.{◌∈◌, any, keep, each_two, sorted}
use Rattle.sets.specs.Sets.{has, meet, size, union_of, before}
use Rattle.sets.specs.Value.{set_bytes}

-- two k-cliques that share exactly k - 1 parts
unfoldable pub adjacent : ℕ → ℕ → ℕ → Bool
unfolding meet size
adjacent k a b = eqb (suc (size (meet a b))) k

-- two sets that share k - 1 parts or more (the maximal-clique run)
unfoldable pub overlap : ℕ → ℕ → ℕ → Bool
unfolding meet size
overlap k a b = leb k (suc (size (meet a b)))

-- R is one of these two. A chain is a list of members of F, each in R with the next; one member alone is a chain. It joins its first to its last.
pub data Chain (R : ℕ → ℕ → Bool) (F : List ℕ) : ℕ → ℕ → Type 0 where
  alone : {a : ℕ} → a ∈ F → Chain R F a a
  next : {a b c : ℕ} → a ∈ F → R a b ≡ true → Chain R F b c → Chain R F a c

-- The classes of F, its members taken in one after the other: the classes that have a member in R with the new one become one class with it.
unfoldable pub touches : (ℕ → ℕ → Bool) → ℕ → List ℕ → Bool
unfolding any
touches R m c = any (R m) c

unfoldable pub take_in : (ℕ → ℕ → Bool) → ℕ → List (List ℕ) → List (List ℕ)
unfolding keep flatten touches
take_in R m C = (m ∷ flatten (keep (touches R m) C)) ∷ keep (λ c. not (touches R m c)) C

unfoldable pub classes : (ℕ → ℕ → Bool) → List ℕ → List (List ℕ)
unfolding take_in
classes R [] = []
classes R (m ∷ F) = take_in R m (classes R F)

-- some class of F has both, so that some chain joins them (`chain_joined_by`, `joined_by_chain` of proofs/Chains.antt)
unfoldable pub joined_by : (ℕ → ℕ → Bool) → List ℕ → ℕ → ℕ → Bool
unfolding any classes
joined_by R F a b = any (λ c. any (eqb a) c && any (eqb b) c) (classes R F)

unfoldable pub joined : ℕ → List ℕ → ℕ → ℕ → Bool
unfolding adjacent joined_by
joined k F a b = joined_by (adjacent k) F a b

-- A community as it is shown: its smallest k-clique and the union of its parts.
pub record Community : Type 0 where
  pub small : ℕ
  pub whole : ℕ

abbrev pub shown : ℕ → ℕ → Community
shown s u = record { small = s; whole = u }

-- m is the smallest of those that it is joined to
unfoldable pub smallest : ℕ → List ℕ → ℕ → Bool
unfolding any before joined
smallest k F m = not (any (λ b. before b m && joined k F m b) F)

-- the union of those that m is joined to
unfoldable pub union_at : ℕ → List ℕ → ℕ → ℕ
unfolding keep joined union_of
union_at k F m = union_of (keep (joined k F m) F)

-- the communities of F, by smallest k-clique
unfoldable pub communities : ℕ → List ℕ → List Community
unfolding keep sorted before smallest union_at
communities k F = map (λ m. shown m (union_at k F m)) (keep (smallest k F) (sorted before F))

-- C lists the classes of F, as chains make them (`listing_chains`, `chains_only` of proofs/ChainClasses.antt: the listing does, and no other list)
pub record ChainListing (k : ℕ) (F : List ℕ) (C : List Community) : Type 0 where
  -- the smallest clique of each is a member of F, and no clique that a chain joins to it comes before it
  pub member : (c : Community) → c ∈ C → c.small ∈ F
  pub least : (c : Community) → c ∈ C → (b : ℕ) → Chain (adjacent k) F c.small b → before b c.small ≡ false
  -- its union has the parts of the cliques that chains join to it, and no others
  pub parts : (c : Community) → c ∈ C → (b q : ℕ) → Chain (adjacent k) F c.small b → has q b ≡ true → has q c.whole ≡ true
  pub part : (c : Community) → c ∈ C → (q : ℕ) → has q c.whole ≡ true → (b : ℕ) × Chain (adjacent k) F c.small b × (has q b ≡ true)
  -- each member of F is in one of them, and in one only
  pub every : (a : ℕ) → a ∈ F → (c : Community) × c ∈ C × Chain (adjacent k) F c.small a
  pub once : (a : ℕ) (c d : Community) → c ∈ C → d ∈ C → Chain (adjacent k) F c.small a → Chain (adjacent k) F d.small a → c ≡ d
  -- they stand by smallest clique
  pub rising : each_two before (map (λ c. c.small) C) ≡ true

-- 16 bytes for each: smallest clique, then union
unfoldable pub listing_bytes : List Community → List ℕ
unfolding flatten set_bytes
listing_bytes C = flatten (map (λ c. set_bytes c.small ++ set_bytes c.whole) C)
