-- What document 01 says of the four tables when F are the k-cliques of the links so far. Slot order, the entries beyond this, and smallest and union
-- in other used slots are free. Assumes nothing.
use Rattle.std.specs.Prelude.{◌≡◌, ◌↔◌, Bool, true, ◌&&◌, List, ℕ, ◌≤◌, ◌<◌, get_or}
use Rattle.sets.specs.Lists.{◌∈◌, any}
use Rattle.sets.specs.Sets.{sub}
use Rattle.sets.specs.Value.{row}
use Rattle.percolation.specs.Percolate.{Community, shown, joined, communities}
use Rattle.percolation.specs.Links.{slot_sets}
use Rattle.joining.specs.Entries.{root_of}
use Rattle.slots.specs.Tables.{Tables, Level, room}

-- s and t lie in members of F of one community
unfoldable pub in_one_community : ℕ → List ℕ → ℕ → ℕ → Bool
unfolding any sub joined
in_one_community k F s t = any (λ a. sub s a && any (λ b. sub t b && joined k F a b) F) F

-- the smallest clique and the union that stand at the end of slot i
unfoldable pub shown_at : Tables → ℕ → Community
unfolding row root_of
shown_at T i = shown (row T.smallest (root_of T.entries i)) (row T.unions (root_of T.entries i))

-- slot i holds nothing
pub record Unused (T : Tables) (i : ℕ) : Type 0 where
  pub set : row T.sets i ≡ 0
  pub entry : get_or T.entries i 0 ≡ 0
  pub smallest : row T.smallest i ≡ 0
  pub union : row T.unions i ≡ 0

pub record Shows (p k : ℕ) (F : List ℕ) (T : Tables) : Type 0 where
  pub level : Level T
  pub fits : T.used ≤ room T.entries
  -- a slot holds one (k-1)-set that lies in some k-clique, each such set once
  pub held : (i : ℕ) → i < T.used → row T.sets i ∈ slot_sets p k F
  pub each : (s : ℕ) → s ∈ slot_sets p k F → (i : ℕ) × (i < T.used) × (row T.sets i ≡ s)
  pub once : (i j : ℕ) → i < T.used → j < T.used → row T.sets i ≡ row T.sets j → i ≡ j
  -- a joining entry never exceeds its own slot number
  pub down : (i : ℕ) → i < T.used → get_or T.entries i 0 ≤ i
  -- used slots come first; the others are zero
  pub others : (i : ℕ) → T.used ≤ i → Unused T i
  -- two slots end at the same one exactly when their cliques lie in k-cliques of one community
  pub ends : (i j : ℕ) → i < T.used → j < T.used
      → (root_of T.entries i ≡ root_of T.entries j) ↔ (in_one_community k F (row T.sets i) (row T.sets j) ≡ true)
  -- that community's smallest clique and union stand there
  pub stands : (i a : ℕ) → i < T.used → a ∈ F → sub (row T.sets i) a ≡ true
      → shown_at T i ∈ communities k F × (joined k F (shown_at T i).small a ≡ true)
