-- What the code does to the four tables, step by step, is what the model says. Assumes nothing.
use mathlib.Core.Path.{◌≡◌, sym, ap, ap₂, ◌∙◌}
use mathlib.Core.Logic.{◌⊎◌}
use mathlib.Core.List.{List}
use Prim.Native.Nat.{ℕ, ◌≤◌, ◌<◌, min, max}
use lib.ListN.{set}
use Rattle.sets.specs.Sets.{union, out, lesser}
use Rattle.sets.specs.Value.{row, store}
use Rattle.joining.specs.Entries.{root_of}
use Rattle.slots.specs.Tables.{Tables, tables}
use Rattle.joining.specs.Model.{halved}
use Rattle.slots.specs.Model.{find, low_root, high_root, merged, joined, placed, joined_used, took_part, touched}
use Rattle.slots.proofs.Cases.{joined_both, joined_idle, touched_used}
use Rattle.joining.proofs.Follow.{halved_root}

-- ---- joining

pub merged_is : (f : ℕ → ℕ → ℕ) (xs ys : List ℕ) (lo hi b : ℕ) → b ≡ row xs hi → ys ≡ store xs lo (f (row xs lo) b) → ys ≡ merged f xs lo hi
unfolding merged
merged_is f xs ys lo hi b q s = s ∙ ap (λ (x : ℕ). store xs lo (f (row xs lo) x)) q

-- what `join` writes, from what it found
module _ (es fs gs : List ℕ) (i j a b lo hi : ℕ) (p : a ≡ root_of es i) (fs-is : fs ≡ halved es i) (q : b ≡ root_of fs j) (gs-is : gs ≡ halved fs j)
    (l : lo ≡ min a b) (h : hi ≡ max a b) where
  second : b ≡ root_of es j
  second = q ∙ ap (λ (x : List ℕ). root_of x j) fs-is ∙ halved_root es i j

  low_is : lo ≡ low_root es i j
  unfolding low_root
  low_is = l ∙ ap₂ min p second

  high_is : hi ≡ high_root es i j
  unfolding high_root
  high_is = h ∙ ap₂ max p second

  pub join_is : (S ms us : List ℕ) (n : ℕ) {ms₂ us₂ : List ℕ} → ms₂ ≡ merged lesser ms lo hi → us₂ ≡ merged union us lo hi
      → tables S (set gs hi lo) ms₂ us₂ n ≡ joined (tables S es ms us n) i j
  unfolding joined
  join_is S ms us n m u = rw (m, u, gs-is, fs-is, low_is, high_is)

-- ---- a slot placed, and joined

-- a part of the clique: U are the tables with its slot
module _ (P U : Tables) (f i : ℕ) (p : U ≡ P) where
  pub slot_idle : (U.used ≤ f) ⊎ (U.used ≤ i) → U ≡ joined_used P f i
  slot_idle h = rw (← p) (sym (joined_idle U f i h))

  pub slot_both : f < U.used → i < U.used → (W : Tables) → W ≡ joined U f i → W ≡ joined_used P f i
  slot_both a b W e = rw (← p) (e ∙ sym (joined_both U f i a b))

pub took_part_lem : (T W : Tables) (f Q q s i : ℕ) → s ≡ out q Q → i ≡ find T.sets T.used s → W ≡ joined_used (placed T s Q) f i → W ≡ took_part f Q q T
unfolding took_part
took_part_lem T W f Q q s i d at e = e ∙ ap₂ (λ (P : Tables) (x : ℕ). joined_used P f x) (ap (λ (x : ℕ). placed T x Q) d) (at ∙ ap (find T.sets T.used) d)

-- ---- the community has the clique

pub touch_is : (T : Tables) (f Q r : ℕ) {ms us : List ℕ} → f < T.used → r ≡ root_of T.entries f
    → ms ≡ store T.smallest r (lesser (row T.smallest r) Q) → us ≡ store T.unions r (union (row T.unions r) Q)
    → tables T.sets T.entries ms us T.used ≡ touched T f Q
touch_is T f Q r h p m u = rw (m, u, p) (sym (touched_used T f Q h))
