-- What a join does to the classes of slots, and what then stands at their ends. Assumes nothing.
use mathlib.Core.Path.{◌≡◌, sym, ap, ◌∙◌, subst}
use mathlib.Core.Logic.{◌⊎◌, inl, inr}
use mathlib.Core.List.{List}
use Prim.Native.Nat.{ℕ, ◌≤◌, ◌<◌, ◌^◌}
use native.Mathlib.Omega.{arith}
use lib.ListN.{length, get_or, set}
use lib.Seq.{get_or-set_same, get_or-set_other}
use Rattle.sets.specs.Value.{width, rows, row}
use Rattle.sets.proofs.Tests.{lt_or_le, same_or_not}
use Rattle.sets.proofs.Tables.{row_store, row_other}
use Rattle.joining.specs.Entries.{root_of}
use Rattle.joining.specs.Model.{halved}
use Rattle.slots.specs.Model.{low_root, high_root, merged}
use Rattle.joining.proofs.Follow.{root_go, root_stop, root_ind, root_le, root_ends, root_twice, halved_root, halved_length}

-- ---- an end's entry is set to a lower end, or to itself

module _ (es : List ℕ) (lo hi : ℕ) (under : lo ≤ hi) (within : hi < length es) (low : root_of es lo ≡ lo) (high : root_of es hi ≡ hi) where
  ends_at : (r : ℕ) → root_of es r ≡ r → r ≤ get_or es r r
  ends_at r e = subst (λ (x : ℕ). x ≤ get_or es x x) e (root_ends es r)

  at_high : (d : ℕ) → get_or (set es hi lo) hi d ≡ lo
  at_high d = get_or-set_same es hi lo d within

  at_other : (x : ℕ) → (x ≡ hi → ⊥) → get_or (set es hi lo) x x ≡ get_or es x x
  at_other x ne = get_or-set_other es hi x lo x ne

  low_stays : root_of (set es hi lo) lo ≡ lo
  low_stays = go (same_or_not lo hi)
    where
      go : (lo ≡ hi) ⊎ (lo ≡ hi → ⊥) → root_of (set es hi lo) lo ≡ lo
      go (inl e) = root_stop (set es hi lo) lo (omega (arith, ap (λ (x : ℕ). get_or (set es hi lo) x lo) e, at_high lo))
      go (inr ne) = root_stop (set es hi lo) lo (omega (arith, at_other lo ne, ends_at lo low))

  high_falls : root_of (set es hi lo) hi ≡ lo
  high_falls = go (same_or_not lo hi)
    where
      go : (lo ≡ hi) ⊎ (lo ≡ hi → ⊥) → root_of (set es hi lo) hi ≡ lo
      go (inl e) = ap (root_of (set es hi lo)) (sym e) ∙ low_stays
      go (inr ne) = root_go (set es hi lo) hi (omega (arith, at_high hi)) ∙ ap (root_of (set es hi lo)) (at_high hi) ∙ low_stays

  abbrev Moved : ℕ → ℕ → Type 0
  Moved x r = (r ≡ hi → root_of (set es hi lo) x ≡ lo) × ((r ≡ hi → ⊥) → root_of (set es hi lo) x ≡ r)

  -- the class of hi now ends at lo, and every other where it did
  set_root : (x : ℕ) → Moved x (root_of es x)
  set_root = root_ind es Moved stop step
    where
      stop : (x : ℕ) → x ≤ get_or es x x → Moved x x
      stop x h = ((λ e. ap (root_of (set es hi lo)) e ∙ high_falls), (λ ne. root_stop (set es hi lo) x (omega (arith, at_other x ne))))

      step : (x r : ℕ) → get_or es x x < x → Moved (get_or es x x) r → Moved x r
      step x r h ih =
          let ne : (x ≡ hi → ⊥) = λ e. omega (arith, ap (λ (y : ℕ). get_or es y y) e, ends_at hi high) in
          let up : root_of (set es hi lo) x ≡ root_of (set es hi lo) (get_or es x x) = root_go (set es hi lo) x (omega (arith, at_other x ne)) ∙ ap (root_of (set es hi lo)) (at_other x ne) in
          ((λ e. up ∙ ih.0 e), (λ n. up ∙ ih.1 n))

-- ---- the classes of slots i and j become one

-- the entries after a join
abbrev joined_entries : List ℕ → ℕ → ℕ → List ℕ
joined_entries es i j = set (halved (halved es i) j) (high_root es i j) (low_root es i j)

-- slot x is of the class of i or of j
abbrev pub Either : List ℕ → ℕ → ℕ → ℕ → Type 0
Either es i j x = (root_of es x ≡ root_of es i) ⊎ (root_of es x ≡ root_of es j)

-- the lower and the higher root are those of the two slots
abbrev TheRoots : List ℕ → ℕ → ℕ → Type 0
TheRoots es i j = ((low_root es i j ≡ root_of es i) × (high_root es i j ≡ root_of es j)) ⊎ ((low_root es i j ≡ root_of es j) × (high_root es i j ≡ root_of es i))

module _ (es : List ℕ) (i j : ℕ) where
  two_roots : TheRoots es i j
  unfolding low_root high_root
  two_roots = go (lt_or_le (root_of es i) (root_of es j))
    where
      go : (root_of es i < root_of es j) ⊎ (root_of es j ≤ root_of es i) → TheRoots es i j
      go (inl l) = inl (omega arith, omega arith)
      go (inr l) = inr (omega arith, omega arith)

  pub low_high : low_root es i j ≤ high_root es i j
  unfolding low_root high_root
  low_high = omega arith

  pub high_le : (n : ℕ) → i < n → j < n → high_root es i j < n
  unfolding high_root
  high_le n a b = omega (arith, root_le es i, root_le es j)

  pub either_or_not : (x : ℕ) → Either es i j x ⊎ (Either es i j x → ⊥)
  either_or_not x = go (same_or_not (root_of es x) (root_of es i)) (same_or_not (root_of es x) (root_of es j))
    where
      go : (root_of es x ≡ root_of es i) ⊎ (root_of es x ≡ root_of es i → ⊥) → (root_of es x ≡ root_of es j) ⊎ (root_of es x ≡ root_of es j → ⊥)
          → Either es i j x ⊎ (Either es i j x → ⊥)
      go (inl a) b = inl (inl a)
      go (inr a) (inl b) = inl (inr b)
      go (inr a) (inr b) = inr (elim [ inl e ↦ a e | inr e ↦ b e ])

  either_same : (x y : ℕ) → root_of es x ≡ root_of es y → Either es i j x → Either es i j y
  either_same x y e = subst (λ (r : ℕ). (r ≡ root_of es i) ⊎ (r ≡ root_of es j)) e

  -- what holds of both ends holds of the lower and of the higher
  both_roots : (P : ℕ → Type 0) → P (root_of es i) → P (root_of es j) → P (low_root es i j) × P (high_root es i j)
  both_roots P a b = go two_roots
    where
      go : TheRoots es i j → P (low_root es i j) × P (high_root es i j)
      go (inl h) = (subst P (sym h.0) a, subst P (sym h.1) b)
      go (inr h) = (subst P (sym h.0) b, subst P (sym h.1) a)

  roots_either : (x : ℕ) → (root_of es x ≡ low_root es i j → Either es i j x) × (root_of es x ≡ high_root es i j → Either es i j x)
  roots_either x = both_roots (λ r. root_of es x ≡ r → Either es i j x) inl inr

  either_root : (x : ℕ) → Either es i j x → (root_of es x ≡ low_root es i j) ⊎ (root_of es x ≡ high_root es i j)
  either_root x = go two_roots
    where
      go : TheRoots es i j → Either es i j x → (root_of es x ≡ low_root es i j) ⊎ (root_of es x ≡ high_root es i j)
      go (inl r) (inl e) = inl (e ∙ sym r.0)
      go (inl r) (inr e) = inr (e ∙ sym r.1)
      go (inr r) (inl e) = inr (e ∙ sym r.1)
      go (inr r) (inr e) = inl (e ∙ sym r.0)

  pub roots_own : (root_of es (low_root es i j) ≡ low_root es i j) × (root_of es (high_root es i j) ≡ high_root es i j)
  roots_own = both_roots (λ r. root_of es r ≡ r) (root_twice es i) (root_twice es j)

  two_halved : (x : ℕ) → root_of (halved (halved es i) j) x ≡ root_of es x
  two_halved x = halved_root (halved es i) j x ∙ halved_root es i x

  module _ (wi : i < length es) (wj : j < length es) where
    moved : (x : ℕ) → (root_of es x ≡ high_root es i j → root_of (joined_entries es i j) x ≡ low_root es i j)
        × ((root_of es x ≡ high_root es i j → ⊥) → root_of (joined_entries es i j) x ≡ root_of es x)
    moved x =
        let fs = halved (halved es i) j in
        let long : length fs ≡ length es = halved_length (halved es i) j ∙ halved_length es i in
        let m =
        set_root fs (low_root es i j) (high_root es i j) low_high (omega (arith, high_le (length es) wi wj))
        (two_halved (low_root es i j) ∙ roots_own.0) (two_halved (high_root es i j) ∙ roots_own.1) x
        in
        ((λ e. m.0 (two_halved x ∙ e)), (λ n. m.1 (λ e. n (sym (two_halved x) ∙ e)) ∙ two_halved x))

    -- a slot of either class ends at the lower root, and any other where it did
    pub joined_in : (x : ℕ) → Either es i j x → root_of (joined_entries es i j) x ≡ low_root es i j
    joined_in x e = go (same_or_not (root_of es x) (high_root es i j)) (either_root x e)
      where
        go : (root_of es x ≡ high_root es i j) ⊎ (root_of es x ≡ high_root es i j → ⊥) → (root_of es x ≡ low_root es i j) ⊎ (root_of es x ≡ high_root es i j)
            → root_of (joined_entries es i j) x ≡ low_root es i j
        go (inl h) r = (moved x).0 h
        go (inr n) (inl l) = (moved x).1 n ∙ l
        go (inr n) (inr h) = absurd (n h)

    joined_out : (x : ℕ) → (Either es i j x → ⊥) → root_of (joined_entries es i j) x ≡ root_of es x
    joined_out x n = (moved x).1 (λ e. n ((roots_either x).1 e))

    -- slots of one class stay so, and slots of one class were so or are of the two
    pub joined_same : (x y : ℕ) → root_of es x ≡ root_of es y → root_of (joined_entries es i j) x ≡ root_of (joined_entries es i j) y
    joined_same x y e = go (either_or_not x)
      where
        go : Either es i j x ⊎ (Either es i j x → ⊥) → root_of (joined_entries es i j) x ≡ root_of (joined_entries es i j) y
        go (inl a) = joined_in x a ∙ sym (joined_in y (either_same x y e a))
        go (inr n) = joined_out x n ∙ e ∙ sym (joined_out y (λ h. n (either_same y x (sym e) h)))

    pub joined_apart : (x y : ℕ) → root_of (joined_entries es i j) x ≡ root_of (joined_entries es i j) y → (root_of es x ≡ root_of es y) ⊎ (Either es i j x × Either es i j y)
    joined_apart x y e = go (either_or_not x) (either_or_not y)
      where
        go : Either es i j x ⊎ (Either es i j x → ⊥) → Either es i j y ⊎ (Either es i j y → ⊥) → (root_of es x ≡ root_of es y) ⊎ (Either es i j x × Either es i j y)
        go (inl a) (inl b) = inr (a, b)
        go (inl a) (inr n) = absurd (n ((roots_either y).0 (sym (joined_out y n) ∙ sym e ∙ joined_in x a)))
        go (inr n) (inl b) = absurd (n ((roots_either x).0 (sym (joined_out x n) ∙ e ∙ joined_in y b)))
        go (inr n) (inr o) = inl (sym (joined_out x n) ∙ e ∙ joined_out y o)

    -- ---- what stands at the ends

    module _ (f : ℕ → ℕ → ℕ) (xs : List ℕ) (level : rows xs ≡ length es)
        (fit : (a b : ℕ) → a < 2 ^ width → b < 2 ^ width → f a b < 2 ^ width)
        (ai : row xs (root_of es i) < 2 ^ width) (aj : row xs (root_of es j) < 2 ^ width) where
      -- what holds of the values of i and of j, and is kept by f, holds of the new value
      both_values : (P : ℕ → Type 0) → ((a b : ℕ) → P a → P b → P (f a b)) → P (row xs (root_of es i)) → P (row xs (root_of es j))
          → P (f (row xs (low_root es i j)) (row xs (high_root es i j)))
      both_values P keeps pi pj = let b = both_roots (λ r. P (row xs r)) pi pj in keeps (row xs (low_root es i j)) (row xs (high_root es i j)) b.0 b.1

      value_in : (x : ℕ) → Either es i j x → row (merged f xs (low_root es i j) (high_root es i j)) (root_of (joined_entries es i j) x) ≡ f (row xs (low_root es i j)) (row xs (high_root es i j))
      unfolding merged
      value_in x e =
          rw (joined_in x e)
          (row_store xs (low_root es i j) (f (row xs (low_root es i j)) (row xs (high_root es i j)))
          (omega (arith, low_high, high_le (length es) wi wj)) (both_values (λ v. v < 2 ^ width) fit ai aj))

      pub value_out : (x : ℕ) → (Either es i j x → ⊥) → row (merged f xs (low_root es i j) (high_root es i j)) (root_of (joined_entries es i j) x) ≡ row xs (root_of es x)
      unfolding merged
      value_out x n = rw (joined_out x n) (row_other xs (low_root es i j) (root_of es x) _ (λ e. n ((roots_either x).0 e)))

      pub value_sound : (P : ℕ → Type 0) → ((a b : ℕ) → P a → P b → P (f a b)) → P (row xs (root_of es i)) → P (row xs (root_of es j)) → (x : ℕ) → Either es i j x
          → P (row (merged f xs (low_root es i j) (high_root es i j)) (root_of (joined_entries es i j) x))
      value_sound P keeps pi pj x e = subst P (sym (value_in x e)) (both_values P keeps pi pj)

      -- what holds of a value, and of f of it and any other, still holds at the slot
      pub value_grows : (L : ℕ → Type 0) → ((a b : ℕ) → L a → L (f a b)) → ((a b : ℕ) → L b → L (f a b)) → (x : ℕ) → L (row xs (root_of es x))
          → L (row (merged f xs (low_root es i j) (high_root es i j)) (root_of (joined_entries es i j) x))
      value_grows L left right x l = go (either_or_not x)
        where
          at : (root_of es x ≡ low_root es i j) ⊎ (root_of es x ≡ high_root es i j) → L (f (row xs (low_root es i j)) (row xs (high_root es i j)))
          at (inl e) = left _ _ (subst (λ (z : ℕ). L (row xs z)) e l)
          at (inr e) = right _ _ (subst (λ (z : ℕ). L (row xs z)) e l)

          go : Either es i j x ⊎ (Either es i j x → ⊥) → L (row (merged f xs (low_root es i j) (high_root es i j)) (root_of (joined_entries es i j) x))
          go (inl e) = subst L (sym (value_in x e)) (at (either_root x e))
          go (inr n) = subst L (sym (value_out x n)) l
