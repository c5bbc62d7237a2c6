-- What stands at a slot's end after a slot is placed and after a clique is counted in. Assumes nothing.
use mathlib.Core.Path.{◌≡◌, sym, subst}
use mathlib.Core.Logic.{◌⊎◌, inl, inr}
use mathlib.Core.List.{List}
use Prim.Native.Nat.{ℕ, ◌<◌, ◌^◌}
use native.Mathlib.Omega.{arith}
use lib.ListN.{length, set}
use lib.Seq.{get_or-set_same, get_or-set_other}
use Rattle.sets.specs.Value.{width, rows, row, store}
use Rattle.sets.proofs.Tests.{same_or_not}
use Rattle.sets.proofs.Tables.{row_store, row_other}
use Rattle.joining.specs.Entries.{root_of}
use Rattle.joining.proofs.Follow.{root_stop, root_le, root_below}

-- ---- a slot placed at n, a class of its own

module _ (es : List ℕ) (n : ℕ) (within : n < length es) where
  pub placed_root : root_of (set es n n) n ≡ n
  placed_root = root_stop (set es n n) n (omega (arith, get_or-set_same es n n n within))

  pub lower_root : (x : ℕ) → x < n → root_of (set es n n) x ≡ root_of es x
  lower_root = root_below es (set es n n) n (λ i l. get_or-set_other es n i n i (λ e. omega arith))

  module _ (xs : List ℕ) (v : ℕ) (level : rows xs ≡ length es) where
    pub placed_value : v < 2 ^ width → row (store xs n v) (root_of (set es n n) n) ≡ v
    placed_value l = rw placed_root (row_store xs n v (omega arith) l)

    pub lower_value : (x : ℕ) → x < n → row (store xs n v) (root_of (set es n n) x) ≡ row xs (root_of es x)
    lower_value x l = rw (lower_root x l) (row_other xs n (root_of es x) v (λ e. omega (arith, root_le es x)))

-- ---- a clique counted in at the end of slot f

module _ (es : List ℕ) (f Q : ℕ) (op : ℕ → ℕ → ℕ) (xs : List ℕ) where
  -- the table with it
  abbrev pub with_clique : List ℕ
  with_clique = store xs (root_of es f) (op (row xs (root_of es f)) Q)

  pub count_out : (x : ℕ) → (root_of es x ≡ root_of es f → ⊥) → row with_clique (root_of es x) ≡ row xs (root_of es x)
  count_out x n = row_other xs (root_of es f) (root_of es x) _ n

  module _ (within : f < rows xs) (fit : op (row xs (root_of es f)) Q < 2 ^ width) where
    pub count_in : (x : ℕ) → root_of es x ≡ root_of es f → row with_clique (root_of es x) ≡ op (row xs (root_of es f)) Q
    count_in x e = rw e (row_store xs (root_of es f) (op (row xs (root_of es f)) Q) (omega (arith, root_le es f)) fit)

    pub count_grows : (L : ℕ → Type 0) → ((a b : ℕ) → L a → L (op a b)) → (x : ℕ) → L (row xs (root_of es x)) → L (row with_clique (root_of es x))
    count_grows L left x l = go (same_or_not (root_of es x) (root_of es f))
      where
        go : (root_of es x ≡ root_of es f) ⊎ (root_of es x ≡ root_of es f → ⊥) → L (row with_clique (root_of es x))
        go (inl e) = subst L (sym (count_in x e)) (left (row xs (root_of es f)) Q (subst (λ (z : ℕ). L (row xs z)) e l))
        go (inr n) = subst L (sym (count_out x n)) l
