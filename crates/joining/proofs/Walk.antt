-- What the loops of `root`, `halve` and `steady` keep, step by step. Assumes nothing.
use mathlib.Core.Path.{◌≡◌, refl, sym, ap, ◌∙◌}
use mathlib.Core.Logic.{◌⊎◌, inl, inr}
use mathlib.Core.List.{List}
use Prim.Native.Nat.{ℕ, zero, suc, ◌-◌, ◌≤◌, ◌<◌}
use native.Mathlib.Nat.{sub-zero, suc-sub-suc}
use native.Mathlib.Omega.{arith}
use lib.ListN.{length, get_or, set, length-set, get_or-eq_default}
use lib.Dec.{leb}
use borrow.Author.Tests.{le-leb}
use Rattle.std.specs.List.{list_all, range_with_len}
use Rattle.sets.specs.Lists.{all, below}
use Rattle.sets.proofs.Tests.{lt_or_le}
use Rattle.sets.proofs.ListLaws.{get_d_in, all_same, all_list, range_below}
use Rattle.joining.specs.Entries.{root_of}
use Rattle.joining.specs.Model.{halved_from, halved}
use Rattle.joining.proofs.Follow.{root_go, root_stop, shortcut, halve_stop, halve_last, halve_go}

-- ---- roots

-- one step of a walk that has come to slot r, and its end
module _ (es : List ℕ) (v r e : ℕ) (same : v ≡ root_of es r) (p : e ≡ get_or es r r) where
  pub walk_next : e < r → v ≡ root_of es e
  walk_next h = same ∙ root_go es r (omega arith) ∙ ap (root_of es) (sym p)

  pub walk_end : r ≤ e → r ≡ v
  walk_end h = sym (same ∙ root_stop es r (omega arith))

-- ---- path halving

-- only a slot of the table has an entry below it
pub falls_inside : (es : List ℕ) (i : ℕ) → get_or es i i < i → i < length es
falls_inside es i h = go (lt_or_le i (length es))
  where
    go : (i < length es) ⊎ (length es ≤ i) → i < length es
    go (inl l) = l
    go (inr l) = absurd (omega (arith, get_or-eq_default es i l))

-- what the loop keeps
pub record Halving (es₀ : List ℕ) (i : ℕ) (es : List ℕ) (r : ℕ) : Type 0 where
  pub down : r ≤ i
  pub long : length es ≡ length es₀
  pub fuel : ℕ
  pub enough : r ≤ fuel
  pub rest : halved es₀ i ≡ halved_from fuel es r
  pub root : root_of es₀ i ≡ root_of es r

pub halving_begin : (es : List ℕ) (i : ℕ) → Halving es i es i
unfolding halved
halving_begin es i = record { down = omega arith; long = refl; fuel = i; enough = omega arith; rest = refl; root = refl }

module _ (es₀ es : List ℕ) (i r f : ℕ) (h : Halving es₀ i es r) (p : f ≡ get_or es r r) where
  pub halving_stop : r ≤ f → (r ≡ root_of es₀ i) × (es ≡ halved es₀ i)
  halving_stop a = (walk_end es (root_of es₀ i) r f h.root p a, sym (h.rest ∙ halve_stop es r h.fuel (omega arith)))

  module _ (g : ℕ) (q : g ≡ get_or es f f) (a : f < r) where
    second : g ≡ get_or es (get_or es r r) (get_or es r r)
    second = q ∙ ap (λ (x : ℕ). get_or es x x) p

    pub halving_last : f ≤ g → (f ≡ root_of es₀ i) × (es ≡ halved es₀ i)
    halving_last b = (
      walk_end es (root_of es₀ i) f g (walk_next es (root_of es₀ i) r f h.root p a) q b,
      sym (h.rest ∙ halve_last es r h.fuel (omega arith) (omega (arith, second))),
    )

    turned : (n : ℕ) → r ≤ n → g < f → halved_from n es r ≡ halved_from (n - 1) (set es r g) g
    turned zero l b = absurd (omega arith)
    turned (suc n) l b = rw (second, suc-sub-suc, sub-zero) (halve_go es r n (omega arith) (omega (arith, second)))

    pub halving_turn : g < f → Halving es₀ i (set es r (get_or es f 0)) g
    halving_turn b =
        let d = h.down in
        let m = h.enough in
        let w : r < length es = falls_inside es r (omega arith) in
        let e : root_of es r ≡ root_of es g = walk_next es (root_of es r) f g (walk_next es (root_of es r) r f refl p a) q b in
        let v : get_or es f 0 ≡ g = get_d_in es f 0 f (omega arith) ∙ sym q in
        rw v (record {
          down = omega arith;
          long = length-set es r g ∙ h.long;
          fuel = h.fuel - 1;
          enough = omega arith;
          rest = h.rest ∙ turned h.fuel m b;
          root = h.root ∙ e ∙ sym (shortcut es r g (omega arith) (sym e) g);
        })

-- ---- entries not above their slots

-- an entry is above its slot exactly when it is so with 0 past the table's end
entry_read : (es : List ℕ) (i : ℕ) → leb (get_or es i i) i ≡ leb (get_or es i 0) i
entry_read es i = go (lt_or_le i (length es))
  where
    go : (i < length es) ⊎ (length es ≤ i) → leb (get_or es i i) i ≡ leb (get_or es i 0) i
    go (inl h) = ap (λ (e : ℕ). leb e i) (sym (get_d_in es i 0 i h))
    go (inr h) =
        let e = get_or-eq_default es 0 h in
        let d = get_or-eq_default es i h in
        le-leb (get_or es i i) i (omega arith) ∙ sym (le-leb (get_or es i 0) i (omega arith))

-- as an iterator over the slots tests them
pub steady_counted : (es : List ℕ) (n : ℕ) → list_all (λ i. leb (get_or es i i) i) (range_with_len 0 n) ≡ all (λ i. leb (get_or es i 0) i) (below n)
steady_counted es n =
    ap (list_all (λ i. leb (get_or es i i) i)) (range_below n) ∙ all_list (λ i. leb (get_or es i i) i) (below n)
    ∙ all_same (λ i. leb (get_or es i i) i) (λ i. leb (get_or es i 0) i) (below n) (entry_read es)
