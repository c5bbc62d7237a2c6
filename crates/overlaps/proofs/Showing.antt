-- What shows a class of sets: a class is shown one way only, and two classes that show one smallest clique are one. Assumes nothing.
use mathlib.Core.Path.{◌≡◌, sym, ap, ap₂, ◌∙◌}
use mathlib.Core.Bool.{Bool, true, false}
use mathlib.Core.List.{List}
use Prim.Native.Nat.{ℕ, suc, ◌≤◌}
use native.Mathlib.Omega.{arith}
use borrow.Author.Tests.{le-leb}
use Rattle.sets.specs.Lists.{◌∈◌, keep}
use Rattle.sets.specs.Sets.{meet, size, sub, before, lows}
use Rattle.sets.proofs.ListLaws.{Holds, keep_at, keep_of}
use Rattle.sets.proofs.Laws.{sub_refl, sub_size}
use Rattle.sets.proofs.LowParts.{lows_size, lows_sub}
use Rattle.sets.proofs.Members.{union_same}
use Rattle.sets.proofs.Order.{set_order}
use Rattle.sets.proofs.Parts.{sub_both}
use Rattle.percolation.specs.Percolate.{overlap, Chain, alone, next, joined_by, Community, shown}
use Rattle.percolation.proofs.Chains.{overlap_sym, first_in, last_in, chain_trans, chain_sym, chain_mono, joined_by_chain, chain_joined_by}
use Rattle.percolation.proofs.Maximal.{ShowsMaximal}

-- sets that hold one set of k parts share k - 1 parts or more
pub share : (k c A B : ℕ) → k ≤ size c → sub c A ≡ true → sub c B ≡ true → overlap k A B ≡ true
unfolding overlap
share k c A B h x y = le-leb k (suc (size (meet A B))) (omega (arith, sub_size c (meet A B) (sub_both c A B x y)))

pub share_self : (k A : ℕ) → k ≤ size A → overlap k A A ≡ true
share_self k A h = share k A A A h (sub_refl A) (sub_refl A)

-- what every step from a member keeps holds at a chain's end
pub chain_keeps : {R : ℕ → ℕ → Bool} {M : List ℕ} (P : ℕ → Type 0) → ((a b : ℕ) → P a → R a b ≡ true → b ∈ M → P b)
    → {a b : ℕ} → Chain R M a b → P a → P b
chain_keeps P step (alone m) p = p
chain_keeps P step (next {a = a} {b = b} m t c) p = chain_keeps P step c (step a b p t (first_in c))

-- c shows the class that has b
abbrev pub Showing : ℕ → List ℕ → ℕ → Community → Type 0
Showing k M b c = (h : ShowsMaximal k M c) × Chain (overlap k) M h.base b

module _ (k : ℕ) (M : List ℕ) where
  -- the base of a shown class, from any member of it
  module _ (a b : ℕ) (c d : Community) (x : Showing k M a c) (y : Showing k M b d) where
    over : Chain (overlap k) M a b → Chain (overlap k) M x.0.base y.0.base
    over j = chain_trans x.1 (chain_trans j (chain_sym (overlap_sym k) y.1))

    -- the smallest clique of d is not after that of c
    not_after : Chain (overlap k) M a b → before c.small d.small ≡ false
    not_after j =
        ap (λ (z : ℕ). before z d.small) x.0.small
        ∙ y.0.least x.0.bearer (chain_trans (chain_sym (overlap_sym k) (over j)) x.0.bears)

    in_both : Chain (overlap k) M a b → (z : ℕ) → z ∈ keep (joined_by (overlap k) M y.0.base) M → z ∈ keep (joined_by (overlap k) M x.0.base) M
    in_both j z m =
        let g = keep_of (joined_by (overlap k) M y.0.base) M m in
        keep_at (joined_by (overlap k) M x.0.base) M g.0
        (chain_joined_by (overlap k) (overlap_sym k) M x.0.base z
        (chain_trans (over j) (joined_by_chain (overlap k) (overlap_sym k) M y.0.base z g.1)))

    -- two that show one smallest clique show one class, where the sets have k parts or more
    pub showing_joined : ((z : ℕ) → z ∈ M → k ≤ size z) → c.small ≡ d.small → Chain (overlap k) M a b
    showing_joined big e =
        chain_trans (chain_trans (chain_sym (overlap_sym k) x.1) x.0.bears)
        (next (last_in x.0.bears) near (chain_trans (chain_sym (overlap_sym k) y.0.bears) y.1))
      where
        A : ℕ
        A = x.0.bearer

        B : ℕ
        B = y.0.bearer

        same : lows k B ≡ lows k A
        same = sym y.0.small ∙ sym e ∙ x.0.small

        near : overlap k A B ≡ true
        near =
            share k (lows k A) A B (omega (arith, lows_size A k, big A (last_in x.0.bears))) (lows_sub A k)
            (ap (λ (z : ℕ). sub z B) (sym same) ∙ lows_sub B k)

  -- two that show one class are one
  pub showing_same : (a b : ℕ) (c d : Community) → Showing k M a c → Showing k M b d → Chain (overlap k) M a b → c ≡ d
  showing_same a b c d x y j = ap₂ shown smalls wholes
    where
      back : Chain (overlap k) M b a
      back = chain_sym (overlap_sym k) j

      smalls : c.small ≡ d.small
      smalls = set_order.total c.small d.small (not_after a b c d x y j) (not_after b a d c y x back)

      wholes : c.whole ≡ d.whole
      wholes =
          x.0.union
          ∙ union_same (keep (joined_by (overlap k) M x.0.base) M) (keep (joined_by (overlap k) M y.0.base) M) (in_both b a d c y x back)
          (in_both a b c d x y j)
          ∙ sym y.0.union

-- what shows a class goes by the members of the family alone
pub shows_members : (k : ℕ) (F G : List ℕ) → Holds G F → Holds F G → (c : Community) → ShowsMaximal k F c → ShowsMaximal k G c
shows_members k F G f g c h = record {
  base = h.base;
  bearer = h.bearer;
  bears = chain_mono f h.bears;
  small = h.small;
  least = λ B d. h.least B (chain_mono g d);
  union = h.union ∙ union_same (keep (joined_by (overlap k) F h.base) F) (keep (joined_by (overlap k) G h.base) G) (move F G f) (move G F g);
}
  where
    move : (K L : List ℕ) → Holds L K → (x : ℕ) → x ∈ keep (joined_by (overlap k) K h.base) K → x ∈ keep (joined_by (overlap k) L h.base) L
    move K L i x m =
        let r = keep_of (joined_by (overlap k) K h.base) K m in
        keep_at (joined_by (overlap k) L h.base) L (i x r.0)
        (chain_joined_by (overlap k) (overlap_sym k) L h.base x (chain_mono i (joined_by_chain (overlap k) (overlap_sym k) K h.base x r.1)))
