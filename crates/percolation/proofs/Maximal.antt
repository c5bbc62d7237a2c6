-- The two methods agree: k-cliques are joined exactly where maximal cliques that hold them are joined by overlaps, and a class of maximal
-- cliques shows the same smallest clique and union. Assumes nothing.
use mathlib.Core.Path.{◌≡◌, refl, sym, ap, ◌∙◌, subst}
use mathlib.Core.Logic.{◌⊎◌, inl, inr, ◌↔◌}
use mathlib.Core.Bool.{true, false, not, ◌&&◌}
use mathlib.Core.List.{List}
use Prim.Native.Nat.{ℕ, zero, suc, ◌+◌, ◌-◌, ◌≤◌, ◌<◌}
use native.Mathlib.Omega.{arith}
use lib.Dec.{leb}
use borrow.Author.Tests.{eqb-true, leb-true, le-leb, not-true}
use Rattle.sets.specs.Lists.{◌∈◌, any, all, keep, below}
use Rattle.sets.specs.Sets.{has, meet, into, size, sub, before, lows, members, union_of, sets_of}
use Rattle.sets.proofs.Tests.{split, and_intro, and_left, and_right, false_not}
use Rattle.sets.proofs.ListLaws.{any_of, all_at, all_of, keep_at, keep_of, below_of, not_before}
use Rattle.sets.proofs.Laws.{sub_has, sub_refl, sub_trans, sub_size, size_le}
use Rattle.sets.proofs.Members.{member_in, in_member, union_part, union_has, sets_of_lem, union_same}
use Rattle.sets.proofs.LowParts.{lows_size, lows_sub, lows_least}
use Rattle.sets.proofs.Order.{set_order}
use Rattle.sets.proofs.Parts.{same_parts, meet_sub_l, meet_sub_r, meet_grows, into_cases, into_sub, into_within, outside, shrink, size_more, with_part, meet_in, sub_both}
use Rattle.percolation.specs.Percolate.{adjacent, overlap, Chain, alone, next, joined_by, Community, union_at, communities}
use Rattle.percolation.specs.Links.{Link, linked, clique, cliques, extends, maximals}
use Rattle.percolation.proofs.Chains.{overlap_sym, first_in, last_in, chain_trans, chain_sym, joined_by_chain, chain_joined_by}
use Rattle.percolation.proofs.Families.{Clique, linked_sym, clique_at, cliques_of, clique_part, in_sets, inside_clique}
use Rattle.percolation.proofs.Communities.{Shows, at_part, at_has, communities_of, communities_at}
use Rattle.percolation.proofs.Exchange.{near, clique_chain}

-- ---- a set that a part extends

module _ (L : List Link) (p : ℕ) where
  pub extends_of : (s q : ℕ) → extends L p s q ≡ true → (has q s ≡ false) × ((r : ℕ) → r < p → has r s ≡ true → linked L q r ≡ true)
  unfolding extends
  extends_of s q t = (
    not-true (has q s) (and_left (not (has q s)) (all (linked L q) (members p s)) t),
    λ r l h. all_of (linked L q) (members p s) (and_right (not (has q s)) (all (linked L q) (members p s)) t) (member_in p s r l h),
  )

  pub extends_at : (s q : ℕ) → has q s ≡ false → ((r : ℕ) → r < p → has r s ≡ true → linked L q r ≡ true) → extends L p s q ≡ true
  unfolding extends
  extends_at s q n h =
      and_intro (not (has q s)) (all (linked L q) (members p s)) (false_not (has q s) n)
      (all_at (linked L q) (members p s) (λ r m. let g = in_member p s r m in h r g.0 g.1))

  -- the clique with that part is a clique
  pub grow_clique : (k s q : ℕ) → Clique L p k s → q < p → extends L p s q ≡ true → Clique L p (suc k) (into q s)
  grow_clique k s q c l t =
      record {
        fits = λ r h. fit r (into_cases q r s h);
        sized = size_more q s e.0 ∙ ap suc c.sized;
        each = λ u v ne a b. two u v ne (into_cases q u s a) (into_cases q v s b);
      }
    where
      e : (has q s ≡ false) × ((r : ℕ) → r < p → has r s ≡ true → linked L q r ≡ true)
      e = extends_of s q t

      fit : (r : ℕ) → (r ≡ q) ⊎ (has r s ≡ true) → r < p
      fit r (inl x) = omega arith
      fit r (inr x) = c.fits r x

      two : (u v : ℕ) → (u ≡ v → ⊥) → (u ≡ q) ⊎ (has u s ≡ true) → (v ≡ q) ⊎ (has v s ≡ true) → linked L u v ≡ true
      two u v ne (inl x) (inl y) = absurd (ne (x ∙ sym y))
      two u v ne (inl x) (inr y) = ap (λ (z : ℕ). linked L z v) x ∙ e.1 v (c.fits v y) y
      two u v ne (inr x) (inl y) = ap (linked L u) y ∙ linked_sym L q u (e.1 u (c.fits u x) x)
      two u v ne (inr x) (inr y) = c.each u v ne x y

-- ---- the maximal cliques

-- a clique of k parts or more that no part extends
pub record Maximal (L : List Link) (p k A : ℕ) : Type 0 where
  pub clique : Clique L p (size A) A
  pub sized : k ≤ size A
  pub closed : any (extends L p A) (below p) ≡ false

module _ (L : List Link) (p k : ℕ) where
  pub maximals_of : (A : ℕ) → A ∈ maximals L p k → Maximal L p k A
  unfolding maximals
  maximals_of A m =
      let h = keep_of (λ s. leb k (size s) && (clique L p s && not (any (extends L p s) (below p)))) (sets_of p) m in
      let t = and_right (leb k (size A)) (clique L p A && not (any (extends L p A) (below p))) h.1 in
      record {
        clique = clique_part L p A h.0 (and_left (clique L p A) (not (any (extends L p A) (below p))) t);
        sized = leb-true k (size A) (and_left (leb k (size A)) (clique L p A && not (any (extends L p A) (below p))) h.1);
        closed = not-true (any (extends L p A) (below p)) (and_right (clique L p A) (not (any (extends L p A) (below p))) t);
      }

  pub maximals_at : (A : ℕ) → Maximal L p k A → A ∈ maximals L p k
  unfolding maximals
  maximals_at A h =
      keep_at (λ s. leb k (size s) && (clique L p s && not (any (extends L p s) (below p)))) (sets_of p) (in_sets p A h.clique.fits)
      (and_intro (leb k (size A)) (clique L p A && not (any (extends L p A) (below p))) (le-leb k (size A) h.sized)
      (and_intro (clique L p A) (not (any (extends L p A) (below p)))
      (clique_at L p A (λ q r l b x y. h.clique.each q r (λ e. omega arith) x y)) (false_not (any (extends L p A) (below p)) h.closed)))

  -- a clique of k parts or more lies in a maximal one: it is one, or a part extends it
  extend : (n s : ℕ) → p < size s + n → k ≤ size s → Clique L p (size s) s → (B : ℕ) × B ∈ maximals L p k × (sub s B ≡ true)
  extend zero s l h c = absurd (omega (arith, size_le p s (sets_of_lem p s (in_sets p s c.fits))))
  extend (suc n) s l h c = go (split (any (extends L p s) (below p))) (extend n)
    where
      go : (any (extends L p s) (below p) ≡ true) ⊎ (any (extends L p s) (below p) ≡ false)
          → ((z : ℕ) → p < size z + n → k ≤ size z → Clique L p (size z) z → (B : ℕ) × B ∈ maximals L p k × (sub z B ≡ true))
          → (B : ℕ) × B ∈ maximals L p k × (sub s B ≡ true)
      go (inr t) rest = (s, maximals_at s (record { clique = c; sized = h; closed = t }), sub_refl s)
      go (inl t) rest =
          let f = any_of (extends L p s) (below p) t in
          let q : ℕ = f.0 in
          let g = grow_clique L p (size s) s q c (below_of p f.1) f.2 in
          let r = rest (into q s) (omega (arith, g.sized)) (omega (arith, g.sized)) (record { fits = g.fits; sized = refl; each = g.each }) in
          (r.0, r.1, sub_trans s (into q s) r.0 (into_sub q s) r.2)

  pub lies_in : (a : ℕ) → a ∈ cliques L p k → (A : ℕ) × A ∈ maximals L p k × (sub a A ≡ true)
  lies_in a m =
      let c = cliques_of L p k m in
      extend (suc p) a (omega arith) (omega (arith, c.sized)) (record { fits = c.fits; sized = refl; each = c.each })

  -- ---- chains of the one give chains of the other

  shares : (a b A B : ℕ) → sub a A ≡ true → sub b B ≡ true → k ≤ suc (size (meet a b)) → overlap k A B ≡ true
  unfolding overlap
  shares a b A B ia ib h = le-leb k (suc (size (meet A B))) (omega (arith, meet_grows a b A B ia ib))

  pub chain_overlap : {a b : ℕ} → Chain (adjacent k) (cliques L p k) a b → (A B : ℕ) → A ∈ maximals L p k → B ∈ maximals L p k
      → sub a A ≡ true → sub b B ≡ true → Chain (overlap k) (maximals L p k) A B
  unfolding adjacent
  chain_overlap (alone {a = a} m) A B mA m_b ia ib =
      next mA (shares a a A B ia ib (omega (arith, (cliques_of L p k m).sized, meet_grows a a a a (sub_refl a) (sub_refl a), whole a))) (alone m_b)
    where
      whole : (s : ℕ) → size (meet s s) ≡ size s
      whole s = ap size (same_parts (meet s s) s (λ q. sub_has q (meet s s) s (meet_sub_l s s)) (λ q h. meet_in q s s h h))
  chain_overlap (next {a = a} {b = b} m t c) A B mA m_b ia ib =
      let r = lies_in b (first_in c) in
      next mA (shares a b A r.0 ia r.2 (omega (arith, eqb-true (suc (size (meet a b))) k t))) (chain_overlap c r.0 B r.1 m_b r.2 ib)

  -- two sets of k parts or more that share k - 1 or more: k-sets of each that share k - 1 or more
  record Bridge (A B a b : ℕ) : Type 0 where
    left : size a ≡ k
    left_in : sub a A ≡ true
    right : size b ≡ k
    right_in : sub b B ≡ true
    share : k ≤ suc (size (meet a b))

  module _ (one : 1 ≤ k) where
    bridge : (A B : ℕ) → k ≤ size A → k ≤ size B → k ≤ suc (size (meet A B)) → (a : ℕ) × (b : ℕ) × Bridge A B a b
    bridge A B ha hb h =
        let s = shrink (k - 1) (meet A B) (omega arith) in
        let c : ℕ = s.0 in
        let sc : size c ≡ k - 1 = s.1 in
        let cA : sub c A ≡ true = sub_trans c (meet A B) A s.2 (meet_sub_l A B) in
        let cB : sub c B ≡ true = sub_trans c (meet A B) B s.2 (meet_sub_r A B) in
        let x = outside c A (omega (arith, sub_size (meet c A) c (meet_sub_l c A))) in
        let y = outside c B (omega (arith, sub_size (meet c B) c (meet_sub_l c B))) in
        let a : ℕ = into x.0 c in
        let b : ℕ = into y.0 c in (
          a,
          b,
          record {
            left = omega (arith, size_more x.0 c x.2);
            left_in = into_within x.0 c A x.1 cA;
            right = omega (arith, size_more y.0 c y.2);
            right_in = into_within y.0 c B y.1 cB;
            share = omega (arith, sub_size c (meet a b) (sub_both c a b (into_sub x.0 c) (into_sub y.0 c)));
          },
        )

    pub overlap_chain : {A B : ℕ} → Chain (overlap k) (maximals L p k) A B → (a b : ℕ) → size a ≡ k → size b ≡ k → sub a A ≡ true → sub b B ≡ true
        → Chain (adjacent k) (cliques L p k) a b
    unfolding overlap
    overlap_chain (alone {a = A} m) a b sa sb ia ib = clique_chain L p k (size A) A a b (maximals_of A m).clique sa sb ia ib
    overlap_chain (next {a = A} {b = B} m t c) a b sa sb ia ib =
        let M = maximals_of A m in
        let N = maximals_of B (first_in c) in
        let r = bridge A B M.sized N.sized (leb-true k (suc (size (meet A B))) t) in
        let x : ℕ = r.0 in
        let y : ℕ = r.1 in
        let h = r.2 in
        chain_trans (clique_chain L p k (size A) A a x M.clique sa h.left ia h.left_in)
        (chain_trans
        (near k x y h.left h.right h.share (inside_clique L p (size A) A k x M.clique h.left_in h.left)
        (inside_clique L p (size B) B k y N.clique h.right_in h.right))
        (overlap_chain c y b h.right sb h.right_in ib))

    -- the two methods agree on what is joined
    pub agree : (a b A B : ℕ) → a ∈ cliques L p k → b ∈ cliques L p k → A ∈ maximals L p k → B ∈ maximals L p k → sub a A ≡ true → sub b B ≡ true
        → Chain (adjacent k) (cliques L p k) a b ↔ Chain (overlap k) (maximals L p k) A B
    agree a b A B ma mb mA m_b ia ib =
        (λ c. chain_overlap c A B mA m_b ia ib, λ c. overlap_chain c a b (cliques_of L p k ma).sized (cliques_of L p k mb).sized ia ib)

-- ---- a class of maximal cliques, as a community: the least of the k lowest parts of its members, and the union of its members

pub record ShowsMaximal (k : ℕ) (M : List ℕ) (c : Community) : Type 0 where
  pub base : ℕ
  pub bearer : ℕ
  pub bears : Chain (overlap k) M base bearer
  pub small : c.small ≡ lows k bearer
  pub least : (B : ℕ) → Chain (overlap k) M base B → before (lows k B) c.small ≡ false
  pub union : c.whole ≡ union_of (keep (joined_by (overlap k) M base) M)

module _ (L : List Link) (p k : ℕ) (one : 1 ≤ k) where
  -- the k lowest parts of a maximal clique
  low_sized : (A : ℕ) → A ∈ maximals L p k → size (lows k A) ≡ k
  low_sized A m = omega (arith, lows_size A k, (maximals_of L p k A m).sized)

  low_in : (A : ℕ) → A ∈ maximals L p k → lows k A ∈ cliques L p k
  low_in A m = inside_clique L p (size A) A k (lows k A) (maximals_of L p k A m).clique (lows_sub A k) (low_sized A m)

  -- no k-clique in A comes before them
  low_least : (A a : ℕ) → size a ≡ k → sub a A ≡ true → before a (lows k A) ≡ false
  low_least A a s i = ap (λ (n : ℕ). before a (lows n A)) (sym s) ∙ lows_least A a i

  -- the unions of the two classes are one
  union_agrees : (a A : ℕ) → a ∈ cliques L p k → A ∈ maximals L p k → sub a A ≡ true
      → union_at k (cliques L p k) a ≡ union_of (keep (joined_by (overlap k) (maximals L p k) A) (maximals L p k))
  union_agrees a A ma mA ia = same_parts (union_at k F a) (union_of (keep (joined_by (overlap k) M A) M)) to fro
    where
      F : List ℕ
      F = cliques L p k

      M : List ℕ
      M = maximals L p k

      to : (q : ℕ) → has q (union_at k F a) ≡ true → has q (union_of (keep (joined_by (overlap k) M A) M)) ≡ true
      to q h =
          let r = at_part k F a q h in
          let w = lies_in L p k r.0 (last_in r.1) in
          let c = chain_overlap L p k r.1 A w.0 mA w.1 ia w.2 in
          union_has q (keep (joined_by (overlap k) M A) M)
          (keep_at (joined_by (overlap k) M A) M w.1 (chain_joined_by (overlap k) (overlap_sym k) M A w.0 c)) (sub_has q r.0 w.0 w.2 r.2)

      fro : (q : ℕ) → has q (union_of (keep (joined_by (overlap k) M A) M)) ≡ true → has q (union_at k F a) ≡ true
      fro q h =
          let r = union_part q (keep (joined_by (overlap k) M A) M) h in
          let g = keep_of (joined_by (overlap k) M A) M r.1 in
          let c = joined_by_chain (overlap k) (overlap_sym k) M A r.0 g.1 in
          let w = with_part k q r.0 one (maximals_of L p k r.0 g.0).sized r.2 in
          at_has k F a q w.0 (overlap_chain L p k one c a w.0 (cliques_of L p k ma).sized w.1 ia w.2) w.3

  pub community_maximal : (c : Community) → Shows k (cliques L p k) c → ShowsMaximal k (maximals L p k) c
  community_maximal c h =
      let w = lies_in L p k c.small h.member in
      let A : ℕ = w.0 in
      let s = (cliques_of L p k h.member).sized in
      record {
        base = A;
        bearer = A;
        bears = alone w.1;
        small = set_order.total c.small (lows k A) (low_least A c.small s w.2)
            (h.least (lows k A) (overlap_chain L p k one (alone w.1) c.small (lows k A) s (low_sized A w.1) w.2 (lows_sub A k)));
        least = λ B d. h.least (lows k B) (overlap_chain L p k one d c.small (lows k B) s (low_sized B (last_in d)) w.2 (lows_sub B k));
        union = h.union ∙ union_agrees c.small A h.member w.1 w.2;
      }

  pub maximal_community : (c : Community) → ShowsMaximal k (maximals L p k) c → Shows k (cliques L p k) c
  maximal_community c h =
      record {
        member = in_f;
        least = λ b d.
            let w = lies_in L p k b (last_in d) in
            let e = chain_overlap L p k d h.bearer w.0 m_b w.1 i w.2 in
            not_before before set_order c.small (lows k w.0) b (h.least w.0 (chain_trans h.bears e))
            (low_least w.0 b (cliques_of L p k (last_in d)).sized w.2);
        union = h.union ∙ same_class ∙ sym (union_agrees c.small h.bearer in_f m_b i);
      }
    where
      M : List ℕ
      M = maximals L p k

      m_b : h.bearer ∈ M
      m_b = last_in h.bears

      i : sub c.small h.bearer ≡ true
      i = ap (λ (z : ℕ). sub z h.bearer) h.small ∙ lows_sub h.bearer k

      in_f : c.small ∈ cliques L p k
      in_f = subst (λ (z : ℕ). z ∈ cliques L p k) (sym h.small) (low_in h.bearer m_b)

      -- the classes of the base and of the bearer are one
      same_class : union_of (keep (joined_by (overlap k) M h.base) M) ≡ union_of (keep (joined_by (overlap k) M h.bearer) M)
      same_class =
          union_same (keep (joined_by (overlap k) M h.base) M) (keep (joined_by (overlap k) M h.bearer) M)
          (λ z m. move h.base h.bearer (chain_sym (overlap_sym k) h.bears) z m) (λ z m. move h.bearer h.base h.bears z m)
        where
          move : (x y : ℕ) → Chain (overlap k) M y x → (z : ℕ) → z ∈ keep (joined_by (overlap k) M x) M → z ∈ keep (joined_by (overlap k) M y) M
          move x y d z m =
              let g = keep_of (joined_by (overlap k) M x) M m in
              keep_at (joined_by (overlap k) M y) M g.0
              (chain_joined_by (overlap k) (overlap_sym k) M y z (chain_trans d (joined_by_chain (overlap k) (overlap_sym k) M x z g.1)))

  -- what the maximal-clique run shows are the communities of the k-cliques, and these are all
  pub maximal_shows : (c : Community) → c ∈ communities k (cliques L p k) ↔ ShowsMaximal k (maximals L p k) c
  maximal_shows c = (
    (λ m. community_maximal c (communities_of k (cliques L p k) c m)),
    (λ h. communities_at k (cliques L p k) c (maximal_community c h)),
  )
