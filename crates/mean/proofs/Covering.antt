-- Which parts stand together in the slots of a family: slot by slot, and that by them a link is counted exactly when it lies in a clique of the family.
-- Assumes nothing.
use mathlib.Core.Path.{◌≡◌, refl, sym, ap, ap₂, ◌∙◌, subst}
use mathlib.Core.Logic.{◌⊎◌, inl, inr}
use mathlib.Core.Bool.{Bool, true, false, cond, ◌&&◌, ◌||◌, or-false}
use mathlib.Core.List.{List}
use Prim.Native.Nat.{ℕ, suc, ◌+◌, ◌≤◌, ◌<◌}
use native.Mathlib.Omega.{arith}
use native.Mathlib.Numerals.{add-one}
use lib.Dec.{eqb}
use borrow.Author.Tests.{eqb-true, eq-eqb, eqb-false}
use Rattle.sets.specs.Lists.{◌∈◌, any, below, from}
use Rattle.sets.specs.Sets.{has, one, into, out, sub}
use Rattle.sets.specs.Value.{width, rows, row, no_rows}
use Rattle.sets.proofs.Tests.{iff, and_intro, and_left, and_right, eq_or_ne}
use Rattle.sets.proofs.ListLaws.{any_at, any_of, any_more, below_at, below_of, below_more}
use Rattle.sets.proofs.Laws.{has_empty, has_one, into_has, out_sub, sub_has, sub_one, sub_same, size_one}
use Rattle.sets.proofs.Parts.{into_cases, into_keeps, into_sub, out_keeps, out_part, out_other, size_more, size_less, another}
use Rattle.sets.proofs.Tables.{rows_none, row_none}
use Rattle.percolation.specs.Percolate.{joined}
use Rattle.percolation.specs.Links.{Link, joins, linked, cliques}
use Rattle.percolation.specs.Steps.{legal}
use Rattle.percolation.specs.Mean.{in_family}
use Rattle.percolation.proofs.Accepted.{good_parts_lem, legal_parts}
use Rattle.percolation.proofs.Families.{joins_own, linked_sym, inside_ends, ends_inside, cliques_of, cliques_at}
use Rattle.percolation.proofs.Mean.{in_family_of, in_family_at}
use Rattle.slots.specs.Tables.{Tables, root_of}
use Rattle.slots_theory.specs.Shows.{Shows}
use Rattle.slots_theory.proofs.Shown.{shows_slot}
use Rattle.slots_theory.proofs.Communal.{slot_joined, less_slot}
use Rattle.clique_taking.proofs.Inserted.{cliques_family}
use Rattle.mean.specs.Model.{Gained, stands_together, Covered, counts}

-- ---- slot by slot

module _ (sets es : List ℕ) (r : ℕ) where
  pub covered_none : (C : List ℕ) → C ≡ no_rows → Covered sets es 0 r C
  unfolding any below from
  covered_none C e = record { count = ap rows e ∙ rows_none; together = λ q z l. ap (has z) (ap (λ (X : List ℕ). row X q) e ∙ row_none q) ∙ has_empty z }

  module _ (C : List ℕ) (i : ℕ) (c : Covered sets es i r C) where
    -- the slots below one more
    one_more : (q z : ℕ)
        → any (stands_together sets es r q z) (below (i + 1)) ≡ any (stands_together sets es r q z) (below i) || stands_together sets es r q z i
    one_more q z =
        ap (any (stands_together sets es r q z)) (ap below (add-one i) ∙ below_more i) ∙ any_more (stands_together sets es r q z) (below i) i

    pub covered_yes : eqb (root_of es i) r ≡ true → (s : ℕ) → s ≡ row sets i → (D : List ℕ) → Gained C s D → Covered sets es (i + 1) r D
    unfolding stands_together
    covered_yes t s e D g = record {
      count = g.count ∙ c.count;
      together = λ q z l.
          let both : (has q s && has z s) ≡ stands_together sets es r q z i =
          ap (λ (x : ℕ). has q x && has z x) e ∙ sym (ap (λ (b : Bool). b && (has q (row sets i) && has z (row sets i))) t) in
          g.holds q z (omega (arith, l, c.count)) ∙ ap₂ ◌||◌ (c.together q z l) both ∙ sym (one_more q z);
    }

    pub covered_no : eqb (root_of es i) r ≡ false → Covered sets es (i + 1) r C
    unfolding stands_together
    covered_no t = record {
      count = c.count;
      together = λ q z l.
          let none : stands_together sets es r q z i ≡ false = ap (λ (b : Bool). b && (has q (row sets i) && has z (row sets i))) t in
          c.together q z l
          ∙ sym (one_more q z ∙ ap (λ (b : Bool). any (stands_together sets es r q z) (below i) || b) none
          ∙ or-false (any (stands_together sets es r q z) (below i)));
    }

-- ---- a link of a legal list

-- both its ends are a clique
pub link_clique : (p : ℕ) (L : List Link) → legal p L ≡ true → (l : Link) → l ∈ L → into l.high (one l.low) ∈ cliques L p 2
unfolding linked
link_clique p L ok l m =
    cliques_at L p 2 (into h (one g)) (record {
      fits = λ q t. fit q (into_cases h q (one g) t);
      sized = size_more h (one g) (has_one h g ∙ apart) ∙ ap suc (size_one g);
      each = λ q r ne a b. pair q r ne (into_cases h q (one g) a) (into_cases h r (one g) b);
    })
  where
    g : ℕ
    g = l.low

    h : ℕ
    h = l.high

    rising : (l.low < l.high) × (l.high < p)
    rising = good_parts_lem p l (legal_parts p L ok l m)

    apart : eqb l.high l.low ≡ false
    apart = go (eq_or_ne l.high l.low)
      where
        go : (l.high ≡ l.low) ⊎ (eqb l.high l.low ≡ false) → eqb l.high l.low ≡ false
        go (inl e) = absurd (omega (arith, e, rising))
        go (inr e) = e

    is_low : (q : ℕ) → has q (one l.low) ≡ true → q ≡ l.low
    is_low q t = eqb-true q l.low (sym (has_one q l.low) ∙ t)

    fit : (q : ℕ) → (q ≡ l.high) ⊎ (has q (one l.low) ≡ true) → q < p
    fit q (inl e) = omega (arith, e, rising)
    fit q (inr t) = omega (arith, is_low q t, rising)

    own : linked L l.low l.high ≡ true
    own = any_at (joins l.low l.high) L m (joins_own l)

    pair : (q r : ℕ) → (q ≡ r → ⊥) → (q ≡ l.high) ⊎ (has q (one l.low) ≡ true) → (r ≡ l.high) ⊎ (has r (one l.low) ≡ true) → linked L q r ≡ true
    pair q r ne (inl e) (inl d) = absurd (ne (e ∙ sym d))
    pair q r ne (inl e) (inr d) = ap₂ (linked L) e (is_low r d) ∙ linked_sym L l.low l.high own
    pair q r ne (inr e) (inl d) = ap₂ (linked L) (is_low q e) d ∙ own
    pair q r ne (inr e) (inr d) = absurd (ne (is_low q e ∙ sym (is_low r d)))

-- ---- the slots of the family of c, whose slot i ends at r

module _ (p k : ℕ) (L : List Link) (ok : legal p L ≡ true) (wide : p ≤ width) (two : 2 ≤ k) (T : Tables) (h : Shows p k (cliques L p k) T)
    (c : ℕ) (m : c ∈ cliques L p k) (i : ℕ) (used : i < T.used) (part : sub (row T.sets i) c ≡ true) (r : ℕ) (end : r ≡ root_of T.entries i) where
  abbrev F : List ℕ
  F = cliques L p k

  -- a member of the family, in which the set of slot j lies
  ends_joined : (a j : ℕ) → a ∈ F → j < T.used → sub (row T.sets j) a ≡ true → root_of T.entries j ≡ r → joined k F c a ≡ true
  ends_joined a j n l s e =
      (slot_joined p k F T h (λ x y. (cliques_of L p k y).sized) c a i j m n used l part s).0 (sym end ∙ sym e)

  joined_ends : (a j : ℕ) → a ∈ F → j < T.used → sub (row T.sets j) a ≡ true → joined k F c a ≡ true → root_of T.entries j ≡ r
  joined_ends a j n l s t =
      sym (end ∙ (slot_joined p k F T h (λ x y. (cliques_of L p k y).sized) c a i j m n used l part s).1 t)

  module _ (l : Link) (n : l ∈ L) where
    rising : (l.low < l.high) × (l.high < p)
    rising = good_parts_lem p l (legal_parts p L ok l n)

    -- the part that is looked for beside the lower end
    abbrev beside : ℕ
    beside = cond (eqb k 2) l.low l.high

    abbrev Two : Type 0
    Two = (k ≡ 2) ⊎ (eqb k 2 ≡ false)

    beside_two : k ≡ 2 → beside ≡ l.low
    beside_two e = ap (λ (b : Bool). cond b l.low l.high) (eq-eqb k 2 e)

    beside_more : eqb k 2 ≡ false → beside ≡ l.high
    beside_more e = ap (λ (b : Bool). cond b l.low l.high) e

    -- a slot at r with both parts is that of a clique with both ends
    found : (j : ℕ) → j < T.used → root_of T.entries j ≡ r → has l.low (row T.sets j) ≡ true → has beside (row T.sets j) ≡ true
        → in_family k F c l ≡ true
    found j u e x y = go (eq_or_ne k 2)
      where
        s : ℕ
        s = row T.sets j

        go : Two → in_family k F c l ≡ true
        go (inr d) =
            let b = shows_slot p k F T h j u in
            let t : has l.high s ≡ true = ap (λ (z : ℕ). has z s) (sym (beside_more d)) ∙ y in
            in_family_at k F c l b.bearer b.member
            (ends_inside b.bearer l (sub_has l.low s b.bearer b.within x) (sub_has l.high s b.bearer b.within t))
            (ends_joined b.bearer j b.member u b.within e)
        go (inl d) =
            let a = into l.high (one l.low) in
            let q : a ∈ F = subst (λ (z : ℕ). a ∈ cliques L p z) (sym d) (link_clique p L ok l n) in
            let z : one l.low ≡ s =
            sub_same (one l.low) s (sub_one l.low s ∙ x) (omega (arith, size_one l.low, (shows_slot p k F T h j u).sized, d)) in
            in_family_at k F c l a q
            (ends_inside a l (into_keeps l.high l.low (one l.low) (has_one l.low l.low ∙ eq-eqb l.low l.low refl))
            (into_has l.high (one l.low)))
            (ends_joined a j q u (ap (λ (w : ℕ). sub w a) (sym z) ∙ into_sub l.high (one l.low)) e)

    -- a clique with both ends has, less some part, a slot with both parts
    less_one : (a : ℕ) → a ∈ F → has l.low a ≡ true → has l.high a ≡ true
        → (q : ℕ) × (has q a ≡ true) × (has l.low (out q a) ≡ true) × (has beside (out q a) ≡ true)
    less_one a q x y = go (eq_or_ne k 2)
      where
        go : Two → (z : ℕ) × (has z a ≡ true) × (has l.low (out z a) ≡ true) × (has beside (out z a) ≡ true)
        go (inl d) =
            let g = out_keeps l.high l.low a x (λ e. omega (arith, e, rising)) in
            (l.high, y, g, ap (λ (z : ℕ). has z (out l.high a)) (beside_two d) ∙ g)
        go (inr d) =
            let o = another l.low (out l.high a)
            (omega (arith, two, eqb-false k 2 d, size_less l.high a y, (cliques_of L p k q).sized)) in
            let z : ℕ = o.0 in (
              z,
              out_part l.high z a o.1,
              out_keeps z l.low a x o.2,
              ap (λ (w : ℕ). has w (out z a)) (beside_more d) ∙ out_keeps z l.high a y (λ e. out_other l.high z a o.1 (sym e)),
            )

    module _ (C : List ℕ) (v : Covered T.sets T.entries T.used r C) where
      abbrev test : ℕ → Bool
      test = stands_together T.sets T.entries r l.low beside

      looked : counts k C l ≡ any test (below T.used)
      unfolding counts
      looked = v.together l.low beside (omega (arith, rising, wide))

      to : any test (below T.used) ≡ true → in_family k F c l ≡ true
      unfolding stands_together
      to t =
          let f = any_of test (below T.used) t in
          let j : ℕ = f.0 in
          let e = eqb (root_of T.entries j) r in
          let x = has l.low (row T.sets j) in
          let y = has beside (row T.sets j) in
          found j (below_of T.used f.1) (eqb-true (root_of T.entries j) r (and_left e (x && y) f.2)) (and_left x y (and_right e (x && y) f.2))
          (and_right x y (and_right e (x && y) f.2))

      fro : in_family k F c l ≡ true → any test (below T.used) ≡ true
      unfolding stands_together
      fro t =
          let f = in_family_of k F c l t in
          let a : ℕ = f.0 in
          let g = inside_ends a l f.2 in
          let o = less_one a f.1 g.0 g.1 in
          let w = less_slot p k F T h (omega (arith, two)) (cliques_family L p k) a f.1 o.0 o.1 in
          let j : ℕ = w.0 in
          let within : sub (row T.sets j) a ≡ true = ap (λ (z : ℕ). sub z a) w.2 ∙ out_sub o.0 a in
          any_at test (below T.used) (below_at j T.used w.1)
          (and_intro (eqb (root_of T.entries j) r) (has l.low (row T.sets j) && has beside (row T.sets j))
          (eq-eqb (root_of T.entries j) r (joined_ends a j f.1 w.1 within f.3))
          (and_intro (has l.low (row T.sets j)) (has beside (row T.sets j)) (ap (has l.low) w.2 ∙ o.2) (ap (has beside) w.2 ∙ o.3)))

      -- a link is counted exactly when it lies in a clique of the family
      pub covered_is : counts k C l ≡ in_family k F c l
      covered_is = looked ∙ iff (any test (below T.used)) (in_family k F c l) to fro
