-- Links of pairs: those that a weight for each pair gives; links picked from the pairs of parts below p are such as a sheet can have, and how many these
-- are. Assumes nothing.
use mathlib.Core.Path.{◌≡◌, refl, sym, ap, ap₂, ◌∙◌, subst}
use mathlib.Core.Logic.{◌⊎◌, inl, inr}
use mathlib.Core.Bool.{Bool, true, false, not, ◌&&◌}
use mathlib.Core.List.Memᴰ
use mathlib.Core.List.{List, [], ◌∷◌, ◌++◌, map, append-nil}
use Prim.Native.Nat.{ℕ, suc, ◌-◌, ◌*◌, ◌/◌, ◌≤◌, ◌<◌}
use native.Mathlib.Omega.{arith}
use native.Mathlib.Nat.{mul-le-mul}
use lib.Dec.{eqb}
use lib.ListN.{length}
use borrow.Author.Tests.{eqb-true, eqb-false, ne_eqb, not-true}
use Rattle.sets.specs.Lists.{◌∈◌, all, keep, each_two}
use Rattle.sets.proofs.Tests.{split, not_so, and_intro, and_left, and_right, or_cases, false_not}
use Rattle.sets.proofs.ListLaws.{Distinct, all_at, keep_yes, keep_no, keep_at, keep_of, keep_append, map_append, map_on}
use Rattle.percolation.specs.Links.{Link, link, joins}
use Rattle.percolation.proofs.Accepted.{pairs_few}
use Rattle.made.specs.Made.{pairs, ends, weighed_of, weighed, Picked, picks_none, leaves_out, picks, GoodLink, Proper}
use Rattle.made.specs.Model.{with_pair}
use Rattle.made.proofs.Standing.{pair_none, pair_link}
use Rattle.made.proofs.Pairs.{pairs_of_lem, pairs_at, pairs_distinct}

-- ---- a weight for each pair

module _ (f : ℕ → ℕ → ℕ) where
  -- the link of a pair, and whether there is one
  abbrev link_at : ℕ × ℕ → Link
  link_at e = link e.0 e.1 (f e.0 e.1)

  abbrev some : Link → Bool
  some l = not (eqb l.weight 0)

  pub weighed_none : weighed_of f [] ≡ []
  unfolding weighed_of keep
  weighed_none = refl

  pub weighed_skip : (e : ℕ × ℕ) (P : List (ℕ × ℕ)) → eqb (f e.0 e.1) 0 ≡ true → weighed_of f (e ∷ P) ≡ weighed_of f P
  unfolding weighed_of
  weighed_skip e P z = keep_no some (link_at e) (map link_at P) (ap not z)

  pub weighed_take : (e : ℕ × ℕ) (P : List (ℕ × ℕ)) → eqb (f e.0 e.1) 0 ≡ false
      → weighed_of f (e ∷ P) ≡ link e.0 e.1 (f e.0 e.1) ∷ weighed_of f P
  unfolding weighed_of
  weighed_take e P z = keep_yes some (link_at e) (map link_at P) (ap not z)

  append : (P Q : List (ℕ × ℕ)) → weighed_of f (P ++ Q) ≡ weighed_of f P ++ weighed_of f Q
  unfolding weighed_of
  append P Q = ap (keep some) (map_append link_at P Q) ∙ keep_append some (map link_at P) (map link_at Q)

  -- one pair more
  pub weighed_more : (P : List (ℕ × ℕ)) (e : ℕ × ℕ) → weighed_of f (P ++ (e ∷ [])) ≡ with_pair (weighed_of f P) (link e.0 e.1 (f e.0 e.1))
  weighed_more P e = append P (e ∷ []) ∙ go (split (eqb (f e.0 e.1) 0))
    where
      go : (eqb (f e.0 e.1) 0 ≡ true) ⊎ (eqb (f e.0 e.1) 0 ≡ false) → weighed_of f P ++ weighed_of f (e ∷ []) ≡ with_pair (weighed_of f P) (link_at e)
      go (inl z) =
          ap (λ (l : List Link). weighed_of f P ++ l) (weighed_skip e [] z ∙ weighed_none) ∙ append-nil (weighed_of f P)
          ∙ sym (pair_none (weighed_of f P) (link_at e) z)
      go (inr z) =
          ap (λ (l : List Link). weighed_of f P ++ l) (weighed_take e [] z ∙ ap (λ (l : List Link). link_at e ∷ l) weighed_none)
          ∙ sym (pair_link (weighed_of f P) (link_at e) z)

  pub weighed_few : (P : List (ℕ × ℕ)) → length (weighed_of f P) ≤ length P
  weighed_few [] = omega (arith, ap length weighed_none)
  weighed_few (e ∷ P) = go (split (eqb (f e.0 e.1) 0)) (weighed_few P)
    where
      go : (eqb (f e.0 e.1) 0 ≡ true) ⊎ (eqb (f e.0 e.1) 0 ≡ false) → length (weighed_of f P) ≤ length P
          → length (weighed_of f (e ∷ P)) ≤ suc (length P)
      go (inl z) r = omega (arith, ap length (weighed_skip e P z))
      go (inr z) r = omega (arith, ap length (weighed_take e P z))

  -- ---- which links these are

  pub weighed_at : (p q r : ℕ) → q < r → r < p → 1 ≤ f q r → link q r (f q r) ∈ weighed f p
  unfolding weighed weighed_of
  weighed_at p q r a b w =
      keep_at some (map link_at (pairs p)) (Memᴰ.map link_at (pairs_at p q r a b))
      (false_not (eqb (f q r) 0) (ne_eqb (f q r) 0 (λ e. let z : ⊥ = omega arith in z)))

  pub weighed_of_lem : (p : ℕ) (l : Link) → l ∈ weighed f p → (l.low < l.high) × (l.high < p) × (1 ≤ l.weight) × (l.weight ≡ f l.low l.high)
  unfolding weighed weighed_of
  weighed_of_lem p l m =
      let k = keep_of some (map link_at (pairs p)) m in
      let r = Memᴰ.of_map link_at (pairs p) k.0 in
      let h = pairs_of_lem p r.0 r.1 in
      let low : r.0.0 ≡ l.low = ap (λ (x : Link). x.low) r.2 in
      let high : r.0.1 ≡ l.high = ap (λ (x : Link). x.high) r.2 in
      let w : f r.0.0 r.0.1 ≡ l.weight = ap (λ (x : Link). x.weight) r.2 in
      let ne = eqb-false l.weight 0 (not-true (eqb l.weight 0) k.1) in
      (omega (arith, h.0), omega (arith, h.1), omega arith, sym w ∙ ap₂ f low high)

  pub weighed_picked : ((q r : ℕ) → f q r ≤ 65535) → (P : List (ℕ × ℕ)) → Picked P (weighed_of f P)
  weighed_picked most [] = subst (Picked []) (sym weighed_none) picks_none
  weighed_picked most (e ∷ P) = go (split (eqb (f e.0 e.1) 0)) (weighed_picked most P)
    where
      go : (eqb (f e.0 e.1) 0 ≡ true) ⊎ (eqb (f e.0 e.1) 0 ≡ false) → Picked P (weighed_of f P) → Picked (e ∷ P) (weighed_of f (e ∷ P))
      go (inl z) r = subst (Picked (e ∷ P)) (sym (weighed_skip e P z)) (leaves_out r)
      go (inr z) r =
          let ne = eqb-false (f e.0 e.1) 0 z in
          let w : 1 ≤ f e.0 e.1 = omega arith in
          subst (Picked (e ∷ P)) (sym (weighed_take e P z)) (picks (f e.0 e.1) w (most e.0 e.1) r)

-- weights that agree at each pair give the same links
pub weighed_same : (f g : ℕ → ℕ → ℕ) (p : ℕ) → ((q r : ℕ) → q < r → r < p → f q r ≡ g q r) → weighed f p ≡ weighed g p
unfolding weighed weighed_of
weighed_same f g p h =
    ap (keep (λ (l : Link). not (eqb l.weight 0)))
    (map_on (λ (e : ℕ × ℕ). link e.0 e.1 (f e.0 e.1)) (λ (e : ℕ × ℕ). link e.0 e.1 (g e.0 e.1)) (pairs p)
    (λ e m. let b = pairs_of_lem p e m in ap (link e.0 e.1) (h e.0 e.1 b.0 b.1)))

-- ---- links picked from pairs

pub picked_in : {P : List (ℕ × ℕ)} {K : List Link} → Picked P K → (l : Link) → l ∈ K → (ends l ∈ P) × (1 ≤ l.weight) × (l.weight ≤ 65535)
picked_in picks_none l m = absurd (Memᴰ.not-nil m)
picked_in (leaves_out k) l m = let r = picked_in k l m in (Memᴰ.tail r.0, r.1, r.2)
picked_in (picks {e = e} {P = P} {K = K} w a b k) l m = go (Memᴰ.cases_cons m) (λ n. picked_in k l n)
  where
    go : (l ≡ link e.0 e.1 w) ⊎ l ∈ K → (l ∈ K → (ends l ∈ P) × (1 ≤ l.weight) × (l.weight ≤ 65535))
        → (ends l ∈ (e ∷ P)) × (1 ≤ l.weight) × (l.weight ≤ 65535)
    go (inl s) rest = let v : l.weight ≡ w = ap (λ (x : Link). x.weight) s in (Memᴰ.head (ap ends s), omega arith, omega arith)
    go (inr n) rest = let r = rest n in (Memᴰ.tail r.0, r.1, r.2)

pub picked_few : {P : List (ℕ × ℕ)} {K : List Link} → Picked P K → length K ≤ length P
picked_few picks_none = omega arith
picked_few (leaves_out k) = omega (arith, picked_few k)
picked_few (picks w a b k) = omega (arith, picked_few k)

picked_distinct : {P : List (ℕ × ℕ)} {K : List Link} → Picked P K → Distinct P → Distinct (map ends K)
unfolding Distinct
picked_distinct picks_none d = tt
picked_distinct (leaves_out k) d = picked_distinct k d.1
picked_distinct (picks {e = e} {P = P} {K = K} w a b k) d = (fresh, picked_distinct k d.1)
  where
    fresh : (e.0, e.1) ∈ map ends K → ⊥
    fresh m =
        let r = Memᴰ.of_map ends K m in
        d.0 (subst (λ (x : ℕ × ℕ). x ∈ P) r.2 (picked_in k r.0 r.1).0)

-- ---- links of no pair twice

joined : (p : ℕ) (l m : Link) → GoodLink p l → GoodLink p m → joins l.low l.high m ≡ true → ends m ≡ ends l
unfolding joins
joined p l m a b t = go (or_cases (eqb m.low l.low && eqb m.high l.high) (eqb m.low l.high && eqb m.high l.low) t)
  where
    go : (eqb m.low l.low && eqb m.high l.high ≡ true) ⊎ (eqb m.low l.high && eqb m.high l.low ≡ true) → ends m ≡ ends l
    go (inl e) =
        ap₂ (λ (x y : ℕ). (x, y)) (eqb-true m.low l.low (and_left (eqb m.low l.low) (eqb m.high l.high) e))
        (eqb-true m.high l.high (and_right (eqb m.low l.low) (eqb m.high l.high) e))
    go (inr e) =
        let x = eqb-true m.low l.high (and_left (eqb m.low l.high) (eqb m.high l.low) e) in
        let y = eqb-true m.high l.low (and_right (eqb m.low l.high) (eqb m.high l.low) e) in
        absurd (omega (arith, a.lower, b.lower))

abbrev apart : Link → Link → Bool
apart l m = not (joins l.low l.high m)

distinct_once : (p : ℕ) (K : List Link) → ((l : Link) → l ∈ K → GoodLink p l) → Distinct (map ends K) → each_two apart K ≡ true
unfolding each_two Distinct
distinct_once p [] s d = refl
distinct_once p (l ∷ K) s d =
    and_intro (all (apart l) K) (each_two apart K)
    (all_at (apart l) K (λ m i. false_not (joins l.low l.high m) (not_so (joins l.low l.high m)
    (λ t. d.0 (subst (λ (x : ℕ × ℕ). x ∈ map ends K) (joined p l m (s l (Memᴰ.head refl)) (s m (Memᴰ.tail i)) t) (Memᴰ.map ends i))))))
    (distinct_once p K (λ m i. s m (Memᴰ.tail i)) d.1)

-- links picked from the pairs of parts below p are such as a sheet can have
pub picked_proper : (p : ℕ) (K : List Link) → Picked (pairs p) K → Proper p K
picked_proper p K k = record { each = sound; once = distinct_once p K sound (picked_distinct k (pairs_distinct p)) }
  where
    sound : (l : Link) → l ∈ K → GoodLink p l
    sound l m =
        let r = picked_in k l m in
        let h = pairs_of_lem p (ends l) r.0 in
        record { lower = h.0; higher = h.1; some = r.1; most = r.2 }

-- and so are those that a weight for each pair gives
pub weighed_proper : (f : ℕ → ℕ → ℕ) → ((q r : ℕ) → f q r ≤ 65535) → (p : ℕ) → Proper p (weighed f p)
unfolding weighed
weighed_proper f most p = picked_proper p (weighed_of f (pairs p)) (weighed_picked f most (pairs p))

-- ---- how many

module _ (p : ℕ) (K : List Link) (ok : Proper p K) where
  few : 2 * length K ≤ p * (p - 1)
  few = pairs_few p K (λ l m. ((ok.each l m).lower, (ok.each l m).higher)) ok.once

  -- no more than pairs of parts
  pub proper_few : length K ≤ p * (p - 1) / 2
  proper_few = omega (arith, few)

  -- so that lists of 4,096 suffice
  pub proper_most : p ≤ 64 → length K ≤ 2016
  proper_most h = let less : p - 1 ≤ 63 = omega (arith, h) in omega (arith, few, mul-le-mul h less)
