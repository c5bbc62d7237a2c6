-- One loop over the numbers i below 4,096 that puts in each pair with its weight: what stands in the lists before the first turn, after a turn at a pair and
-- after one at none, and after the last. Assumes nothing.
use mathlib.Core.Path.{◌≡◌, sym, ap, ◌∙◌, subst}
use mathlib.Core.Bool.{true, false}
use mathlib.Core.List.{List}
use Prim.Native.Nat.{ℕ, ◌+◌, ◌/◌, ◌%◌, ◌≤◌, ◌<◌}
use native.Mathlib.Omega.{arith}
use Rattle.percolation.specs.Links.{Link, link}
use Rattle.link_order.specs.Order.{LinkLists, has_room}
use Rattle.link_order.proofs.Places.{room_of}
use Rattle.made.specs.Made.{weighed_of, weighed}
use Rattle.made.specs.Model.{pair_at, is_pair, pairs_before, PairMeets, with_pair, LinksStand}
use Rattle.made.proofs.PairNumbers.{before_none, before_yes, before_no, before_few, before_all}
use Rattle.made.proofs.Standing.{room_for, stand_none, stand_more}
use Rattle.made.proofs.Weighed.{weighed_none, weighed_more, weighed_few}

-- lists of 4,096 have room for as many links as numbers
pub room_below : (t : LinkLists) (m : ℕ) → has_room t 4095 ≡ true → m < 4096 → has_room t m ≡ true
room_below t m e h = let r = room_of t 4095 e in room_for t m (omega (arith, r.lower)) (omega (arith, r.higher)) (omega (arith, r.weights))

module _ (f : ℕ → ℕ → ℕ) (p : ℕ) (t : LinkLists) where
  pub turn_first : LinksStand (weighed_of f (pairs_before p 0)) t t 0
  turn_first = subst (λ (K : List Link). LinksStand K t t 0) (sym (ap (weighed_of f) (before_none p) ∙ weighed_none f)) (stand_none t)

  -- no more links than numbers
  pub turn_few : (i m : ℕ) (u : LinkLists) → LinksStand (weighed_of f (pairs_before p i)) t u m → m ≤ i
  turn_few i m u s = omega (arith, s.count, weighed_few f (pairs_before p i), before_few p i)

  pub turn_pair : (i m r : ℕ) (u v : LinkLists) (x : Link) → has_room t 4095 ≡ true → i < 4096 → is_pair p (pair_at i) ≡ true
      → x ≡ link (i / 64) (i % 64) (f (i / 64) (i % 64))
      → LinksStand (weighed_of f (pairs_before p i)) t u m → PairMeets x u m r v → LinksStand (weighed_of f (pairs_before p (i + 1))) t v r
  turn_pair i m r u v x room h e given s meets =
      subst (λ (K : List Link). LinksStand K t v r)
      (ap (with_pair (weighed_of f (pairs_before p i))) given ∙ sym (weighed_more f (pairs_before p i) (pair_at i)) ∙ ap (weighed_of f) (sym (before_yes p i e)))
      (stand_more (weighed_of f (pairs_before p i)) x t u v m r s (room_below t m room (omega (arith, turn_few i m u s))) meets)

  pub turn_none : (i m : ℕ) (u : LinkLists) → is_pair p (pair_at i) ≡ false
      → LinksStand (weighed_of f (pairs_before p i)) t u m → LinksStand (weighed_of f (pairs_before p (i + 1))) t u m
  turn_none i m u e s = subst (λ (K : List Link). LinksStand K t u m) (ap (weighed_of f) (sym (before_no p i e))) s

  pub turn_last : (i m : ℕ) (u : LinkLists) → p ≤ 64 → i ≡ 4096 → LinksStand (weighed_of f (pairs_before p i)) t u m → LinksStand (weighed f p) t u m
  unfolding weighed
  turn_last i m u h e s = subst (λ (K : List Link). LinksStand K t u m) (ap (λ (j : ℕ). weighed_of f (pairs_before p j)) e ∙ ap (weighed_of f) (before_all p h)) s
