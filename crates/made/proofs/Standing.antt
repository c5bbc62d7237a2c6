-- Links put in pair by pair: what one call must do, what the lists then hold, and that this is the made network. Assumes nothing.
use mathlib.Core.Path.{◌≡◌, refl, sym, ap, ap₂, ◌∙◌}
use mathlib.Core.Logic.{◌⊎◌, inl, inr}
use mathlib.Core.Bool.{true, false}
use mathlib.Core.List.{List, [], ◌∷◌, ◌++◌, map}
use Prim.Native.Nat.{ℕ, ◌+◌, ◌≤◌, ◌<◌}
use native.Mathlib.Omega.{arith}
use lib.Dec.{eqb, ltb}
use lib.ListN.{length, take, drop, length-append, length-map}
use lib.Seq.{take_at}
use borrow.Author.Tests.{eqb-true, lt-ltb}
use Rattle.std.proofs.lemmas.Bool.Decides.{nat_tests}
use Rattle.sets.specs.Lists.{insert_all}
use Rattle.sets.proofs.Tests.{split, and_intro}
use Rattle.percolation.specs.Links.{Link}
use Rattle.link_order.specs.Order.{LinkLists, has_room, with_links, put_link, sort_links}
use Rattle.link_order.proofs.Sorted.{sort_length}
use Rattle.link_order.proofs.Kept.{with_none, with_room, put_sorted}
use Rattle.answers.specs.Answers.{Answer}
use Rattle.sheet.specs.Network.{network}
use Rattle.sheet_writer.specs.Writing.{WriteMeets}
use Rattle.made.specs.Made.{made_network}
use Rattle.made.specs.Model.{pair_lists, pair_count, PairMeets, with_pair, LinksStand}

-- ---- what one call must do

-- the weight is 0
pub meets_none : (x : Link) (t : LinkLists) (m : ℕ) → x.weight ≡ 0 → PairMeets x t m m t
unfolding pair_lists pair_count
meets_none x t m e = record { count = grind (arith, nat_tests); lists = grind (arith, nat_tests) }

module _ (x : Link) (t u : LinkLists) (m : ℕ) (e : eqb x.weight 0 ≡ false) (put : u ≡ put_link x t m) where
  -- there is room
  pub meets_put : has_room t m ≡ true → PairMeets x t m (m + 1) u
  unfolding pair_lists pair_count
  meets_put r = record { count = grind (arith, nat_tests); lists = grind (arith, nat_tests) }

-- ---- links so far, and one pair more

pub pair_none : (K : List Link) (x : Link) → eqb x.weight 0 ≡ true → with_pair K x ≡ K
unfolding with_pair
pair_none K x e = rw (with_pair, e)

pub pair_link : (K : List Link) (x : Link) → eqb x.weight 0 ≡ false → with_pair K x ≡ K ++ (x ∷ [])
unfolding with_pair
pair_link K x e = rw (with_pair, e)

pub room_for : (t : LinkLists) (m : ℕ) → m < length t.lower → m < length t.higher → m < length t.weights → has_room t m ≡ true
unfolding has_room
room_for t m a b c =
    and_intro (ltb m (length t.lower)) _ (lt-ltb m (length t.lower) a)
    (and_intro (ltb m (length t.higher)) _ (lt-ltb m (length t.higher) b) (lt-ltb m (length t.weights) c))

-- before the first pair
pub stand_none : (t : LinkLists) → LinksStand [] t t 0
unfolding sort_links insert_all
stand_none t = record { lists = sym (with_none t); count = refl }

module _ (K : List Link) (x : Link) (t u v : LinkLists) (m r : ℕ) (stand : LinksStand K t u m) (room : has_room t m ≡ true) (meets : PairMeets x u m r v) where
  unput : eqb x.weight 0 ≡ true → LinksStand (with_pair K x) t v r
  unput e = record {
    lists = meets.lists ∙ sym (meets_none x u m (eqb-true x.weight 0 e)).lists ∙ stand.lists ∙ ap (λ (M : List Link). with_links (sort_links M) t) (sym (pair_none K x e));
    count = meets.count ∙ sym (meets_none x u m (eqb-true x.weight 0 e)).count ∙ stand.count ∙ ap length (sym (pair_none K x e));
  }

  same_room : has_room u m ≡ true
  same_room =
      ap (λ (w : LinkLists). has_room w m) stand.lists
      ∙ with_room (sort_links K) t m (omega (arith, sort_length K, stand.count)) room ∙ room

  puts : eqb x.weight 0 ≡ false → LinksStand (with_pair K x) t v r
  puts e = record {
    lists = meets.lists ∙ sym (meets_put x u (put_link x u m) m e refl same_room).lists
        ∙ ap₂ (put_link x) stand.lists stand.count ∙ put_sorted x K t (ap (has_room t) (sym stand.count) ∙ room)
        ∙ ap (λ (M : List Link). with_links (sort_links M) t) (sym (pair_link K x e));
    count = meets.count ∙ sym (meets_put x u (put_link x u m) m e refl same_room).count
        ∙ ap (λ (k : ℕ). k + 1) stand.count ∙ sym (length-append K (x ∷ [])) ∙ ap length (sym (pair_link K x e));
  }

  -- one call more: the lists hold the link of x too, where its weight is not 0
  pub stand_more : LinksStand (with_pair K x) t v r
  stand_more = go (split (eqb x.weight 0))
    where
      go : (eqb x.weight 0 ≡ true) ⊎ (eqb x.weight 0 ≡ false) → LinksStand (with_pair K x) t v r
      go (inl e) = unput e
      go (inr e) = puts e

-- ---- how long the lists are

-- no shorter than the links at the start
front_long : (L : List Link) (f : Link → ℕ) (old : List ℕ) → length L ≤ length (map f L ++ drop (length L) old)
front_long L f old = omega (arith, length-append (map f L) (drop (length L) old), length-map L f)

pub stand_bounds : (K : List Link) (t u : LinkLists) (m : ℕ) → LinksStand K t u m → (m ≤ length u.lower) × (m ≤ length u.higher) × (m ≤ length u.weights)
unfolding with_links
stand_bounds K t u m s =
    let L = sort_links K in
    let e : m ≡ length L = s.count ∙ sym (sort_length K) in
    rw (e, s.lists) (front_long L (λ l. l.low) t.lower, front_long L (λ l. l.high) t.higher, front_long L (λ l. l.weight) t.weights)

-- ---- the network that they hold

front : (l old : List ℕ) (L : List Link) (f : Link → ℕ) (m : ℕ) → l ≡ map f L ++ drop (length L) old → m ≡ length L → take m l ≡ map f L
front l old L f m e h = ap (take m) e ∙ take_at (map f L) (drop (length L) old) m (length-map L f ∙ sym h)

-- names and the first m entries of the lists are the made network
pub stand_network : (names : List ℕ) (K : List Link) (t u : LinkLists) (m : ℕ) → LinksStand K t u m
    → network names (take m u.lower) (take m u.higher) (take m u.weights) ≡ made_network names K
unfolding with_links made_network
stand_network names K t u m s =
    let L = sort_links K in
    let h : m ≡ length L = s.count ∙ sym (sort_length K) in
    let low = front u.lower t.lower L (λ l. l.low) m (ap (λ (w : LinkLists). w.lower) s.lists) h in
    let high = front u.higher t.higher L (λ l. l.high) m (ap (λ (w : LinkLists). w.higher) s.lists) h in
    let weight = front u.weights t.weights L (λ l. l.weight) m (ap (λ (w : LinkLists). w.weights) s.lists) h in
    ap₂ (λ (a b : List ℕ). network names a b (take m u.weights)) low high ∙ ap (network names (map (λ l. l.low) L) (map (λ l. l.high) L)) weight

-- what the writer did of lists that hold them
pub stand_written : (names old new : List ℕ) (K : List Link) (t u : LinkLists) (m : ℕ) (r : Answer) (a b c : List ℕ)
    → WriteMeets (network names (take m a) (take m b) (take m c)) old r new → LinksStand K t u m → a ≡ u.lower → b ≡ u.higher → c ≡ u.weights
    → WriteMeets (made_network names K) old r new
stand_written names old new K t u m r a b c w s e f g = rw (← (stand_network names K t u m s), ← e, ← f, ← g) w
