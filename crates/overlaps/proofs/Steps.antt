-- One step of each loop of the model, and its end. Assumes nothing.
use mathlib.Core.Path.{◌≡◌, refl, sym, ap, ◌∙◌}
use mathlib.Core.Bool.{true, false}
use mathlib.Core.List.{List}
use Prim.Native.Nat.{ℕ, zero, suc, ◌+◌, ◌-◌, ◌≤◌, ◌<◌}
use native.Mathlib.Omega.{arith}
use borrow.Author.Tests.{lt-ltb, le-ltb, le-leb, lt-leb}
use lib.Dec.{leb}
use Rattle.sets.specs.Sets.{meet, union, size, lesser, lows}
use Rattle.sets.specs.Value.{row, store}
use Rattle.percolation.specs.Percolate.{overlap}
use Rattle.overlaps.specs.Model.{swapped, Swept, swept, swept_from, Grown, grown, grown_from, class_at, Classed, classed, classed_from, classed_all}

-- ---- what the code does is what the model says

pub swap_is : (T U W : List ℕ) (i j s t : ℕ) → s ≡ row T i → t ≡ row T j → U ≡ store T i t → W ≡ store U j s → W ≡ swapped T i j
unfolding swapped
swap_is T U W i j s t p q a b = rw (b, a, q, p)

-- ---- the sweep: a set that is near moves up, another stays

pub swept_near : (m k s : ℕ) (A : List ℕ) (e j : ℕ) → overlap k s (row A j) ≡ true
    → swept_from (suc m) k s A e j ≡ swept_from m k s (swapped A e j) (suc e) (suc j)
unfolding swept_from
swept_near m k s A e j t = rw (swept_from, t)

pub swept_far : (m k s : ℕ) (A : List ℕ) (e j : ℕ) → overlap k s (row A j) ≡ false → swept_from (suc m) k s A e j ≡ swept_from m k s A e (suc j)
unfolding swept_from
swept_far m k s A e j t = rw (swept_from, t)

pub swept_none : (k s : ℕ) (A : List ℕ) (e j : ℕ) → swept_from zero k s A e j ≡ swept A e
unfolding swept_from
swept_none k s A e j = refl

-- the code's test: c is the number of parts that s shares with row j
module _ (k s : ℕ) (T : List ℕ) (n e j t v c : ℕ) (inside : j < n) (at : t ≡ row T j) (both : v ≡ meet s t) (count : c ≡ size v) {W : Swept}
    (so_far : W ≡ swept_from (n - j) k s T e j) where
  shared : overlap k s (row T j) ≡ leb k (suc c)
  unfolding overlap
  shared = rw (count, both, at)

  pub sweep_near : k ≤ c + 1 → {U : List ℕ} → U ≡ swapped T e j → {e' : ℕ} → e' ≡ e + 1 → W ≡ swept_from (n - (j + 1)) k s U e' (j + 1)
  sweep_near h u {e'} v =
      let q : n - j ≡ suc (n - (j + 1)) = omega arith in
      let d : suc j ≡ j + 1 = omega arith in
      let f : suc e ≡ e' = omega arith in
      so_far ∙ ap (λ (m : ℕ). swept_from m k s T e j) q ∙ swept_near (n - (j + 1)) k s T e j (shared ∙ le-leb k (suc c) (omega arith))
      ∙ rw (u, d, f) refl

  pub sweep_far : c + 1 < k → {U : List ℕ} → U ≡ T → {e' : ℕ} → e' ≡ e → W ≡ swept_from (n - (j + 1)) k s U e' (j + 1)
  sweep_far h u v =
      let q : n - j ≡ suc (n - (j + 1)) = omega arith in
      let d : suc j ≡ j + 1 = omega arith in
      so_far ∙ ap (λ (m : ℕ). swept_from m k s T e j) q ∙ swept_far (n - (j + 1)) k s T e j (shared ∙ lt-leb k (suc c) (omega arith))
      ∙ rw (u, v, d) refl

pub sweep_done : (k s : ℕ) (T : List ℕ) (n e j : ℕ) → n ≤ j → {W : Swept} → W ≡ swept_from (n - j) k s T e j → swept T e ≡ W
sweep_done k s T n e j h so_far = let q : n - j ≡ zero = omega arith in sym (so_far ∙ ap (λ (m : ℕ). swept_from m k s T e j) q ∙ swept_none k s T e j)

-- ---- the class: one set of the frontier taken

-- the class after row f of its table is swept against the rows from its end on
abbrev pub stepped : ℕ → ℕ → Grown → ℕ → Grown
stepped k n g f =
    grown (swept_from (n - g.end) k (row g.table f) g.table g.end g.end).table
    (swept_from (n - g.end) k (row g.table f) g.table g.end g.end).end
    (lesser g.small (lows k (row g.table f))) (union g.whole (row g.table f))

pub grown_next : (d k n : ℕ) (g : Grown) (f : ℕ) → f < g.end → grown_from (suc d) k n g f ≡ grown_from d k n (stepped k n g f) (suc f)
unfolding grown_from
grown_next d k n g f h = rw (grown_from, lt-ltb f g.end h)

pub grown_none : (k n : ℕ) (g : Grown) (f : ℕ) → grown_from zero k n g f ≡ g
unfolding grown_from
grown_none k n g f = refl

pub grown_end : (d k n : ℕ) (g : Grown) (f : ℕ) → g.end ≤ f → grown_from d k n g f ≡ g
unfolding grown_from
grown_end zero k n g f h = refl
grown_end (suc d) k n g f h = rw (grown_from, le-ltb f g.end h)

-- the code's steps: the class of row i begins, takes in row f, and ends
pub grow_first : (k n i x a : ℕ) (T : List ℕ) → x ≡ row T i → a ≡ lows k x → class_at k n T i ≡ grown_from (n - i) k n (grown T (i + 1) a x) i
unfolding class_at
grow_first k n i x a T p q = let d : suc i ≡ i + 1 = omega arith in rw (q, p, d) refl

module _ (k n : ℕ) (T : List ℕ) (e a b f : ℕ) {G : Grown} (so_far : G ≡ grown_from (n - f) k n (grown T e a b) f) where
  pub grow_next : f < e → e ≤ n → (s l a' b' : ℕ) → s ≡ row T f → l ≡ lows k s → a' ≡ lesser a l → b' ≡ union b s
      → (U : List ℕ) (e' : ℕ) → swept U e' ≡ swept_from (n - e) k s T e e → G ≡ grown_from (n - (f + 1)) k n (grown U e' a' b') (f + 1)
  grow_next h w s l a' b' p q x y U e' z =
      let d : n - f ≡ suc (n - (f + 1)) = omega arith in
      let i : suc f ≡ f + 1 = omega arith in
      let t : U ≡ (swept_from (n - e) k s T e e).table = ap (λ (v : Swept). v.table) z in
      let o : e' ≡ (swept_from (n - e) k s T e e).end = ap (λ (v : Swept). v.end) z in
      so_far ∙ ap (λ (m : ℕ). grown_from m k n (grown T e a b) f) d ∙ grown_next (n - (f + 1)) k n (grown T e a b) f h
      ∙ rw (t, o, x, y, q, p, i) refl

  pub grow_done : e ≤ f → grown T e a b ≡ G
  grow_done h = sym (so_far ∙ grown_end (n - f) k n (grown T e a b) f h)

-- ---- all classes: one more

-- the tables with the class of row i written
abbrev pub written : ℕ → ℕ → Classed → ℕ → Classed
written k n w i =
    classed (class_at k n w.sets i).table (store w.smallest w.count (class_at k n w.sets i).small)
    (store w.unions w.count (class_at k n w.sets i).whole) (suc w.count)

pub classed_next : (d k n : ℕ) (w : Classed) (i : ℕ) → i < n → classed_from (suc d) k n w i ≡ classed_from d k n (written k n w i) (class_at k n w.sets i).end
unfolding classed_from
classed_next d k n w i h = rw (classed_from, lt-ltb i n h)

pub classed_end : (d k n : ℕ) (w : Classed) (i : ℕ) → n ≤ i → classed_from d k n w i ≡ w
unfolding classed_from
classed_end zero k n w i h = refl
classed_end (suc d) k n w i h = rw (classed_from, le-ltb i n h)

-- the code's steps
module _ (k n : ℕ) (T m u : List ℕ) (c i : ℕ) {C : Classed} (so_far : C ≡ classed_from (n - c) k n (classed T m u c) i) where
  pub class_next : i < n → c ≤ i → (U m' u' : List ℕ) (e a b : ℕ) → grown U e a b ≡ class_at k n T i → m' ≡ store m c a → u' ≡ store u c b
      → C ≡ classed_from (n - (c + 1)) k n (classed U m' u' (c + 1)) e
  class_next h l U m' u' e a b g p q =
      let d : n - c ≡ suc (n - (c + 1)) = omega arith in
      let j : suc c ≡ c + 1 = omega arith in
      let t : U ≡ (class_at k n T i).table = ap (λ (v : Grown). v.table) g in
      let o : e ≡ (class_at k n T i).end = ap (λ (v : Grown). v.end) g in
      let x : a ≡ (class_at k n T i).small = ap (λ (v : Grown). v.small) g in
      let y : b ≡ (class_at k n T i).whole = ap (λ (v : Grown). v.whole) g in
      so_far ∙ ap (λ (z : ℕ). classed_from z k n (classed T m u c) i) d ∙ classed_next (n - (c + 1)) k n (classed T m u c) i h
      ∙ rw (t, o, p, q, x, y, j) refl

  pub class_done : n ≤ i → classed T m u c ≡ C
  class_done h = sym (so_far ∙ classed_end (n - c) k n (classed T m u c) i h)

pub class_first : (k n : ℕ) (T m u : List ℕ) → classed_all k n T m u ≡ classed_from (n - 0) k n (classed T m u 0) 0
unfolding classed_all
class_first k n T m u = let d : n ≡ n - 0 = omega arith in ap (λ (z : ℕ). classed_from z k n (classed T m u 0) 0) d
