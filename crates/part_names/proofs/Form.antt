-- A name's form, byte by byte, names that are alike, and names in order. Assumes nothing.
use mathlib.Core.Path.{◌≡◌, refl, sym, ap, ap₂, ◌∙◌}
use mathlib.Core.Bool.{Bool, true, false, not, cond, ◌&&◌}
use mathlib.Core.List.{[], List, ◌∷◌}
use Prim.Native.Nat.{ℕ, zero, suc, ◌+◌, ◌-◌, ◌<◌, ◌≤◌}
use native.Mathlib.Omega.{arith}
use native.Mathlib.Numerals.{one-add}
use lib.Dec.{eqb, ltb}
use borrow.Author.Tests.{le-ltb}
use lib.ListN.{length, take, drop, length-drop}
use lib.Seq.{take_all, drop-drop, take-take}
use Rattle.answers.specs.Verdict.{Verdict, accepted, refused, ◌then◌, unless, in_order}
use Rattle.answers.proofs.Laws.{unless_passed, last_go, last_stop, then_both, then_left, then_right, then_stop, then_go}
use Rattle.answers.proofs.Laws.{order_each, order_all, order_stop, order_same}
use Rattle.sets.specs.Lists.{any, below, same}
use lib.Pointwise.{pointwise}
use mathlib.Core.Logic.{◌⊎◌, inl, inr}
use Rattle.std.specs.List.{list_any, list_all, prefix_len, range_with_len}
use Rattle.sets.proofs.Tests.{never, not_so, split, and_go, and_stop}
use Rattle.sets.proofs.ListLaws.{any_at, any_of, any_same, any_list, range_below, pointwise_same, below_at, below_of, same_self, same_of}
use Rattle.percolation.proofs.Ranges.{range_low, range_high}
use Rattle.std.specs.Prelude.{Option, Some, None, MatchOption}
use Rattle.part_names.specs.Model.{FirstFault}
use Rattle.part_names.specs.Names.{visible, spaces, visible_then_spaces, is_name, eight_at, repeated, check_names, AllDiffer}

pub visible_range : (b : ℕ) → visible b ≡ true → (33 ≤ b) × (b ≤ 126)
unfolding visible
visible_range b e = (range_low 33 126 b e, range_high 33 126 b e)

-- as iterators find it

spaces_tested : (n : List ℕ) → list_all (λ b. eqb b 32) n ≡ spaces n
unfolding spaces
spaces_tested [] = refl
spaces_tested (b ∷ bs) = ap (λ (t : Bool). eqb b 32 && t) (spaces_tested bs)

-- behind the visible bytes only spaces stand
rest_spaces : (n : List ℕ) → spaces (drop (prefix_len visible n) n) ≡ visible_then_spaces n
unfolding visible_then_spaces
rest_spaces [] = refl
rest_spaces (b ∷ bs) = go (split (visible b)) (rest_spaces bs)
  where
    go : (visible b ≡ true) ⊎ (visible b ≡ false) → spaces (drop (prefix_len visible bs) bs) ≡ visible_then_spaces bs
        → spaces (drop (cond (visible b) (1 + prefix_len visible bs) 0) (b ∷ bs)) ≡ cond (visible b) (visible_then_spaces bs) (spaces (b ∷ bs))
    go (inl e) r = rw (e, one-add) r
    go (inr e) r = rw e

pub name_tested : (n : List ℕ) (at : ℕ) → at ≡ prefix_len visible n → 0 < at → list_all (λ b. eqb b 32) (take (length n - at) (drop at n)) ≡ is_name n
unfolding is_name
name_tested [] at e h = absurd (omega arith)
name_tested (b ∷ bs) at e h = go (split (visible b))
  where
    part : take (length (b ∷ bs) - at) (drop at (b ∷ bs)) ≡ drop at (b ∷ bs)
    part = take_all (length (b ∷ bs) - at) (drop at (b ∷ bs)) (omega (arith, length-drop at (b ∷ bs)))

    go : (visible b ≡ true) ⊎ (visible b ≡ false)
        → list_all (λ c. eqb c 32) (take (length (b ∷ bs) - at) (drop at (b ∷ bs))) ≡ (visible b && visible_then_spaces bs)
    go (inl t) =
        let f : prefix_len visible (b ∷ bs) ≡ suc (prefix_len visible bs) = rw t (omega arith) in
        ap (list_all (λ c. eqb c 32)) (part ∙ ap (λ (k : ℕ). drop k (b ∷ bs)) (e ∙ f)) ∙ spaces_tested (drop (prefix_len visible bs) bs) ∙ rest_spaces bs
        ∙ and_go (visible b) (visible_then_spaces bs) t refl
    go (inr t) = let f : prefix_len visible (b ∷ bs) ≡ 0 = rw t refl in absurd (omega arith)

pub name_lacking : (n : List ℕ) (at : ℕ) → at ≡ prefix_len visible n → at ≤ 0 → ltb 0 at ≡ is_name n
unfolding is_name
name_lacking [] at e h = le-ltb 0 at h
name_lacking (b ∷ bs) at e h = le-ltb 0 at h ∙ go (split (visible b))
  where
    go : (visible b ≡ true) ⊎ (visible b ≡ false) → false ≡ (visible b && visible_then_spaces bs)
    go (inl t) = let f : prefix_len visible (b ∷ bs) ≡ suc (prefix_len visible bs) = rw t (omega arith) in absurd (omega arith)
    go (inr t) = and_stop (visible b) (visible_then_spaces bs) t

-- ---- names that are alike

pub repeated_none : (f : ℕ → List ℕ) (q : ℕ) → ((r : ℕ) → r < q → f r ≡ f q → ⊥) → repeated f q ≡ false
unfolding repeated
repeated_none f q h =
    not_so (any (λ r. same (f r) (f q)) (below q)) (λ t. let g = any_of (λ r. same (f r) (f q)) (below q) t in h g.0 (below_of q g.1) (same_of (f g.0) (f q) g.2))

pub repeated_at : (f : ℕ → List ℕ) (q r : ℕ) → r < q → f r ≡ f q → repeated f q ≡ true
unfolding repeated
repeated_at f q r h e = any_at (λ i. same (f i) (f q)) (below q) (below_at r q h) (ap (λ (x : List ℕ). same x (f q)) e ∙ same_self (f q))

pub repeated_tested : (f : ℕ → List ℕ) (q : ℕ) → list_any (λ r. pointwise eqb (f r) (f q)) (range_with_len 0 q) ≡ repeated f q
unfolding repeated
repeated_tested f q =
    ap (list_any (λ r. pointwise eqb (f r) (f q))) (range_below q) ∙ any_list (λ r. pointwise eqb (f r) (f q)) (below q)
    ∙ any_same (λ r. pointwise eqb (f r) (f q)) (λ r. same (f r) (f q)) (below q) (λ r m. pointwise_same (f r) (f q))

-- what a search of a range finds
pub fault_found : (test : ℕ → Bool) (p : ℕ) (r : Option ℕ)
    → MatchOption r ((k : ℕ) → 0 ≤ k → k < p → test k ≡ true) (λ i. (0 ≤ i) × (i < p) × (test i ≡ false) × ((k : ℕ) → 0 ≤ k → k < i → test k ≡ true))
    → FirstFault test p r
fault_found test p None h = λ q l. h q (omega arith) l
fault_found test p (Some i) h = (h.1, (λ q l. h.3 q (omega arith) l), h.2)

pub fault_at : (test : ℕ → Bool) (p q : ℕ) (r : Option ℕ) → FirstFault test p r → r ≡ Some q
    → (q < p) × ((i : ℕ) → i < q → test i ≡ true) × (test q ≡ false)
fault_at test p q r h e = rw e at h

pub fault_none : (test : ℕ → Bool) (p : ℕ) (r : Option ℕ) → FirstFault test p r → r ≡ None → (i : ℕ) → i < p → test i ≡ true
fault_none test p r h e = rw e at h

-- ---- a test of each in order, and the place of the first that fails it

module _ (test : ℕ → Bool) (number : ℕ) (place : ℕ → ℕ) where
  abbrev check : ℕ → Verdict
  check q = unless (test q) number (place q)

  none_fails : (p : ℕ) → ((q : ℕ) → q < p → test q ≡ true) → in_order check p ≡ accepted
  none_fails p h = order_all check p (λ q l. last_go (test q) number (place q) (h q l))

  first_fails : (p r : ℕ) → r < p → ((q : ℕ) → q < r → test q ≡ true) → test r ≡ false → in_order check p ≡ refused number (place r)
  first_fails p r l h e = order_stop check p r number (place r) l (none_fails r h) (last_stop (test r) number (place r) e)

  each_passes : (p : ℕ) → in_order check p ≡ accepted → (q : ℕ) → q < p → test q ≡ true
  each_passes p e q l = unless_passed (test q) number (place q) (order_each check p e q l)

-- ---- names in order: the bytes of name q, and its place

module _ (name_of : ℕ → List ℕ) (place : ℕ → ℕ) (p : ℕ) where
  abbrev formed : ℕ → Bool
  formed q = is_name (name_of q)

  abbrev single : ℕ → Bool
  single q = not (repeated name_of q)

  abbrev forms : Verdict
  forms = in_order (λ q. unless (formed q) 5 (place q)) p

  abbrev singles : Verdict
  singles = in_order (λ q. unless (single q) 21 (place q)) p

  -- each a name, and none an earlier one again
  pub all_single : ((q : ℕ) → q < p → is_name (name_of q) ≡ true) → ((q : ℕ) → q < p → not (repeated name_of q) ≡ true) → check_names name_of place p ≡ accepted
  unfolding check_names
  all_single h g = then_both forms singles (none_fails formed 5 place p h) (none_fails single 21 place p g)

  pub all_names : ((q : ℕ) → q < p → is_name (name_of q) ≡ true) → AllDiffer name_of p → check_names name_of place p ≡ accepted
  all_names h d = all_single h (λ q l. ap not (repeated_none name_of q (λ r m. d r q m l)))

  pub each_name : check_names name_of place p ≡ accepted → (q : ℕ) → q < p → is_name (name_of q) ≡ true
  unfolding check_names
  each_name e = each_passes formed 5 place p (then_left forms singles e)

  pub names_distinct : check_names name_of place p ≡ accepted → AllDiffer name_of p
  unfolding check_names
  names_distinct e q r l m same =
      never false (sym (ap not (repeated_at name_of r q l same)) ∙ each_passes single 21 place p (then_right forms singles e) r m) refl

  pub first_bad : (r : ℕ) → r < p → ((q : ℕ) → q < r → is_name (name_of q) ≡ true) → is_name (name_of r) ≡ false → check_names name_of place p ≡ refused 5 (place r)
  unfolding check_names
  first_bad r l h e = then_stop forms singles 5 (place r) (first_fails formed 5 place p r l h e)

  -- every name's form comes before the first repetition
  pub first_again : ((q : ℕ) → q < p → is_name (name_of q) ≡ true) → (r : ℕ) → r < p → ((q : ℕ) → q < r → not (repeated name_of q) ≡ true)
      → not (repeated name_of r) ≡ false → check_names name_of place p ≡ refused 21 (place r)
  unfolding check_names
  first_again h r l g e = then_go forms singles (none_fails formed 5 place p h) ∙ first_fails single 21 place p r l g e

-- the same names at the same places
pub names_same : (f g : ℕ → List ℕ) (a b : ℕ → ℕ) (p : ℕ) → ((q : ℕ) → q < p → f q ≡ g q) → ((q : ℕ) → q < p → a q ≡ b q) → check_names f a p ≡ check_names g b p
unfolding check_names repeated
names_same f g a b p e d =
    ap₂ ◌then◌
    (order_same (λ q. unless (is_name (f q)) 5 (a q)) (λ q. unless (is_name (g q)) 5 (b q)) p
    (λ q l. ap₂ (λ (x : List ℕ) (y : ℕ). unless (is_name x) 5 y) (e q l) (d q l)))
    (order_same (λ q. unless (not (repeated f q)) 21 (a q)) (λ q. unless (not (repeated g q)) 21 (b q)) p
    (λ q l. ap₂ (λ (x : Bool) (y : ℕ). unless (not x) 21 y) (alike q l) (d q l)))
  where
    alike : (q : ℕ) → q < p → repeated f q ≡ repeated g q
    alike q l = any_same (λ r. same (f r) (f q)) (λ r. same (g r) (g q)) (below q) (λ r m. ap₂ same (e r (let h = below_of q m in omega arith)) (e q l))

-- names that pass at some places pass at any
pub names_again : (f g : ℕ → List ℕ) (a b : ℕ → ℕ) (p : ℕ) → ((q : ℕ) → q < p → f q ≡ g q) → check_names f a p ≡ accepted → check_names g b p ≡ accepted
names_again f g a b p e ok =
    all_names g b p (λ q l. ap is_name (sym (e q l)) ∙ each_name f a p ok q l)
    (λ q r l m s. names_distinct f a p ok q r l m (e q (omega arith) ∙ s ∙ sym (e r m)))

drop_take : (b n k : ℕ) (l : List ℕ) → n ≡ b + k → drop b (take n l) ≡ take k (drop b l)
drop_take zero n k l e = ap (λ (m : ℕ). take m l) (let f : n ≡ k = omega arith in f)
drop_take (suc b) zero k l e = absurd (omega arith)
drop_take (suc b) (suc n) zero [] e = refl
drop_take (suc b) (suc n) (suc k) [] e = refl
drop_take (suc b) (suc n) k (x ∷ l) e = drop_take b n k l (omega arith)

-- a name inside the names' part of a sheet
pub eight_inside : (s : List ℕ) (a n b : ℕ) → b + 8 ≤ n → eight_at (take n (drop a s)) b ≡ eight_at s (a + b)
eight_inside s a n b h = ap (take 8) (drop_take b n (n - b) (drop a s) (omega arith)) ∙ take-take 8 (n - b) (drop b (drop a s)) (omega arith) ∙ ap (take 8) (drop-drop b a s)
