-- The steps at the end of a level, one slot at a time: classes counted, lines that start, and rows emptied. Assumes nothing.
use mathlib.Core.Path.{◌≡◌, refl, sym, ap, ◌∙◌}
use mathlib.Core.Logic.{◌⊎◌, inl, inr}
use mathlib.Core.Bool.{Bool, true, false, cond, not, ◌&&◌, ◌||◌}
use mathlib.Core.List.{List, [], ◌∷◌, ◌++◌, append-nil}
use Prim.Native.Nat.{ℕ, suc, ◌+◌, ◌≤◌, ◌<◌}
use native.Mathlib.Omega.{arith}
use Rattle.std.specs.List.{filter, range_with_len}
use native.Mathlib.Numerals.{add-one}
use lib.Dec.{eqb, ltb}
use lib.ListN.{length, length-append}
use borrow.Author.Tests.{eq-eqb, ne_eqb, lt-ltb, le-ltb, le-leb, lt-leb}
use Rattle.sets.specs.Lists.{keep, below}
use Rattle.sets.specs.Value.{row, store, number_at}
use Rattle.sets.proofs.Tests.{split, and_left, and_right}
use Rattle.sets.proofs.ListLaws.{keep_yes, keep_no, keep_append, keep_both, keep_le, keep_all, below_length}
use Rattle.slots.specs.Tables.{root_of}
use Rattle.listings.specs.Model.{root_slots}
use Rattle.listings.proofs.Listed.{roots_yes, roots_no, range_kept}
use Rattle.tree_levels.specs.LevelModel.{absorbed, more_joins, swept, joins_at, starts_at, start_slots}

-- ---- absorbed classes

module _ (es us : List ℕ) (i : ℕ) where
  pub absorbed_end : eqb (root_of es i) i ≡ true → absorbed es us i ≡ false
  unfolding absorbed
  absorbed_end e = ap (λ (b : Bool). not b && not (eqb (row us i) 0)) e

  pub absorbed_other : eqb (root_of es i) i ≡ false → absorbed es us i ≡ not (eqb (row us i) 0)
  unfolding absorbed
  absorbed_other e = ap (λ (b : Bool). not b && not (eqb (row us i) 0)) e

module _ (n : ℕ) where
  pub joins_first : n ≡ 0 → 2 ≡ more_joins n
  unfolding more_joins
  joins_first e = sym (ap (λ (b : Bool). cond b 2 (cond (ltb n 4294967295) (suc n) n)) (eq-eqb n 0 e))

  module _ (some : n ≡ 0 → ⊥) where
    past : more_joins n ≡ cond (ltb n 4294967295) (suc n) n
    unfolding more_joins
    past = ap (λ (b : Bool). cond b 2 (cond (ltb n 4294967295) (suc n) n)) (ne_eqb n 0 some)

    pub joins_more : n < 4294967295 → n + 1 ≡ more_joins n
    joins_more h = add-one n ∙ sym (past ∙ ap (λ (b : Bool). cond b (suc n) n) (lt-ltb n 4294967295 h))

    pub joins_full : 4294967295 ≤ n → n ≡ more_joins n
    joins_full h = sym (past ∙ ap (λ (b : Bool). cond b (suc n) n) (le-ltb n 4294967295 h))

-- ---- lines that start

module _ (us : List ℕ) (n r : ℕ) where
  pub joins_new : n ≤ r → joins_at us n r ≡ 0
  unfolding joins_at
  joins_new h = ap (λ (b : Bool). cond b 0 (number_at us (suc r))) (le-leb n r h)

  pub joins_old : r < n → joins_at us n r ≡ number_at us (suc r)
  unfolding joins_at
  joins_old h = ap (λ (b : Bool). cond b 0 (number_at us (suc r))) (lt-leb n r h)

  pub starts_new : n ≤ r → starts_at us n r ≡ true
  unfolding starts_at
  starts_new h = ap (λ (b : Bool). b || not (eqb (number_at us (suc r)) 0)) (le-leb n r h)

  pub starts_old : r < n → starts_at us n r ≡ not (eqb (number_at us (suc r)) 0)
  unfolding starts_at
  starts_old h = ap (λ (b : Bool). b || not (eqb (number_at us (suc r)) 0)) (lt-leb n r h)

module _ (es us : List ℕ) (n : ℕ) where
  pub slots_none : start_slots es us n 0 ≡ []
  unfolding start_slots root_slots
  slots_none = refl

  module _ (i : ℕ) where
    pub slots_yes : eqb (root_of es i) i && starts_at us n i ≡ true → start_slots es us n (suc i) ≡ start_slots es us n i ++ (i ∷ [])
    unfolding start_slots
    slots_yes e =
        ap (keep (starts_at us n)) (roots_yes es i (and_left (eqb (root_of es i) i) (starts_at us n i) e))
        ∙ keep_append (starts_at us n) (root_slots es i) (i ∷ [])
        ∙ ap (λ (l : List ℕ). keep (starts_at us n) (root_slots es i) ++ l)
        (keep_yes (starts_at us n) i [] (and_right (eqb (root_of es i) i) (starts_at us n i) e))

    pub slots_no : eqb (root_of es i) i && starts_at us n i ≡ false → start_slots es us n (suc i) ≡ start_slots es us n i
    unfolding start_slots
    slots_no e = go (split (eqb (root_of es i) i))
      where
        go : (eqb (root_of es i) i ≡ true) ⊎ (eqb (root_of es i) i ≡ false)
            → keep (starts_at us n) (root_slots es (suc i)) ≡ keep (starts_at us n) (root_slots es i)
        go (inr f) = ap (keep (starts_at us n)) (roots_no es i f)
        go (inl f) =
            ap (keep (starts_at us n)) (roots_yes es i f)
            ∙ keep_append (starts_at us n) (root_slots es i) (i ∷ [])
            ∙ ap (λ (l : List ℕ). keep (starts_at us n) (root_slots es i) ++ l)
            (keep_no (starts_at us n) i [] (sym (ap (λ (b : Bool). b && starts_at us n i) f) ∙ e))
            ∙ append-nil (keep (starts_at us n) (root_slots es i))

    pub tally_yes : eqb (root_of es i) i && starts_at us n i ≡ true → length (start_slots es us n (i + 1)) ≡ length (start_slots es us n i) + 1
    tally_yes e =
        ap (λ (j : ℕ). length (start_slots es us n j)) (add-one i) ∙ ap length (slots_yes e) ∙ length-append (start_slots es us n i) (i ∷ [])

    pub tally_no : eqb (root_of es i) i && starts_at us n i ≡ false → length (start_slots es us n (i + 1)) ≡ length (start_slots es us n i)
    tally_no e = ap (λ (j : ℕ). length (start_slots es us n j)) (add-one i) ∙ ap length (slots_no e)

-- ---- the slots that a test keeps

module _ (es us : List ℕ) (n m : ℕ) where
  pub starts_kept : start_slots es us n m ≡ keep (λ i. eqb (root_of es i) i && starts_at us n i) (below m)
  unfolding start_slots root_slots
  starts_kept = keep_both (λ i. eqb (root_of es i) i) (starts_at us n) (below m)

  pub starts_filtered : length (filter (λ i. eqb (root_of es i) i && starts_at us n i) (range_with_len 0 m)) ≡ length (start_slots es us n m)
  unfolding below
  starts_filtered = ap length (range_kept (λ i. eqb (root_of es i) i && starts_at us n i) 0 m ∙ sym starts_kept)

  pub starts_few : length (start_slots es us n m) ≤ m
  starts_few =
      let p : ℕ → Bool = λ i. eqb (root_of es i) i && starts_at us n i in
      omega (
        arith,
        ap length starts_kept,
        keep_le p (λ i. true) (below m) (λ x i e. refl),
        ap length (keep_all (λ i. true) (below m) (λ x i. refl)),
        below_length m,
      )

-- ---- slots in turn

module _ (test : List ℕ → ℕ → Bool) (place new : ℕ → ℕ) (us : List ℕ) where
  pub swept_none : swept test place new us 0 ≡ us
  unfolding swept
  swept_none = refl

  module _ (i : ℕ) where
    pub swept_yes : test (swept test place new us i) i ≡ true
        → swept test place new us (suc i) ≡ store (swept test place new us i) (place i) (new (number_at (swept test place new us i) (place i)))
    unfolding swept
    swept_yes e = rw (swept, e)

    pub swept_no : test (swept test place new us i) i ≡ false → swept test place new us (suc i) ≡ swept test place new us i
    unfolding swept
    swept_no e = rw (swept, e)
