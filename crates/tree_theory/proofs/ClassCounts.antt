-- The classes that go into a class, counted at the slot after its end: the count says whether a line starts there and how many lines it joins. Assumes
-- nothing.
use mathlib.Core.Path.{◌≡◌, refl, sym, ap, ap₂, ◌∙◌, subst, subst⁻¹}
use mathlib.Core.Logic.{◌⊎◌, inl, inr}
use mathlib.Core.Bool.{Bool, true, false, not, ◌&&◌}
use mathlib.Core.List.Memᴰ
use mathlib.Core.List.{List, [], ◌∷◌, map}
use Prim.Native.Nat.{ℕ, zero, suc, ◌+◌, ◌≤◌, ◌<◌, ◌^◌}
use native.Mathlib.Omega.{arith}
use lib.Dec.{eqb, ltb}
use lib.ListN.{length, length-append, length-map}
use borrow.Author.Tests.{eq-eqb, ne_eqb, eqb-true, eqb-false}
use Rattle.sets.specs.Lists.{◌∈◌, keep, below}
use Rattle.sets.specs.Value.{width, rows, row, store, number_at}
use Rattle.sets.proofs.Tests.{never, split, lt_or_le, same_or_not, and_intro, and_left, and_right, no_and}
use Rattle.sets.proofs.Tables.{row_store, row_other}
use Rattle.sets.proofs.RowNumbers.{small_fits, number_is}
use Rattle.sets.proofs.ListLaws.{Distinct, Holds, keep_at, keep_of, keep_same, keep_le, keep_all, keep_none, keep_map, keep_distinct, keep_below_yes}
use Rattle.sets.proofs.ListLaws.{keep_below_no, below_of, below_at, below_length, distinct_same, rising_distinct, below_rising, number_order}
use Rattle.percolation.specs.Ranges.{most_slots}
use Rattle.slots.specs.Tables.{Tables, room, root_of}
use Rattle.joining.proofs.Follow.{root_le, root_twice}
use Rattle.slots.proofs.Lengths.{room_within}
use Rattle.slots_theory.proofs.Free.{Stays, stays_root, Paired, paired_free}
use Rattle.listings.specs.Model.{root_slots}
use Rattle.listings.proofs.Listed.{roots_of, roots_at, roots_distinct}
use Rattle.tree_theory.specs.Model.{Rooted, rooted, ending_at, starts_line}
use Rattle.tree_levels.specs.LevelModel.{absorbed, more_joins, join_counts, joins_at, starts_at, start_slots}
use Rattle.tree_levels.proofs.LevelSteps.{absorbed_end, absorbed_other, swept_yes, swept_no, swept_none, joins_first, joins_more, joins_full}
use Rattle.tree_levels.proofs.LevelSteps.{joins_new, joins_old, starts_new, starts_old}
use Rattle.tree_theory.proofs.UnionsKept.{Bounded}
use Rattle.tree_theory.proofs.SweptRows.{swept_length, swept_rows, swept_bounded, swept_other}

-- how many lines a class joins that c others went into: 0 stands for its own line alone
abbrev pub joins_of_lem : ℕ → ℕ
joins_of_lem zero = 0
joins_of_lem (suc c) = suc (suc c)

joins_suc : (c : ℕ) → c < 4294967290 → more_joins (joins_of_lem c) ≡ joins_of_lem (suc c)
joins_suc zero h = sym (joins_first 0 refl)
joins_suc (suc c) h = sym (joins_more (suc (suc c)) (λ e. omega (arith, e)) (omega arith)) ∙ (let e : suc (suc c) + 1 ≡ suc (suc (suc c)) = omega arith in e)

more_fits : (n : ℕ) → n < 2 ^ 64 → more_joins n < 2 ^ 64
more_fits n h = go (same_or_not n 0) (lt_or_le n 4294967295)
  where
    go : (n ≡ 0) ⊎ (n ≡ 0 → ⊥) → (n < 4294967295) ⊎ (4294967295 ≤ n) → more_joins n < 2 ^ 64
    go (inl e) r = omega (arith, joins_first n e)
    go (inr e) (inl l) = omega (arith, joins_more n e l)
    go (inr e) (inr l) = omega (arith, joins_full n e l)

-- a number that a free row can hold
few : (c : ℕ) → c < 4294967290 → joins_of_lem c < 2 ^ 64
few zero h = omega arith
few (suc c) h = omega arith

-- ---- the counts, row by row

pub absorbed_row : (es xs ys : List ℕ) (i : ℕ) → row xs i ≡ row ys i → absorbed es xs i ≡ absorbed es ys i
unfolding absorbed
absorbed_row es xs ys i e = ap (λ (x : ℕ). not (eqb (root_of es i) i) && not (eqb x 0)) e

pub absorbed_lower : (es xs : List ℕ) (i : ℕ) → absorbed es xs i ≡ true → root_of es i < i
absorbed_lower es xs i t = go (split (eqb (root_of es i) i))
  where
    go : (eqb (root_of es i) i ≡ true) ⊎ (eqb (root_of es i) i ≡ false) → root_of es i < i
    go (inl e) = never (absorbed es xs i) t (absorbed_end es xs i e)
    go (inr e) = let n = eqb-false (root_of es i) i e in omega (arith, n, root_le es i)

module _ (es us : List ℕ) where
  pub counts_length : (i : ℕ) → length (join_counts es us i) ≡ length us
  counts_length = swept_length (absorbed es) (λ i. suc (root_of es i)) more_joins us

  pub counts_rows : (i : ℕ) → rows (join_counts es us i) ≡ rows us
  counts_rows = swept_rows (absorbed es) (λ i. suc (root_of es i)) more_joins us

  pub counts_bounded : (i : ℕ) → Bounded us → Bounded (join_counts es us i)
  counts_bounded = swept_bounded (absorbed es) (λ i. suc (root_of es i)) more_joins us more_fits

  -- a count stands below the slot that it counts
  counts_absorbed : (i : ℕ) → absorbed es (join_counts es us i) i ≡ absorbed es us i
  counts_absorbed i =
      absorbed_row es (join_counts es us i) us i
      (swept_other (absorbed es) (λ j. suc (root_of es j)) more_joins us i i (λ j l t e. omega (arith, e, absorbed_lower es (join_counts es us j) j t)))

  -- only the slots after ends of absorbed slots are written
  pub counts_other : (i x : ℕ) → ((j : ℕ) → j < i → absorbed es us j ≡ true → x ≡ suc (root_of es j) → ⊥) → row (join_counts es us i) x ≡ row us x
  counts_other i x h = swept_other (absorbed es) (λ j. suc (root_of es j)) more_joins us i x (λ j l t. h j l (sym (counts_absorbed j) ∙ t))

  -- the absorbed slots below i that end at r
  abbrev goes_to : ℕ → ℕ → Bool
  goes_to r j = absorbed es us j && eqb (root_of es j) r

  abbrev pub tally : ℕ → ℕ → ℕ
  tally i r = length (keep (λ j. absorbed es us j && eqb (root_of es j) r) (below i))

  pub tally_le : (i r : ℕ) → tally i r ≤ i
  tally_le i r =
      let all = keep_all (λ (j : ℕ). true) (below i) (λ x m. refl) in
      omega (arith, keep_le (goes_to r) (λ j. true) (below i) (λ x m e. refl), ap length all, below_length i)

  pub counts_at : (i r : ℕ) → i < 4294967290 → suc r < rows us → row us (suc r) ≡ 0 → row (join_counts es us i) (suc r) ≡ joins_of_lem (tally i r)
  unfolding keep below
  counts_at zero r h l e = ap (λ (x : List ℕ). row x (suc r)) (swept_none (absorbed es) (λ j. suc (root_of es j)) more_joins us) ∙ e
  counts_at (suc i) r h l e = go (split (absorbed es us i)) (split (eqb (root_of es i) r)) (counts_at i r (omega arith) l e)
    where
      P : ℕ → Bool
      P = goes_to r

      J : List ℕ
      J = join_counts es us i

      still : goes_to r i ≡ false → tally (suc i) r ≡ tally i r
      still f = ap length (keep_below_no P i f)

      go : (absorbed es us i ≡ true) ⊎ (absorbed es us i ≡ false) → (eqb (root_of es i) r ≡ true) ⊎ (eqb (root_of es i) r ≡ false)
          → row J (suc r) ≡ joins_of_lem (tally i r) → row (join_counts es us (suc i)) (suc r) ≡ joins_of_lem (tally (suc i) r)
      go (inr t) s ih =
          ap (λ (x : List ℕ). row x (suc r)) (swept_no (absorbed es) (λ j. suc (root_of es j)) more_joins us i (counts_absorbed i ∙ t)) ∙ ih
          ∙ ap joins_of_lem (sym (still (ap (λ (b : Bool). b && eqb (root_of es i) r) t)))
      go (inl t) (inr s) ih =
          ap (λ (x : List ℕ). row x (suc r)) (swept_yes (absorbed es) (λ j. suc (root_of es j)) more_joins us i (counts_absorbed i ∙ t))
          ∙ row_other J (suc (root_of es i)) (suc r) _ (λ q. eqb-false (root_of es i) r s (let z : root_of es i ≡ r = omega (arith, q) in z)) ∙ ih
          ∙ ap joins_of_lem (sym (still (ap (λ (b : Bool). absorbed es us i && b) s ∙ no_and (absorbed es us i))))
      go (inl t) (inl s) ih =
          let q : root_of es i ≡ r = eqb-true (root_of es i) r s in
          let c = tally i r in
          let v : more_joins (number_at J (suc r)) ≡ joins_of_lem (suc c) = ap more_joins
          (number_is J (suc r) (joins_of_lem c) ih (few c (omega (arith, tally_le i r)))) ∙ joins_suc c (omega (arith, tally_le i r)) in
          let more : tally (suc i) r ≡ suc c =
          ap length (keep_below_yes P i (and_intro (absorbed es us i) (eqb (root_of es i) r) t s)) ∙ length-append (keep P (below i)) (i ∷ [])
          ∙ (let z : c + 1 ≡ suc c = omega arith in z) in
          let small : more_joins (number_at J (suc r)) < 2 ^ width = subst⁻¹ (λ (x : ℕ). x < 2 ^ width) v
          (small_fits (suc (suc c)) (omega (arith, tally_le i r))) in
          ap (λ (x : List ℕ). row x (suc r)) (swept_yes (absorbed es) (λ j. suc (root_of es j)) more_joins us i (counts_absorbed i ∙ t))
          ∙ ap (λ (x : ℕ). row (store J (suc x) (more_joins (number_at J (suc x)))) (suc r)) q
          ∙ row_store J (suc r) (more_joins (number_at J (suc r))) (omega (arith, counts_rows i)) small
          ∙ v ∙ ap joins_of_lem (sym more)

-- ---- a level: T are the tables at the end of the level before, U those after its links

pub record Turned (T U : Tables) : Type 0 where
  pub stays : Stays T U
  pub paired : Paired T
  pub still : Paired U
  pub fits : U.used ≤ room U.entries
  pub smallest : rows U.smallest ≡ length U.entries
  pub unions : rows U.unions ≡ length U.entries
  -- at the end of the level before the rows of slots that were no ends were empty; those of ends never are again
  pub empty : (i : ℕ) → i < T.used → (root_of T.entries i ≡ i → ⊥) → row T.unions i ≡ 0
  pub full : (i : ℕ) → i < T.used → root_of T.entries i ≡ i → row U.unions i ≡ 0 → ⊥

module _ (T U : Tables) (h : Turned T U) where
  abbrev es : List ℕ
  es = U.entries

  abbrev us : List ℕ
  us = U.unions

  abbrev was : ℕ → Bool
  was i = eqb (root_of T.entries i) i

  pub turned_room : U.used ≤ most_slots
  turned_room = omega (arith, h.fits, room_within U.entries)

  pub turned_rows : U.used ≤ rows U.unions
  turned_rows = omega (arith, h.fits, room_within U.entries, h.unions)

  -- an end of U that was used before was one then
  pub was_end : (r : ℕ) → r < T.used → root_of U.entries r ≡ r → root_of T.entries r ≡ r
  was_end r l e = stays_root T U h.stays r l e

  -- the row after an end of T
  pub after_empty : (r : ℕ) → r < T.used → root_of T.entries r ≡ r → row U.unions (suc r) ≡ 0
  after_empty r l e =
      let p = h.paired r l e in
      let n = paired_free T h.paired r l e in
      h.stays.unions (suc r) p.0 n ∙ h.empty (suc r) p.0 n

  -- the absorbed slots are the ends of T that are none of U
  pub absorbed_is : (i : ℕ) → i < T.used → absorbed U.entries U.unions i ≡ eqb (root_of T.entries i) i && not (eqb (root_of U.entries i) i)
  absorbed_is i l = go (split (eqb (root_of es i) i)) (split (was i))
    where
      go : (eqb (root_of es i) i ≡ true) ⊎ (eqb (root_of es i) i ≡ false) → (was i ≡ true) ⊎ (was i ≡ false)
          → absorbed es us i ≡ was i && not (eqb (root_of es i) i)
      go (inl e) w = absorbed_end es us i e ∙ sym (ap (λ (b : Bool). was i && not b) e ∙ no_and (was i))
      go (inr e) (inl w) =
          absorbed_other es us i e ∙ ap not (ne_eqb (row us i) 0 (h.full i l (eqb-true (root_of T.entries i) i w)))
          ∙ sym (ap₂ (λ (a b : Bool). a && not b) w e)
      go (inr e) (inr w) =
          let n = eqb-false (root_of T.entries i) i w in
          absorbed_other es us i e ∙ ap not (eq-eqb (row us i) 0 (h.stays.unions i l n ∙ h.empty i l n))
          ∙ sym (ap (λ (a : Bool). a && not (eqb (root_of es i) i)) w)

  pub absorbed_was : (i : ℕ) → i < T.used → absorbed U.entries U.unions i ≡ true → root_of T.entries i ≡ i
  absorbed_was i l t =
      eqb-true (root_of T.entries i) i (and_left (was i) (not (eqb (root_of es i) i)) (sym (absorbed_is i l) ∙ t))

  -- ---- how many classes of the level before end at r

  module _ (number : ℕ → ℕ) (A : List Rooted) (classes : A ≡ map (λ r. rooted r (number r)) (root_slots T.entries T.used)) where
    abbrev ends_at : ℕ → ℕ → Bool
    ends_at r o = eqb (root_of es o) r

    ending_length : (r : ℕ) → length (ending_at U.entries A r) ≡ length (keep (ends_at r) (root_slots T.entries T.used))
    unfolding ending_at
    ending_length r =
        ap (λ (B : List Rooted). length (keep (λ x. eqb (root_of es x.slot) r) B)) classes
        ∙ ap length (keep_map (λ (x : Rooted). eqb (root_of es x.slot) r) (λ o. rooted o (number o)) (root_slots T.entries T.used))
        ∙ length-map (keep (ends_at r) (root_slots T.entries T.used)) (λ o. rooted o (number o))

    -- none, where r is new
    pub ending_new : (r : ℕ) → T.used ≤ r → length (ending_at U.entries A r) ≡ 0
    ending_new r l =
        ending_length r
        ∙ keep_none (ends_at r) (root_slots T.entries T.used)
        (λ o m. ne_eqb (root_of es o) r (λ e. omega (arith, e, root_le es o, (roots_of T.entries T.used m).0)))

    -- its own and those that were absorbed, where it is not
    pub ending_old : (r : ℕ) → r < T.used → root_of U.entries r ≡ r → length (ending_at U.entries A r) ≡ suc (tally U.entries U.unions T.used r)
    unfolding Distinct
    ending_old r l e = ending_length r ∙ distinct_same K (r ∷ M) one ((λ m. alone m), two) to fro
      where
        P : ℕ → Bool
        P = λ j. absorbed es us j && eqb (root_of es j) r

        R : List ℕ
        R = root_slots T.entries T.used

        K : List ℕ
        K = keep (λ o. eqb (root_of es o) r) (root_slots T.entries T.used)

        M : List ℕ
        M = keep (λ j. absorbed es us j && eqb (root_of es j) r) (below T.used)

        one : Distinct K
        one = keep_distinct (ends_at r) R (roots_distinct T.entries T.used)

        two : Distinct M
        two = keep_distinct P (below T.used) (rising_distinct ltb number_order (below T.used) (below_rising T.used))

        alone : r ∈ M → ⊥
        alone m =
            let q = keep_of P (below T.used) m in
            omega (arith, e, absorbed_lower es us r (and_left (absorbed es us r) (eqb (root_of es r) r) q.1))

        to : Holds (r ∷ M) K
        to o m = go (same_or_not o r)
          where
            q : o ∈ R × (eqb (root_of es o) r ≡ true)
            q = keep_of (ends_at r) R m

            w : (o < T.used) × (root_of T.entries o ≡ o)
            w = roots_of T.entries T.used q.0

            go : (o ≡ r) ⊎ (o ≡ r → ⊥) → o ∈ (r ∷ M)
            go (inl z) = Memᴰ.head z
            go (inr z) =
                let gone : eqb (root_of es o) o ≡ false = ne_eqb (root_of es o) o (λ x. z (sym x ∙ eqb-true (root_of es o) r q.1)) in
                let a : absorbed es us o ≡ true =
                absorbed_is o w.0 ∙ ap₂ (λ (x y : Bool). x && not y) (eq-eqb (root_of T.entries o) o w.1) gone in
                Memᴰ.tail (keep_at P (below T.used) (below_at o T.used w.0) (and_intro (absorbed es us o) (eqb (root_of es o) r) a q.1))

        fro : Holds K (r ∷ M)
        fro o m = go (Memᴰ.cases_cons m)
          where
            go : (o ≡ r) ⊎ o ∈ M → o ∈ K
            go (inl z) =
                keep_at (ends_at r) R (roots_at T.entries T.used o (omega (arith, z)) (subst⁻¹ (λ (x : ℕ). root_of T.entries x ≡ x) z (was_end r l e)))
                (eq-eqb (root_of es o) r (ap (root_of es) z ∙ e))
            go (inr n) =
                let q = keep_of P (below T.used) n in
                let b = below_of T.used q.0 in
                keep_at (ends_at r) R
                (roots_at T.entries T.used o b (absorbed_was o b (and_left (absorbed es us o) (eqb (root_of es o) r) q.1)))
                (and_right (absorbed es us o) (eqb (root_of es o) r) q.1)

    -- ---- so the counts say what starts

    abbrev cs : List ℕ
    cs = join_counts es us T.used

    pub count_old : (r : ℕ) → r < T.used → root_of U.entries r ≡ r
        → row (join_counts U.entries U.unions T.used) (suc r) ≡ joins_of_lem (tally U.entries U.unions T.used r)
    count_old r l e =
        let w = was_end r l e in
        counts_at es us T.used r (omega (arith, turned_room, h.stays.more)) (omega (arith, turned_rows, (h.paired r l w).0, h.stays.more)) (after_empty r l w)

    -- and it is read so
    count_read : (r : ℕ) → r < T.used → root_of es r ≡ r → number_at cs (suc r) ≡ joins_of_lem (tally es us T.used r)
    count_read r l e =
        number_is cs (suc r) (joins_of_lem (tally es us T.used r)) (count_old r l e)
        (few (tally es us T.used r) (omega (arith, tally_le es us T.used r, turned_room, h.stays.more)))

    agree : (c : ℕ) → not (eqb (joins_of_lem c) 0) ≡ not (eqb (suc c) 1)
    agree zero = refl
    agree (suc c) = ap not (ne_eqb (suc (suc c)) 0 (λ z. omega (arith, z))) ∙ sym (ap not (ne_eqb (suc (suc c)) 1 (λ z. omega (arith, z))))

    pub starts_agree : (r : ℕ) → root_of U.entries r ≡ r → starts_at (join_counts U.entries U.unions T.used) T.used r ≡ starts_line U.entries A r
    unfolding starts_line
    starts_agree r e = go (lt_or_le r T.used)
      where
        go : (r < T.used) ⊎ (T.used ≤ r) → starts_at cs T.used r ≡ not (eqb (length (ending_at es A r)) 1)
        go (inl l) =
            starts_old cs T.used r l ∙ ap (λ (x : ℕ). not (eqb x 0)) (count_read r l e) ∙ agree (tally es us T.used r)
            ∙ ap (λ (x : ℕ). not (eqb x 1)) (sym (ending_old r l e))
        go (inr l) = starts_new cs T.used r l ∙ ap (λ (x : ℕ). not (eqb x 1)) (sym (ending_new r l))

    some : (c : ℕ) → not (eqb (suc c) 1) ≡ true → joins_of_lem c ≡ suc c
    some zero t = absurd (never (not (eqb 1 1)) t refl)
    some (suc c) t = refl

    pub joins_agree : (r : ℕ) → root_of U.entries r ≡ r → starts_line U.entries A r ≡ true
        → joins_at (join_counts U.entries U.unions T.used) T.used r ≡ length (ending_at U.entries A r)
    unfolding starts_line
    joins_agree r e t = go (lt_or_le r T.used)
      where
        go : (r < T.used) ⊎ (T.used ≤ r) → joins_at cs T.used r ≡ length (ending_at es A r)
        go (inl l) =
            joins_old cs T.used r l ∙ count_read r l e
            ∙ some (tally es us T.used r) (ap (λ (x : ℕ). not (eqb x 1)) (sym (ending_old r l e)) ∙ t) ∙ sym (ending_old r l e)
        go (inr l) = joins_new cs T.used r l ∙ sym (ending_new r l)

    pub slots_agree : start_slots U.entries (join_counts U.entries U.unions T.used) T.used U.used
        ≡ keep (starts_line U.entries A) (root_slots U.entries U.used)
    unfolding start_slots
    slots_agree = keep_same (starts_at cs T.used) (starts_line es A) (root_slots es U.used) (λ r m. starts_agree r (roots_of es U.used m).1)

    -- the row of an end is no count
    pub count_end : (r : ℕ) → root_of U.entries r ≡ r → row (join_counts U.entries U.unions T.used) r ≡ row U.unions r
    count_end r e =
        counts_other es us T.used r
        (λ j l t z.
        let q = root_of es j in
        let b : q < U.used = omega (arith, root_le es j, h.stays.more) in
        let own : root_of es q ≡ q = root_twice es j in
        omega (arith, (h.still q b own).1, subst (λ (x : ℕ). root_of es x ≡ x) z e))
