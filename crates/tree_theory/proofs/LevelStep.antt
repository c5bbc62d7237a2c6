-- A level of the second pass: where the classes of the level before had their numbers at the slots after their ends, the new lines get theirs, each line goes
-- where the definition says, and each class has the number of its line at the slot after its end. Assumes nothing.
use mathlib.Core.Path.{◌≡◌, refl, sym, ap, ap₂, ◌∙◌, subst, subst⁻¹}
use mathlib.Core.Logic.{◌⊎◌, inl, inr}
use mathlib.Core.Bool.{Bool, true, false, cond, not, ◌&&◌}
use mathlib.Core.List.Memᴰ
use mathlib.Core.List.{List, [], ◌∷◌, ◌++◌, map}
use Prim.Native.Nat.{ℕ, zero, suc, ◌+◌, ◌-◌, ◌≤◌, ◌<◌, ◌^◌}
use native.Mathlib.Omega.{arith}
use lib.Dec.{eqb, leb}
use lib.ListN.{length, get_or, length-append, length-map}
use borrow.Author.Tests.{eq-eqb, ne_eqb, eqb-true, eqb-false, le-leb, lt-leb, not-false}
use Rattle.sets.specs.Lists.{◌∈◌, any, keep, below}
use Rattle.sets.specs.Value.{row, number_at}
use Rattle.sets.proofs.Tests.{never, split, lt_or_le, same_or_not, and_intro, and_left, and_right}
use Rattle.sets.proofs.RowNumbers.{number_is}
use Rattle.sets.proofs.ListLaws.{any_of, any_none, keep_at, elem_at, elem_of, below_at, get_d_member, distinct_index, member_index, member_length}
use Rattle.percolation.specs.Links.{Link}
use Rattle.percolation.specs.Tree.{Start, goes_into}
use Rattle.slots.specs.Tables.{Tables, root_of}
use Rattle.joining.proofs.Follow.{root_le, root_twice}
use Rattle.slots.proofs.Lengths.{room_within}
use Rattle.slots_theory.proofs.Free.{paired_free}
use Rattle.listings.specs.Model.{root_slots}
use Rattle.listings.proofs.Listed.{roots_of, roots_at}
use Rattle.tree_theory.specs.Model.{Rooted, rooted, Begun, ending_at, starts_line, begun_lines, line_number, only_number, rooted_now, starts_now}
use Rattle.tree_levels.specs.LevelModel.{absorbed, join_counts, Numbering, numbers_of, went_into}
use Rattle.tree_theory.proofs.ByRoots.{Grown}
use Rattle.tree_levels.proofs.LevelSteps.{absorbed_end}
use Rattle.tree_theory.proofs.ClassCounts.{Turned, was_end, after_empty, absorbed_was, absorbed_is, absorbed_lower, absorbed_row, ending_old, ending_new}
use Rattle.tree_theory.proofs.ClassCounts.{counts_other, counts_length, counts_rows, counts_bounded, count_end, turned_room, turned_rows}
use Rattle.tree_theory.proofs.UnionsKept.{Bounded}
use Rattle.tree_theory.proofs.LevelKept.{SameEnds}
use Rattle.tree_theory.proofs.BegunSlots.{slots_in, begun_distinct, begun_slot, begun_place, begun_number}
use Rattle.tree_theory.proofs.LevelNumbers.{Starting, Given, given_all, Joined, joined_all}
use Rattle.tree_theory.proofs.LevelJoins.{goes_on, goes_new, goes_none_new}

-- what stands in the fields of the lines before they get their numbers: for the first n as f says, then the slots sl
abbrev pub with_slots : (ℕ → ℕ) → ℕ → List ℕ → ℕ → ℕ
with_slots f n sl i = cond (leb i n) (f i) (get_or sl (i - suc n) 0)

pub slots_olds : (f : ℕ → ℕ) (n : ℕ) (sl : List ℕ) (i : ℕ) → i ≤ n → with_slots f n sl i ≡ f i
slots_olds f n sl i h = ap (λ (b : Bool). cond b (f i) (get_or sl (i - suc n) 0)) (le-leb i n h)

pub slots_news : (f : ℕ → ℕ) (n : ℕ) (sl : List ℕ) (j : ℕ) → with_slots f n sl (suc (n + j)) ≡ get_or sl j 0
slots_news f n sl j =
    ap (λ (b : Bool). cond b (f (suc (n + j))) (get_or sl (suc (n + j) - suc n) 0)) (lt-leb (suc (n + j)) n (omega arith))
    ∙ ap (λ (x : ℕ). get_or sl x 0) (let z : suc (n + j) - suc n ≡ j = omega arith in z)

-- the numbers of the lines S and of those that start behind them, and the tables with them, where b slots were used before
abbrev pub level_numbers : ℕ → ℕ → Tables → List Rooted → List Start → Numbering
level_numbers b w U A S =
    numbers_of b (length S) (length (slots_in (begun_lines w U A))) (with_slots (λ i. goes_into i 1 S) (length S) (slots_in (begun_lines w U A))) U.smallest
    (join_counts U.entries U.unions b)

only_one : (E : List Rooted) (x : Rooted) → x ∈ E → length E ≡ 1 → only_number E ≡ x.number
unfolding only_number
only_one [] x m e = absurd (Memᴰ.not-nil m)
only_one (y ∷ []) x m e = go (Memᴰ.cases_cons m)
  where
    go : (x ≡ y) ⊎ x ∈ [] → y.number ≡ x.number
    go (inl z) = ap (λ (a : Rooted). a.number) (sym z)
    go (inr n) = absurd (Memᴰ.not-nil n)
only_one (y ∷ z ∷ E) x m e = absurd (omega arith)

only_ending : (es : List ℕ) (A : List Rooted) (r : ℕ) → starts_line es A r ≡ false → length (ending_at es A r) ≡ 1
unfolding starts_line
only_ending es A r t = eqb-true (length (ending_at es A r)) 1 (not-false (eqb (length (ending_at es A r)) 1) t)

in_ending : (es : List ℕ) (A : List Rooted) (x : Rooted) (r : ℕ) → x ∈ A → root_of es x.slot ≡ r → x ∈ ending_at es A r
unfolding ending_at
in_ending es A x r m e = keep_at (λ y. eqb (root_of es y.slot) r) A m (eq-eqb (root_of es x.slot) r e)

module _ (L : List Link) (p k w : ℕ) (T U : Tables) (h : Turned T U) (number : ℕ → ℕ) (A : List Rooted)
    (classes : A ≡ map (λ r. rooted r (number r)) (root_slots T.entries T.used))
    (stored : (r : ℕ) → r < T.used → root_of T.entries r ≡ r → row T.smallest (suc r) ≡ number r)
    (S : List Start) (Z W : List ℕ) (old : Grown L p k T A S Z)
    (new : Grown L p k U (rooted_now w (length S) U A) (starts_now w U A S) W)
    (many : length S + length (begun_lines w U A) < 2 ^ 64) where
  abbrev es : List ℕ
  es = U.entries

  abbrev ms : List ℕ
  ms = U.smallest

  abbrev us : List ℕ
  us = U.unions

  abbrev cs : List ℕ
  cs = join_counts U.entries U.unions T.used

  abbrev n : ℕ
  n = length S

  abbrev B : List Begun
  B = begun_lines w U A

  abbrev sl : List ℕ
  sl = slots_in (begun_lines w U A)

  abbrev X : List Start
  X = map (λ b. b.start) (begun_lines w U A)

  abbrev f : ℕ → ℕ
  f i = goes_into i 1 S

  abbrev G : ℕ → ℕ
  G i = goes_into i 1 (starts_now w U A S)

  -- ---- the classes of the level before

  class : (r : ℕ) → r < T.used → root_of T.entries r ≡ r → rooted r (number r) ∈ A
  class r l e = subst⁻¹ (λ (C : List Rooted). rooted r (number r) ∈ C) classes (Memᴰ.map (λ q. rooted q (number q)) (roots_at T.entries T.used r l e))

  class_of : (x : Rooted) → x ∈ A → (x.slot < T.used) × (root_of T.entries x.slot ≡ x.slot) × (x.number ≡ number x.slot)
  class_of x m =
      let q = Memᴰ.of_map (λ r. rooted r (number r)) (root_slots T.entries T.used) (subst (λ (C : List Rooted). x ∈ C) classes m) in
      let r = roots_of T.entries T.used q.1 in
      let e : q.0 ≡ x.slot = ap (λ (y : Rooted). y.slot) q.2 in (
        omega (arith, e, r.0),
        subst (λ (y : ℕ). root_of T.entries y ≡ y) e r.1,
        ap (λ (y : Rooted). y.number) (sym q.2) ∙ ap number e,
      )

  -- the number of its line is still there
  still_there : (r : ℕ) → r < T.used → root_of T.entries r ≡ r → row ms (suc r) ≡ number r
  still_there r l e = h.stays.smallest (suc r) (h.paired r l e).0 (paired_free T h.paired r l e) ∙ stored r l e

  numbers_in : (r : ℕ) → r < T.used → root_of T.entries r ≡ r → (1 ≤ number r) × (number r ≤ n)
  numbers_in r l e = old.within (rooted r (number r)) (class r l e)

  at_slot : (j : ℕ) → j < length sl → (get_or sl j 0 < U.used) × (root_of es (get_or sl j 0) ≡ get_or sl j 0) × (starts_line es A (get_or sl j 0) ≡ true)
  at_slot = begun_slot w U A

  -- ---- the numbers of the new lines

  abbrev into : ℕ → ℕ
  into = with_slots f n sl

  starting : Starting n T.used f G number sl ms cs into
  starting = record {
    apart = distinct_index 0 sl (begun_distinct w U A);
    small = λ j l. omega (arith, (at_slot j l).0, turned_room T U h);
    held = λ j l. let a = at_slot j l in omega (arith, (h.still (get_or sl j 0) a.0 a.1).0, h.fits, room_within es, h.smallest);
    tall = λ j l. let a = at_slot j l in omega (arith, (h.still (get_or sl j 0) a.0 a.1).0, turned_rows T U h, counts_rows es us T.used);
    many = omega (arith, many, length-map B (λ (b : Begun). b.slot));
    ends = λ j l. slots_news f n sl j;
    olds = λ m low high. slots_olds f n sl m high;
    had = λ j l b. still_there (get_or sl j 0) b (was_end T U h (get_or sl j 0) b (at_slot j l).1);
    within = λ j l b. numbers_in (get_or sl j 0) b (was_end T U h (get_or sl j 0) b (at_slot j l).1);
    own = λ j l b.
        let r = get_or sl j 0 in
        let e = (at_slot j l).1 in
        goes_new w U A S L p k W new j l (rooted r (number r)) (class r b (was_end T U h r b e)) e;
  }

  given : Given n T.used f G number sl ms cs (length sl) (level_numbers T.used w U A S)
  given = given_all n T.used f G number sl ms cs into starting (length sl) (omega arith)

  abbrev ms2 : List ℕ
  ms2 = (level_numbers T.used w U A S).smallest

  abbrev us2 : List ℕ
  us2 = (level_numbers T.used w U A S).unions

  abbrev g2 : ℕ → ℕ
  g2 = (level_numbers T.used w U A S).into

  -- ---- the absorbed classes

  -- a class that another went into starts a line
  absorbed_starts : (i : ℕ) → i < T.used → absorbed es us i ≡ true → starts_line es A (root_of es i) ≡ true
  unfolding starts_line
  absorbed_starts i l t =
      let q = root_of es i in
      let b : q < T.used = omega (arith, root_le es i) in
      let own : root_of es q ≡ q = root_twice es i in
      let one = member_length (keep (λ j. absorbed es us j && eqb (root_of es j) q) (below T.used))
      (keep_at (λ j. absorbed es us j && eqb (root_of es j) q) (below T.used) (below_at i T.used l)
      (and_intro (absorbed es us i) (eqb q q) t (eq-eqb q q refl))) in
      let e = ending_old T U h number A classes q b own in
      ap not (ne_eqb (length (ending_at es A q)) 1 (λ z. omega (arith, z, e, one)))

  place_of : (r : ℕ) → r < U.used → root_of es r ≡ r → starts_line es A r ≡ true → (j : ℕ) × (j < length sl) × (get_or sl j 0 ≡ r)
  place_of r l e t = begun_place w U A r (roots_at es U.used r l e) t

  up : (i : ℕ) → i < T.used → i < U.used
  up i l = omega (arith, h.stays.more)

  -- the row of a slot that is no end, after the lines have their numbers
  row_back : (i : ℕ) → i < T.used → (root_of es i ≡ i → ⊥) → row us2 i ≡ row us i
  row_back zero l e = absurd (e (let z : root_of es 0 ≡ 0 = omega (arith, root_le es 0) in z))
  row_back (suc r) l e = go (split (any (eqb r) sl))
    where
      go : (any (eqb r) sl ≡ true) ⊎ (any (eqb r) sl ≡ false) → row us2 (suc r) ≡ row us (suc r)
      go (inl t) =
          let q = member_index r 0 sl (elem_of r sl t) in
          let b : r < T.used = omega arith in
          let own : root_of es r ≡ r = subst (λ (x : ℕ). root_of es x ≡ x) q.2 (at_slot q.0 q.1).1 in
          ap (λ (x : ℕ). row us2 (suc x)) (sym q.2) ∙ given.unions q.0 q.1 ∙ sym (after_empty T U h r b (was_end T U h r b own))
      go (inr t) =
          given.rest (suc r) (λ j a z. other (get_or sl j 0) (let y : r ≡ get_or sl j 0 = omega (arith, z) in y) (get_d_in j a))
          ∙ counts_other es us T.used (suc r)
          (λ j a b z.
          let q = place_of (root_of es j) (omega (arith, root_le es j, h.stays.more)) (root_twice es j) (absorbed_starts j a b) in
          other (root_of es j) (let y : r ≡ root_of es j = omega (arith, z) in y) (subst (λ (x : ℕ). x ∈ sl) q.2 (get_d_in q.0 q.1)))
        where
          get_d_in : (j : ℕ) → j < length sl → get_or sl j 0 ∈ sl
          get_d_in j a = get_d_member sl j 0 a

          other : (x : ℕ) → r ≡ x → x ∈ sl → ⊥
          other x y m = never (any (eqb r) sl) (elem_at sl (subst⁻¹ (λ (z : ℕ). z ∈ sl) y m)) t

  absorbed_back : (i : ℕ) → i < T.used → absorbed es us2 i ≡ absorbed es us i
  absorbed_back i l = go (split (eqb (root_of es i) i))
    where
      go : (eqb (root_of es i) i ≡ true) ⊎ (eqb (root_of es i) i ≡ false) → absorbed es us2 i ≡ absorbed es us i
      go (inl e) = absorbed_end es us2 i e ∙ sym (absorbed_end es us i e)
      go (inr e) = absorbed_row es us2 us i (row_back i l (eqb-false (root_of es i) i e))

  -- the number of an absorbed class
  number_kept : (i : ℕ) → i < T.used → root_of T.entries i ≡ i → (root_of es i ≡ i → ⊥) → row ms2 (suc i) ≡ number i
  number_kept i l e gone =
      given.others (suc i) (λ j a z. gone (subst⁻¹ (λ (x : ℕ). root_of es x ≡ x) (let y : i ≡ get_or sl j 0 = omega (arith, z) in y) (at_slot j a).1))
      ∙ still_there i l e

  module _ (i : ℕ) (l : i < T.used) (t : absorbed es us2 i ≡ true) where
    was_absorbed : absorbed es us i ≡ true
    was_absorbed = sym (absorbed_back i l) ∙ t

    end0 : root_of T.entries i ≡ i
    end0 = absorbed_was T U h i l was_absorbed

    number2 : number_at ms2 (suc i) ≡ number i
    number2 =
        number_is ms2 (suc i) (number i) (number_kept i l end0 (λ e. omega (arith, e, absorbed_lower es us2 i t)))
        (omega (arith, (numbers_in i l end0).1, many))

    went_in : number_at ms2 (suc i) ≤ n
    went_in = omega (arith, number2, (numbers_in i l end0).1)

    went_own : number_at ms2 (suc (root_of es i)) ≡ G (number_at ms2 (suc i))
    went_own =
        let q = root_of es i in
        let b : q < U.used = omega (arith, root_le es i, up i l) in
        let j = place_of q b (root_twice es i) (absorbed_starts i l was_absorbed) in
        ap (λ (x : ℕ). number_at ms2 (suc x)) (sym j.2)
        ∙ number_is ms2 (suc (get_or sl j.0 0)) (suc (n + j.0)) (given.smallest j.0 j.1) (omega (arith, j.1, many, length-map B (λ (b : Begun). b.slot)))
        ∙ sym (ap G number2 ∙ goes_new w U A S L p k W new j.0 j.1 (rooted i (number i)) (class i l end0) (sym j.2))

  joined : Joined n f G es ms2 us2 g2 T.used
  joined = joined_all n f G es ms2 us2 g2 given.sound T.used went_in went_own

  -- ---- each line goes where the definition says

  abbrev g3 : ℕ → ℕ
  g3 = went_into es ms2 us2 g2 T.used

  goes_old : (m : ℕ) → 1 ≤ m → m ≤ n → g3 m ≡ G m
  goes_old m low high = go (split (any test A))
    where
      test : Rooted → Bool
      test x = eqb x.number m && starts_line es A (root_of es x.slot)

      go : (any test A ≡ true) ⊎ (any test A ≡ false) → g3 m ≡ G m
      go (inl t) = found (any_of test A t)
        where
          found : (x : Rooted) × x ∈ A × (test x ≡ true) → g3 m ≡ G m
          found (x, i, t) = at (same_or_not (root_of es o) o)
            where
              o : ℕ
              o = x.slot

              c : (o < T.used) × (root_of T.entries o ≡ o) × (x.number ≡ number o)
              c = class_of x i

              is : number o ≡ m
              is = sym c.2 ∙ eqb-true x.number m (and_left (eqb x.number m) (starts_line es A (root_of es o)) t)

              begins : starts_line es A (root_of es o) ≡ true
              begins = and_right (eqb x.number m) (starts_line es A (root_of es o)) t

              at : (root_of es o ≡ o) ⊎ (root_of es o ≡ o → ⊥) → g3 m ≡ G m
              at (inl e) =
                  let j = place_of o (up o c.0) e (subst (λ (y : ℕ). starts_line es A y ≡ true) e begins) in
                  let z : number (get_or sl j.0 0) ≡ m = ap number j.2 ∙ is in
                  joined.kept m (subst (λ (y : ℕ). g2 y ≡ G y) z (given.done j.0 j.1 (omega (arith, j.2, c.0))))
              at (inr e) =
                  let gone : eqb (root_of es o) o ≡ false = ne_eqb (root_of es o) o e in
                  let a : absorbed es us2 o ≡ true =
                  absorbed_back o c.0 ∙ absorbed_is T U h o c.0 ∙ ap₂ (λ (a b : Bool). a && not b) (eq-eqb (root_of T.entries o) o c.1) gone in
                  subst (λ (y : ℕ). g3 y ≡ G y) (number2 o c.0 a ∙ is) (joined.done o c.0 a)
      go (inr t) = keep_it (joined.sound m low high)
        where
          same : G m ≡ f m
          same =
              goes_on w U A S m
              (λ x i e s. never (test x) (and_intro (eqb x.number m) (starts_line es A (root_of es x.slot)) (eq-eqb x.number m e) s) (any_none test A t i))

          keep_it : (g3 m ≡ f m) ⊎ (g3 m ≡ G m) → g3 m ≡ G m
          keep_it (inl e) = e ∙ sym same
          keep_it (inr e) = e

  -- each line goes where the definition says
  pub step_into : (m : ℕ) → 1 ≤ m → m ≤ length (starts_now w U A S)
      → went_into U.entries (level_numbers T.used w U A S).smallest (level_numbers T.used w U A S).unions (level_numbers T.used w U A S).into T.used m
      ≡ goes_into m 1 (starts_now w U A S)
  step_into m low high = go (lt_or_le n m)
    where
      long : length (S ++ X) ≡ n + length sl
      long = length-append S X ∙ ap (λ (x : ℕ). n + x) (length-map B (λ (b : Begun). b.start) ∙ sym (length-map B (λ (b : Begun). b.slot)))

      go : (n < m) ⊎ (m ≤ n) → g3 m ≡ G m
      go (inl b) =
          let j = m - suc n in
          let z : suc (n + j) ≡ m = omega arith in
          joined.past m b ∙ ap g2 (sym z) ∙ given.none j (omega (arith, long)) ∙ sym (goes_none_new w U A S L p k W new T Z old m b)
      go (inr b) = goes_old m low b

  -- ---- what stands in the tables then

  no_slot : (x : ℕ) → (root_of es x ≡ x) ⊎ (U.used ≤ x) → (j : ℕ) → j < length sl → x ≡ suc (get_or sl j 0) → ⊥
  no_slot x h' j l z = at h'
    where
      a : (get_or sl j 0 < U.used) × (root_of es (get_or sl j 0) ≡ get_or sl j 0) × (starts_line es A (get_or sl j 0) ≡ true)
      a = at_slot j l

      q : (suc (get_or sl j 0) < U.used) × (root_of es (suc (get_or sl j 0)) ≡ get_or sl j 0)
      q = h.still (get_or sl j 0) a.0 a.1

      at : (root_of es x ≡ x) ⊎ (U.used ≤ x) → ⊥
      at (inl e) = omega (arith, q.1, subst (λ (y : ℕ). root_of es y ≡ y) z e)
      at (inr e) = omega (arith, z, q.0)

  no_count : (x : ℕ) → U.used ≤ x → row cs x ≡ row us x
  no_count x l =
      counts_other es us T.used x
      (λ j a t z. omega (arith, z, (h.still (root_of es j) (omega (arith, root_le es j, h.stays.more)) (root_twice es j)).0))

  pub step_ends : Bounded U.unions → SameEnds U
      (level_numbers T.used w U A S).smallest
      (level_numbers T.used w U A S).unions
  step_ends b = record {
    long = given.long;
    tall = given.tall ∙ counts_length es us T.used;
    ends = λ i l e. (given.others i (no_slot i (inl e)), given.rest i (no_slot i (inl e)) ∙ count_end T U h number A classes i e);
    unused = λ i l. (given.others i (no_slot i (inr l)), given.rest i (no_slot i (inr l)) ∙ no_count i l);
    bounded = given.bounded (counts_bounded es us T.used b);
  }

  pub step_stored : (r : ℕ) → r < U.used → root_of U.entries r ≡ r
      → row (level_numbers T.used w U A S).smallest (suc r)
      ≡ cond (starts_line U.entries A r) (line_number r (length S) (begun_lines w U A)) (only_number (ending_at U.entries A r))
  step_stored r l e = go (split (starts_line es A r))
    where
      go : (starts_line es A r ≡ true) ⊎ (starts_line es A r ≡ false)
          → row ms2 (suc r) ≡ cond (starts_line es A r) (line_number r n B) (only_number (ending_at es A r))
      go (inl t) =
          let j = place_of r l e t in
          ap (λ (x : ℕ). row ms2 (suc x)) (sym j.2) ∙ given.smallest j.0 j.1
          ∙ sym (ap (λ (x : Bool). cond x (line_number r n B) (only_number (ending_at es A r))) t ∙ ap (λ (x : ℕ). line_number x n B) (sym j.2)
          ∙ begun_number w U A n j.0 j.1)
      go (inr t) =
          given.others (suc r) (λ j a z. never (starts_line es A r)
          (subst⁻¹ (λ (x : ℕ). starts_line es A x ≡ true) (let y : r ≡ get_or sl j 0 = omega (arith, z) in y) (at_slot j a).2) t)
          ∙ still_there r going.0 going.1
          ∙ sym (ap (λ (x : Bool). cond x (line_number r n B) (only_number (ending_at es A r))) t
          ∙ only_one (ending_at es A r) (rooted r (number r)) (ends_here going.0 going.1) (one_only r t))
        where
          one_only : (r : ℕ) → starts_line es A r ≡ false → length (ending_at es A r) ≡ 1
          one_only = only_ending es A

          going : (r < T.used) × (root_of T.entries r ≡ r)
          going = at (lt_or_le r T.used)
            where
              at : (r < T.used) ⊎ (T.used ≤ r) → (r < T.used) × (root_of T.entries r ≡ r)
              at (inl a) = (a, was_end T U h r a e)
              at (inr a) = absurd (omega (arith, one_only r t, ending_new T U h number A classes r a))

          ends_here : r < T.used → root_of T.entries r ≡ r → rooted r (number r) ∈ ending_at es A r
          ends_here a b = in_ending es A (rooted r (number r)) r (class r a b) e
