-- What the number of an insert says where state, tables and journal hold the links that remain, and that they hold those with one more after it. Assumes nothing.
use mathlib.Core.Path.{◌≡◌, refl, sym, ap, ap₂, ◌∙◌, subst⁻¹}
use mathlib.Core.Logic.{◌⊎◌, inl, inr}
use mathlib.Core.Bool.{Bool, true, false, cond, not}
use mathlib.Core.List.Memᴰ
use mathlib.Core.List.{List, [], ◌∷◌, ◌++◌}
use Prim.Native.Nat.{ℕ, zero, suc, ◌+◌, ◌-◌, ◌≤◌, ◌<◌, min}
use native.Mathlib.Omega.{arith}
use lib.Dec.{eqb, leb, ltb}
use lib.ListN.{length, get_or, set, length-append}
use borrow.Author.Tests.{leb-true, le-leb, eq-eqb}
use Rattle.answers.specs.Verdict.{Verdict, accepted, refused, ◌then◌, unless}
use Rattle.answers.specs.Answers.{counts, refuses, says}
use Rattle.answers.proofs.Laws.{then_go, then_stop, say_accepted, say_refused, accepted_not}
use Rattle.sets.specs.Lists.{◌∈◌, below}
use Rattle.sets.specs.Sets.{has}
use Rattle.sets.specs.Value.{width, row}
use Rattle.sets.proofs.Tests.{iff, and_intro}
use Rattle.sets.proofs.ListLaws.{all_at, below_of}
use Rattle.percolation.specs.Links.{Link, cliques, slots}
use Rattle.percolation.specs.Ranges.{good_count, good_k}
use Rattle.percolation.specs.Steps.{good_parts, check_link, enough, check_insert}
use Rattle.percolation.proofs.Ranges.{good_count_lem, good_k_lem}
use Rattle.percolation.proofs.Accepted.{good_parts_lem, legal_more, check_parts_lem, check_new, legal_most, refused_keeps, accepted_adds, insert_checks, insert_fits}
use Rattle.checks.specs.Neighbours.{last_weight}
use Rattle.checks.specs.Model.{link_number, marked}
use Rattle.checks.proofs.Near.{near_more, last_more}
use Rattle.checks.proofs.Numbers.{numbered, numbered_0, numbered_not, link_says}
use Rattle.slots.specs.Tables.{Tables, room}
use Rattle.slots_theory.specs.Shows.{Shows}
use Rattle.slots.proofs.Lengths.{enough_room, room_enough}
use Rattle.slots_theory.proofs.Shown.{used_slots}
use Rattle.search.specs.Model.{added_by, new_cliques}
use Rattle.clique_taking.specs.Model.{took_all}
use Rattle.search.proofs.SlotTally.{slots_more}
use Rattle.clique_taking.proofs.Inserted.{insert_shown}
use Rattle.clique_taking.proofs.AllTaken.{all_kept}
use Rattle.runs.specs.Lent.{level}
use Rattle.journal.specs.Journal.{journal_length, whole, journal_entry}
use Rattle.journal.proofs.Entries.{journal_length_lem, journal_more}
use Rattle.states.specs.declared.State.{State}
use Rattle.states.specs.States.{good_state}
use Rattle.states.specs.Model.{first_of, state_number, link_step, journal_number, insert_number, back_number}
use Rattle.states.proofs.Checking.{first_go, first_stop, journal_0}
use Rattle.sequential.specs.declared.Stepped.{Stepped}
use Rattle.sequential.specs.Steps.{state, check_state, check_journal, check_take_back, Holds, InsertMeets}
use Rattle.sequential.specs.Model.{inserted_tables, inserted_state, inserted_journal}

-- ---- numbers

numbered_first : (n m a : ℕ) → numbered (first_of n m) a ≡ (numbered n a then numbered m a)
unfolding first_of numbered ◌then◌
numbered_first zero m a = refl
numbered_first (suc n) m a = refl

pub numbered_refused : (n a m b : ℕ) → numbered n a ≡ refused m b → (n ≡ m) × ((n ≡ 0 → ⊥) × (a ≡ b))
unfolding numbered
numbered_refused zero a m b e = accepted_not m b (sym e)
numbered_refused (suc n) a m b e = (cc, ((λ z. omega arith), cc))

by_test : (b : Bool) (n : ℕ) → unless b (suc n) 0 ≡ numbered (cond b 0 (suc n)) 0
unfolding unless numbered
by_test true n = refl
by_test false n = refl

by_two : (a b : Bool) → (unless a 11 0 then unless b 12 0) ≡ numbered (cond a (cond b 0 12) 11) 0
unfolding unless numbered ◌then◌
by_two true true = refl
by_two true false = refl
by_two false b = refl

pub state_says : (S : State) (T : Tables) → check_state S T ≡ numbered (state_number S T) 0
unfolding check_state state_number
state_says S T = by_two (level T) (good_state S T.entries)

pub journal_says : (S : State) (T : Tables) (J : List ℕ) → check_journal S T J ≡ numbered (journal_number S T J) 0
unfolding check_journal journal_number
journal_says S T J = ap₂ (λ (v w : Verdict). v then w) (state_says S T) (by_test (whole J) 19) ∙ sym (numbered_first (state_number S T) (cond (whole J) 0 20) 0)

pub back_says : (S : State) (T : Tables) (J : List ℕ) → check_take_back S T J ≡ numbered (back_number S T J) 0
unfolding check_take_back back_number
back_says S T J =
    let some = not (eqb S.links 0) in
    ap₂ (λ (v w : Verdict). v then w) (journal_says S T J) (by_test some 18) ∙ sym (numbered_first (journal_number S T J) (cond some 0 19) 0)

numbered_passed : (n a : ℕ) → numbered n a ≡ accepted → n ≡ 0
unfolding numbered
numbered_passed zero a e = refl
numbered_passed (suc n) a e = accepted_not (suc n) a e

-- the numbers that a link can get
abbrev link_numbers : List ℕ
link_numbers = 6 ∷ 7 ∷ 8 ∷ 9 ∷ 15 ∷ []

step_range : (S : State) (es : List ℕ) (l : Link) → (link_step S es l ≡ 0 → ⊥) → link_step S es l ∈ link_numbers
unfolding link_step link_number first_of
step_range S es l = go (good_parts S.p l) (eqb l.weight 0) (ltb S.last l.weight) (has l.high (row S.rows l.low)) (leb (added_by S.rows S.k l.low l.high) (room es - S.used))
  where
    go : (a b c d e : Bool) → (first_of (cond a (cond b 7 (cond c 8 (cond d 9 0))) 6) (cond e 0 15) ≡ 0 → ⊥)
        → first_of (cond a (cond b 7 (cond c 8 (cond d 9 0))) 6) (cond e 0 15) ∈ link_numbers
    go false b c d e h = Memᴰ.head refl
    go true true c d e h = Memᴰ.tail (Memᴰ.head refl)
    go true false true d e h = Memᴰ.tail (Memᴰ.tail (Memᴰ.head refl))
    go true false false true e h = Memᴰ.tail (Memᴰ.tail (Memᴰ.tail (Memᴰ.head refl)))
    go true false false false true h = absurd (h refl)
    go true false false false false h = Memᴰ.tail (Memᴰ.tail (Memᴰ.tail (Memᴰ.tail (Memᴰ.head refl))))

-- ---- state, tables and journal that hold links pass 11, 12 and 20, so these do not occur in a list of steps

module _ (p k n : ℕ) (L : List Link) (S : State) (T : Tables) (J : List ℕ) (h : Holds p k n L S T J) where
  pub held_level : level T ≡ true
  unfolding level
  held_level =
      let v = h.shows.level in and_intro _ _ v.sets (and_intro _ _ v.smallest v.unions)

  held_good : good_state S T.entries ≡ true
  unfolding good_state
  held_good =
      and_intro _ _ (ap good_k h.same_k ∙ h.size)
      (and_intro _ _ (ap good_count h.same_p ∙ h.count)
      (and_intro _ _ (le-leb S.used (room T.entries) (omega (arith, h.same_used, h.shows.fits)))
      (all_at (λ i. leb (get_or T.entries i 0) i) (below S.used)
      (λ i m. le-leb (get_or T.entries i 0) i (h.shows.down i (omega (arith, h.same_used, below_of S.used m)))))))

  pub held_number : state_number S T ≡ 0
  unfolding state_number
  held_number = rw (held_level, held_good) refl

  pub held_passes : check_state S T ≡ accepted
  held_passes = state_says S T ∙ numbered_0 (state_number S T) 0 held_number

  pub held_wide : p ≤ width
  held_wide = (good_count_lem p h.count).1

  pub held_few : length L ≤ journal_length
  held_few = legal_most p L held_wide h.links

  held_whole : whole J ≡ true
  held_whole = eq-eqb (length J) journal_length (ap length h.journal ∙ journal_length_lem L held_few)

  pub held_journal : journal_number S T J ≡ 0
  held_journal = sym (journal_0 S T J held_number held_whole)

  pub held_all : check_journal S T J ≡ accepted
  held_all = journal_says S T J ∙ numbered_0 (journal_number S T J) 0 held_journal

  pub two : 2 ≤ k
  two = (good_k_lem k h.size).0

  pub used_is : T.used ≡ slots p k (cliques L p k)
  used_is = used_slots p k (cliques L p k) T h.shows

  -- ---- 6 to 9 and 15

  module _ (l : Link) (narrow : l.weight < 65536) where
    abbrev R : List ℕ
    R = S.rows

    abbrev more : ℕ
    more = added_by R S.k l.low l.high

    abbrev number : ℕ
    number = link_number S.p R S.last l

    number_is : number ≡ link_number p R (last_weight L) l
    number_is = ap₂ (λ (q w : ℕ). link_number q R w l) h.same_p h.last

    link_number_lem : check_link p L l 0 ≡ numbered number 0
    link_number_lem = link_says p L R l 0 held_wide h.near narrow ∙ ap (λ (m : ℕ). numbered m 0) (sym number_is)

    -- the slots with the link, where it passes 6 to 9
    module _ (ok : check_link p L l 0 ≡ accepted) where
      rising : l.low < l.high
      rising = (good_parts_lem p l (check_parts_lem p L l 0 ok)).0

      fits : l.high < p
      fits = (good_parts_lem p l (check_parts_lem p L l 0 ok)).1

      slots_with : slots p k (cliques (L ++ (l ∷ [])) p k) ≡ T.used + more
      slots_with =
          slots_more p L R h.links held_wide h.near l k two (check_new p L l 0 ok) rising fits
          ∙ ap₂ (λ (u j : ℕ). u + added_by R j l.low l.high) (sym used_is) (sym h.same_k)

      enough_is : enough n (slots p k (cliques (L ++ (l ∷ [])) p k)) ≡ leb more (room T.entries - S.used)
      enough_is =
          ap (λ (m : ℕ). enough m (slots p k (cliques (L ++ (l ∷ [])) p k))) (sym h.slots)
          ∙ iff _ _ (λ e. le-leb more _ (omega (arith, room_enough T.entries _ e, slots_with, h.same_used, h.shows.fits)))
          (λ e. enough_room T.entries _ (omega (arith, leb-true more _ e, slots_with, h.same_used, h.shows.fits)))

    pub step_says_lem : check_insert p k n L l ≡ numbered (link_step S T.entries l) 0
    unfolding check_insert link_step
    step_says_lem = go (check_link p L l 0) refl ∙ sym (numbered_first number fifteen 0)
      where
        c : ℕ
        c = slots p k (cliques (L ++ (l ∷ [])) p k)

        fifteen : ℕ
        fifteen = cond (leb more (room T.entries - S.used)) 0 15

        go : (v : Verdict) → check_link p L l 0 ≡ v → (check_link p L l 0 then unless (enough n c) 15 0) ≡ (numbered number 0 then numbered fifteen 0)
        go accepted e =
            then_go (check_link p L l 0) _ e ∙ ap (λ (b : Bool). unless b 15 0) (enough_is e) ∙ by_test (leb more (room T.entries - S.used)) 14
            ∙ sym (then_go (numbered number 0) _ (sym link_number_lem ∙ e))
        go (refused m a) e = then_stop (check_link p L l 0) _ m a e ∙ sym (then_stop (numbered number 0) _ m a (sym link_number_lem ∙ e))

    -- ---- the link is accepted

    module _ (ok : check_insert p k n L l ≡ accepted) where
      abbrev passed : check_link p L l 0 ≡ accepted
      passed = insert_checks p k n L l ok

      within : slots p k (cliques (L ++ (l ∷ [])) p k) ≤ room T.entries
      within = room_enough T.entries _ (ap (λ (m : ℕ). enough m (slots p k (cliques (L ++ (l ∷ [])) p k))) h.slots ∙ insert_fits p k n L l ok)

      few_more : suc (length L) ≤ journal_length
      few_more = omega (arith, legal_most p (L ++ (l ∷ [])) held_wide (legal_more p L l 0 h.links passed), length-append L (l ∷ []))

      narrow_more : (m : Link) → m ∈ (L ++ (l ∷ [])) → m.weight < 65536
      narrow_more m i = by (Memᴰ.append_cases L i)
        where
          last : m ∈ (l ∷ []) → m.weight < 65536
          last i = subst⁻¹ (λ (x : Link). x.weight < 65536) (Memᴰ.eq_of_singleton i) narrow

          by : m ∈ L ⊎ m ∈ (l ∷ []) → m.weight < 65536
          by (inl j) = h.narrow m j
          by (inr j) = last j

      pub held_more : Holds p k n (L ++ (l ∷ [])) (inserted_state S T l) (inserted_tables S T l) (inserted_journal S J l)
      unfolding inserted_state inserted_tables inserted_journal
      held_more = record {
        count = h.count;
        size = h.size;
        same_p = h.same_p;
        same_k = h.same_k;
        same_used = refl;
        last = sym (last_more L l);
        near = near_more L R l h.near (omega (arith, held_wide, rising passed, fits passed)) (omega (arith, held_wide, fits passed));
        links = legal_more p L l 0 h.links passed;
        slots = (all_kept T (new_cliques R S.k l.low l.high)).entries ∙ h.slots;
        shows =
            subst⁻¹ (λ (j : ℕ). Shows p k (cliques (L ++ (l ∷ [])) p k) (took_all T (new_cliques R j l.low l.high))) h.same_k
            (insert_shown p L R h.links held_wide h.near l k two (check_new p L l 0 passed) (rising passed) (fits passed) T h.shows within);
        many = omega (arith, h.many, few_more, length-append L (l ∷ []));
        narrow = narrow_more;
        journal = ap₂ (λ (A : List ℕ) (i : ℕ). set A i (journal_entry l)) h.journal h.many ∙ journal_more L l few_more;
      }

-- ---- what an insert must do is what the code does: a refused one, and an accepted one

pub moved : (p k n : ℕ) (L : List Link) (S : State) (T : Tables) (J : List ℕ) (r : Stepped) (U : Tables) (K : List ℕ) → r.state ≡ S → U ≡ T → K ≡ J
    → Holds p k n L S T J → Holds p k n L r.state U K
moved p k n L S T J r U K s t j h =
    subst⁻¹ (λ (X : State). Holds p k n L X U K) s (subst⁻¹ (λ (X : Tables). Holds p k n L S X K) t (subst⁻¹ (Holds p k n L S T) j h))

refuses_number : (n a m b : ℕ) → refuses n a ≡ refuses m b → n ≡ m
refuses_number n a m b f = cc

pub count_not_refused : (c n b : ℕ) → counts c ≡ refuses n b → ◌≡◌ {A = ℕ} 0 1
count_not_refused c n b f = cc

module _ (S : State) (T : Tables) (J : List ℕ) (l : Link) (narrow : l.weight < 65536) (r : Stepped) (U : Tables) (K : List ℕ) where
  number_held : (p k n : ℕ) (L : List Link) → Holds p k n L S T J → check_insert p k n L l ≡ numbered (insert_number S T J l) 0
  unfolding insert_number
  number_held p k n L h =
      step_says_lem p k n L S T J h l narrow ∙ ap (λ (m : ℕ). numbered m 0) (sym (first_go (journal_number S T J) (link_step S T.entries l) (held_journal p k n L S T J h)))

  number_state : (m a : ℕ) → check_journal S T J ≡ refused m a → (insert_number S T J l ≡ m) × ((insert_number S T J l ≡ 0 → ⊥) × (0 ≡ a))
  unfolding insert_number
  number_state m a e =
      let f = numbered_refused (journal_number S T J) 0 m a (sym (journal_says S T J) ∙ e) in
      let g = first_stop (journal_number S T J) (link_step S T.entries l) f.1.0 in (g ∙ f.0, ((λ z. f.1.0 (sym g ∙ z)), f.1.1))

  number_others : check_journal S T J ≡ accepted → (insert_number S T J l ≡ 0 → ⊥) → insert_number S T J l ∈ link_numbers
  unfolding insert_number
  number_others c bad =
      let g = first_go (journal_number S T J) (link_step S T.entries l) (numbered_passed (journal_number S T J) 0 (sym (journal_says S T J) ∙ c)) in
      subst⁻¹ (λ (x : ℕ). x ∈ link_numbers) g (step_range S T.entries l (λ z. bad (g ∙ z)))

  pub refused_meets : (m : ℕ) → m ≡ insert_number S T J l → (m ≡ 0 → ⊥) → says r.answer ≡ refuses m 0 → r.state ≡ S → U ≡ T → K ≡ J
      → InsertMeets S T J l r U K
  refused_meets m e bad a s t j = record {
    checked = λ n b c. let f = number_state n b c in a ∙ ap₂ refuses (e ∙ f.0) f.1.1;
    others = λ c n b f. let same : n ≡ insert_number S T J l = refuses_number n b m 0 (sym f ∙ a) ∙ e in
        subst⁻¹ (λ (x : ℕ). x ∈ link_numbers) same (number_others c (λ z. bad (e ∙ z)));
    answer = λ p k n L h. a ∙ sym (say_refused (check_insert p k n L l) 0 m 0 (stopped p k n L h));
    holds = λ p k n L h.
        subst⁻¹ (λ (M : List Link). Holds p k n M r.state U K) (refused_keeps p k n L l m 0 (stopped p k n L h)) (moved p k n L S T J r U K s t j h);
    kept = λ n b c. (s, t, j);
  }
    where
      stopped : (p k n : ℕ) (L : List Link) → Holds p k n L S T J → check_insert p k n L l ≡ refused m 0
      stopped p k n L h = number_held p k n L h ∙ ap (λ (x : ℕ). numbered x 0) (sym e) ∙ numbered_not m 0 bad

  pub accepted_meets : insert_number S T J l ≡ 0 → says r.answer ≡ counts 0 → r.state ≡ inserted_state S T l → U ≡ inserted_tables S T l
      → K ≡ inserted_journal S J l → InsertMeets S T J l r U K
  accepted_meets e a s t j = record {
    checked = λ n b c. absurd ((number_state n b c).1.0 e);
    others = λ c n b f. let z : ◌≡◌ {A = ℕ} 0 1 = count_not_refused 0 n b (sym a ∙ f) in absurd (omega arith);
    answer = λ p k n L h. a ∙ sym (say_accepted (check_insert p k n L l) 0 (gone p k n L h));
    holds = λ p k n L h.
        subst⁻¹ (λ (M : List Link). Holds p k n M r.state U K) (accepted_adds p k n L l (gone p k n L h))
        (moved p k n (L ++ (l ∷ [])) (inserted_state S T l) (inserted_tables S T l) (inserted_journal S J l) r U K s t j (held_more p k n L S T J h l narrow (gone p k n L h)));
    kept = λ n b c. let z : ◌≡◌ {A = ℕ} 0 1 = count_not_refused 0 n b (sym a ∙ c) in absurd (omega arith);
  }
    where
      gone : (p k n : ℕ) (L : List Link) → Holds p k n L S T J → check_insert p k n L l ≡ accepted
      gone p k n L h = number_held p k n L h ∙ numbered_0 (insert_number S T J l) 0 e

-- the same from what the code gives: rows, tables and journal apart
pub taken_meets : (S : State) (T : Tables) (J : List ℕ) (l : Link) → l.weight < 65536 → insert_number S T J l ≡ 0 → (r : Stepped) (U : Tables) (K R : List ℕ)
    (n w : ℕ) {V : Tables} → U ≡ V → V ≡ took_all T (new_cliques S.rows S.k l.low l.high) → R ≡ marked S.rows l.low l.high → n ≡ min (suc S.links) journal_length
    → K ≡ set J S.links (journal_entry l) → w ≡ l.weight → says r.answer ≡ counts 0 → r.state ≡ state S.p S.k U.used w n R
    → InsertMeets S T J l r U K
unfolding inserted_state inserted_tables inserted_journal
taken_meets S T J l narrow z r U K R n w at t m i j v a s =
    let same = at ∙ t in
    accepted_meets S T J l narrow r U K z a (s ∙ (λ x. state S.p S.k (same x).used (v x) (i x) (m x))) same j
