-- What a link that passes 6 to 9 satisfies, legal lists of links and how long they are, and the accepted links of a list of inserts. Assumes nothing.
use mathlib.Core.Path.{◌≡◌, refl, sym, ap, ap₂, ◌∙◌, fun_ext, subst}
use mathlib.Core.Logic.{◌⊎◌, inl, inr}
use mathlib.Core.Bool.{Bool, true, false, cond, not, ◌&&◌, ◌||◌, and_comm}
use mathlib.Core.List.Memᴰ
use mathlib.Core.List.{List, [], ◌∷◌, ◌++◌, map}
use Prim.Native.Nat.{ℕ, zero, suc, ◌+◌, ◌*◌, ◌-◌, ◌≤◌, ◌<◌}
use native.Mathlib.Omega.{arith}
use native.Mathlib.Nat.{suc-mul, mul-suc, mul-le-mul}
use lib.Dec.{eqb, leb, ltb, leb-zero}
use lib.ListN.{length, length-map}
use borrow.Author.Tests.{ltb-true, ltb-false, lt-ltb, le-ltb, leb-true, le-leb, eqb-true, eqb-false, eq-eqb, ne_eqb, not-true}
use Rattle.answers.specs.Verdict.{Verdict, accepted, refused, ◌then◌, unless, in_order, passes}
use Rattle.answers.proofs.Laws.{last_go, then_left, then_right, then_both, unless_passed}
use Rattle.sets.specs.Lists.{◌∈◌, any, all, each_two, below}
use Rattle.sets.specs.Sets.{size, members, sets_of}
use Rattle.sets.proofs.Tests.{never, iff, and_intro, and_left, and_right, or_left, false_not, lt_or_le}
use Rattle.sets.proofs.ListLaws.{Holds, Distinct, distinct_le, below_at, below_length, no_member, all_of, all_not, all_more, keep_of, each_two_more, each_two_later, each_two_some}
use Rattle.sets.proofs.Members.{members_length, sets_of_lem}
use Rattle.percolation.specs.Links.{Link, joins, linked, clique, cliques, slot_sets, slots}
use Rattle.percolation.proofs.SlotCount.{Slot, slot_of, slot_at, slots_distinct}
use Rattle.percolation.proofs.Families.{linked_mono, cliques_mono}
use Rattle.percolation.specs.Steps.{good_parts, rises, check_link, legal, enough, check_insert, accept, Step, insert, back, front, check_step, after_step, remaining_links, step_answers}

-- ---- 6 to 9

pub good_parts_lem : (p : ℕ) (l : Link) → good_parts p l ≡ true → (l.low < l.high) × (l.high < p)
unfolding good_parts
good_parts_lem p l t =
    let r = and_right (ltb l.low p) (ltb l.high p && ltb l.low l.high) t in (
      ltb-true l.low l.high (and_right (ltb l.high p) (ltb l.low l.high) r),
      ltb-true l.high p (and_left (ltb l.high p) (ltb l.low l.high) r),
    )

pub parts_good : (p : ℕ) (l : Link) → l.low < l.high → l.high < p → good_parts p l ≡ true
unfolding good_parts
parts_good p l h g =
    and_intro (ltb l.low p) (ltb l.high p && ltb l.low l.high) (lt-ltb l.low p (omega arith))
    (and_intro (ltb l.high p) (ltb l.low l.high) (lt-ltb l.high p g) (lt-ltb l.low l.high h))

module _ (p : ℕ) (L : List Link) (l : Link) (a : ℕ) where
  -- the checks from 9, from 8 and from 7 on
  abbrev from9 : Verdict
  from9 = unless (not (linked L l.low l.high)) 9 a

  abbrev from8 : Verdict
  from8 = unless (not (rises L l)) 8 a then from9

  abbrev from7 : Verdict
  from7 = unless (not (eqb l.weight 0)) 7 a then from8

  pub check_parts_lem : check_link p L l a ≡ accepted → good_parts p l ≡ true
  unfolding check_link
  check_parts_lem e = unless_passed (good_parts p l) 6 a (then_left (unless (good_parts p l) 6 a) from7 e)

  past6 : check_link p L l a ≡ accepted → from7 ≡ accepted
  unfolding check_link
  past6 e = then_right (unless (good_parts p l) 6 a) from7 e

  past7 : check_link p L l a ≡ accepted → from8 ≡ accepted
  past7 e = then_right (unless (not (eqb l.weight 0)) 7 a) from8 (past6 e)

  pub check_weight : check_link p L l a ≡ accepted → 1 ≤ l.weight
  check_weight e =
      let t = unless_passed (not (eqb l.weight 0)) 7 a (then_left (unless (not (eqb l.weight 0)) 7 a) from8 (past6 e)) in
      let ne = eqb-false l.weight 0 (not-true (eqb l.weight 0) t) in
      omega arith

  pub check_fall : check_link p L l a ≡ accepted → rises L l ≡ false
  check_fall e = not-true (rises L l) (unless_passed (not (rises L l)) 8 a (then_left (unless (not (rises L l)) 8 a) from9 (past7 e)))

  pub check_new : check_link p L l a ≡ accepted → linked L l.low l.high ≡ false
  check_new e =
      not-true (linked L l.low l.high) (unless_passed (not (linked L l.low l.high)) 9 a (then_right (unless (not (rises L l)) 8 a) from9 (past7 e)))

  pub check_passes : good_parts p l ≡ true → 1 ≤ l.weight → rises L l ≡ false → linked L l.low l.high ≡ false → check_link p L l a ≡ accepted
  unfolding check_link
  check_passes g w r n =
      let v6 = last_go (good_parts p l) 6 a g in
      let v7 = last_go (not (eqb l.weight 0)) 7 a (false_not (eqb l.weight 0) (ne_eqb l.weight 0 (λ e. omega arith))) in
      let v8 = last_go (not (rises L l)) 8 a (false_not (rises L l) r) in
      let v9 = last_go (not (linked L l.low l.high)) 9 a (false_not (linked L l.low l.high) n) in
      then_both (unless (good_parts p l) 6 a) from7 v6
      (then_both (unless (not (eqb l.weight 0)) 7 a) from8 v7 (then_both (unless (not (rises L l)) 8 a) from9 v8 v9))

-- ---- legal lists of links: the three tests of the definition

abbrev fits : ℕ → Link → Bool
fits p l = good_parts p l && leb 1 l.weight

abbrev pub falls : Link → Link → Bool
falls l m = leb m.weight l.weight

abbrev apart : Link → Link → Bool
apart l m = not (joins l.low l.high m)

legal_fits : (p : ℕ) (L : List Link) → legal p L ≡ true → all (fits p) L ≡ true
unfolding legal
legal_fits p L t = and_left (all (fits p) L) (each_two falls L && each_two apart L) t

pub legal_falls : (p : ℕ) (L : List Link) → legal p L ≡ true → each_two falls L ≡ true
unfolding legal
legal_falls p L t = and_left (each_two falls L) (each_two apart L) (and_right (all (fits p) L) (each_two falls L && each_two apart L) t)

pub legal_apart : (p : ℕ) (L : List Link) → legal p L ≡ true → each_two apart L ≡ true
unfolding legal
legal_apart p L t = and_right (each_two falls L) (each_two apart L) (and_right (all (fits p) L) (each_two falls L && each_two apart L) t)

legal_from : (p : ℕ) (L : List Link) → all (fits p) L ≡ true → each_two falls L ≡ true → each_two apart L ≡ true → legal p L ≡ true
unfolding legal
legal_from p L f g h = and_intro (all (fits p) L) (each_two falls L && each_two apart L) f (and_intro (each_two falls L) (each_two apart L) g h)

-- ---- what a legal list satisfies

module _ (p : ℕ) (L : List Link) (ok : legal p L ≡ true) where
  pub legal_parts : (l : Link) → l ∈ L → good_parts p l ≡ true
  legal_parts l m = and_left (good_parts p l) (leb 1 l.weight) (all_of (fits p) L (legal_fits p L ok) m)

  pub legal_positive : (l : Link) → l ∈ L → 1 ≤ l.weight
  legal_positive l m = leb-true 1 l.weight (and_right (good_parts p l) (leb 1 l.weight) (all_of (fits p) L (legal_fits p L ok) m))

  pub legal_falling : (A B : List Link) (l m : Link) → L ≡ A ++ (l ∷ B) → m ∈ B → m.weight ≤ l.weight
  legal_falling A B l m e n = leb-true m.weight l.weight (each_two_later falls A B l m (ap (each_two falls) (sym e) ∙ legal_falls p L ok) n)

  pub legal_once : (A B : List Link) (l m : Link) → L ≡ A ++ (l ∷ B) → m ∈ B → joins l.low l.high m ≡ false
  legal_once A B l m e n =
      not-true (joins l.low l.high m) (each_two_later apart A B l m (ap (each_two apart) (sym e) ∙ legal_apart p L ok) n)

-- ---- one link more

-- l does not rise over the last of a falling list exactly when it rises over none
not_above : (L : List Link) (l : Link) → each_two falls L ≡ true → rises L l ≡ false → all (λ m. falls m l) L ≡ true
unfolding each_two all rises
not_above [] l t r = refl
not_above (b ∷ []) l t r = and_intro (falls b l) true (le-leb l.weight b.weight (ltb-false b.weight l.weight r)) refl
not_above (b ∷ c ∷ L) l t r =
    let rest = not_above (c ∷ L) l (and_right (all (falls b) (c ∷ L)) (each_two falls (c ∷ L)) t) r in
    let bc = leb-true c.weight b.weight (and_left (falls b c) (all (falls b) L) (and_left (all (falls b) (c ∷ L)) (each_two falls (c ∷ L)) t)) in
    let cl = leb-true l.weight c.weight (and_left (falls c l) (all (λ m. falls m l) L) rest) in
    and_intro (falls b l) (all (λ m. falls m l) (c ∷ L)) (le-leb l.weight b.weight (omega arith)) rest

no_rise : (L : List Link) (l : Link) → all (λ m. falls m l) L ≡ true → rises L l ≡ false
unfolding all rises
no_rise [] l t = refl
no_rise (b ∷ []) l t = le-ltb b.weight l.weight (leb-true l.weight b.weight (and_left (falls b l) true t))
no_rise (b ∷ c ∷ L) l t = no_rise (c ∷ L) l (and_right (falls b l) (all (λ m. falls m l) (c ∷ L)) t)

eqb_turn : (a b : ℕ) → eqb a b ≡ eqb b a
eqb_turn a b = iff (eqb a b) (eqb b a) (λ e. eq-eqb b a (sym (eqb-true a b e))) (λ e. eq-eqb a b (sym (eqb-true b a e)))

pub joins_turn : (l m : Link) → joins l.low l.high m ≡ joins m.low m.high l
unfolding joins
joins_turn l m =
    ap₂ ◌||◌ (ap₂ ◌&&◌ (eqb_turn m.low l.low) (eqb_turn m.high l.high))
    (and_comm (eqb m.low l.high) (eqb m.high l.low) ∙ ap₂ ◌&&◌ (eqb_turn m.high l.low) (eqb_turn m.low l.high))

-- no pair of L is the pair of l
new_apart : (L : List Link) (l : Link) → all (λ m. apart m l) L ≡ not (linked L l.low l.high)
unfolding linked
new_apart L l = same L ∙ all_not (joins l.low l.high) L
  where
    same : (M : List Link) → all (λ m. apart m l) M ≡ all (λ m. not (joins l.low l.high m)) M
    same M = ap (λ (f : Link → Bool). all f M) (fun_ext (λ m. ap not (joins_turn m l)))

pub legal_none : (p : ℕ) → legal p [] ≡ true
unfolding legal
legal_none p = refl

module _ (p : ℕ) (L : List Link) (l : Link) (a : ℕ) where
  pub legal_more : legal p L ≡ true → check_link p L l a ≡ accepted → legal p (L ++ (l ∷ [])) ≡ true
  legal_more ok e =
      let fit = and_intro (good_parts p l) (leb 1 l.weight) (check_parts_lem p L l a e) (le-leb 1 l.weight (check_weight p L l a e)) in
      let low = not_above L l (legal_falls p L ok) (check_fall p L l a e) in
      let new = new_apart L l ∙ false_not (linked L l.low l.high) (check_new p L l a e) in
      legal_from p (L ++ (l ∷ [])) (all_more (fits p) L l ∙ and_intro (all (fits p) L) (fits p l) (legal_fits p L ok) fit)
      (each_two_more falls L l ∙ and_intro (each_two falls L) (all (λ m. falls m l) L) (legal_falls p L ok) low)
      (each_two_more apart L l ∙ and_intro (each_two apart L) (all (λ m. apart m l) L) (legal_apart p L ok) new)

  pub legal_init : legal p (L ++ (l ∷ [])) ≡ true → (legal p L ≡ true) × (check_link p L l a ≡ accepted)
  legal_init ok =
      let f = sym (all_more (fits p) L l) ∙ legal_fits p (L ++ (l ∷ [])) ok in
      let g = sym (each_two_more falls L l) ∙ legal_falls p (L ++ (l ∷ [])) ok in
      let h = sym (each_two_more apart L l) ∙ legal_apart p (L ++ (l ∷ [])) ok in
      let i = and_right (all (fits p) L) (fits p l) f in (
        legal_from p L (and_left (all (fits p) L) (fits p l) f) (and_left (each_two falls L) (all (λ m. falls m l) L) g)
            (and_left (each_two apart L) (all (λ m. apart m l) L) h),
        check_passes p L l a (and_left (good_parts p l) (leb 1 l.weight) i) (leb-true 1 l.weight (and_right (good_parts p l) (leb 1 l.weight) i))
            (no_rise L l (and_right (each_two falls L) (all (λ m. falls m l) L) g))
            (not-true (linked L l.low l.high) (sym (new_apart L l) ∙ and_right (each_two apart L) (all (λ m. apart m l) L) h)),
      )

-- ---- no links: no k-clique, no slot

pub cliques_none : (p k : ℕ) → 2 ≤ k → cliques [] p k ≡ []
unfolding cliques clique linked any
cliques_none p k two = no_member (cliques [] p k) none
  where
    none : (s : ℕ) → s ∈ cliques [] p k → ⊥
    none s m =
        let r = keep_of (λ s. eqb (size s) k && clique [] p s) (sets_of p) m in
        let e = eqb-true (size s) k (and_left (eqb (size s) k) (clique [] p s) r.1) in
        let n = members_length p s (sets_of_lem p s r.0) in
        let f = each_two_some (linked []) (members p s) (omega arith) (and_right (eqb (size s) k) (clique [] p s) r.1) in
        never false f.2 refl

pub slots_none : (p k : ℕ) → slots p k [] ≡ 0
unfolding slots
slots_none p k = ap length (no_member (slot_sets p k []) (λ s m. Memᴰ.not-nil (slot_of p k [] s m).member))

pub none_fit : (p k n : ℕ) → 2 ≤ k → enough n (slots p k (cliques [] p k)) ≡ true
unfolding enough
none_fit p k n two = rw (cliques_none p k two, slots_none) (and_intro (leb 0 n) true (leb-zero n) refl)

-- ---- the last link taken back

pub front_more : (L : List Link) (l : Link) → front (L ++ (l ∷ [])) ≡ L
unfolding front
front_more [] l = refl
front_more (b ∷ []) l = refl
front_more (b ∷ c ∷ L) l = ap (λ (M : List Link). b ∷ M) (front_more (c ∷ L) l)

-- links of which there is one or more: the last, behind the others
pub last_split : (l : Link) (L : List Link) → (m : Link) × (l ∷ L ≡ front (l ∷ L) ++ (m ∷ []))
unfolding front
last_split l [] = (l, refl)
last_split l (b ∷ L) = let r = last_split b L in (r.0, ap (λ (M : List Link). l ∷ M) r.1)

-- what holds of links where it holds of them with one more, holds without the last
front_keeps : (P : List Link → Type 0) → ((L : List Link) (l : Link) → P (L ++ (l ∷ [])) → P L) → (L : List Link) → P L → P (front L)
unfolding front
front_keeps P f [] h = h
front_keeps P f (l ∷ L) h = let r = last_split l L in f (front (l ∷ L)) r.0 (subst P r.1 h)

pub front_legal : (p : ℕ) (L : List Link) → legal p L ≡ true → legal p (front L) ≡ true
front_legal p L ok = front_keeps (λ M. legal p M ≡ true) (λ M l h. (legal_init p M l 0 h).0) L ok

-- fewer links need no more slots
pub slots_fewer : (p k : ℕ) (L : List Link) (l : Link) → slots p k (cliques L p k) ≤ slots p k (cliques (L ++ (l ∷ [])) p k)
unfolding slots
slots_fewer p k L l = distinct_le (slot_sets p k F) (slot_sets p k G) (slots_distinct p k F) (λ s m. slot_at p k G s (wider s (slot_of p k F s m)))
  where
    F : List ℕ
    F = cliques L p k

    G : List ℕ
    G = cliques (L ++ (l ∷ [])) p k

    wider : (s : ℕ) → Slot p k F s → Slot p k G s
    wider s h = record {
      fits = h.fits;
      sized = h.sized;
      bearer = h.bearer;
      member = cliques_mono L (L ++ (l ∷ [])) p p k (linked_mono L (L ++ (l ∷ [])) (λ x m. Memᴰ.append_left (l ∷ []) m)) (omega arith) h.bearer h.member;
      within = h.within;
    }

pub front_fit : (p k n : ℕ) (L : List Link) → enough n (slots p k (cliques L p k)) ≡ true → enough n (slots p k (cliques (front L) p k)) ≡ true
unfolding enough
front_fit p k n L h = front_keeps (λ M. leb (slots p k (cliques M p k)) n && leb (slots p k (cliques M p k)) 16777216 ≡ true) step L h
  where
    step : (M : List Link) (l : Link) → leb (slots p k (cliques (M ++ (l ∷ [])) p k)) n && leb (slots p k (cliques (M ++ (l ∷ [])) p k)) 16777216 ≡ true
        → leb (slots p k (cliques M p k)) n && leb (slots p k (cliques M p k)) 16777216 ≡ true
    step M l e =
        let c = slots p k (cliques M p k) in
        let d = slots p k (cliques (M ++ (l ∷ [])) p k) in
        let f = slots_fewer p k M l in
        let a = leb-true d n (and_left (leb d n) (leb d 16777216) e) in
        let b = leb-true d 16777216 (and_right (leb d n) (leb d 16777216) e) in
        and_intro (leb c n) (leb c 16777216) (le-leb c n (omega (arith, f, a))) (le-leb c 16777216 (omega (arith, f, b)))

-- ---- inserts

module _ (p k n : ℕ) where
  pub refused_keeps : (L : List Link) (l : Link) (a b : ℕ) → check_insert p k n L l ≡ refused a b → accept p k n L l ≡ L
  unfolding accept
  refused_keeps L l a b e = ap (λ (v : Verdict). cond (passes v) (L ++ (l ∷ [])) L) e

  pub accepted_adds : (L : List Link) (l : Link) → check_insert p k n L l ≡ accepted → accept p k n L l ≡ L ++ (l ∷ [])
  unfolding accept
  accepted_adds L l e = ap (λ (v : Verdict). cond (passes v) (L ++ (l ∷ [])) L) e

  -- an accepted insert passes 6 to 9 and 15
  pub insert_checks : (L : List Link) (l : Link) → check_insert p k n L l ≡ accepted → check_link p L l 0 ≡ accepted
  unfolding check_insert
  insert_checks L l e = then_left (check_link p L l 0) _ e

  pub insert_fits : (L : List Link) (l : Link) → check_insert p k n L l ≡ accepted → enough n (slots p k (cliques (L ++ (l ∷ [])) p k)) ≡ true
  unfolding check_insert
  insert_fits L l e =
      let t = enough n (slots p k (cliques (L ++ (l ∷ [])) p k)) in
      unless_passed t 15 0 (then_right (check_link p L l 0) (unless t 15 0) e)

  -- what every accepted insert keeps, an insert keeps, and a list of inserts
  module _ (P : List Link → Type 0) (step : (L : List Link) (l : Link) → P L → check_insert p k n L l ≡ accepted → P (L ++ (l ∷ []))) where
    accept_keeps : (L : List Link) (l : Link) → P L → P (accept p k n L l)
    accept_keeps L l h = go (check_insert p k n L l) refl
      where
        go : (v : Verdict) → check_insert p k n L l ≡ v → P (accept p k n L l)
        go accepted e = rw (accepted_adds L l e) (step L l h e)
        go (refused a b) e = rw (refused_keeps L l a b e) h

    -- what taking back keeps too, a list of steps keeps
    module _ (off : (L : List Link) → P L → P (front L)) where
      pub step_keeps : (L : List Link) (x : Step) → P L → P (after_step p k n L x)
      unfolding after_step
      step_keeps L (insert l) h = accept_keeps L l h
      step_keeps L back h = off L h

      pub steps_keep : (L : List Link) (X : List Step) → P L → P (remaining_links p k n L X)
      unfolding remaining_links
      steps_keep L [] h = h
      steps_keep L (x ∷ X) h = steps_keep (after_step p k n L x) X (step_keeps L x h)

  legal_step : (L : List Link) (l : Link) → legal p L ≡ true → check_insert p k n L l ≡ accepted → legal p (L ++ (l ∷ [])) ≡ true
  legal_step L l ok e = legal_more p L l 0 ok (insert_checks L l e)

  pub remaining_legal : (L : List Link) (X : List Step) → legal p L ≡ true → legal p (remaining_links p k n L X) ≡ true
  remaining_legal L X ok = steps_keep (λ M. legal p M ≡ true) legal_step (front_legal p) L X ok

  -- the links that remain have slots in the tables
  pub remaining_fit : (L : List Link) (X : List Step) → enough n (slots p k (cliques L p k)) ≡ true
      → enough n (slots p k (cliques (remaining_links p k n L X) p k)) ≡ true
  remaining_fit L X h = steps_keep (λ M. enough n (slots p k (cliques M p k)) ≡ true) (λ M l _ e. insert_fits M l e) (front_fit p k n) L X h

  pub answers_length : (L : List Link) (X : List Step) → length (step_answers p k n L X) ≡ length X
  unfolding step_answers
  answers_length L [] = refl
  answers_length L (x ∷ X) = ap suc (answers_length (after_step p k n L x) X)

  pub remaining_append : (L : List Link) (X Y : List Step) → remaining_links p k n L (X ++ Y) ≡ remaining_links p k n (remaining_links p k n L X) Y
  unfolding remaining_links
  remaining_append L [] Y = refl
  remaining_append L (x ∷ X) Y = remaining_append (after_step p k n L x) X Y

  pub answers_append : (L : List Link) (X Y : List Step)
      → step_answers p k n L (X ++ Y) ≡ step_answers p k n L X ++ step_answers p k n (remaining_links p k n L X) Y
  unfolding step_answers remaining_links
  answers_append L [] Y = refl
  answers_append L (x ∷ X) Y = ap (λ (r : List Verdict). check_step p k n L x ∷ r) (answers_append (after_step p k n L x) X Y)

  -- an accepted insert taken back: the links are as before it
  pub back_undoes : (L : List Link) (l : Link) → check_insert p k n L l ≡ accepted → remaining_links p k n L (insert l ∷ back ∷ []) ≡ L
  unfolding remaining_links after_step
  back_undoes L l e = ap front (accepted_adds L l e) ∙ front_more L l

-- ---- a legal list has at most p * (p - 1) / 2 links

-- how many pairs of parts are below h: one for each pair
abbrev pairs_below : ℕ → ℕ
pairs_below zero = 0
pairs_below (suc h) = pairs_below h + h

pairs_rise : (a b : ℕ) → a < b → pairs_below a + a ≤ pairs_below b
pairs_rise a zero h = let z : ⊥ = omega arith in absurd z
pairs_rise a (suc b) h = go (pairs_rise a b) (lt_or_le a b)
  where
    go : (a < b → pairs_below a + a ≤ pairs_below b) → (a < b) ⊎ (b ≤ a) → pairs_below a + a ≤ pairs_below b + b
    go ih (inl l) = omega (arith, ih l)
    go ih (inr m) = let e : a ≡ b = omega (arith, m, h) in let f : pairs_below a + a ≡ pairs_below b + b = ap (λ (x : ℕ). pairs_below x + x) e in omega (arith, f)

twice_pairs : (p : ℕ) → 2 * pairs_below p ≡ p * (p - 1)
twice_pairs zero = refl
twice_pairs (suc zero) = refl
twice_pairs (suc (suc q)) =
    let less : suc q - 1 ≡ q = omega arith in
    let ih : 2 * pairs_below (suc q) ≡ suc q * q = twice_pairs (suc q) ∙ ap (λ (x : ℕ). suc q * x) less in
    let more : suc (suc q) - 1 ≡ suc q = omega arith in
    let s : suc (suc q) * suc q ≡ suc q * suc q + suc q = suc-mul (suc q) (suc q) in
    let m : suc q * suc q ≡ suc q * q + suc q = mul-suc (suc q) q in
    let e : 2 * pairs_below (suc (suc q)) ≡ suc (suc q) * suc q = omega (arith, ih, s, m) in
    e ∙ ap (λ (x : ℕ). suc (suc q) * x) (sym more)

-- the number of a pair
abbrev pair_number : Link → ℕ
pair_number l = pairs_below l.high + l.low

number_below : (p : ℕ) (l : Link) → l.low < l.high → l.high < p → pair_number l < pairs_below p
number_below p l g h = omega (arith, g, pairs_rise l.high p h)

number_same : (l m : Link) → l.low < l.high → m.low < m.high → pair_number l ≡ pair_number m → joins l.low l.high m ≡ true
unfolding joins
number_same l m g h e =
    or_left (eqb m.low l.low && eqb m.high l.high) _
    (and_intro (eqb m.low l.low) (eqb m.high l.high) (eq-eqb m.low l.low low) (eq-eqb m.high l.high high))
  where
    go : (l.high < m.high) ⊎ (m.high ≤ l.high) → (m.high < l.high) ⊎ (l.high ≤ m.high) → m.high ≡ l.high
    go (inl a) b = let z : ⊥ = omega (arith, pairs_rise l.high m.high a, g, h, e) in absurd z
    go (inr a) (inl b) = let z : ⊥ = omega (arith, pairs_rise m.high l.high b, g, h, e) in absurd z
    go (inr a) (inr b) = omega (arith, a, b)

    high : m.high ≡ l.high
    high = go (lt_or_le l.high m.high) (lt_or_le m.high l.high)

    low : m.low ≡ l.low
    low = let f : pairs_below m.high ≡ pairs_below l.high = ap pairs_below high in omega (arith, f, e)

numbers_distinct : (L : List Link) → ((l : Link) → l ∈ L → l.low < l.high) → each_two apart L ≡ true → Distinct (map pair_number L)
unfolding each_two Distinct
numbers_distinct [] f a = tt
numbers_distinct (l ∷ L) f a = (fresh, numbers_distinct L (λ m i. f m (Memᴰ.tail i)) (and_right (all (apart l) L) (each_two apart L) a))
  where
    fresh : pair_number l ∈ map pair_number L → ⊥
    fresh i =
        let r = Memᴰ.of_map pair_number L i in
        let t = number_same l r.0 (f l (Memᴰ.head refl)) (f r.0 (Memᴰ.tail r.1)) (sym r.2) in
        let n = all_of (apart l) L (and_left (all (apart l) L) (each_two apart L) a) r.1 in
        never (joins l.low l.high r.0) t (not-true (joins l.low l.high r.0) n)

-- links of parts below p, no pair twice, in any order
pub pairs_few : (p : ℕ) (L : List Link) → ((l : Link) → l ∈ L → (l.low < l.high) × (l.high < p)) → each_two apart L ≡ true → 2 * length L ≤ p * (p - 1)
pairs_few p L good once =
    omega (
      arith,
      distinct_le (map pair_number L) (below (pairs_below p)) (numbers_distinct L (λ l m. (good l m).0) once) inside,
      length-map L pair_number,
      below_length (pairs_below p),
      twice_pairs p,
    )
  where
    inside : Holds (below (pairs_below p)) (map pair_number L)
    inside x i =
        let r = Memᴰ.of_map pair_number L i in
        let g = good r.0 r.1 in
        below_at x (pairs_below p) (omega (arith, r.2, number_below p r.0 g.0 g.1))

pub legal_pairs : (p : ℕ) (L : List Link) → legal p L ≡ true → 2 * length L ≤ p * (p - 1)
legal_pairs p L ok = pairs_few p L (λ l m. good_parts_lem p l (legal_parts p L ok l m)) (legal_apart p L ok)

-- as many as there are pairs of the most parts
pub legal_most : (p : ℕ) (L : List Link) → p ≤ 64 → legal p L ≡ true → length L ≤ 2016
legal_most p L wide ok =
    let less : p - 1 ≤ 63 = omega (arith, wide) in
    omega (arith, legal_pairs p L ok, mul-le-mul wide less)

-- ---- links one after the other: f 0, f 1, .. where `before j` are those before f j

module _ (p : ℕ) (f : ℕ → Link) (before : ℕ → List Link) (none : before 0 ≡ []) (more : (j : ℕ) → before (suc j) ≡ before j ++ (f j ∷ []))
    (place : ℕ → ℕ) where
  abbrev check : ℕ → Verdict
  check j = check_link p (before j) (f j) (place j)

  -- if each passes they are legal, and the other way, whatever the places
  pub legal_checks : (m : ℕ) → in_order (λ j. check_link p (before j) (f j) (place j)) m ≡ accepted → legal p (before m) ≡ true
  unfolding in_order
  legal_checks zero e = ap (legal p) none ∙ legal_none p
  legal_checks (suc m) e =
      ap (legal p) (more m)
      ∙ legal_more p (before m) (f m) (place m) (legal_checks m (then_left (in_order check m) (check m) e)) (then_right (in_order check m) (check m) e)

  pub checks_legal : (m : ℕ) → legal p (before m) ≡ true → in_order (λ j. check_link p (before j) (f j) (place j)) m ≡ accepted
  unfolding in_order
  checks_legal zero ok = refl
  checks_legal (suc m) ok =
      let r = legal_init p (before m) (f m) (place m) (ap (legal p) (sym (more m)) ∙ ok) in
      then_both (in_order check m) (check m) (checks_legal m r.0) r.1
