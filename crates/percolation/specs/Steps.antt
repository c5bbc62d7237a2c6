-- What a link must satisfy, what an insert and a taking back get, and the links that remain after a list of steps. Assumes nothing.
use Rattle.std.specs.Prelude.{Bool, false, cond, not, ◌&&◌, List, [], ◌∷◌, ◌++◌, ℕ, eqb, leb, ltb}
use Rattle.answers.specs.Verdict.{Verdict, accepted, refused, ◌then◌, unless, passes}
use Rattle.sets.specs.Lists.{all, each_two}
use Rattle.percolation.specs.Ranges.{most_slots}
use Rattle.percolation.specs.Links.{Link, joins, linked, cliques, slots}

-- part numbers below p, lower below higher
unfoldable pub good_parts : ℕ → Link → Bool
good_parts p l = ltb l.low p && (ltb l.high p && ltb l.low l.high)

-- l weighs more than the last of the links before it
unfoldable pub rises : List Link → Link → Bool
rises [] l = false
rises (b ∷ []) l = ltb b.weight l.weight
rises (b ∷ c ∷ L) l = rises (c ∷ L) l

-- 6 to 9 for the link l, whose place is a, after the links L
unfoldable pub check_link : ℕ → List Link → Link → ℕ → Verdict
unfolding good_parts rises linked unless ◌then◌
check_link p L l a =
    unless (good_parts p l) 6 a
    then unless (not (eqb l.weight 0)) 7 a
    then unless (not (rises L l)) 8 a
    then unless (not (linked L l.low l.high)) 9 a

-- the links of a sheet that passes 6 to 9: good parts, weights from 1 that never rise, no pair twice
unfoldable pub legal : ℕ → List Link → Bool
unfolding all each_two good_parts joins
legal p L =
    all (λ l. good_parts p l && leb 1 l.weight) L
    && (each_two (λ l m. leb m.weight l.weight) L && each_two (λ l m. not (joins l.low l.high m)) L)

-- c cliques have slots in tables of n: no more than n, and no more than most_slots
unfoldable pub enough : ℕ → ℕ → Bool
enough n c = leb c n && leb c most_slots

-- what an insert of l gets with tables of n slots when L are the links that remain: 6 to 9, then 15, which counts the links with the new one
unfoldable pub check_insert : ℕ → ℕ → ℕ → List Link → Link → Verdict
unfolding check_link enough cliques slots unless ◌then◌
check_insert p k n L l = check_link p L l 0 then unless (enough n (slots p k (cliques (L ++ (l ∷ [])) p k))) 15 0

-- the links that remain after that insert
unfoldable pub accept : ℕ → ℕ → ℕ → List Link → Link → List Link
unfolding check_insert passes
accept p k n L l = cond (passes (check_insert p k n L l)) (L ++ (l ∷ [])) L

-- a step of a list: the insert of a link, or the last link taken back
pub data Step : Type 0 where
  insert : Link → Step
  back : Step

-- the links without the last
unfoldable pub front : List Link → List Link
front [] = []
front (l ∷ []) = []
front (l ∷ m ∷ L) = l ∷ front (m ∷ L)

-- what taking back gets when L are the links that remain: 19 where there is none
unfoldable pub check_back : List Link → Verdict
check_back [] = refused 19 0
check_back (l ∷ L) = accepted

-- what a step gets, and the links that remain after it
unfoldable pub check_step : ℕ → ℕ → ℕ → List Link → Step → Verdict
unfolding check_insert check_back
check_step p k n L (insert l) = check_insert p k n L l
check_step p k n L back = check_back L

unfoldable pub after_step : ℕ → ℕ → ℕ → List Link → Step → List Link
unfolding accept front
after_step p k n L (insert l) = accept p k n L l
after_step p k n L back = front L

-- a list of steps, from the links L on: the links that remain after it, and what each step gets
unfoldable pub remaining_links : ℕ → ℕ → ℕ → List Link → List Step → List Link
unfolding after_step
remaining_links p k n L [] = L
remaining_links p k n L (x ∷ X) = remaining_links p k n (after_step p k n L x) X

unfoldable pub step_answers : ℕ → ℕ → ℕ → List Link → List Step → List Verdict
unfolding after_step check_step
step_answers p k n L [] = []
step_answers p k n L (x ∷ X) = check_step p k n L x ∷ step_answers p k n (after_step p k n L x) X
