-- The numbers of 11, 12, 20, 6 to 9, 15 and 19, test by test. Assumes nothing.
use mathlib.Core.Path.{◌≡◌, refl, sym, ap, ◌∙◌}
use mathlib.Core.Bool.{Bool, true, false, cond, not, ◌&&◌}
use mathlib.Core.List.{List}
use Prim.Native.Nat.{ℕ, zero, suc, ◌-◌, ◌≤◌, ◌<◌, min}
use native.Mathlib.Omega.{arith}
use lib.Dec.{leb}
use lib.ListN.{length, get_or}
use borrow.Author.Tests.{leb-true, le-leb, lt-leb, eqb-true, eq-eqb, ne_eqb}
use Rattle.answers.specs.Faults.{number_of}
use Rattle.answers.specs.declared.fault.Fault.{Fault}
use Rattle.answers.specs.declared.fault.Fault.TheVariants.{Mark}
use Rattle.sets.specs.Lists.{all, below}
use Rattle.sets.specs.Value.{width}
use Rattle.sets.proofs.Tests.{and_left, and_right, and_stop, and_go}
use Rattle.percolation.specs.Links.{Link}
use Rattle.percolation.specs.Ranges.{good_count, good_k}
use Rattle.percolation.proofs.Ranges.{good_count_lem, good_k_lem}
use Rattle.percolation.proofs.Accepted.{good_parts_lem}
use Rattle.checks.specs.Model.{link_number}
use Rattle.checks.proofs.Numbers.{number_parts}
use Rattle.slots.specs.Tables.{Tables, room}
use Rattle.slots.specs.declared.View.{View}
use Rattle.slots.specs.Lent.{tables_in}
use Rattle.slots.proofs.Lengths.{room_within}
use Rattle.search.specs.Model.{cap, added_by}
use Rattle.runs.specs.Lent.{level}
use Rattle.runs.proofs.Left.{level_used}
use Rattle.journal.specs.Journal.{journal_length, whole}
use Rattle.states.specs.declared.State.{State}
use Rattle.states.specs.States.{good_state}
use Rattle.states.specs.Model.{first_of, state_number, link_step, journal_number, insert_number, back_number}

-- ---- numbers, the first that is not 0

pub first_go : (n m : ℕ) → n ≡ 0 → first_of n m ≡ m
unfolding first_of
first_go n m e = ap (λ (x : ℕ). first_of x m) e

pub first_stop : (n m : ℕ) → (n ≡ 0 → ⊥) → first_of n m ≡ n
unfolding first_of
first_stop zero m h = absurd (h refl)
first_stop (suc n) m h = refl

pub first_0 : (n m : ℕ) → first_of n m ≡ 0 → (n ≡ 0) × (m ≡ 0)
unfolding first_of
first_0 zero m e = (refl, e)
first_0 (suc n) m e = let z : ⊥ = omega arith in absurd z

-- a fault's number is none
pub faulted : (f : Fault) → number_of f ≡ 0 → ⊥
faulted f = elim f as (λ (g : Fault). number_of g ≡ 0 → ⊥) [ Mark ↦ λ e. omega arith | _ ↦ λ e. omega arith ]

-- ---- 12

module _ (S : State) (es : List ℕ) where
  pub bad_k : good_k S.k ≡ false → false ≡ good_state S es
  unfolding good_state
  bad_k e = and_stop (good_k S.k) _ e

  module _ (a : good_k S.k ≡ true) where
    pub bad_count : good_count S.p ≡ false → false ≡ good_state S es
    unfolding good_state
    bad_count e = and_go (good_k S.k) _ a (and_stop (good_count S.p) _ e)

    module _ (b : good_count S.p ≡ true) where
      pub bad_used : room es < S.used → false ≡ good_state S es
      unfolding good_state
      bad_used l = and_go (good_k S.k) _ a (and_go (good_count S.p) _ b (and_stop (leb S.used (room es)) _ (lt-leb S.used (room es) l)))

      pub good_used : (r : Bool) → S.used ≤ room es → r ≡ all (λ i. leb (get_or es i 0) i) (below S.used) → r ≡ good_state S es
      unfolding good_state
      good_used r l e =
          and_go (good_k S.k) _ a (and_go (good_count S.p) _ b (and_go (leb S.used (room es)) _ (le-leb S.used (room es) l) e))

  -- what a good state has
  module _ (e : good_state S es ≡ true) where
    pub state_two : 2 ≤ S.k
    unfolding good_state
    state_two = (good_k_lem S.k (and_left (good_k S.k) _ e)).0

    past_k : good_count S.p && (leb S.used (room es) && all (λ i. leb (get_or es i 0) i) (below S.used)) ≡ true
    unfolding good_state
    past_k = and_right (good_k S.k) _ e

    pub state_wide : S.p ≤ width
    state_wide = (good_count_lem S.p (and_left (good_count S.p) _ past_k)).1

    pub state_room : S.used ≤ room es
    state_room = leb-true S.used (room es) (and_left (leb S.used (room es)) _ (and_right (good_count S.p) _ past_k))

-- ---- 11, 12

module _ (S : State) (v : View) where
  abbrev T : Tables
  T = tables_in v S.used

  used_level : level T ≡ level (tables_in v 0)
  used_level = level_used v.sets.now v.entries.now v.smallest.now v.unions.now S.used

  pub state_11 : level (tables_in v 0) ≡ false → 11 ≡ state_number S T
  unfolding state_number
  state_11 l = rw (used_level ∙ l) refl

  pub state_12 : level (tables_in v 0) ≡ true → good_state S v.entries.now ≡ false → 12 ≡ state_number S T
  unfolding state_number
  state_12 l g = rw (used_level ∙ l, g) refl

  pub state_0 : level (tables_in v 0) ≡ true → good_state S v.entries.now ≡ true → 0 ≡ state_number S T
  unfolding state_number
  state_0 l g = rw (used_level ∙ l, g) refl

-- a state with number 0 is a good one
pub state_good : (S : State) (T : Tables) → state_number S T ≡ 0 → good_state S T.entries ≡ true
unfolding state_number
state_good S T z = go (level T) (good_state S T.entries) z
  where
    go : (a b : Bool) → ◌≡◌ {A = ℕ} (cond a (cond b 0 12) 11) 0 → b ≡ true
    go true true h = refl
    go true false h = let x : ⊥ = omega arith in absurd x
    go false b h = let x : ⊥ = omega arith in absurd x

-- ---- 6 to 9, 15

module _ (S : State) (es : List ℕ) (l : Link) where
  abbrev number : ℕ
  number = link_number S.p S.rows S.last l

  abbrev more : ℕ
  more = added_by S.rows S.k l.low l.high

  pub step_stop : (f : Fault) → number_of f ≡ number → number_of f ≡ link_step S es l
  unfolding link_step
  step_stop f e = e ∙ sym (first_stop number _ (λ z. faulted f (e ∙ z)))

  -- a count that stops at the cap decides as the whole count does, since there is less room
  pub step_15 : number ≡ 0 → (a : ℕ) → a ≡ min more cap → room es - S.used < a → 15 ≡ link_step S es l
  unfolding link_step
  step_15 z a e h = sym (first_go number _ z ∙ ap (λ (b : Bool). cond b 0 15) (lt-leb more (room es - S.used) (omega (arith, e, h))))

  pub step_0 : number ≡ 0 → (a : ℕ) → a ≡ min more cap → a ≤ room es - S.used → 0 ≡ link_step S es l
  unfolding link_step
  step_0 z a e h =
      sym (first_go number _ z ∙ ap (λ (b : Bool). cond b 0 15) (le-leb more (room es - S.used) (omega (arith, e, h, (room_within es).1))))

  -- a link with number 0 has parts that a set can hold
  pub step_parts : S.p ≤ width → link_step S es l ≡ 0 → (l.low < width) × (l.high < width)
  unfolding link_step
  step_parts w z =
      let g = good_parts_lem S.p l (number_parts S.p S.rows S.last l (first_0 number _ z).0) in (omega (arith, g.0, g.1, w), omega (arith, g.1, w))

-- ---- 11, 12, then 20

module _ (S : State) (T : Tables) (J : List ℕ) where
  pub journal_stop : (f : Fault) → number_of f ≡ state_number S T → number_of f ≡ journal_number S T J
  unfolding journal_number
  journal_stop f e = e ∙ sym (first_stop (state_number S T) _ (λ z. faulted f (e ∙ z)))

  module _ (z : state_number S T ≡ 0) where
    pub journal_20 : whole J ≡ false → 20 ≡ journal_number S T J
    unfolding journal_number
    journal_20 e = sym (first_go (state_number S T) _ z ∙ ap (λ (b : Bool). cond b 0 20) e)

    pub journal_0 : whole J ≡ true → 0 ≡ journal_number S T J
    unfolding journal_number
    journal_0 e = sym (first_go (state_number S T) _ z ∙ ap (λ (b : Bool). cond b 0 20) e)

  module _ (z : journal_number S T J ≡ 0) where
    pub journal_good : good_state S T.entries ≡ true
    unfolding journal_number
    journal_good = state_good S T (first_0 (state_number S T) _ z).0

    pub journal_whole : length J ≡ journal_length
    unfolding journal_number
    journal_whole = eqb-true (length J) journal_length (by (whole J) (first_0 (state_number S T) _ z).1)
      where
        by : (b : Bool) → ◌≡◌ {A = ℕ} (cond b 0 20) 0 → b ≡ true
        by true h = refl
        by false h = let x : ⊥ = omega arith in absurd x

-- ---- then the rest

module _ (S : State) (T : Tables) (J : List ℕ) (l : Link) where
  pub number_stop : (f : Fault) → number_of f ≡ journal_number S T J → number_of f ≡ insert_number S T J l
  unfolding insert_number
  number_stop f e = e ∙ sym (first_stop (journal_number S T J) _ (λ z. faulted f (e ∙ z)))

  pub number_go : (n : ℕ) → journal_number S T J ≡ 0 → n ≡ link_step S T.entries l → n ≡ insert_number S T J l
  unfolding insert_number
  number_go n z e = e ∙ sym (first_go (journal_number S T J) _ z)

module _ (S : State) (T : Tables) (J : List ℕ) where
  pub back_stop : (f : Fault) → number_of f ≡ journal_number S T J → number_of f ≡ back_number S T J
  unfolding back_number
  back_stop f e = e ∙ sym (first_stop (journal_number S T J) _ (λ z. faulted f (e ∙ z)))

  module _ (z : journal_number S T J ≡ 0) where
    pub back_19 : S.links ≡ 0 → 19 ≡ back_number S T J
    unfolding back_number
    back_19 e = sym (first_go (journal_number S T J) _ z ∙ ap (λ (b : Bool). cond (not b) 0 19) (eq-eqb S.links 0 e))

    pub back_0 : (S.links ≡ 0 → ⊥) → 0 ≡ back_number S T J
    unfolding back_number
    back_0 h = sym (first_go (journal_number S T J) _ z ∙ ap (λ (b : Bool). cond (not b) 0 19) (ne_eqb S.links 0 h))

-- an insert with number 0: what the tables and the link then have
module _ (S : State) (T : Tables) (J : List ℕ) (l : Link) (z : insert_number S T J l ≡ 0) where
  good : good_state S T.entries ≡ true
  unfolding insert_number
  good = journal_good S T J (first_0 (journal_number S T J) _ z).0

  pub insert_two : 2 ≤ S.k
  insert_two = state_two S T.entries good

  pub insert_room : S.used ≤ room T.entries
  insert_room = state_room S T.entries good

  pub insert_parts : (l.low < width) × (l.high < width)
  unfolding insert_number
  insert_parts = step_parts S T.entries l (state_wide S T.entries good) (first_0 (journal_number S T J) _ z).1

-- a taking back with number 0: what state and journal then have
module _ (S : State) (T : Tables) (J : List ℕ) (z : back_number S T J ≡ 0) where
  fine : journal_number S T J ≡ 0
  unfolding back_number
  fine = (first_0 (journal_number S T J) _ z).0

  pub back_two : 2 ≤ S.k
  back_two = state_two S T.entries (journal_good S T J fine)

  pub back_wide : S.p ≤ width
  back_wide = state_wide S T.entries (journal_good S T J fine)

  pub back_within : (n : ℕ) → n ≡ min S.links journal_length - 1 → n ≤ length J
  back_within n e = omega (arith, e, journal_whole S T J fine)
