-- What the number of a taking back says where state, tables and journal hold links, and that they hold those without the last after it. Assumes nothing.
use mathlib.Core.Path.{◌≡◌, refl, sym, ap, ap₂, ◌∙◌, subst, subst⁻¹}
use mathlib.Core.Logic.{◌⊎◌, inl, inr}
use mathlib.Core.Bool.{true, false}
use mathlib.Core.List.Memᴰ
use mathlib.Core.List.{List, [], ◌∷◌, ◌++◌, map}
use Prim.Native.Nat.{ℕ, suc, ◌-◌, ◌≤◌, ◌<◌, min}
use native.Mathlib.Omega.{arith}
use lib.ListN.{length, get_or, set, take, length-append}
use borrow.Author.Tests.{eqb-true}
use Rattle.answers.specs.Verdict.{accepted, refused}
use Rattle.answers.specs.Answers.{counts, refuses, says}
use Rattle.answers.proofs.Laws.{say_accepted, say_refused, accepted_not}
use Rattle.sets.specs.Lists.{◌∈◌}
use Rattle.sets.specs.Value.{width, no_rows}
use Rattle.percolation.specs.Links.{Link, cliques, slots}
use Rattle.sets.proofs.Tests.{split}
use Rattle.percolation.specs.Steps.{legal, check_link, front, check_back}
use Rattle.percolation.proofs.Families.{linked_mono, cliques_mono}
use Rattle.percolation.proofs.Accepted.{good_parts_lem, check_parts_lem, check_new, legal_init, last_split, slots_fewer}
use Rattle.checks.specs.Neighbours.{Neighbours, last_weight}
use Rattle.checks.proofs.Numbers.{numbered, numbered_0, numbered_not}
use Rattle.slots.specs.Tables.{Tables, room}
use Rattle.slots_theory.specs.Shows.{Shows}
use Rattle.slots_theory.proofs.Shown.{shown_same}
use Rattle.search.specs.Model.{new_cliques}
use Rattle.search.proofs.NewCliques.{new_grown}
use Rattle.runs.specs.Lent.{cleared}
use Rattle.runs.specs.Model.{rows_with, took_links}
use Rattle.runs.proofs.Left.{cleared_entries}
use Rattle.runs.proofs.Ran.{links_kept, run_near, run_shown}
use Rattle.journal.specs.Journal.{journal_length, journal_entry}
use Rattle.journal.specs.Model.{entry_link, readable, makes_none, refilled}
use Rattle.journal.proofs.Entries.{entry_link_lem, journal_less, first_entries, last_entry, entries_links, links_readable}
use Rattle.journal.proofs.Refilled.{length_none, refill_kept, refill_made}
use Rattle.states.specs.declared.State.{State}
use Rattle.states.specs.Model.{back_number}
use Rattle.states.proofs.Checking.{back_19, back_0}
use Rattle.sequential.specs.declared.Stepped.{Stepped}
use Rattle.sequential.specs.Steps.{state, check_take_back, Holds, BackMeets}
use Rattle.sequential.specs.Model.{fewer, back_links, back_tables, back_state, back_journal}
use Rattle.sequential.proofs.Inserting.{back_says, held_level, held_wide, held_few, held_journal, two, used_is, moved, count_not_refused}

-- ---- 19, by the links that are held

pub held_back : (p k n : ℕ) (L : List Link) (S : State) (T : Tables) (J : List ℕ) → Holds p k n L S T J → check_back L ≡ numbered (back_number S T J) 0
unfolding check_back
held_back p k n [] S T J h =
    let e = sym (back_19 S T J (held_journal p k n [] S T J h) h.many) in sym (ap (λ (m : ℕ). numbered m 0) e ∙ numbered_not 19 0 (λ z. omega arith))
held_back p k n (l ∷ L) S T J h =
    let e = sym (back_0 S T J (held_journal p k n (l ∷ L) S T J h) (λ z. omega (arith, z, h.many))) in
    sym (numbered_0 (back_number S T J) 0 e)

-- ---- the last link taken off

module _ (p k n : ℕ) (M : List Link) (l : Link) (S : State) (T : Tables) (J : List ℕ) (h : Holds p k n (M ++ (l ∷ [])) S T J) where
  abbrev L : List Link
  L = M ++ (l ∷ [])

  lawful : legal p M ≡ true
  lawful = (legal_init p M l 0 h.links).0

  few : suc (length M) ≤ journal_length
  few = omega (arith, held_few p k n L S T J h, length-append M (l ∷ []))

  fewer_is : fewer S ≡ length M
  unfolding fewer
  fewer_is = omega (arith, few, h.many, length-append M (l ∷ []))

  taken_is : take (fewer S) J ≡ map journal_entry M
  taken_is = ap₂ take fewer_is h.journal ∙ first_entries M l few

  wide : p ≤ width
  wide = held_wide p k n L S T J h

  slim : (m : Link) → m ∈ M → m.weight < 65536
  slim m i = h.narrow m (Memᴰ.append_left (l ∷ []) i)

  links_are : back_links S J ≡ M
  unfolding back_links
  links_are = ap₂ readable h.same_p taken_is ∙ links_readable p M wide lawful slim

  enough_room : slots p k (cliques M p k) ≤ room T.entries
  enough_room = omega (arith, slots_fewer p k M l, used_is p k n L S T J h, h.shows.fits)

  -- the rows are those of the links before the last
  near_is : Neighbours M (rows_with no_rows (back_links S J))
  near_is = subst⁻¹ (λ (N : List Link). Neighbours M (rows_with no_rows N)) links_are (run_near p M wide lawful)

  checked : check_link p M l 0 ≡ accepted
  checked = (legal_init p M l 0 h.links).1

  ends : (l.low < l.high) × (l.high < p)
  ends = good_parts_lem p l (check_parts_lem p M l 0 checked)

  last_is : entry_link (get_or J (fewer S) 0) ≡ l
  last_is =
      ap₂ (λ (A : List ℕ) (i : ℕ). entry_link (get_or A i 0)) h.journal fewer_is ∙ ap entry_link (last_entry M l few)
      ∙ entry_link_lem l (omega (arith, ends.1, wide)) (h.narrow l (Memᴰ.append_right M (Memᴰ.head refl)))

  abbrev R : List ℕ
  R = rows_with no_rows (back_links S J)

  -- the last link made no k-clique: the k-cliques are the same without it
  module _ (t : makes_none R S.k (get_or J (fewer S) 0) ≡ true) where
    none_new : new_cliques R k l.low l.high ≡ []
    unfolding makes_none
    none_new =
        length_none (new_cliques R k l.low l.high)
        (sym (ap₂ (λ (j : ℕ) (m : Link). length (new_cliques R j m.low m.high)) h.same_k last_is) ∙ eqb-true _ 0 t)

    kept_shown : Shows p k (cliques M p k) T
    kept_shown =
        shown_same p k (cliques L p k) (cliques M p k) T
        (λ Q m. subst (λ (N : List ℕ). Q ∈ (N ++ cliques M p k)) none_new
        (new_grown p M R lawful wide near_is l k (two p k n L S T J h) (check_new p M l 0 checked) ends.0 ends.1 Q m))
        (cliques_mono M L p p k (linked_mono M L (λ x i. Memᴰ.append_left (l ∷ []) i)) (omega arith)) h.shows

  -- else they are made again
  module _ (t : makes_none R S.k (get_or J (fewer S) 0) ≡ false) where
    tables_are : back_tables S T J ≡ took_links k no_rows (cleared T) M
    unfolding back_tables
    tables_are =
        refill_made S.p S.k R T J (fewer S) t
        ∙ ap₂ (λ (j : ℕ) (N : List Link). took_links j no_rows (cleared T) N) h.same_k (ap₂ readable h.same_p taken_is ∙ links_readable p M wide lawful slim)

    made_shown : Shows p k (cliques M p k) (back_tables S T J)
    made_shown =
        subst⁻¹ (Shows p k (cliques M p k)) tables_are
        (run_shown p k M T wide (two p k n L S T J h) lawful (held_level p k n L S T J h) enough_room)

    made_slots : length (back_tables S T J).entries ≡ n
    made_slots = ap (λ (U : Tables). length U.entries) tables_are ∙ (links_kept k no_rows (cleared T) M).entries ∙ cleared_entries T ∙ h.slots

  back_shown : Shows p k (cliques M p k) (back_tables S T J) × (length (back_tables S T J).entries ≡ n)
  unfolding back_tables
  back_shown = go (split (makes_none R S.k (get_or J (fewer S) 0)))
    where
      go : (makes_none R S.k (get_or J (fewer S) 0) ≡ true) ⊎ (makes_none R S.k (get_or J (fewer S) 0) ≡ false)
          → Shows p k (cliques M p k) (back_tables S T J) × (length (back_tables S T J).entries ≡ n)
      go (inl t) =
          let e = refill_kept S.p S.k R T J (fewer S) t in
          (subst⁻¹ (Shows p k (cliques M p k)) e (kept_shown t), ap (λ (U : Tables). length U.entries) e ∙ h.slots)
      go (inr t) = (made_shown t, made_slots t)

  pub held_front : Holds p k n M (back_state S T J) (back_tables S T J) (back_journal S J)
  unfolding back_state back_journal
  held_front = record {
    count = h.count;
    size = h.size;
    same_p = h.same_p;
    same_k = h.same_k;
    same_used = refl;
    last = ap (λ (A : List ℕ). last_weight (map entry_link A)) taken_is ∙ ap last_weight (entries_links p M wide lawful slim);
    near = near_is;
    links = lawful;
    slots = back_shown.1;
    shows = back_shown.0;
    many = fewer_is;
    narrow = slim;
    journal = ap₂ (λ (A : List ℕ) (i : ℕ). set A i 0) h.journal fewer_is ∙ journal_less M l few;
  }

-- any links, taken off where there is one
pub held_without : (p k n : ℕ) (L : List Link) (S : State) (T : Tables) (J : List ℕ) → Holds p k n L S T J → check_back L ≡ accepted
    → Holds p k n (front L) (back_state S T J) (back_tables S T J) (back_journal S J)
unfolding check_back
held_without p k n [] S T J h e = accepted_not 19 0 e
held_without p k n (l ∷ L) S T J h e =
    let r = last_split l L in
    held_front p k n (front (l ∷ L)) r.0 S T J (subst (λ (N : List Link). Holds p k n N S T J) r.1 h)

front_none : (L : List Link) (m a : ℕ) → check_back L ≡ refused m a → front L ≡ L
unfolding check_back front
front_none [] m a e = refl
front_none (l ∷ L) m a e = accepted_not m a (sym e)

-- ---- what a taking back must do is what the code does: a refused one, and an accepted one

module _ (S : State) (T : Tables) (J : List ℕ) (r : Stepped) (U : Tables) (K : List ℕ) where
  pub back_refused : (m : ℕ) → m ≡ back_number S T J → (m ≡ 0 → ⊥) → says r.answer ≡ refuses m 0 → r.state ≡ S → U ≡ T → K ≡ J → BackMeets S T J r U K
  back_refused m e bad a s t j = record {
    checked = a ∙ sym (say_refused (check_take_back S T J) 0 m 0 (back_says S T J ∙ number));
    answer = λ p k n L h. a ∙ sym (say_refused (check_back L) 0 m 0 (held_back p k n L S T J h ∙ number));
    holds = λ p k n L h.
        subst⁻¹ (λ (N : List Link). Holds p k n N r.state U K) (front_none L m 0 (held_back p k n L S T J h ∙ number)) (moved p k n L S T J r U K s t j h);
    kept = λ n b c. (s, t, j);
  }
    where
      number : numbered (back_number S T J) 0 ≡ refused m 0
      number = ap (λ (x : ℕ). numbered x 0) (sym e) ∙ numbered_not m 0 bad

  pub back_accepted : back_number S T J ≡ 0 → says r.answer ≡ counts 0 → r.state ≡ back_state S T J → U ≡ back_tables S T J → K ≡ back_journal S J
      → BackMeets S T J r U K
  back_accepted e a s t j = record {
    checked = a ∙ sym (say_accepted (check_take_back S T J) 0 (back_says S T J ∙ number));
    answer = λ p k n L h. a ∙ sym (say_accepted (check_back L) 0 (held_back p k n L S T J h ∙ number));
    holds = λ p k n L h.
        moved p k n (front L) (back_state S T J) (back_tables S T J) (back_journal S J) r U K s t j
        (held_without p k n L S T J h (held_back p k n L S T J h ∙ number));
    kept = λ n b c. let z : ◌≡◌ {A = ℕ} 0 1 = count_not_refused 0 n b (sym a ∙ c) in absurd (omega arith);
  }
    where
      number : numbered (back_number S T J) 0 ≡ accepted
      number = numbered_0 (back_number S T J) 0 e

-- the same from what the code gives
pub back_meets : (S : State) (T : Tables) (J : List ℕ) → back_number S T J ≡ 0 → (r : Stepped) (U : Tables) (K Q : List ℕ) (n w : ℕ)
    {V : Tables} → n ≡ min S.links journal_length - 1 → Q ≡ rows_with no_rows (readable S.p (take n J)) → U ≡ V → V ≡ refilled S.p S.k Q T J n
    → w ≡ last_weight (map entry_link (take n J)) → K ≡ set J n 0 → says r.answer ≡ counts 0 → r.state ≡ state S.p S.k U.used w n Q
    → BackMeets S T J r U K
unfolding fewer back_links back_tables back_state back_journal
back_meets S T J z r U K Q n w i q at t v j a f =
    back_accepted S T J r U K z a (f ∙ (λ x. state S.p S.k (made x).used (weight x) (i x) (rows x))) made (j ∙ ap (λ (x : ℕ). set J x 0) i)
  where
    rows : Q ≡ rows_with no_rows (readable S.p (take (min S.links journal_length - 1) J))
    rows = q ∙ ap (λ (x : ℕ). rows_with no_rows (readable S.p (take x J))) i

    made : U ≡ refilled S.p S.k (rows_with no_rows (readable S.p (take (min S.links journal_length - 1) J))) T J (min S.links journal_length - 1)
    made = at ∙ t ∙ (λ x. refilled S.p S.k (rows x) T J (i x))

    weight : w ≡ last_weight (map entry_link (take (min S.links journal_length - 1) J))
    weight = v ∙ ap (λ (x : ℕ). last_weight (map entry_link (take x J))) i
