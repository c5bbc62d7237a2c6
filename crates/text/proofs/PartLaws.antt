-- A line of pass 1: its checks case by case, and the names with one more. Assumes nothing.
use mathlib.Core.Path.{◌≡◌, refl, sym, ap, ap₂, ◌∙◌, subst}
use mathlib.Core.Bool.{Bool, true, false, cond, not, ◌||◌}
use mathlib.Core.List.{List, [], ◌∷◌, ◌++◌, append_assoc}
use mathlib.Core.Logic.{◌⊎◌, inl, inr}
use Prim.Native.Nat.{ℕ, suc, ◌+◌, ◌*◌, ◌<◌, ◌≤◌}
use native.Mathlib.Omega.{arith}
use lib.Dec.{leb, ltb}
use lib.ListN.{length, take, drop, length-append, length-drop, take-append-drop}
use lib.Seq.{drop-drop, length-take-le}
use borrow.Author.Tests.{lt-ltb, le-ltb, ne_eqb}
use Rattle.answers.specs.Verdict.{Verdict, accepted, refused, ◌then◌, unless}
use Rattle.answers.specs.Answers.{counts}
use Rattle.answers.proofs.Laws.{say_accepted, say_refused, accepted_not, unless_passed}
use Rattle.sets.specs.Lists.{any, all, same}
use Rattle.sets.proofs.ListLaws.{same_self, same_of}
use Rattle.sets.proofs.Tests.{iff, split, and_right, lt_or_le}
use Rattle.percolation.specs.Ranges.{in_range, narrow_count}
use Rattle.part_names.specs.Names.{visible}
use Rattle.part_names.proofs.Form.{visible_range}
use Rattle.words.specs.declared.Form.{Form}
use Rattle.words.specs.Lines.{blank, words_say, Said, silent, part_said, link_said, neither, formed}
use Rattle.std.specs.Prelude.{Option, Some, None, Ok, Err, is_some}
use Rattle.answers.specs.Faults.{number_of as fault_no}
use Rattle.answers.specs.declared.Refusal.{Refusal}
use Rattle.answers.specs.declared.fault.Fault.{Fault}
use Rattle.answers.specs.declared.fault.Fault.TheVariants.{LineForm}
use Rattle.text.specs.Reading.{is_name, padded, name_bytes, number_of, known, check_part, more_parts}
use Rattle.text.specs.Model.{Held, found, PartMeets, with_names}
use Rattle.text.proofs.Bytes.{all_sub}
use Rattle.text.proofs.Names.{bytes_more}

-- a name has no blank
pub name_unblank : (x : List ℕ) → is_name x ≡ true → all (λ b. not (blank b)) x ≡ true
unfolding is_name blank
name_unblank x e = all_sub visible (λ b. not (blank b)) x each (and_right (in_range 1 8 (length x)) (all visible x) e)
  where
    each : (b : ℕ) → visible b ≡ true → not (blank b) ≡ true
    each b h =
        let g : 33 ≤ b = (visible_range b h).0 in
        rw (ne_eqb b 32 (λ q. omega arith), ne_eqb b 9 (λ q. omega arith), ne_eqb b 13 (λ q. omega arith)) refl

-- ---- a name that was given before

same_turn : (x y : List ℕ) → same x y ≡ same y x
same_turn x y = iff (same x y) (same y x) (λ e. ap (λ (z : List ℕ). same z x) (sym (same_of x y e)) ∙ same_self x) (λ e. ap (λ (z : List ℕ). same z y) (sym (same_of y x e)) ∙ same_self y)

pub number_given : (N : List (List ℕ)) (x : List ℕ) → number_of N x < length N → any (same x) N ≡ true
unfolding number_of any
number_given [] x h = absurd (omega arith)
number_given (y ∷ N) x h = pick (split (same y x)) (number_given N x)
  where
    pick : (same y x ≡ true) ⊎ (same y x ≡ false) → (number_of N x < length N → any (same x) N ≡ true) → (same x y || any (same x) N) ≡ true
    pick (inl e) rest = rw (same_turn x y, e) refl
    pick (inr e) rest = rw (same_turn x y, e) (rest (omega (arith, rw (number_of, e) at h)))

pub number_fresh : (N : List (List ℕ)) (x : List ℕ) → length N ≤ number_of N x → any (same x) N ≡ false
unfolding number_of any
number_fresh [] x h = refl
number_fresh (y ∷ N) x h = pick (split (same y x)) (number_fresh N x)
  where
    pick : (same y x ≡ true) ⊎ (same y x ≡ false) → (length N ≤ number_of N x → any (same x) N ≡ false) → (same x y || any (same x) N) ≡ false
    pick (inl e) rest = absurd (omega (arith, rw (number_of, e) at h))
    pick (inr e) rest = rw (same_turn x y, e) (rest (omega (arith, rw (number_of, e) at h)))

pub found_none : (N : List (List ℕ)) (x : List ℕ) → not (is_some (found N x)) ≡ not (any (same x) N)
unfolding found known
found_none N x = pick (lt_or_le (number_of N x) (length N))
  where
    pick : (number_of N x < length N) ⊎ (length N ≤ number_of N x)
        → not (is_some (cond (ltb (number_of N x) (length N)) (Some (number_of N x)) None)) ≡ not (any (same x) N)
    pick (inl h) = rw (lt-ltb (number_of N x) (length N) h) (ap not (sym (number_given N x h)))
    pick (inr h) = rw (le-ltb (number_of N x) (length N) h) (ap not (sym (number_fresh N x h)))

-- a name that none of the parts has
pub is_new : (N : List (List ℕ)) (x : List ℕ) (o : Option ℕ) (r : Bool) → is_some o ≡ not r → o ≡ found N x → r ≡ not (any (same x) N)
is_new N x o r e f = turn r (is_some (found N x)) (sym (ap is_some f) ∙ e) ∙ found_none N x
  where
    turn : (a b : Bool) → b ≡ not a → a ≡ not b
    turn true b e = sym (ap not e)
    turn false b e = sym (ap not e)

-- ---- the checks of a part line

-- what comes behind a check turns only on its being passed
pub then_same : (u v w : Verdict) → (u ≡ accepted → v ≡ w) → (u then v) ≡ (u then w)
unfolding ◌then◌
then_same accepted v w h = h refl
then_same (refused n a) v w h = refl

pub part_5 : (N : List (List ℕ)) (a n : ℕ) (x : List ℕ) (i : Bool) → i ≡ is_name x
    → check_part n N a (part_said x) ≡ (unless i 5 a then unless (narrow_count (suc (length N))) 4 a then unless (not (any (same x) N)) 102 a then unless (leb (8 * suc (length N)) n) 16 0)
unfolding check_part
part_5 N a n x i e =
    ap (λ (b : Bool). unless b 5 a then unless (narrow_count (suc (length N))) 4 a then unless (not (any (same x) N)) 102 a then unless (leb (8 * suc (length N)) n) 16 0) (sym e)

pub part_4 : (N : List (List ℕ)) (a p n : ℕ) (x : List ℕ) (i k : Bool) → length N ≡ p → i ≡ is_name x → k ≡ narrow_count (p + 1)
    → check_part n N a (part_said x) ≡ (unless i 5 a then unless k 4 a then unless (not (any (same x) N)) 102 a then unless (leb (8 * suc (length N)) n) 16 0)
part_4 N a p n x i k l e f =
    part_5 N a n x i e
    ∙ ap (λ (b : Bool). unless i 5 a then unless b 4 a then unless (not (any (same x) N)) 102 a then unless (leb (8 * suc (length N)) n) 16 0)
    (ap narrow_count (let g : suc (length N) ≡ p + 1 = omega arith in g) ∙ sym f)

-- as the code makes them: i, k and r are what it found of the name, of the count and of the names before
module _ (N : List (List ℕ)) (a p n : ℕ) (x : List ℕ) (i k r : Bool) (count : length N ≡ p) (named : i ≡ is_name x) (few : k ≡ narrow_count (p + 1))
    (new : all (λ b. not (blank b)) x ≡ true → r ≡ not (any (same x) N)) where
  fourth : unless (narrow_count (suc (length N))) 4 a ≡ unless k 4 a
  fourth = ap (λ (m : ℕ). unless (narrow_count m) 4 a) (let e : suc (length N) ≡ p + 1 = omega arith in e) ∙ ap (λ (b : Bool). unless b 4 a) (sym few)

  again : unless (is_name x) 5 a ≡ accepted → unless (not (any (same x) N)) 102 a ≡ unless r 102 a
  again e =
      ap (λ (b : Bool). unless b 102 a) (sym (new (name_unblank x (unless_passed (is_name x) 5 a e))))

  room : unless (leb (8 * suc (length N)) n) 16 0 ≡ unless (leb (8 * p + 8) n) 16 0
  room = ap (λ (m : ℕ). unless (leb m n) 16 0) (let e : 8 * suc (length N) ≡ 8 * p + 8 = omega arith in e)

  pub part_check : check_part n N a (part_said x) ≡ (unless i 5 a then unless k 4 a then unless r 102 a then unless (leb (8 * p + 8) n) 16 0)
  unfolding check_part
  part_check =
      then_same (unless (is_name x) 5 a) _ _ (λ e. ap₂ ◌then◌ fourth (ap₂ ◌then◌ (again e) room))
      ∙ ap (λ (b : Bool). unless b 5 a then unless k 4 a then unless r 102 a then unless (leb (8 * p + 8) n) 16 0) (sym named)

-- ---- what a line must do

abbrev pub refusal : Fault → ℕ → Refusal
refusal f a = record { fault = f; place = a }

pub part_refused : (N : List (List ℕ)) (a : ℕ) (s : Said) (names names2 : List ℕ) (r : Refusal)
    → check_part (length names) N a s ≡ refused (fault_no r.fault) r.place
    → PartMeets N a s names (Err r) names2
part_refused N a s names names2 r e = record {
  answer = sym (say_refused _ _ _ _ e);
  left = λ f. accepted_not _ _ (sym e ∙ f);
}

pub part_taken : (N : List (List ℕ)) (a : ℕ) (s : Said) (names names2 : List ℕ) (q : ℕ) → check_part (length names) N a s ≡ accepted
    → q ≡ length (more_parts N s) → names2 ≡ with_names (more_parts N s) names → PartMeets N a s names (Ok q) names2
part_taken N a s names names2 q e l h = record {
  answer = ap counts l ∙ sym (say_accepted _ _ e);
  left = λ f. h;
}

-- lines that name no part leave the names
pub held_all : (N : List (List ℕ)) (names : List ℕ) → Held N names → names ≡ with_names N names
held_all N names h = sym (take-append-drop (8 * length N) names) ∙ ap (λ (l : List ℕ). l ++ drop (8 * length N) names) h.stand

-- one name more behind the others
pub names_more : (N : List (List ℕ)) (x names : List ℕ) → Held N names
    → take (8 * length N) names ++ (padded 8 x ++ drop 8 (drop (8 * length N) names)) ≡ with_names (N ++ (x ∷ [])) names
names_more N x names h =
    ap (λ (l : List ℕ). l ++ (padded 8 x ++ drop 8 (drop (8 * length N) names))) h.stand
    ∙ sym (append_assoc (name_bytes N) (padded 8 x) (drop 8 (drop (8 * length N) names)))
    ∙ ap₂ ◌++◌ (sym (bytes_more N x)) (drop-drop 8 (8 * length N) names ∙ ap (λ (i : ℕ). drop i names) past)
  where
    past : 8 * length N + 8 ≡ 8 * length (N ++ (x ∷ []))
    past = omega (arith, length-append N (x ∷ []))

-- the slot of part p, written over
pub slot_written : (N : List (List ℕ)) (x names slot : List ℕ) (p k : ℕ) → Held N names → length N ≡ p → k ≡ 8 → 8 * p + 8 ≤ length names
    → slot ≡ padded (length (take k (drop (8 * p) names))) x → take (8 * p) names ++ (slot ++ drop k (drop (8 * p) names)) ≡ with_names (N ++ (x ∷ [])) names
slot_written N x names slot p k h l e f g =
    ap₂ (λ (i j : ℕ). take (8 * i) names ++ (slot ++ drop j (drop (8 * i) names))) (sym l) e
    ∙ ap (λ (s : List ℕ). take (8 * length N) names ++ (s ++ drop 8 (drop (8 * length N) names))) (g ∙ ap (λ (i : ℕ). padded i x) size)
    ∙ names_more N x names h
  where
    size : length (take k (drop (8 * p) names)) ≡ 8
    size = omega (arith, e, length-take-le k (drop (8 * p) names) (omega (arith, length-drop (8 * p) names)))

-- ---- a line by its form

pub form_said : (ws : List (List ℕ)) (f g : Form) → f ≡ g → formed f ws ≡ words_say ws → formed g ws ≡ words_say ws
form_said ws f g e h = ap (λ (x : Form). formed x ws) (sym e) ∙ h

module _ (N : List (List ℕ)) (a : ℕ) (s : Said) (names names2 : List ℕ) where
  pub line_101 : neither ≡ s → PartMeets N a s names (Err (refusal LineForm a)) names2
  unfolding check_part
  line_101 e = subst (λ (x : Said). PartMeets N a x names (Err (refusal LineForm a)) names2) e (part_refused N a neither names names2 (refusal LineForm a) refl)

  pub line_silent : (p : ℕ) → silent ≡ s → Held N names → length N ≡ p → names2 ≡ names → PartMeets N a s names (Ok p) names2
  unfolding check_part
  line_silent p e h l g =
      subst (λ (z : Said). PartMeets N a z names (Ok p) names2) e (part_taken N a silent names names2 p refl (sym l) (g ∙ held_all N names h))

  pub line_link : (p : ℕ) (x y w : List ℕ) → link_said x y w ≡ s → Held N names → length N ≡ p → names2 ≡ names → PartMeets N a s names (Ok p) names2
  unfolding check_part
  line_link p x y w e h l g =
      subst (λ (z : Said). PartMeets N a z names (Ok p) names2) e (part_taken N a (link_said x y w) names names2 p refl (sym l) (g ∙ held_all N names h))
