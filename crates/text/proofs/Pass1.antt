-- Pass 1: what holds of the names after some lines, and of the answer at its end. Assumes nothing.
use mathlib.Core.Path.{◌≡◌, refl, sym, ap, ◌∙◌}
use mathlib.Core.Bool.{Bool, true, not, ◌&&◌}
use mathlib.Core.List.{List, [], ◌∷◌, ◌++◌}
use Prim.Native.Nat.{ℕ, zero, suc, ◌+◌, ◌*◌, ◌-◌, ◌≤◌}
use native.Mathlib.Omega.{arith}
use lib.Dec.{eqb, leb}
use lib.ListN.{length, take, drop, length-append}
use lib.Seq.{take_at, drop_at, drop-drop}
use borrow.Author.Tests.{le-leb, leb-true, ne_eqb}
use Rattle.answers.specs.Verdict.{accepted, refused, ◌then◌, unless}
use Rattle.answers.specs.Answers.{counts}
use Rattle.answers.proofs.Laws.{say_accepted, say_refused, accepted_not, then_left, then_right, then_stop, then_go, unless_passed, said_count, said_refused}
use Rattle.sets.specs.Lists.{all}
use Rattle.sets.proofs.ListLaws.{all_more}
use Rattle.sets.proofs.Tests.{and_intro, and_right}
use Rattle.percolation.specs.Ranges.{narrow_count}
use Rattle.words.specs.Lines.{Line, line, lines_of, words, words_say, Said, silent, part_said, link_said, neither}
use Rattle.std.specs.Prelude.{Ok, Err}
use Rattle.answers.specs.Answers.{Answer, says}
use Rattle.answers.specs.Faults.{number_of as fault_no}
use Rattle.answers.specs.declared.Refusal.{Refusal}
use Rattle.text.specs.Reading.{is_name, name_bytes, check_part, more_parts, check_parts, parts_after, parts_of}
use Rattle.text.specs.Model.{Held, with_names, PartMeets, check_names, PartsMeet}
use Rattle.text.proofs.Names.{bytes_length}

-- ---- names written over names

with_again : (N M : List (List ℕ)) (names : List ℕ) → length N ≤ length M → with_names M (with_names N names) ≡ with_names M names
with_again N M names h =
    ap (λ (l : List ℕ). name_bytes M ++ l)
    (ap (λ (i : ℕ). drop i (with_names N names)) (sym past) ∙ sym (drop-drop (8 * length M - 8 * length N) (8 * length N) (with_names N names))
    ∙ ap (drop (8 * length M - 8 * length N)) (drop_at (name_bytes N) (drop (8 * length N) names) (8 * length N) (bytes_length N))
    ∙ drop-drop (8 * length M - 8 * length N) (8 * length N) names ∙ ap (λ (i : ℕ). drop i names) past)
  where
    past : 8 * length N + (8 * length M - 8 * length N) ≡ 8 * length M
    past = omega arith

-- names that the list has room for
pub with_room : (N : List (List ℕ)) (names names2 : List ℕ) → names2 ≡ with_names N names → length names2 ≡ length names → 8 * length N ≤ length names
with_room N names names2 e l = omega (arith, ap length e, length-append (name_bytes N) (drop (8 * length N) names), bytes_length N)

pub with_held : (N : List (List ℕ)) (names names2 : List ℕ) → names2 ≡ with_names N names → all is_name N ≡ true → Held N names2
with_held N names names2 e h = record {
  stand = ap (take (8 * length N)) e ∙ take_at (name_bytes N) (drop (8 * length N) names) (8 * length N) (bytes_length N);
  named = h;
}

-- ---- one line

more_length : (N : List (List ℕ)) (s : Said) → length N ≤ length (more_parts N s)
more_length N silent = omega arith
more_length N (part_said x) = omega (arith, length-append N (x ∷ []))
more_length N (link_said x y w) = omega arith
more_length N neither = omega arith

pub more_named : (n : ℕ) (N : List (List ℕ)) (a : ℕ) (s : Said) → check_part n N a s ≡ accepted → all is_name N ≡ true → all is_name (more_parts N s) ≡ true
unfolding check_part
more_named n N a silent e h = h
more_named n N a (part_said x) e h =
    all_more is_name N x ∙ and_intro (all is_name N) (is_name x) h (unless_passed (is_name x) 5 a (then_left (unless (is_name x) 5 a) _ e))
more_named n N a (link_said x y w) e h = h
more_named n N a neither e h = h

more_few : (n : ℕ) (N : List (List ℕ)) (a : ℕ) (s : Said) → check_part n N a s ≡ accepted → length N ≤ 64 → length (more_parts N s) ≤ 64
unfolding check_part narrow_count
more_few n N a silent e h = h
more_few n N a (part_said x) e h =
    let g = unless_passed (narrow_count (suc (length N))) 4 a (then_left _ _ (then_right (unless (is_name x) 5 a) _ e)) in
    omega (arith, length-append N (x ∷ []), leb-true (suc (length N)) 64 (and_right (leb 1 (suc (length N))) _ g))
more_few n N a (link_said x y w) e h = h
more_few n N a neither e h = h

-- ---- the names after some lines; the lines R are to come

pub record PartsSoFar (text names0 names : List ℕ) (p : ℕ) (R : List Line) : Type 0 where
  pub N : List (List ℕ)
  pub count : length N ≡ p
  pub room : 8 * p ≤ length names
  pub few : p ≤ 64
  pub size : length names ≡ length names0
  pub stands : names ≡ with_names N names0
  pub named : all is_name N ≡ true
  pub checks : check_parts (length names0) [] (lines_of text) ≡ check_parts (length names0) N R
  pub parts : parts_of text ≡ parts_after N R

pub parts_none : (text names : List ℕ) (R : List Line) → R ≡ lines_of text → PartsSoFar text names names 0 R
unfolding name_bytes all parts_of
parts_none text names R e = record {
  N = [];
  count = refl;
  room = omega arith;
  few = omega arith;
  size = refl;
  stands = refl;
  named = refl;
  checks = ap (check_parts (length names) []) (sym e);
  parts = ap (parts_after []) (sym e);
}

pub parts_held : (text names0 names : List ℕ) (p : ℕ) (R : List Line) (f : PartsSoFar text names0 names p R) → Held f.N names
parts_held text names0 names p R f = with_held f.N names0 names f.stands f.named

module _ (text names0 names names2 : List ℕ) (p : ℕ) (R R2 : List Line) (at : ℕ) (bytes : List ℕ) (r : Answer) (f : PartsSoFar text names0 names p R)
    (d : R ≡ line at bytes ∷ R2) (m : PartMeets f.N at (words_say (words bytes)) names r names2) where
  abbrev said : Said
  said = words_say (words bytes)

  step_checks : check_parts (length names0) [] (lines_of text) ≡ (check_part (length names) f.N at said then check_parts (length names0) (more_parts f.N said) R2)
  unfolding check_parts
  step_checks = f.checks ∙ ap (check_parts (length names0) f.N) d
      ∙ ap (λ (n : ℕ). check_part n f.N at said then check_parts (length names0) (more_parts f.N said) R2) (sym f.size)

  step_parts : parts_of text ≡ parts_after (more_parts f.N said) R2
  unfolding parts_after
  step_parts = f.parts ∙ ap (parts_after f.N) d

  pub parts_stop : (x : Refusal) → r ≡ Err x → check_parts (length names0) [] (lines_of text) ≡ refused (fault_no x.fault) x.place
  parts_stop x g = step_checks ∙ then_stop _ _ _ _ (said_refused _ _ _ _ (ap says (sym g) ∙ m.answer))

  pub parts_more : (q : ℕ) → r ≡ Ok q → length names2 ≡ length names → PartsSoFar text names0 names2 q R2
  parts_more q g k =
      let told = said_count (check_part (length names) f.N at said) (length (more_parts f.N said)) q (ap says (sym g) ∙ m.answer) in
      let M = more_parts f.N said in
      let fits = with_room M names names2 (m.left told.0) k in
      record {
        N = M;
        count = sym told.1;
        room = omega (arith, told.1, fits, k);
        few = omega (arith, told.1, more_few (length names) f.N at said told.0 (omega (arith, f.count, f.few)));
        size = k ∙ f.size;
        stands = m.left told.0 ∙ ap (with_names M) f.stands ∙ with_again f.N M names0 (more_length f.N said);
        named = more_named (length names) f.N at said told.0 f.named;
        checks = step_checks ∙ then_go _ _ told.0;
        parts = step_parts;
      }

-- ---- the end

module _ (text names0 names : List ℕ) where
  pub parts_refused : (x : Refusal) → check_parts (length names0) [] (lines_of text) ≡ refused (fault_no x.fault) x.place → PartsMeet text names0 (Err x) names
  unfolding check_names
  parts_refused x e =
      let v : check_names text (length names0) ≡ refused (fault_no x.fault) x.place = then_stop _ _ _ _ e in
      record {
        answer = sym (say_refused _ _ _ _ v);
        left = λ g. accepted_not _ _ (sym v ∙ g);
        named = λ g. accepted_not _ _ (sym v ∙ g);
      }

  module _ (p : ℕ) (R : List Line) (f : PartsSoFar text names0 names p R) (l : R ≡ []) where
    end_checks : check_parts (length names0) [] (lines_of text) ≡ accepted
    unfolding check_parts
    end_checks = f.checks ∙ ap (check_parts (length names0) f.N) l

    end_parts : parts_of text ≡ f.N
    unfolding parts_after
    end_parts = f.parts ∙ ap (parts_after f.N) l

    end_check : check_names text (length names0) ≡ unless (narrow_count p) 4 (length text)
    unfolding check_names
    end_check = then_go _ _ end_checks ∙ ap (λ (n : ℕ). unless (narrow_count n) 4 (length text)) (ap length end_parts ∙ f.count)

    -- of no more than 64 parts the count is narrow unless it is 0
    some_parts : narrow_count p ≡ not (eqb p 0)
    unfolding narrow_count
    some_parts = pick p (le-leb p 64 f.few)
      where
        pick : (n : ℕ) → leb n 64 ≡ true → leb 1 n && leb n 64 ≡ not (eqb n 0)
        pick zero e = refl
        pick (suc n) e = rw (e, le-leb 1 (suc n) (omega arith), ne_eqb (suc n) 0 (λ q. omega arith)) refl

    pub parts_empty : (x : Refusal) → refused (fault_no x.fault) x.place ≡ unless (not (eqb p 0)) 4 (length text) → PartsMeet text names0 (Err x) names
    parts_empty x e =
        let v : check_names text (length names0) ≡ refused (fault_no x.fault) x.place = end_check
        ∙ ap (λ (b : Bool). unless b 4 (length text)) some_parts ∙ sym e in
        record {
          answer = sym (say_refused _ _ _ _ v);
          left = λ g. accepted_not _ _ (sym v ∙ g);
          named = λ g. accepted_not _ _ (sym v ∙ g);
        }

    pub parts_fine : accepted ≡ unless (not (eqb p 0)) 4 (length text) → PartsMeet text names0 (Ok p) names
    parts_fine e =
        let v : check_names text (length names0) ≡ accepted = end_check ∙ ap (λ (b : Bool). unless b 4 (length text)) some_parts ∙ sym e in
        record {
          answer = ap counts (sym f.count ∙ ap length (sym end_parts)) ∙ sym (say_accepted _ _ v);
          left = λ h. f.stands ∙ ap (λ (M : List (List ℕ)). with_names M names0) (sym end_parts);
          named = λ h. ap (all is_name) end_parts ∙ f.named;
        }
