-- Pass 2: what holds of the links after some lines, and of the answer at its end. Assumes nothing.
use mathlib.Core.Path.{◌≡◌, refl, sym, ap, ap₂, ◌∙◌, subst⁻¹}
use mathlib.Core.Bool.{Bool, true, not, ◌&&◌}
use mathlib.Core.List.{List, [], ◌∷◌, map}
use Prim.Native.Nat.{ℕ, ◌+◌, ◌≤◌}
use native.Mathlib.Omega.{arith}
use lib.Dec.{eqb, ltb}
use lib.ListN.{length, drop, length-append, length-map, length-drop}
use Rattle.answers.specs.Verdict.{Verdict, accepted, refused, ◌then◌, unless}
use Rattle.answers.specs.Answers.{counts}
use Rattle.answers.proofs.Laws.{say_accepted, say_refused, accepted_not, then_right, then_stop, then_go, unless_passed, said_count, said_refused}
use Rattle.percolation.specs.Links.{Link, linked}
use Rattle.sets.specs.Value.{no_rows}
use Rattle.checks.specs.Neighbours.{Neighbours}
use Rattle.checks.proofs.Near.{near_none}
use Rattle.sets.specs.Lists.{insert_by}
use Rattle.sets.proofs.Insertion.{insert_length}
use Rattle.link_order.specs.Order.{LinkLists, precedes, first_links, has_room, with_links, sort_links, put_link}
use Rattle.link_order.proofs.Places.{first_length, room_of, put_yes}
use Rattle.link_order.proofs.Kept.{with_none, put_sorted}
use Rattle.words.specs.Lines.{Line, line, lines_of, words, words_say, Said, silent, part_said, link_said, neither}
use Rattle.std.specs.Prelude.{Ok, Err}
use Rattle.answers.specs.Answers.{Answer, says}
use Rattle.answers.specs.Faults.{number_of as fault_no}
use Rattle.answers.specs.declared.Refusal.{Refusal}
use Rattle.text.specs.Reading.{known, number_of, is_weight, value, link_given, check_link, more_links, check_links, links_after}
use Rattle.text.specs.Model.{took_link, LinkMeets, LinksMeet}

-- lists of the same lengths
pub record Sizes (t u : LinkLists) : Type 0 where
  pub lower : length t.lower ≡ length u.lower
  pub higher : length t.higher ≡ length u.higher
  pub weights : length t.weights ≡ length u.weights

sizes_then : (t u v : LinkLists) → Sizes u t → Sizes t v → Sizes u v
sizes_then t u v g h = record { lower = g.lower ∙ h.lower; higher = g.higher ∙ h.higher; weights = g.weights ∙ h.weights }

room_same : (t u : LinkLists) (m : ℕ) → Sizes t u → has_room t m ≡ has_room u m
unfolding has_room
room_same t u m s =
    ap₂ (λ (a : ℕ) (b : Bool). ltb m a && b) s.lower (ap₂ (λ (a b : ℕ). ltb m a && ltb m b) s.higher s.weights)

check_same : (t u : LinkLists) (N : List (List ℕ)) (L : List Link) (a : ℕ) (s : Said) → Sizes t u → check_link t N L a s ≡ check_link u N L a s
unfolding check_link
check_same t u N L a silent z = refl
check_same t u N L a (part_said x) z = refl
check_same t u N L a (link_said x y w) z =
    ap (λ (b : Bool). unless (known N x) 103 a then unless (known N y) 103 a then unless (not (eqb (number_of N x) (number_of N y))) 6 a
    then unless (is_weight w) 104 a then unless (not (eqb (value w) 0)) 7 a then unless (not (linked L (number_of N x) (number_of N y))) 9 a then unless b 16 0)
    (room_same t u (length L) z)
check_same t u N L a neither z = refl

room_passed : (t : LinkLists) (N : List (List ℕ)) (L : List Link) (a : ℕ) (x y w : List ℕ) → check_link t N L a (link_said x y w) ≡ accepted → has_room t (length L) ≡ true
unfolding check_link
room_passed t N L a x y w e =
    unless_passed (has_room t (length L)) 16 0
    (then_right (unless (not (linked L (number_of N x) (number_of N y))) 9 a) _
    (then_right (unless (not (eqb (value w) 0)) 7 a) _
    (then_right (unless (is_weight w) 104 a) _
    (then_right (unless (not (eqb (number_of N x) (number_of N y))) 6 a) _ (then_right (unless (known N y) 103 a) _ (then_right (unless (known N x) 103 a) _ e))))))

with_sizes : (L : List Link) (t : LinkLists) → length L ≤ length t.lower → length L ≤ length t.higher → length L ≤ length t.weights → Sizes (with_links L t) t
unfolding with_links
with_sizes L t a b c = record {
  lower = omega (arith, length-append (map (λ l. l.low) L) (drop (length L) t.lower), length-map L (λ l. l.low), length-drop (length L) t.lower);
  higher = omega (arith, length-append (map (λ l. l.high) L) (drop (length L) t.higher), length-map L (λ l. l.high), length-drop (length L) t.higher);
  weights = omega (arith, length-append (map (λ l. l.weight) L) (drop (length L) t.weights), length-map L (λ l. l.weight), length-drop (length L) t.weights);
}

put_sizes : (x : Link) (t : LinkLists) (m : ℕ) → has_room t m ≡ true → Sizes (put_link x t m) t
put_sizes x t m e =
    let r = room_of t m e in
    let L = insert_by precedes x (first_links t m) in
    let n : length L ≡ m + 1 = omega (arith, insert_length precedes x (first_links t m), first_length t m) in
    subst⁻¹ (λ (u : LinkLists). Sizes u t) (put_yes x t m e) (with_sizes L t (omega (arith, r.lower)) (omega (arith, r.higher)) (omega (arith, r.weights)))

-- a line that passes leaves lists of the same lengths
took_sizes : (t : LinkLists) (N : List (List ℕ)) (L : List Link) (a : ℕ) (s : Said) → check_link t N L a s ≡ accepted → Sizes (took_link N t (length L) s) t
took_sizes t N L a silent e = record { lower = refl; higher = refl; weights = refl }
took_sizes t N L a (part_said x) e = record { lower = refl; higher = refl; weights = refl }
took_sizes t N L a (link_said x y w) e = put_sizes (link_given N x y w) t (length L) (room_passed t N L a x y w e)
took_sizes t N L a neither e = record { lower = refl; higher = refl; weights = refl }

-- the lists with one line more are those of the links with it
took_with : (t0 t : LinkLists) (N : List (List ℕ)) (L : List Link) (a : ℕ) (s : Said) → Sizes t t0 → check_link t N L a s ≡ accepted → t ≡ with_links (sort_links L) t0
    → took_link N t (length L) s ≡ with_links (sort_links (more_links N L s)) t0
took_with t0 t N L a silent z e h = h
took_with t0 t N L a (part_said x) z e h = h
took_with t0 t N L a (link_said x y w) z e h =
    ap (λ (u : LinkLists). put_link (link_given N x y w) u (length L)) h
    ∙ put_sorted (link_given N x y w) L t0 (sym (room_same t t0 (length L) z) ∙ room_passed t N L a x y w e)
took_with t0 t N L a neither z e h = h

-- ---- the links after some lines; the lines R are to come

pub record LinksSoFar (text : List ℕ) (N : List (List ℕ)) (t0 t : LinkLists) (seen : List ℕ) (m : ℕ) (R : List Line) : Type 0 where
  pub L : List Link
  pub count : length L ≡ m
  pub near : Neighbours L seen
  pub stands : t ≡ with_links (sort_links L) t0
  pub size : Sizes t t0
  pub checks : check_links t0 N [] (lines_of text) ≡ check_links t0 N L R
  pub links : links_after N [] (lines_of text) ≡ links_after N L R

pub links_none : (text : List ℕ) (N : List (List ℕ)) (t : LinkLists) (seen : List ℕ) (R : List Line) → seen ≡ no_rows → R ≡ lines_of text
    → LinksSoFar text N t t seen 0 R
unfolding sort_links
links_none text N t seen R e d = record {
  L = [];
  count = refl;
  near = rw e near_none;
  stands = sym (with_none t);
  size = record { lower = refl; higher = refl; weights = refl };
  checks = ap (check_links t N []) (sym d);
  links = ap (links_after N []) (sym d);
}

module _ (text : List ℕ) (N : List (List ℕ)) (t0 t t2 : LinkLists) (seen seen2 : List ℕ) (m : ℕ) (R R2 : List Line) (at : ℕ) (bytes : List ℕ) (r : Answer)
    (f : LinksSoFar text N t0 t seen m R) (d : R ≡ line at bytes ∷ R2) (k : LinkMeets N f.L at (words_say (words bytes)) t r t2 seen2) where
  abbrev said : Said
  said = words_say (words bytes)

  step_checks : check_links t0 N [] (lines_of text) ≡ (check_link t N f.L at said then check_links t0 N (more_links N f.L said) R2)
  unfolding check_links
  step_checks = f.checks ∙ ap (check_links t0 N f.L) d
      ∙ ap (λ (v : Verdict). v then check_links t0 N (more_links N f.L said) R2) (sym (check_same t t0 N f.L at said f.size))

  step_links : links_after N [] (lines_of text) ≡ links_after N (more_links N f.L said) R2
  unfolding links_after
  step_links = f.links ∙ ap (links_after N f.L) d

  pub links_stop : (x : Refusal) → r ≡ Err x → check_links t0 N [] (lines_of text) ≡ refused (fault_no x.fault) x.place
  links_stop x g = step_checks ∙ then_stop _ _ _ _ (said_refused _ _ _ _ (ap says (sym g) ∙ k.answer))

  pub links_more : (q : ℕ) → r ≡ Ok q → LinksSoFar text N t0 t2 seen2 q R2
  links_more q g =
      let told = said_count (check_link t N f.L at said) (length (more_links N f.L said)) q (ap says (sym g) ∙ k.answer) in
      let M = more_links N f.L said in
      record {
        L = M;
        count = sym told.1;
        near = k.rows told.0;
        stands = k.lists told.0 ∙ took_with t0 t N f.L at said f.size told.0 f.stands;
        size = sizes_then t t2 t0 (subst⁻¹ (λ (u : LinkLists). Sizes u t) (k.lists told.0) (took_sizes t N f.L at said told.0)) f.size;
        checks = step_checks ∙ then_go _ _ told.0;
        links = step_links;
      }

-- ---- the end

pub links_refused : (text : List ℕ) (N : List (List ℕ)) (t t2 : LinkLists) (x : Refusal)
    → check_links t N [] (lines_of text) ≡ refused (fault_no x.fault) x.place → LinksMeet text N t (Err x) t2
links_refused text N t t2 x e = record {
  answer = sym (say_refused _ _ _ _ e);
  left = λ g. accepted_not _ _ (sym e ∙ g);
}

module _ (text : List ℕ) (N : List (List ℕ)) (t0 t : LinkLists) (seen : List ℕ) (m : ℕ) (R : List Line)
    (f : LinksSoFar text N t0 t seen m R) (l : R ≡ []) where
  end_checks : check_links t0 N [] (lines_of text) ≡ accepted
  unfolding check_links
  end_checks = f.checks ∙ ap (check_links t0 N f.L) l

  end_links : links_after N [] (lines_of text) ≡ f.L
  unfolding links_after
  end_links = f.links ∙ ap (links_after N f.L) l

  pub links_fine : LinksMeet text N t0 (Ok m) t
  links_fine = record {
    answer = ap counts (sym f.count ∙ ap length (sym end_links)) ∙ sym (say_accepted _ _ end_checks);
    left = λ g. f.stands ∙ ap (λ (M : List Link). with_links (sort_links M) t0) (sym end_links);
  }
