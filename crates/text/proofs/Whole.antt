-- Both passes together: what reading a text must do. Assumes nothing.
use mathlib.Core.Path.{◌≡◌, refl, sym, ap, ap₂, ◌∙◌}
use mathlib.Core.List.{List, []}
use Prim.Native.Nat.{ℕ, ◌*◌, ◌≤◌}
use native.Mathlib.Omega.{arith}
use lib.Dec.{leb}
use lib.ListN.{length}
use borrow.Author.Tests.{leb-true}
use Rattle.answers.specs.Verdict.{Verdict, accepted, refused, ◌then◌}
use Rattle.answers.proofs.Laws.{accepted_not, then_stop, then_go, then_right, unless_passed, said_count, said_refused}
use Rattle.sets.proofs.Tests.{and_right}
use Rattle.percolation.specs.Ranges.{narrow_count}
use Rattle.link_order.specs.Order.{LinkLists}
use Rattle.sheet.specs.Answers.{holds, faulty}
use Rattle.words.specs.Lines.{lines_of}
use Rattle.std.specs.Prelude.{Ok, Err}
use Rattle.answers.specs.Answers.{Answer, says}
use Rattle.answers.specs.Faults.{number_of as fault_no}
use Rattle.answers.specs.declared.Refusal.{Refusal}
use Rattle.sheet.specs.declared.Counts.{Counts}
use Rattle.text.specs.Reading.{check_text, check_links, check_parts, parts_of, links_after, text_links, text_say, TextMeets}
use Rattle.text.specs.Model.{Held, check_names, PartsMeet, LinksMeet}
use Rattle.text.proofs.Pass1.{with_held, with_room}

then_turn : (u v w : Verdict) → (u then (v then w)) ≡ ((u then v) then w)
unfolding ◌then◌
then_turn accepted v w = refl
then_turn (refused n a) v w = refl

say_fault : (v : Verdict) (text : List ℕ) (n a : ℕ) → v ≡ refused n a → faulty n a ≡ text_say v text
unfolding text_say
say_fault v text n a e = sym (ap (λ (u : Verdict). text_say u text) e)

say_fine : (v : Verdict) (text : List ℕ) → v ≡ accepted → holds (length (parts_of text)) (length (text_links text)) ≡ text_say v text
unfolding text_say
say_fine v text e = sym (ap (λ (u : Verdict). text_say u text) e)

by_passes : (text : List ℕ) (n : ℕ) (t : LinkLists) → check_text text n t ≡ (check_names text n then check_links t (parts_of text) [] (lines_of text))
unfolding check_text check_names
by_passes text n t = then_turn (check_parts n [] (lines_of text)) _ _

abbrev pub counts_of : ℕ → ℕ → Counts
counts_of p m = record { parts = p; links = m }

module _ (text names names2 : List ℕ) (s : Answer) (parts : PartsMeet text names s names2) where
  text_refused : (t t2 : LinkLists) (x : Refusal) → check_text text (length names) t ≡ refused (fault_no x.fault) x.place
      → TextMeets text names t (Err x) names2 t2
  text_refused t t2 x e = record {
    answer = say_fault _ text _ _ e;
    names_left = λ g. accepted_not _ _ (sym e ∙ g);
    links_left = λ g. accepted_not _ _ (sym e ∙ g);
  }

  pub text_stop : (t t2 : LinkLists) (x : Refusal) → s ≡ Err x → TextMeets text names t (Err x) names2 t2
  text_stop t t2 x e =
      text_refused t t2 x (by_passes text (length names) t ∙ then_stop _ _ _ _ (said_refused _ _ _ _ (ap says (sym e) ∙ parts.answer)))

  module _ (p : ℕ) (e : s ≡ Ok p) where
    passed : (check_names text (length names) ≡ accepted) × (p ≡ length (parts_of text))
    passed = said_count _ _ p (ap says (sym e) ∙ parts.answer)

    -- the names stand where pass 2 looks for them
    pub text_held : Held (parts_of text) names2
    text_held = with_held (parts_of text) names names2 (parts.left passed.0) (parts.named passed.0)

    pub text_count : length (parts_of text) ≡ p
    text_count = sym passed.1

    pub text_room : length names2 ≡ length names → (8 * p ≤ length names2) × (p ≤ 64)
    unfolding check_names narrow_count
    text_room k =
        let r = with_room (parts_of text) names names2 (parts.left passed.0) k in
        let g = unless_passed (narrow_count (length (parts_of text))) 4 (length text) (then_right (check_parts (length names) [] (lines_of text)) _ passed.0) in
        (omega (arith, passed.1, r, k), omega (arith, passed.1, leb-true (length (parts_of text)) 64 (and_right (leb 1 (length (parts_of text))) _ g)))

    module _ (t t2 : LinkLists) (u : Answer) (links : LinksMeet text (parts_of text) t u t2) where
      by_links : check_text text (length names) t ≡ check_links t (parts_of text) [] (lines_of text)
      by_links = by_passes text (length names) t ∙ then_go _ _ passed.0

      pub text_stop_2 : (x : Refusal) → u ≡ Err x → TextMeets text names t (Err x) names2 t2
      text_stop_2 x f = text_refused t t2 x (by_links ∙ said_refused _ _ _ _ (ap says (sym f) ∙ links.answer))

      pub text_fine : (m : ℕ) → u ≡ Ok m → TextMeets text names t (Ok (counts_of p m)) names2 t2
      unfolding text_links
      text_fine m f =
          let k = said_count (check_links t (parts_of text) [] (lines_of text)) (length (links_after (parts_of text) [] (lines_of text))) m (ap says (sym f) ∙ links.answer) in
          record {
            answer = ap₂ holds passed.1 k.1 ∙ say_fine _ text (by_links ∙ k.0);
            names_left = λ g. parts.left passed.0;
            links_left = λ g. links.left k.0;
          }
