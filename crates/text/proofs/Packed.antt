-- What an accepted text leaves is a network that the writer of sheets accepts. Assumes nothing.
use mathlib.Core.Path.{◌≡◌, refl, sym, ap, ap₂, ◌∙◌}
use mathlib.Core.Bool.{Bool, true, false, not, ◌&&◌}
use mathlib.Core.List.{List, [], ◌∷◌, ◌++◌, map, append-nil}
use Prim.Native.Nat.{ℕ, zero, suc, ◌*◌, ◌%◌, ◌<◌, min, max}
use native.Mathlib.Omega.{arith}
use lib.Dec.{eqb, leb, ltb}
use lib.ListN.{length, get_or, take, drop, length-map}
use lib.Seq.{ext_get_or, take_at}
use borrow.Author.Tests.{ltb-true, lt-ltb, le-leb, eqb-false, eq-eqb, not-true}
use Rattle.answers.specs.Verdict.{Verdict, accepted, refused, unless}
use Rattle.answers.proofs.Laws.{then_left, then_right, unless_passed}
use Rattle.sets.specs.Lists.{any, all, each_two, same}
use Rattle.sets.proofs.ListLaws.{all_at, any_none, all_more, each_two_more, each_two_places, map_at, same_self}
use Rattle.sets.proofs.Tests.{never, and_intro, and_left, and_right}
use Rattle.percolation.specs.Ranges.{in_range, narrow_count}
use Rattle.percolation.specs.Links.{Link, link, joins, linked}
use Rattle.percolation.specs.Steps.{good_parts, legal}
use Rattle.percolation.proofs.Accepted.{joins_turn}
use Rattle.link_order.specs.Order.{LinkLists, with_links, sort_links}
use Rattle.link_order.proofs.Sorted.{sort_legal, sort_length}
use Rattle.part_names.specs.Names as field
use Rattle.part_names.proofs.Form.{all_names}
use Rattle.sheet.specs.Sheet.{list_of}
use Rattle.sheet.specs.Answers.{holds, sheet_says}
use Rattle.sheet.specs.Network.{Network, network}
use Rattle.sheet.proofs.Lists.{list_of_length, list_of_at}
use Rattle.sheet_writer.specs.Writing as net
use Rattle.sheet_writer.proofs.Sound.{network_passes}
use Rattle.words.specs.Lines.{Line, lines_of, line_says, Said, silent, part_said, link_said, neither}
use Rattle.std.specs.Prelude.{Result, Ok}
use Rattle.answers.specs.declared.Refusal.{Refusal}
use Rattle.sheet.specs.declared.Counts.{Counts}
use Rattle.text.specs.Reading.{is_name, padded, name_bytes, check_part, more_parts, check_parts, parts_after, parts_of, known, number_of, is_weight, value, link_given, check_link, more_links, check_links, links_after, text_links, check_text, text_say, TextMeets}
use Rattle.text.proofs.Names.{bytes_length, bytes_at_lem, held_name, padded_once}
use Rattle.text.proofs.Pass1.{more_named}
use Rattle.text.proofs.LinkLaws.{linked_ends}

-- ---- names

-- what every line that passes keeps
after_parts : (P : List (List ℕ) → Type 0) (n : ℕ) → ((N : List (List ℕ)) (a : ℕ) (s : Said) → check_part n N a s ≡ accepted → P N → P (more_parts N s))
    → (N : List (List ℕ)) (ls : List Line) → P N → check_parts n N ls ≡ accepted → P (parts_after N ls)
unfolding check_parts parts_after
after_parts P n more N [] h e = h
after_parts P n more N (l ∷ ls) h e =
    let s = line_says l in
    after_parts P n more (more_parts N s) ls (more N l.place s (then_left (check_part n N l.place s) _ e) h) (then_right (check_part n N l.place s) _ e)

-- no name is given twice
abbrev other : List ℕ → List ℕ → Bool
other m x = not (same x m)

more_once : (n : ℕ) (N : List (List ℕ)) (a : ℕ) (s : Said) → check_part n N a s ≡ accepted → each_two other N ≡ true → each_two other (more_parts N s) ≡ true
unfolding check_part
more_once n N a silent e h = h
more_once n N a (part_said x) e h =
    let e2 = then_right (unless (is_name x) 5 a) _ e in
    let e3 = then_right (unless (narrow_count (suc (length N))) 4 a) _ e2 in
    let new = not-true (any (same x) N) (unless_passed (not (any (same x) N)) 102 a (then_left (unless (not (any (same x) N)) 102 a) _ e3)) in
    each_two_more other N x ∙ and_intro (each_two other N) _ h (all_at (λ m. other m x) N (λ m i. ap not (any_none (same x) N new i)))
more_once n N a (link_said x y w) e h = h
more_once n N a neither e h = h

spaces_form : (n : ℕ) → field.spaces (padded n []) ≡ true
unfolding field.spaces padded
spaces_form zero = refl
spaces_form (suc n) = spaces_form n

rest_form : (n : ℕ) (x : List ℕ) → all field.visible x ≡ true → field.visible_then_spaces (padded n x) ≡ true
unfolding field.visible_then_spaces field.visible field.spaces padded all
rest_form zero x h = refl
rest_form (suc n) [] h = spaces_form n
rest_form (suc n) (b ∷ x) h = rw (and_left (field.visible b) _ h) (rest_form n x (and_right (field.visible b) _ h))

-- a name, padded, has the form of a sheet's name
pub padded_form : (x : List ℕ) → is_name x ≡ true → field.is_name (padded 8 x) ≡ true
unfolding is_name all field.is_name field.visible padded
padded_form [] h = h
padded_form (b ∷ x) h =
    let e = and_right (in_range 1 8 (length (b ∷ x))) (all field.visible (b ∷ x)) h in
    and_intro (field.visible b) _ (and_left (field.visible b) _ e) (rest_form 7 x (and_right (field.visible b) _ e))

-- ---- links

abbrev fits : ℕ → Link → Bool
fits p l = good_parts p l && leb 1 l.weight

abbrev apart : Link → Link → Bool
apart l m = not (joins l.low l.high m)

-- links that pass 6, 7 and 9
record Good (p : ℕ) (L : List Link) : Type 0 where
  fit : all (fits p) L ≡ true
  once : each_two apart L ≡ true

good_none : (p : ℕ) → Good p []
unfolding all each_two
good_none p = record { fit = refl; once = refl }

good_more : (p : ℕ) (L : List Link) (l : Link) → Good p L → fits p l ≡ true → linked L l.low l.high ≡ false → Good p (L ++ (l ∷ []))
unfolding linked
good_more p L l g f n = record {
  fit = all_more (fits p) L l ∙ and_intro (all (fits p) L) (fits p l) g.fit f;
  once = each_two_more apart L l ∙ and_intro (each_two apart L) _ g.once (all_at (λ m. apart m l) L (λ m i. ap not (joins_turn m l ∙ any_none (joins l.low l.high) L n i)));
}

module _ (t : LinkLists) (N : List (List ℕ)) where
  good_given : (L : List Link) (a : ℕ) (x y w : List ℕ) → check_link t N L a (link_said x y w) ≡ accepted → Good (length N) L → Good (length N) (L ++ (link_given N x y w ∷ []))
  unfolding check_link known link_given good_parts
  good_given L a x y w e g =
      let e2 = then_right (unless (known N x) 103 a) _ e in
      let e3 = then_right (unless (known N y) 103 a) _ e2 in
      let e4 = then_right (unless (not (eqb (number_of N x) (number_of N y))) 6 a) _ e3 in
      let e5 = then_right (unless (is_weight w) 104 a) _ e4 in
      let e6 = then_right (unless (not (eqb (value w) 0)) 7 a) _ e5 in
      let hx : number_of N x < length N = ltb-true (number_of N x) (length N) (unless_passed (known N x) 103 a (then_left _ _ e)) in
      let hy : number_of N y < length N = ltb-true (number_of N y) (length N) (unless_passed (known N y) 103 a (then_left _ _ e2)) in
      let ne = eqb-false (number_of N x) (number_of N y) (not-true _ (unless_passed (not (eqb (number_of N x) (number_of N y))) 6 a (then_left _ _ e3))) in
      let nz = eqb-false (value w) 0 (not-true _ (unless_passed (not (eqb (value w) 0)) 7 a (then_left _ _ e5))) in
      let nl = not-true (linked L (number_of N x) (number_of N y)) (unless_passed _ 9 a (then_left _ _ e6)) in
      let lo = min (number_of N x) (number_of N y) in
      let hi = max (number_of N x) (number_of N y) in
      good_more (length N) L (link_given N x y w) g
      (and_intro (good_parts (length N) (link_given N x y w)) _
      (and_intro (ltb lo (length N)) _ (lt-ltb lo (length N) (omega arith)) (and_intro (ltb hi (length N)) _ (lt-ltb hi (length N) (omega arith)) (lt-ltb lo hi (omega arith))))
      (le-leb 1 (value w) (omega arith)))
      (linked_ends L (number_of N x) (number_of N y) ∙ nl)

  good_line : (L : List Link) (a : ℕ) (s : Said) → check_link t N L a s ≡ accepted → Good (length N) L → Good (length N) (more_links N L s)
  good_line L a silent e g = g
  good_line L a (part_said x) e g = g
  good_line L a (link_said x y w) e g = good_given L a x y w e g
  good_line L a neither e g = g

  good_lines_lem : (L : List Link) (ls : List Line) → check_links t N L ls ≡ accepted → Good (length N) L → Good (length N) (links_after N L ls)
  unfolding check_links links_after
  good_lines_lem L [] e g = g
  good_lines_lem L (l ∷ ls) e g =
      let s = line_says l in
      good_lines_lem (more_links N L s) ls (then_right (check_link t N L l.place s) _ e) (good_line L l.place s (then_left (check_link t N L l.place s) _ e) g)

-- ---- an accepted text

-- its links in order
abbrev pub sorted_links : List ℕ → List Link
sorted_links text = sort_links (text_links text)

-- its network
abbrev pub text_network_lem : List ℕ → Network
text_network_lem text =
    network (name_bytes (parts_of text)) (map (λ l. l.low) (sorted_links text)) (map (λ l. l.high) (sorted_links text)) (map (λ l. l.weight) (sorted_links text))

module _ (text : List ℕ) (n : ℕ) (t : LinkLists) (ok : check_text text n t ≡ accepted) where
  pub text_named : all is_name (parts_of text) ≡ true
  unfolding check_text parts_of all
  text_named = after_parts (λ N. all is_name N ≡ true) n (more_named n) [] (lines_of text) refl (then_left (check_parts n [] (lines_of text)) _ ok)

  pub text_counted : narrow_count (length (parts_of text)) ≡ true
  unfolding check_text
  text_counted = unless_passed (narrow_count (length (parts_of text))) 4 (length text) (then_left _ _ (then_right (check_parts n [] (lines_of text)) _ ok))

  pub text_legal : legal (length (parts_of text)) (sort_links (text_links text)) ≡ true
  unfolding check_text text_links
  text_legal =
      let g = good_lines_lem t (parts_of text) [] (lines_of text)
      (then_right (unless (narrow_count (length (parts_of text))) 4 (length text)) _ (then_right (check_parts n [] (lines_of text)) _ ok)) (good_none (length (parts_of text))) in
      sort_legal (length (parts_of text)) (text_links text) g.fit g.once

  parts_same : net.parts_of (text_network_lem text) ≡ length (parts_of text)
  parts_same = omega (arith, bytes_length (parts_of text))

  links_same : net.links_in (text_network_lem text) ≡ length (sorted_links text)
  links_same = length-map (sorted_links text) (λ l. l.low)

  network_shape : net.has_shape (text_network_lem text) ≡ true
  unfolding net.has_shape
  network_shape =
      and_intro (eqb (length (name_bytes (parts_of text)) % 8) 0) _ eights
      (and_intro (eqb (length (map (λ l. l.high) (sorted_links text))) (net.links_in (text_network_lem text))) _ (eq-eqb _ _ (length-map (sorted_links text) (λ l. l.high) ∙ sym links_same))
      (eq-eqb _ _ (length-map (sorted_links text) (λ l. l.weight) ∙ sym links_same)))
    where
      eights : eqb (length (name_bytes (parts_of text)) % 8) 0 ≡ true
      eights = eq-eqb (length (name_bytes (parts_of text)) % 8) 0 (omega (arith, bytes_length (parts_of text)))

  text_once : each_two other (parts_of text) ≡ true
  unfolding check_text parts_of each_two
  text_once = after_parts (λ N. each_two other N ≡ true) n (more_once n) [] (lines_of text) refl (then_left (check_parts n [] (lines_of text)) _ ok)

  -- name q of the network is the text's, padded
  name_in_lem : (q : ℕ) → q < length (parts_of text) → net.eight_in (text_network_lem text) q ≡ padded 8 (get_or (parts_of text) q [])
  name_in_lem q l = ap (λ (b : List ℕ). take 8 (drop (8 * q) b)) (sym (append-nil (name_bytes (parts_of text)))) ∙ bytes_at_lem (parts_of text) [] q l

  named_at : (q : ℕ) → q < length (parts_of text) → is_name (get_or (parts_of text) q []) ≡ true
  named_at q l = held_name (parts_of text) q text_named l

  names_differ : field.AllDiffer (net.eight_in (text_network_lem text)) (length (parts_of text))
  names_differ q r h l e =
      let x = get_or (parts_of text) q [] in
      let y = get_or (parts_of text) r [] in
      let m : q < length (parts_of text) = omega arith in
      let one = padded_once x y (named_at q m) (named_at r l) (sym (name_in_lem q m) ∙ e ∙ name_in_lem r l) in
      never (same y x) (ap (same y) one ∙ same_self y) (not-true (same y x) (each_two_places other (parts_of text) [] text_once q r h l))

  network_names : field.check_names (net.eight_in (text_network_lem text)) (λ q. 0) (net.parts_of (text_network_lem text)) ≡ accepted
  network_names =
      ap (field.check_names (net.eight_in (text_network_lem text)) (λ q. 0)) parts_same
      ∙ all_names (net.eight_in (text_network_lem text)) (λ q. 0) (length (parts_of text))
      (λ q l. ap field.is_name (name_in_lem q l) ∙ padded_form (get_or (parts_of text) q []) (named_at q l)) names_differ

  link_at_lem : (j : ℕ) → j < length (sorted_links text) → net.link_in (text_network_lem text) j ≡ get_or (sorted_links text) j (link 0 0 0)
  unfolding net.link_in
  link_at_lem j l =
      let d = link 0 0 0 in
      let m = get_or (sorted_links text) j d in
      ap₂ (λ (a b : ℕ). link a b (get_or (map (λ k. k.weight) (sorted_links text)) j 0)) (map_at (λ k. k.low) (sorted_links text) j d 0 l) (map_at (λ k. k.high) (sorted_links text) j d 0 l)
      ∙ ap (link m.low m.high) (map_at (λ k. k.weight) (sorted_links text) j d 0 l)

  network_links : list_of (net.link_in (text_network_lem text)) (net.links_in (text_network_lem text)) ≡ (sorted_links text)
  network_links = ext_get_or (link 0 0 0) all_links (sorted_links text) (size ∙ links_same) each
    where
      all_links : List Link
      all_links = list_of (net.link_in (text_network_lem text)) (net.links_in (text_network_lem text))

      size : length all_links ≡ net.links_in (text_network_lem text)
      size = list_of_length (net.link_in (text_network_lem text)) (net.links_in (text_network_lem text))

      each : (j : ℕ) → j < length all_links → get_or all_links j (link 0 0 0) ≡ get_or (sorted_links text) j (link 0 0 0)
      each j l =
          let k : j < net.links_in (text_network_lem text) = omega (arith, size) in
          list_of_at (net.link_in (text_network_lem text)) (net.links_in (text_network_lem text)) j (link 0 0 0) k ∙ link_at_lem j (omega (arith, links_same))

  -- the writer accepts it
  pub text_network : net.check_network (text_network_lem text) ≡ accepted
  text_network =
      network_passes (text_network_lem text) network_shape (ap narrow_count parts_same ∙ text_counted) network_names
      (ap₂ (λ (p : ℕ) (L : List Link). legal p L) parts_same network_links ∙ text_legal)

-- ---- what reading leaves

said_fine : (v : Verdict) (text : List ℕ) (p m : ℕ) → holds p m ≡ text_say v text → (v ≡ accepted) × (p ≡ length (parts_of text)) × (m ≡ length (text_links text))
unfolding text_say
said_fine accepted text p m e = (refl, cc, cc)
said_fine (refused k a) text p m e = let z : ◌≡◌ {A = ℕ} 0 1 = cc in absurd (omega arith)

front : (l old : List ℕ) (L : List Link) (f : Link → ℕ) (m : ℕ) → l ≡ map f L ++ drop (length L) old → m ≡ length L → take m l ≡ map f L
front l old L f m e h = ap (take m) e ∙ take_at (map f L) (drop (length L) old) m (length-map L f ∙ sym h)

-- the first 8 * p bytes of the names and the first m entries of the lists are a network that the writer accepts
module _ (text names names2 : List ℕ) (t t2 : LinkLists) (r : Result Counts Refusal) (p m : ℕ)
    (meets : TextMeets text names t r names2 t2) (fine : r ≡ Ok (record { parts = p; links = m })) where
  told : (check_text text (length names) t ≡ accepted) × (p ≡ length (parts_of text)) × (m ≡ length (text_links text))
  told = said_fine _ text p m (ap sheet_says (sym fine) ∙ meets.answer)

  pub left_network : network (take (8 * p) names2) (take m t2.lower) (take m t2.higher) (take m t2.weights) ≡ text_network_lem text
  unfolding with_links
  left_network =
      let P = parts_of text in
      let L = sort_links (text_links text) in
      let e = meets.links_left told.0 in
      let h : m ≡ length L = told.2 ∙ sym (sort_length (text_links text)) in
      ap₂ (λ (a b : List ℕ). network a b (take m t2.higher) (take m t2.weights))
      (ap (take (8 * p)) (meets.names_left told.0) ∙ take_at (name_bytes P) (drop (8 * length P) names) (8 * p) (omega (arith, bytes_length P, told.1)))
      (front t2.lower t.lower L (λ l. l.low) m (ap (λ (u : LinkLists). u.lower) e) h)
      ∙ ap₂ (λ (a b : List ℕ). network (name_bytes P) (map (λ l. l.low) L) a b)
      (front t2.higher t.higher L (λ l. l.high) m (ap (λ (u : LinkLists). u.higher) e) h)
      (front t2.weights t.weights L (λ l. l.weight) m (ap (λ (u : LinkLists). u.weights) e) h)

  pub left_accepted : net.check_network (network (take (8 * p) names2) (take m t2.lower) (take m t2.higher) (take m t2.weights)) ≡ accepted
  left_accepted = ap net.check_network left_network ∙ text_network text (length names) t told.0
