-- The lines that the code puts at the end of a level are the lines that start there. Assumes nothing.
use mathlib.Core.Path.{◌≡◌, refl, sym, ap, ap₂, ◌∙◌}
use mathlib.Core.List.{List, [], ◌∷◌, map, map-map}
use Prim.Native.Nat.{ℕ, suc, ◌+◌, ◌<◌}
use native.Mathlib.Omega.{arith}
use lib.ListN.{length, length-map, get_or}
use Rattle.sets.specs.Lists.{◌∈◌, keep, insert_all}
use Rattle.sets.specs.Value.{row}
use Rattle.sets.proofs.ListLaws.{keep_of, map_on}
use Rattle.sets.proofs.Insertion.{insert_all_length, insert_all_map}
use Rattle.percolation.specs.Tree.{Line, line}
use Rattle.slots.specs.Tables.{Tables}
use Rattle.listings.specs.Model.{root_slots}
use Rattle.listings.proofs.Listed.{roots_of}
use Rattle.tree_theory.specs.Model.{Rooted, rooted, Begun, ending_at, starts_line, begun_at, by_begun, begun_lines}
use Rattle.tree_lines.specs.LineModel.{by_line, lines_with}
use Rattle.tree_levels.specs.LevelModel.{join_counts, start_slots, line_at, start_lines}
use Rattle.tree_lines.proofs.LineFields.{line_as}
use Rattle.tree_theory.proofs.ClassCounts.{Turned, slots_agree, joins_agree, count_end}

-- a line that starts, with the slot where its class ends in place of the line that it goes into, and with the union that stands there in us
abbrev pub slot_line : List ℕ → Begun → Line
slot_line us b = line_as b.start b.slot (row us b.slot)

all_map : (us : List ℕ) (B C : List Begun) → insert_all by_line (map (slot_line us) B) (map (slot_line us) C) ≡ map (slot_line us) (insert_all by_begun B C)
all_map us B C = sym (insert_all_map by_begun by_line (slot_line us) (λ x y. refl) B C)

module _ (T U : Tables) (h : Turned T U) (number : ℕ → ℕ) (A : List Rooted) (classes : A ≡ map (λ r. rooted r (number r)) (root_slots T.entries T.used)) where
  abbrev cs : List ℕ
  cs = join_counts U.entries U.unions T.used

  abbrev starting : List ℕ
  starting = keep (starts_line U.entries A) (root_slots U.entries U.used)

  pub begun_count : (w : ℕ) → length (start_slots U.entries (join_counts U.entries U.unions T.used) T.used U.used) ≡ length (begun_lines w U A)
  unfolding begun_lines
  begun_count w =
      ap length (slots_agree T U h number A classes)
      ∙ sym (insert_all_length by_begun [] (map (begun_at w U A) starting) ∙ (let e = length-map starting (begun_at w U A) in omega (arith, e)))

  one_line : (w r : ℕ) → r ∈ starting → line_at w U.smallest cs T.used r ≡ slot_line U.unions (begun_at w U A r)
  unfolding line_at begun_at
  one_line w r m =
      let q = keep_of (starts_line U.entries A) (root_slots U.entries U.used) m in
      let e = (roots_of U.entries U.used q.0).1 in
      ap₂ (λ (j u : ℕ). line w j r (row U.smallest r) u)
      (joins_agree T U h number A classes r e q.1 ∙ sym (length-map (ending_at U.entries A r) (λ (x : Rooted). x.number)))
      (count_end T U h number A classes r e)

  pub lines_agree : (w : ℕ) → start_lines w U.entries U.smallest (join_counts U.entries U.unions T.used) T.used U.used
      ≡ map (slot_line U.unions) (begun_lines w U A)
  unfolding start_lines begun_lines
  lines_agree w =
      ap (λ (l : List ℕ). insert_all by_line [] (map (line_at w U.smallest cs T.used) l)) (slots_agree T U h number A classes)
      ∙ ap (insert_all by_line []) (map_on (line_at w U.smallest cs T.used) (λ r. slot_line U.unions (begun_at w U A r)) starting (one_line w)
      ∙ sym (map-map (slot_line U.unions) (begun_at w U A) starting))
      ∙ all_map U.unions [] (map (begun_at w U A) starting)

-- ---- by their numbers

-- behind n lines, line i of those that start has its slot where the number of the line that it goes into will stand, and the union of that slot
pub slot_lines : (us : List ℕ) (f u : ℕ → ℕ) (n : ℕ) (B : List Begun) (d : Begun)
    → ((j : ℕ) → j < length B → (f (n + j) ≡ (get_or B j d).slot) × (u (n + j) ≡ row us (get_or B j d).slot))
    → lines_with f u n (map (λ b. b.start) B) ≡ map (slot_line us) B
unfolding lines_with
slot_lines us f u n [] d h = refl
slot_lines us f u n (b ∷ B) d h =
    let z : n ≡ n + 0 = omega arith in
    let e = h 0 (omega arith) in
    ap₂ (λ (y : Line) (X : List Line). y ∷ X) (ap₂ (line_as b.start) (ap f z ∙ e.0) (ap u z ∙ e.1))
    (slot_lines us f u (suc n) B d (λ j l.
    let y : suc n + j ≡ n + suc j = omega arith in
    let r = h (suc j) (omega arith) in
    (ap f y ∙ r.0, ap u y ∙ r.1)))
