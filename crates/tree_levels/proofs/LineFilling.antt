-- The lines that start, put behind those before them one after the other: what the loop over slots keeps. Assumes nothing.
use mathlib.Core.Path.{◌≡◌, refl, sym, ap, ap₂, ◌∙◌, subst}
use mathlib.Core.Logic.{◌⊎◌, inl, inr}
use mathlib.Core.Bool.{Bool, true, false, ◌&&◌}
use mathlib.Core.List.Memᴰ
use mathlib.Core.List.{List, [], ◌∷◌, ◌++◌, map, append-nil}
use Prim.Native.Nat.{ℕ, ◌+◌, ◌*◌, ◌-◌, ◌≤◌, ◌<◌, ◌^◌}
use native.Mathlib.Numerals.{add-one}
use native.Mathlib.Omega.{arith}
use lib.Dec.{eqb}
use lib.ListN.{length, take, drop, length-append, length-drop, length-map}
use lib.Seq.{length-take-le, drop-drop}
use Rattle.sets.specs.Lists.{◌∈◌, keep, from, below, insert_by, insert_all}
use Rattle.sets.specs.Value.{width, row}
use Rattle.sets.proofs.ListLaws.{keep_append, map_append, below_split}
use Rattle.sets.proofs.Insertion.{insert_of, insert_all_none, insert_all_more, insert_all_length}
use Rattle.percolation.specs.Tree.{Line, line, tree_bytes}
use Rattle.records.proofs.InBytes.{parted}
use Rattle.slots.specs.Tables.{root_of}
use Rattle.listings.specs.Model.{root_slots}
use Rattle.tree_lines.specs.LineModel.{line_length, by_line, PlacesLine}
use Rattle.tree_levels.specs.LevelModel.{joins_at, starts_at, start_slots, line_at, start_lines, FilledTo}
use Rattle.tree_lines.proofs.LinePlaces.{tree_none}
use Rattle.tree_levels.proofs.LevelSteps.{slots_none, slots_yes, slots_no, tally_yes, tally_no}

-- ---- the lines that start below a slot

module _ (w : ℕ) (es ms us : List ℕ) (n : ℕ) where
  pub starts_length : (i : ℕ) → length (start_lines w es ms us n i) ≡ length (start_slots es us n i)
  unfolding start_lines
  starts_length i =
      insert_all_length by_line [] (map (line_at w ms us n) (start_slots es us n i))
      ∙ (let e = length-map (start_slots es us n i) (line_at w ms us n) in omega arith)

  pub starts_none : start_lines w es ms us n 0 ≡ []
  unfolding start_lines
  starts_none = ap (λ (l : List ℕ). insert_all by_line [] (map (line_at w ms us n) l)) (slots_none es us n) ∙ insert_all_none by_line []

  pub starts_yes : (i : ℕ) → eqb (root_of es i) i && starts_at us n i ≡ true
      → start_lines w es ms us n (i + 1) ≡ insert_by by_line (line_at w ms us n i) (start_lines w es ms us n i)
  unfolding start_lines
  starts_yes i e =
      ap (λ (l : List ℕ). insert_all by_line [] (map (line_at w ms us n) l)) (ap (start_slots es us n) (add-one i) ∙ slots_yes es us n i e)
      ∙ ap (insert_all by_line []) (map_append (line_at w ms us n) (start_slots es us n i) (i ∷ []))
      ∙ insert_all_more by_line [] (map (line_at w ms us n) (start_slots es us n i)) (line_at w ms us n i)

  pub starts_no : (i : ℕ) → eqb (root_of es i) i && starts_at us n i ≡ false → start_lines w es ms us n (i + 1) ≡ start_lines w es ms us n i
  unfolding start_lines
  starts_no i e = ap (λ (l : List ℕ). insert_all by_line [] (map (line_at w ms us n) l)) (ap (start_slots es us n) (add-one i) ∙ slots_no es us n i e)

  -- no fewer below a later slot
  starts_le : (i m : ℕ) → i ≤ m → length (start_slots es us n i) ≤ length (start_slots es us n m)
  unfolding start_slots root_slots
  starts_le i m h =
      let R : ℕ → Bool = λ j. eqb (root_of es j) j in
      let S : ℕ → Bool = starts_at us n in
      omega (
        arith,
        ap (λ (l : List ℕ). length (keep S (keep R l))) (below_split i m h),
        ap (λ (l : List ℕ). length (keep S l)) (keep_append R (below i) (from i (m - i))),
        ap length (keep_append S (keep R (below i)) (keep R (from i (m - i)))),
        length-append (keep S (keep R (below i))) (keep S (keep R (from i (m - i)))),
      )

-- ---- their bytes behind those of the a lines before them

pub record LinesFilled (w : ℕ) (es ms us : List ℕ) (n used : ℕ) (old : List ℕ) (a i m : ℕ) (out : List ℕ) : Type 0 where
  pub count : m ≡ a + length (start_slots es us n i)
  pub bound : m ≤ a + i
  pub bytes : FilledTo w es ms us n used old a i out
  pub fits : (z : Line) → z ∈ start_lines w es ms us n i → z.small < 2 ^ width
  pub long : length out ≡ length old

module _ (w : ℕ) (es ms us : List ℕ) (n used : ℕ) (old : List ℕ) (a : ℕ) where
  pub filled_none : LinesFilled w es ms us n used old a 0 a old
  filled_none = record {
    count = let e : length (start_slots es us n 0) ≡ 0 = ap length (slots_none es us n) in omega (arith, e);
    bound = omega arith;
    bytes = λ X rest e l h.
        e ∙ sym (ap (λ (t : List ℕ). t ++ rest) (append-nil (tree_bytes X)))
        ∙ ap₂ (λ (t : List ℕ) (j : ℕ). tree_bytes X ++ t ++ drop (j * line_length) rest) (sym (ap tree_bytes (starts_none w es ms us n) ∙ tree_none))
        (sym (ap length (slots_none es us n)));
    fits = λ z m. absurd (Memᴰ.not-nil (subst (λ (Z : List Line). z ∈ Z) (starts_none w es ms us n) m));
    long = refl;
  }

  module _ (i m : ℕ) (out : List ℕ) (f : LinesFilled w es ms us n used old a i m out) where
    pub filled_no : (k : ℕ) (next : List ℕ) → eqb (root_of es i) i && starts_at us n i ≡ false → k ≡ m → next ≡ out
        → LinesFilled w es ms us n used old a (i + 1) k next
    filled_no k next e g h = record {
      count = g ∙ f.count ∙ ap (λ (j : ℕ). a + j) (sym (tally_no es us n i e));
      bound = omega (arith, f.bound);
      bytes = λ X rest p l q.
          h ∙ f.bytes X rest p l q
          ∙ ap₂ (λ (Z : List Line) (j : ℕ). tree_bytes X ++ tree_bytes Z ++ drop (j * line_length) rest) (sym (starts_no w es ms us n i e))
          (sym (tally_no es us n i e));
      fits = λ z p. f.fits z (subst (λ (Z : List Line). z ∈ Z) (starts_no w es ms us n i e) p);
      long = ap length h ∙ f.long;
    }

    pub filled_yes : (s u j k : ℕ) (next last : List ℕ) → eqb (root_of es i) i && starts_at us n i ≡ true → i < used → s ≡ row ms i → u ≡ row us i
        → j ≡ joins_at us n i → s < 2 ^ width → PlacesLine out last a m (line w j i s u) → length last ≡ length out → k ≡ m + 1 → next ≡ last
        → LinesFilled w es ms us n used old a (i + 1) k next
    unfolding line_at
    filled_yes s u j k next last e below p q r small put kept g h = record {
      count = omega (arith, g, f.count, tally_yes es us n i e);
      bound = omega (arith, f.bound);
      bytes = λ X rest p l q. h ∙ filled X rest p l q;
      fits = λ z m. inside z (insert_of by_line (line w j i s u) old_lines (subst (λ (Z : List Line). z ∈ Z) more m));
      long = ap length h ∙ kept ∙ f.long;
    }
      where
        old_lines : List Line
        old_lines = start_lines w es ms us n i

        c : ℕ
        c = length (start_slots es us n i)

        more : start_lines w es ms us n (i + 1) ≡ insert_by by_line (line w j i s u) old_lines
        more =
            starts_yes w es ms us n i e
            ∙ ap₂ (λ (x y : ℕ). insert_by by_line (line w x i y (row us i)) old_lines) (sym r) (sym p)
            ∙ ap (λ (y : ℕ). insert_by by_line (line w j i s y) old_lines) (sym q)

        inside : (z : Line) → (z ≡ line w j i s u) ⊎ z ∈ old_lines → z.small < 2 ^ width
        inside z (inl d) = subst (λ (x : Line). x.small < 2 ^ width) (sym d) small
        inside z (inr d) = f.fits z d

        filled : (X : List Line) (rest : List ℕ) → old ≡ tree_bytes X ++ rest → length X ≡ a → length (start_slots es us n used) * line_length ≤ length rest
            → last ≡ tree_bytes X ++ tree_bytes (start_lines w es ms us n (i + 1)) ++ drop (length (start_slots es us n (i + 1)) * line_length) rest
        filled X rest b l q =
            let R = drop (c * line_length) rest in
            let T = tree_bytes X ++ tree_bytes old_lines in
            let room : line_length ≤ length R =
            omega (arith, length-drop (c * line_length) rest, tally_yes es us n i e, starts_le w es ms us n (i + 1) used (omega arith)) in
            put X old_lines (take line_length R) (drop line_length R) (parted out T R line_length (f.bytes X rest b l q)) l
            (length-append X old_lines ∙ ap₂ (λ (x y : ℕ). x + y) l (starts_length w es ms us n i) ∙ sym f.count) (length-take-le line_length R room) f.fits
            ∙ ap₂ (λ (Z : List Line) (t : List ℕ). tree_bytes X ++ tree_bytes Z ++ t) (sym more)
            (drop-drop line_length (c * line_length) rest
            ∙ ap (λ (x : ℕ). drop x rest)
            (let z : c * line_length + line_length ≡ length (start_slots es us n (i + 1)) * line_length = omega (arith, tally_yes es us n i e) in z))
