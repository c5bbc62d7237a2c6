-- Laws of pieces: where a scan for a byte ends, the first piece and the others, the first line and the others. Assumes nothing.
use mathlib.Core.Path.{◌≡◌, refl, sym, ap, ap₂, ◌∙◌}
use mathlib.Core.Bool.{Bool, true, false, not}
use mathlib.Core.List.{List, [], ◌∷◌}
use mathlib.Core.Logic.{◌⊎◌, inl, inr}
use Prim.Native.Nat.{ℕ, suc, ◌+◌, ◌-◌, ◌<◌, ◌≤◌}
use native.Mathlib.Numerals.{add-one}
use native.Mathlib.Omega.{arith}
use lib.Dec.{eqb}
use lib.ListN.{length, get_or, take, drop, length-drop, drop_of_length-le}
use lib.Seq.{drop-cons, drop-drop, length-take-le}
use Rattle.std.specs.List.{prefix_len, slice_split, onto_first}
use borrow.Author.Tests.{eq-eqb, eqb-true}
use Rattle.sets.proofs.Tests.{split, iff}
use Rattle.words.specs.Lines.{pieces, on_first, line, lines_from, leading}

-- where a scan from a place on ends
abbrev pub stop : (ℕ → Bool) → List ℕ → ℕ → ℕ
stop f t i = i + leading f (drop i t)

module _ (f : ℕ → Bool) where
  pub leading_yes : (b : ℕ) (bs : List ℕ) → f b ≡ true → leading f (b ∷ bs) ≡ 0
  unfolding leading
  leading_yes b bs e = rw (leading, e)

  pub leading_no : (b : ℕ) (bs : List ℕ) → f b ≡ false → leading f (b ∷ bs) ≡ suc (leading f bs)
  unfolding leading
  leading_no b bs e = rw (leading, e)

  pub leading_le : (xs : List ℕ) → leading f xs ≤ length xs
  unfolding leading
  leading_le [] = omega arith
  leading_le (b ∷ bs) = go (split (f b)) (leading_le bs)
    where
      go : (f b ≡ true) ⊎ (f b ≡ false) → leading f bs ≤ length bs → leading f (b ∷ bs) ≤ suc (length bs)
      go (inl e) h = omega (arith, leading_yes b bs e)
      go (inr e) h = omega (arith, leading_no b bs e)

  -- the byte at which a scan stops
  pub leading_at : (xs : List ℕ) → leading f xs < length xs → f (get_or xs (leading f xs) 0) ≡ true
  unfolding leading
  leading_at [] h = absurd (omega arith)
  leading_at (b ∷ bs) h = go (split (f b)) (leading_at bs)
    where
      go : (f b ≡ true) ⊎ (f b ≡ false) → (leading f bs < length bs → f (get_or bs (leading f bs) 0) ≡ true) → f (get_or (b ∷ bs) (leading f (b ∷ bs)) 0) ≡ true
      go (inl e) r = rw (leading_yes b bs e) e
      go (inr e) r = rw (leading_no b bs e) (r (omega (arith, leading_no b bs e)))

  -- as an iterator counts it
  pub leading_counted : (g : ℕ → Bool) (xs : List ℕ) → ((b : ℕ) → g b ≡ not (f b)) → prefix_len g xs ≡ leading f xs
  unfolding leading
  leading_counted g [] h = refl
  leading_counted g (b ∷ bs) h = go (split (f b)) (leading_counted g bs h)
    where
      go : (f b ≡ true) ⊎ (f b ≡ false) → prefix_len g bs ≡ leading f bs → prefix_len g (b ∷ bs) ≡ leading f (b ∷ bs)
      go (inl e) r = rw (h b, leading_yes b bs e, e)
      go (inr e) r = rw (h b, leading_no b bs e, e) (omega arith)

  pub pieces_parts : (xs : List ℕ) → slice_split f xs ≡ pieces f xs
  unfolding pieces
  pieces_parts [] = refl
  pieces_parts (b ∷ bs) = go (split (f b)) (pieces_parts bs)
    where
      put : (ps : List (List ℕ)) → onto_first b ps ≡ on_first b ps
      put [] = refl
      put (p ∷ ps) = refl

      go : (f b ≡ true) ⊎ (f b ≡ false) → slice_split f bs ≡ pieces f bs → slice_split f (b ∷ bs) ≡ pieces f (b ∷ bs)
      go (inl e) r = rw (pieces, e) (ap (λ (ps : List (List ℕ)). [] ∷ ps) r)
      go (inr e) r = rw (pieces, e, r) (put (pieces f bs))

  -- ---- a scan from a place on

  pub scan_stop : (t : List ℕ) (i : ℕ) → i < length t → f (get_or t i 0) ≡ true → stop f t i ≡ i
  scan_stop t i h e = rw (drop-cons t i 0 h, leading_yes (get_or t i 0) (drop (suc i) t) e) (omega arith)

  pub scan_on : (t : List ℕ) (i : ℕ) → i < length t → f (get_or t i 0) ≡ false → stop f t (i + 1) ≡ stop f t i
  scan_on t i h e = rw (add-one i, drop-cons t i 0 h, leading_no (get_or t i 0) (drop (suc i) t) e) (omega arith)

  pub scan_end : (t : List ℕ) (i : ℕ) → length t ≤ i → stop f t i ≡ i
  unfolding leading
  scan_end t i h = rw (drop_of_length-le t h) (omega arith)

  pub line_end_fits : (t : List ℕ) (i : ℕ) → i ≤ length t → stop f t i ≤ length t
  line_end_fits t i h = omega (arith, leading_le (drop i t), length-drop i t)

  -- ---- the first piece and the others

  pub pieces_on : (b : ℕ) (bs : List ℕ) → f b ≡ false → pieces f (b ∷ bs) ≡ on_first b (pieces f bs)
  unfolding pieces
  pieces_on b bs e = rw (pieces, e)

  pub pieces_last : (xs : List ℕ) → leading f xs ≡ length xs → pieces f xs ≡ take (leading f xs) xs ∷ []
  unfolding pieces leading
  pieces_last [] h = refl
  pieces_last (b ∷ bs) h = go (split (f b)) (pieces_last bs)
    where
      go : (f b ≡ true) ⊎ (f b ≡ false) → (leading f bs ≡ length bs → pieces f bs ≡ take (leading f bs) bs ∷ [])
          → pieces f (b ∷ bs) ≡ take (leading f (b ∷ bs)) (b ∷ bs) ∷ []
      go (inl e) r = absurd (omega (arith, leading_yes b bs e))
      go (inr e) r = rw (leading_no b bs e, pieces, e) (ap (on_first b) (r (omega (arith, leading_no b bs e))))

  pub pieces_more : (xs : List ℕ) → leading f xs < length xs → pieces f xs ≡ take (leading f xs) xs ∷ pieces f (drop (suc (leading f xs)) xs)
  unfolding pieces leading
  pieces_more [] h = absurd (omega arith)
  pieces_more (b ∷ bs) h = go (split (f b)) (pieces_more bs)
    where
      go : (f b ≡ true) ⊎ (f b ≡ false) → (leading f bs < length bs → pieces f bs ≡ take (leading f bs) bs ∷ pieces f (drop (suc (leading f bs)) bs))
          → pieces f (b ∷ bs) ≡ take (leading f (b ∷ bs)) (b ∷ bs) ∷ pieces f (drop (suc (leading f (b ∷ bs))) (b ∷ bs))
      go (inl e) r = rw (leading_yes b bs e, pieces, e)
      go (inr e) r = rw (leading_no b bs e, pieces, e) (ap (on_first b) (r (omega (arith, leading_no b bs e))))

-- ---- the lines from a place on, with e the end of the first of them

module _ (t : List ℕ) (i e : ℕ) (h : i ≤ length t) (d : e ≡ stop (eqb 10) t i) where
  abbrev first : ℕ
  first = leading (eqb 10) (drop i t)

  part : take first (drop i t) ≡ take (e - i) (drop i t)
  part = ap (λ (n : ℕ). take n (drop i t)) (let q : first ≡ e - i = omega arith in q)

  -- it is the last one
  pub line_last : e ≡ length t → lines_from i (pieces (eqb 10) (drop i t)) ≡ line i (take (e - i) (drop i t)) ∷ []
  unfolding lines_from
  line_last k =
      ap (lines_from i) (pieces_last (eqb 10) (drop i t) (omega (arith, length-drop i t)))
      ∙ ap (λ (l : List ℕ). line i l ∷ []) part

  -- others stand behind it
  pub line_first : e < length t → lines_from i (pieces (eqb 10) (drop i t)) ≡ line i (take (e - i) (drop i t)) ∷ lines_from (e + 1) (pieces (eqb 10) (drop (e + 1) t))
  unfolding lines_from
  line_first k =
      ap (lines_from i) (pieces_more (eqb 10) (drop i t) (omega (arith, length-drop i t)))
      ∙ ap₂ ◌∷◌ (ap (line i) part) (ap₂ lines_from place (ap (pieces (eqb 10)) rest))
    where
      place : suc (i + length (take first (drop i t))) ≡ e + 1
      place = omega (arith, length-take-le first (drop i t) (leading_le (eqb 10) (drop i t)))

      rest : drop (suc first) (drop i t) ≡ drop (e + 1) t
      rest = drop-drop (suc first) i t ∙ ap (λ (j : ℕ). drop j t) (let q : i + suc first ≡ e + 1 = omega arith in q)

-- the code tests the byte against 10 and not 10 against the byte
pub line_end_tested : (b : ℕ) → not (eqb b 10) ≡ not (eqb 10 b)
line_end_tested b = ap not (iff (eqb b 10) (eqb 10 b) (λ t. eq-eqb 10 b (sym (eqb-true b 10 t))) (λ t. eq-eqb b 10 (sym (eqb-true 10 b t))))
