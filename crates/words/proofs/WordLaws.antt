-- Laws of the words of a line, and of the places where they start. Assumes nothing.
use mathlib.Core.Path.{◌≡◌, refl, sym, ap, ap₂, ◌∙◌}
use mathlib.Core.Bool.{Bool, true, false, not, not-not, ◌&&◌}
use mathlib.Core.List.{List, [], ◌∷◌}
use mathlib.Core.Logic.{◌⊎◌, inl, inr}
use Prim.Native.Nat.{ℕ, suc, ◌+◌, ◌-◌, ◌<◌, ◌≤◌}
use native.Mathlib.Numerals.{add-one}
use native.Mathlib.Omega.{arith}
use borrow.Author.Tests.{not-true, ne_eqb}
use lib.ListN.{length, get_or, take, drop, length-drop, drop_of_length-le, get_or-eq_default}
use lib.Seq.{take_all, drop-cons, drop-drop, get_or-drop}
use lib.Dec.{eqb}
use Rattle.std.specs.List.{filter, prefix_len, slice_split}
use Rattle.sets.specs.Lists.{all, keep}
use Rattle.sets.proofs.Tests.{split, lt_or_le, and_intro, and_left, and_right}
use Rattle.sets.proofs.ListLaws.{keep_yes, keep_no, keep_of, all_of, get_d_member}
use Rattle.words.specs.Lines.{pieces, on_first, blank, some_bytes, words, leading, WordAt}
use Rattle.words.proofs.Pieces.{leading_counted, leading_yes, leading_no, leading_le, leading_at, pieces_last, pieces_more, pieces_on, pieces_parts, line_end_fits, line_end_tested}

abbrev pub printed : ℕ → Bool
printed b = not (blank b)

-- as an iterator gives them: the pieces that are not empty

keep_filter : (g : List ℕ → Bool) (ws : List (List ℕ)) → ((w : List ℕ) → g w ≡ some_bytes w) → filter g ws ≡ keep some_bytes ws
unfolding keep
keep_filter g [] h = refl
keep_filter g (w ∷ ws) h = go (split (some_bytes w)) (keep_filter g ws h)
  where
    go : (some_bytes w ≡ true) ⊎ (some_bytes w ≡ false) → filter g ws ≡ keep some_bytes ws → filter g (w ∷ ws) ≡ keep some_bytes (w ∷ ws)
    go (inl e) r = rw (h w, keep_yes some_bytes w ws e, e) (ap (λ (l : List (List ℕ)). w ∷ l) r)
    go (inr e) r = rw (h w, keep_no some_bytes w ws e, e) r

some_tested : (w : List ℕ) → not (eqb (length w) 0) ≡ some_bytes w
unfolding some_bytes
some_tested [] = refl
some_tested (b ∷ bs) = ap not (ne_eqb (suc (length bs)) 0 (λ e. omega (arith, e)))

pub words_counted : (l : List ℕ) → filter (λ w. not (eqb (length w) 0)) (slice_split blank l) ≡ words l
unfolding words
words_counted l = ap (filter (λ w. not (eqb (length w) 0))) (pieces_parts blank l) ∙ keep_filter _ (pieces blank l) some_tested

-- ---- a scan from a place on, as an iterator counts it

-- the part of a line from a place on
behind : (l : List ℕ) (i : ℕ) → take (length l - i) (drop i l) ≡ drop i l
behind l i = take_all (length l - i) (drop i l) (omega (arith, length-drop i l))

pub scan_blanks : (l : List ℕ) (i n : ℕ) → i ≤ length l → n ≡ prefix_len blank (take (length l - i) (drop i l))
    → (i + n ≡ i + leading printed (drop i l)) × (i + n ≤ length l)
scan_blanks l i n h e =
    let d : n ≡ leading printed (drop i l) =
    e ∙ ap (prefix_len blank) (behind l i) ∙ leading_counted printed blank (drop i l) (λ b. sym (not-not (blank b))) in
    (ap (λ (k : ℕ). i + k) d, omega (arith, d, leading_le printed (drop i l), length-drop i l))

pub scan_printed : (l : List ℕ) (i n : ℕ) → i < length l → n ≡ prefix_len (λ b. not (blank b)) (take (length l - (i + 1)) (drop (i + 1) l))
    → (i + 1 + n ≡ suc i + leading blank (drop (suc i) l)) × (i + 1 + n ≤ length l)
scan_printed l i n h e =
    let d : n ≡ leading blank (drop (suc i) l) =
    e ∙ ap (prefix_len (λ b. not (blank b))) (behind l (i + 1)) ∙ leading_counted blank (λ b. not (blank b)) (drop (i + 1) l) (λ b. refl)
    ∙ ap (λ (k : ℕ). leading blank (drop k l)) (add-one i) in
    (omega (arith, d), omega (arith, d, leading_le blank (drop (suc i) l), length-drop (suc i) l))

pub scan_line : (l : List ℕ) (i n : ℕ) → n ≡ prefix_len (λ b. not (eqb b 10)) (take (length l - i) (drop i l)) → i + n ≡ i + leading (eqb 10) (drop i l)
scan_line l i n e =
    ap (λ (k : ℕ). i + k)
    (e ∙ ap (prefix_len (λ b. not (eqb b 10))) (behind l i) ∙ leading_counted (eqb 10) (λ b. not (eqb b 10)) (drop i l) line_end_tested)

-- ---- a line from its first byte

words_nil : words [] ≡ []
unfolding words
words_nil = refl

words_blank : (b : ℕ) (bs : List ℕ) → blank b ≡ true → words (b ∷ bs) ≡ words bs
unfolding words pieces some_bytes
words_blank b bs e = rw (pieces, e) (keep_no some_bytes [] (pieces blank bs) refl)

words_skip : (l : List ℕ) → words (drop (leading printed l) l) ≡ words l
unfolding leading
words_skip [] = refl
words_skip (b ∷ bs) = go (split (blank b)) (words_skip bs)
  where
    go : (blank b ≡ true) ⊎ (blank b ≡ false) → words (drop (leading printed bs) bs) ≡ words bs
        → words (drop (leading printed (b ∷ bs)) (b ∷ bs)) ≡ words (b ∷ bs)
    go (inl e) r = rw (leading_no printed b bs (ap not e), words_blank b bs e) r
    go (inr e) r = rw (leading_yes printed b bs (ap not e))

words_first : (b : ℕ) (bs : List ℕ) → blank b ≡ false → words (b ∷ bs) ≡ (b ∷ take (leading blank bs) bs) ∷ words (drop (leading blank bs) bs)
unfolding words some_bytes keep
words_first b bs e = go (lt_or_le (leading blank bs) (length bs))
  where
    go : (leading blank bs < length bs) ⊎ (length bs ≤ leading blank bs)
        → words (b ∷ bs) ≡ (b ∷ take (leading blank bs) bs) ∷ words (drop (leading blank bs) bs)
    go (inl h) =
        ap (keep some_bytes) (pieces_on blank b bs e ∙ ap (on_first b) (pieces_more blank bs h))
        ∙ keep_yes some_bytes (b ∷ take (leading blank bs) bs) (pieces blank (drop (suc (leading blank bs)) bs)) refl
        ∙ ap (λ (ws : List (List ℕ)). (b ∷ take (leading blank bs) bs) ∷ ws)
        (sym (ap words (drop-cons bs (leading blank bs) 0 h)
        ∙ words_blank (get_or bs (leading blank bs) 0) (drop (suc (leading blank bs)) bs) (leading_at blank bs h)))
    go (inr h) =
        ap (keep some_bytes) (pieces_on blank b bs e ∙ ap (on_first b) (pieces_last blank bs (omega (arith, leading_le blank bs))))
        ∙ keep_yes some_bytes (b ∷ take (leading blank bs) bs) [] refl
        ∙ ap (λ (ws : List (List ℕ)). (b ∷ take (leading blank bs) bs) ∷ ws) (sym (ap words (drop_of_length-le bs h) ∙ words_nil))

-- ---- a line from a place

-- the word that starts at a place and ends at e, and those behind it
words_from : (l : List ℕ) (i e : ℕ) → i < length l → blank (get_or l i 0) ≡ false → e ≡ suc i + leading blank (drop (suc i) l)
    → words (drop i l) ≡ take (e - i) (drop i l) ∷ words (drop e l)
words_from l i e h s d =
    ap words (drop-cons l i 0 h) ∙ words_first (get_or l i 0) (drop (suc i) l) s ∙ ap₂ ◌∷◌ (sym here) (ap words behind)
  where
    here : take (e - i) (drop i l) ≡ get_or l i 0 ∷ take (leading blank (drop (suc i) l)) (drop (suc i) l)
    here =
        ap (λ (n : ℕ). take n (drop i l)) (let q : e - i ≡ suc (leading blank (drop (suc i) l)) = omega arith in q)
        ∙ ap (take (suc (leading blank (drop (suc i) l)))) (drop-cons l i 0 h)

    behind : drop (leading blank (drop (suc i) l)) (drop (suc i) l) ≡ drop e l
    behind = drop-drop (leading blank (drop (suc i) l)) (suc i) l ∙ ap (λ (j : ℕ). drop j l) (sym d)

module _ (l : List ℕ) (i r : ℕ) (h : i ≤ length l) (d : r ≡ i + leading printed (drop i l)) where
  -- blanks in front do not matter
  skip_left : words (drop r l) ≡ words (drop i l)
  skip_left = ap (λ (j : ℕ). words (drop j l)) d ∙ ap words (sym (drop-drop (leading printed (drop i l)) i l)) ∙ words_skip (drop i l)

  skip_starts : r < length l → blank (get_or l r 0) ≡ false
  skip_starts k =
      ap (λ (j : ℕ). blank (get_or l j 0)) d
      ∙ ap blank (sym (get_or-drop i l (leading printed (drop i l)) 0))
      ∙ not-true (blank (get_or (drop i l) (leading printed (drop i l)) 0)) (leading_at printed (drop i l) (omega (arith, length-drop i l)))

  skip_fits : r ≤ length l
  skip_fits = omega (arith, line_end_fits printed l i h)

-- ---- where word n starts

pub word_zero : (l : List ℕ) (r : ℕ) → r ≡ 0 + leading printed (drop 0 l) → WordAt l 0 r
word_zero l r d = record { fits = skip_fits l 0 r (omega arith) d; starts = skip_starts l 0 r (omega arith) d; left = skip_left l 0 r (omega arith) d }

module _ (l : List ℕ) (n i : ℕ) (w : WordAt l n i) where
  pub word_next : (e r : ℕ) → i < length l → e ≤ length l → e ≡ suc i + leading blank (drop (suc i) l) → r ≡ e + leading printed (drop e l) → WordAt l (n + 1) r
  word_next e r h k d s = record { fits = skip_fits l e r k s; starts = skip_starts l e r k s; left = rest }
    where
      rest : words (drop r l) ≡ drop (n + 1) (words l)
      rest = skip_left l e r k s ∙ ap (drop 1) (sym (words_from l i e h (w.starts h) d) ∙ w.left) ∙ drop-drop 1 n (words l)

  pub word_there : i < length l → n < length (words l)
  word_there h =
      omega (arith, ap length (sym (words_from l i (suc i + leading blank (drop (suc i) l)) h (w.starts h) refl) ∙ w.left), length-drop n (words l))

  pub word_past : length l ≤ i → length (words l) ≤ n
  word_past h = omega (arith, ap length (sym w.left ∙ ap words (drop_of_length-le l h) ∙ words_nil), length-drop n (words l))

  -- a line with no word n has none behind it
  pub word_beyond : (m : ℕ) → length l ≤ i → n ≤ m → WordAt l m i
  word_beyond m h k = record { fits = w.fits; starts = w.starts; left = rest }
    where
      rest : words (drop i l) ≡ drop m (words l)
      rest = ap words (drop_of_length-le l h) ∙ words_nil ∙ sym (drop_of_length-le (words l) (let q : length (words l) ≤ m = omega (arith, word_past h) in q))

  pub word_none : length l ≤ i → take (length l - i) (drop i l) ≡ get_or (words l) n []
  word_none h =
      ap (λ (m : ℕ). take m (drop i l)) (let q : length l - i ≡ 0 = omega arith in q) ∙ sym (get_or-eq_default (words l) [] (word_past h))

  pub word_is : (e : ℕ) → i < length l → e ≡ suc i + leading blank (drop (suc i) l) → take (e - i) (drop i l) ≡ get_or (words l) n []
  word_is e h d =
      ap (λ (ws : List (List ℕ)). get_or ws 0 []) (sym (words_from l i e h (w.starts h) d) ∙ w.left)
      ∙ get_or-drop n (words l) 0 []
      ∙ ap (λ (j : ℕ). get_or (words l) j []) (let q : n + 0 ≡ n = omega arith in q)

-- ---- a word holds no blank

plain_first : (b : ℕ) (ps : List (List ℕ)) → printed b ≡ true → all (all printed) ps ≡ true → all (all printed) (on_first b ps) ≡ true
unfolding all
plain_first b [] e h = and_intro (printed b && true) true (and_intro (printed b) true e refl) refl
plain_first b (w ∷ ws) e h =
    and_intro (printed b && all printed w) (all (all printed) ws) (and_intro (printed b) (all printed w) e (and_left (all printed w) (all (all printed) ws) h)) (and_right (all printed w) (all (all printed) ws) h)

plain_pieces : (l : List ℕ) → all (all printed) (pieces blank l) ≡ true
unfolding all pieces
plain_pieces [] = refl
plain_pieces (b ∷ bs) = go (split (blank b)) (plain_pieces bs)
  where
    go : (blank b ≡ true) ⊎ (blank b ≡ false) → all (all printed) (pieces blank bs) ≡ true → all (all printed) (pieces blank (b ∷ bs)) ≡ true
    go (inl e) r = rw (pieces, e) r
    go (inr e) r = rw (pieces_on blank b bs e) (plain_first b (pieces blank bs) (ap not e) r)

pub word_plain : (l : List ℕ) (n : ℕ) → all printed (get_or (words l) n []) ≡ true
unfolding words all
word_plain l n = go (lt_or_le n (length (words l)))
  where
    go : (n < length (words l)) ⊎ (length (words l) ≤ n) → all printed (get_or (words l) n []) ≡ true
    go (inl h) = all_of (all printed) (pieces blank l) (plain_pieces l) (keep_of some_bytes (pieces blank l) (get_d_member (words l) n [] h)).0
    go (inr h) = ap (all printed) (get_or-eq_default (words l) [] h)
