-- Laws of what a line's words say, by their number and the first of them. Assumes nothing.
use mathlib.Core.Path.{◌≡◌, refl, sym, ◌∙◌}
use mathlib.Core.Bool.{true, false, cond, ◌&&◌, true≢false}
use mathlib.Core.List.{List, [], ◌∷◌}
use mathlib.Core.Logic.{◌⊎◌, inl, inr}
use Prim.Native.Nat.{ℕ}
use native.Mathlib.Omega.{arith}
use lib.Dec.{eqb}
use lib.ListN.{length, get_or}
use Rattle.sets.specs.Lists.{same}
use lib.Pointwise.{pointwise, bytes_decides}
use borrow.Author.Tests.{eq-eqb, eqb-true}
use Rattle.std.specs.List.{starts_with}
use Rattle.sets.proofs.Tests.{split, iff, and_left, and_intro}
use Rattle.sets.proofs.ListLaws.{same_of}
use Rattle.words.specs.Lines.{comment, part_word, link_word, after_part, after_link, words_say, silent, part_said, link_said, neither}

-- ---- the first word

pub comment_tested : (w : List ℕ) → starts_with eqb w (35 ∷ []) ≡ comment w
unfolding comment
comment_tested [] = refl
comment_tested (b ∷ bs) = iff (eqb 35 b && true) (eqb b 35) (λ t. eq-eqb b 35 (sym (eqb-true 35 b (and_left (eqb 35 b) true t))))
    (λ t. and_intro (eqb 35 b) true (eq-eqb 35 b (sym (eqb-true b 35 t))) refl)

-- as `==` tests it
pub word_same : (w v : List ℕ) → true ≡ pointwise eqb w v → w ≡ v
word_same w v e = (bytes_decides w v).0 (sym e)

pub word_other : (w v : List ℕ) → false ≡ pointwise eqb w v → w ≡ v → ⊥
word_other w v e p = true≢false (sym ((bytes_decides w v).1 p) ∙ sym e)

-- ---- the line

pub says_nothing : (ws : List (List ℕ)) → length ws ≡ 0 → silent ≡ words_say ws
unfolding words_say
says_nothing [] h = refl
says_nothing (w ∷ ws) h = absurd (omega arith)

pub says_comment : (ws : List (List ℕ)) → comment (get_or ws 0 []) ≡ true → silent ≡ words_say ws
unfolding words_say
says_comment [] e = refl
says_comment (w ∷ ws) e = rw e

pub says_part : (ws : List (List ℕ)) → length ws ≡ 2 → get_or ws 0 [] ≡ part_word → part_said (get_or ws 1 []) ≡ words_say ws
unfolding words_say
says_part [] h e = absurd (omega arith)
says_part (w ∷ []) h e = absurd (omega arith)
says_part (w ∷ x ∷ []) h e = rw e
says_part (w ∷ x ∷ y ∷ ws) h e = absurd (omega arith)

pub says_link : (ws : List (List ℕ)) → length ws ≡ 4 → get_or ws 0 [] ≡ link_word → link_said (get_or ws 1 []) (get_or ws 2 []) (get_or ws 3 []) ≡ words_say ws
unfolding words_say
says_link [] h e = absurd (omega arith)
says_link (w ∷ []) h e = absurd (omega arith)
says_link (w ∷ x ∷ []) h e = absurd (omega arith)
says_link (w ∷ x ∷ y ∷ []) h e = absurd (omega arith)
says_link (w ∷ x ∷ y ∷ z ∷ []) h e = rw e
says_link (w ∷ x ∷ y ∷ z ∷ v ∷ ws) h e = absurd (omega arith)

part_other : (ws : List (List ℕ)) → (length ws ≡ 1 → ⊥) → neither ≡ after_part ws
unfolding after_part
part_other [] h = refl
part_other (x ∷ []) h = absurd (h refl)
part_other (x ∷ y ∷ ws) h = refl

link_other : (ws : List (List ℕ)) → (length ws ≡ 3 → ⊥) → neither ≡ after_link ws
unfolding after_link
link_other [] h = refl
link_other (x ∷ []) h = refl
link_other (x ∷ y ∷ []) h = refl
link_other (x ∷ y ∷ w ∷ []) h = absurd (h refl)
link_other (x ∷ y ∷ w ∷ v ∷ ws) h = refl

pub says_neither : (ws : List (List ℕ)) → (length ws ≡ 0 → ⊥) → comment (get_or ws 0 []) ≡ false → (length ws ≡ 2 → get_or ws 0 [] ≡ part_word → ⊥)
    → (length ws ≡ 4 → get_or ws 0 [] ≡ link_word → ⊥) → neither ≡ words_say ws
unfolding words_say
says_neither [] h e p k = absurd (h refl)
says_neither (w ∷ ws) h e p k = rw e (go (split (same w part_word)) (split (same w link_word)))
  where
    go : (same w part_word ≡ true) ⊎ (same w part_word ≡ false) → (same w link_word ≡ true) ⊎ (same w link_word ≡ false) → neither ≡ cond (same w part_word) (after_part ws) (cond (same w link_word) (after_link ws) neither)
    go (inl i) d = rw i (part_other ws (λ n. p (omega arith) (same_of w part_word i)))
    go (inr i) (inl j) = rw (i, j) (link_other ws (λ n. k (omega arith) (same_of w link_word j)))
    go (inr i) (inr j) = rw (i, j)
