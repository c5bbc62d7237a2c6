-- What a line asks for, by its form. Assumes nothing.
use mathlib.Core.Bool.{false}
use mathlib.Core.Path.{◌≡◌, refl, sym, ap, ◌∙◌}
use mathlib.Core.List.{List, [], ◌∷◌}
use Prim.Native.Nat.{ℕ}
use Rattle.sets.specs.Lists.{same}
use Rattle.sets.proofs.Tests.{not_so, cond_stop}
use Rattle.sets.proofs.ListLaws.{same_of}
use Rattle.words.specs.declared.Form.{Form}
use Rattle.words.specs.Lines.{Said, words, words_say, formed}
use Rattle.typed.specs.declared.commands.Command.TheVariants as asked
use Rattle.typed.specs.Commands.{back_word, list_word, quit_word, word_asks, said_asks, line_asks}

-- none of the three
pub asks_unknown : (ws : List (List ℕ)) → (ws ≡ back_word ∷ [] → ⊥) → (ws ≡ list_word ∷ [] → ⊥) → (ws ≡ quit_word ∷ [] → ⊥) → word_asks ws ≡ asked.Unknown
unfolding word_asks
asks_unknown [] b l q = refl
asks_unknown (w ∷ []) b l q =
    sym (cond_stop _ _ _ (other back_word b) (cond_stop _ _ _ (other list_word l) (cond_stop _ _ _ (other quit_word q) refl)))
  where
    other : (v : List ℕ) → (w ∷ [] ≡ v ∷ [] → ⊥) → same w v ≡ false
    other v n = not_so (same w v) (λ t. n (ap (λ (x : List ℕ). x ∷ []) (same_of w v t)))
asks_unknown (w ∷ v ∷ ws) b l q = refl

-- the form that was told
pub asks_formed : (l : List ℕ) (f g : Form) → formed f (words l) ≡ words_say (words l) → f ≡ g → said_asks (formed g (words l)) (words l) ≡ line_asks l
unfolding line_asks
asks_formed l f g e s = ap (λ (x : Said). said_asks x (words l)) (ap (λ (y : Form). formed y (words l)) (sym s) ∙ e)
