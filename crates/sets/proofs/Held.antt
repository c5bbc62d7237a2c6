-- What holding a set tells: its words are of 64 digits, so its number is below 2 ^ width. A caller cites `held` at a parameter, `c.well_formed.0`, or at a
-- call's result, `c.f.type_inv`, and `held_in` at a set in a struct, where nothing is said of the values that hold it. Assumes nothing.
use mathlib.Core.List.{List, [], ◌∷◌}
use mathlib.Core.Path.{◌≡◌, sym, ap, ◌∙◌, subst}
use Prim.Native.Nat.{ℕ, ◌<◌, ◌^◌}
use mir.Val.{Val}
use denote.Laws.{Is}
use denote.Struct.Declared.{row}
use denote.Struct.Laws.{val}
use Rattle.sets.specs.declared.Set.{Set}
use Rattle.sets.specs.Words.{words}
use Rattle.sets.specs.Value.{set_words, width, num}
use Rattle.sets.specs.contracts.Set.{the_type}
use Rattle.sets.proofs.Set.TheLaws.{the_laws}
use Rattle.sets.proofs.WordLists.{Fits, none, more, number_one, number_lt, words_back}

module _ (s : Set) (vs : List Val) (g : Is (row the_type) s vs) where
  words_held : Fits set_words (s.word ∷ [])
  words_held = more g.1.1.0.1 none

  pub held_in : num s < 2 ^ width
  unfolding num
  held_in = subst (λ (n : ℕ). n < 2 ^ width) (number_one s.word) (number_lt words_held)

module _ (s : Set) (g : Is (row the_type) s (val the_type the_laws s ∷ [])) where
  pub held : num s < 2 ^ width
  held = held_in s (val the_type the_laws s ∷ []) g

  pub held_back : words set_words (num s) ≡ s.word ∷ []
  unfolding num
  held_back = ap (words set_words) (sym (number_one s.word)) ∙ words_back (words_held s (val the_type the_laws s ∷ []) g)
