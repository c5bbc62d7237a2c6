-- A strong clique is one of the links that it may have, so that slots enough for all cliques of these are enough for the strong ones. Assumes nothing.
use mathlib.Core.Path.{◌≡◌, sym, ap, ◌∙◌, subst}
use mathlib.Core.Logic.{◌⊎◌, inl, inr}
use mathlib.Core.Bool.{Bool, true}
use mathlib.Core.List.{List, [], ◌∷◌}
use Prim.Native.Nat.{ℕ, ◌≤◌, ◌<◌}
use native.Mathlib.Omega.{arith}
use lib.ListN.{length, take}
use lib.Ieee.{Float}
use borrow.Author.Tests.{leb-true}
use Rattle.answers.specs.Verdict.{accepted}
use Rattle.sets.specs.Lists.{◌∈◌}
use Rattle.sets.proofs.Tests.{lt_or_le}
use Rattle.sets.proofs.ListLaws.{Holds, keep_of}
use Rattle.percolation.specs.Links.{Link, heavy, cliques, family, slots}
use Rattle.percolation.specs.Steps.{enough}
use Rattle.percolation.specs.Strength.{weights_in, weakest_of, by_weakest, strong}
use Rattle.percolation.proofs.Strength.{weakest_old}
use Rattle.products.specs.declared.Measure.{Measure}
use Rattle.products.specs.declared.Measure.TheVariants.{Weakest, Product}
use Rattle.products.specs.Measures.{strong_enough, strong_with, reaches}
use Rattle.sheet.specs.Sheet.{parts, links, links_of, check_sheet}
use Rattle.sheet.proofs.Sound.{sheet_legal}
use Rattle.slots.proofs.Lengths.{enough_room, room_enough}
use Rattle.clique_taking.proofs.AllTaken.{slots_mono}
use Rattle.runs.proofs.InSheet.{first_all}
use Rattle.strong_checks.specs.Model.{bearing}
use Rattle.strong_checks.specs.OnSheet.{strong_of}

-- a weakest link is of 16 bits
weakest_narrow : (W : List ℕ) → weakest_of W ≤ 65535
unfolding weakest_of
weakest_narrow [] = omega arith
weakest_narrow (w ∷ W) = let rest : weakest_of W ≤ 65535 = weakest_narrow W in omega (arith, rest)

pub bearing_strong : (s : List ℕ) (k : ℕ) (M : Measure) → check_sheet s ≡ accepted → Holds (cliques (bearing M (links_of s)) (parts s) k) (strong_of s k M)
unfolding bearing strong_of strong reaches strong_with strong_enough by_weakest family
bearing_strong s k (Product t) ok x i = (keep_of (reaches (links_of s) (parts s) (Product t)) (cliques (links_of s) (parts s) k) i).0
bearing_strong s k (Weakest t) ok x i = go (lt_or_le 65535 t)
  where
    least : t ≤ weakest_of (weights_in (links_of s) (parts s) x)
    least = leb-true t _ (keep_of (reaches (links_of s) (parts s) (Weakest t)) (cliques (links_of s) (parts s) k) i).1

    go : (65535 < t) ⊎ (t ≤ 65535) → x ∈ cliques (heavy t (links_of s)) (parts s) k
    go (inl l) = absurd (omega (arith, least, weakest_narrow (weights_in (links_of s) (parts s) x)))
    go (inr l) = subst (λ (F : List ℕ). x ∈ F) (weakest_old (links_of s) (parts s) k t (sheet_legal s ok) l) i

pub sure_fits : (s : List ℕ) (k : ℕ) (M : Measure) → check_sheet s ≡ accepted → (es : List ℕ) (u : Bool)
    → u ≡ enough (length es) (slots (parts s) k (cliques (bearing M (links_of s)) (parts s) k))
    → u ≡ true → enough (length es) (slots (parts s) k (strong_of s k M)) ≡ true
sure_fits s k M ok es u told e =
    enough_room es (slots (parts s) k (strong_of s k M))
    (omega (
      arith,
      room_enough es (slots (parts s) k (cliques (bearing M (links_of s)) (parts s) k)) (sym told ∙ e),
      slots_mono (parts s) k (strong_of s k M) (cliques (bearing M (links_of s)) (parts s) k) (bearing_strong s k M ok),
    ))

-- how many these are, as the code counts them
module _ (s : List ℕ) (M : Measure) (n : ℕ) where
  pub bearing_weakest : (t : ℕ) → M ≡ Weakest t → take n (links_of s) ≡ heavy t (links_of s) → take n (links_of s) ≡ bearing M (links_of s)
  unfolding bearing
  bearing_weakest t e f = f ∙ sym (ap (λ (X : Measure). bearing X (links_of s)) e)

  pub bearing_product : n ≡ links s → (t : Float) → M ≡ Product t → take n (links_of s) ≡ bearing M (links_of s)
  unfolding bearing
  bearing_product all t e = first_all s n all ∙ sym (ap (λ (X : Measure). bearing X (links_of s)) e)

pub bearing_slots : (s : List ℕ) (k : ℕ) (M : Measure) (a n : ℕ) (u : Bool) → take n (links_of s) ≡ bearing M (links_of s)
    → u ≡ enough a (slots (parts s) k (cliques (take n (links_of s)) (parts s) k))
    → u ≡ enough a (slots (parts s) k (cliques (bearing M (links_of s)) (parts s) k))
bearing_slots s k M a n u first told = told ∙ ap (λ (L : List Link). enough a (slots (parts s) k (cliques L (parts s) k))) first
