-- A weight read digit by digit. Assumes nothing.
use mathlib.Core.Path.{◌≡◌, refl, ap, ◌∙◌}
use mathlib.Core.Bool.{Bool, true, false, cond, ◌&&◌}
use mathlib.Core.List.{List, [], ◌∷◌}
use Prim.Native.Nat.{ℕ, suc, ◌+◌, ◌*◌, ◌-◌, ◌<◌, ◌≤◌}
use native.Mathlib.Omega.{arith}
use native.Mathlib.Numerals.{add-one}
use lib.Dec.{leb}
use lib.ListN.{length, get_or, drop, drop_of_length-le}
use lib.Seq.{drop-cons}
use borrow.Author.Tests.{le-leb, lt-leb}
use Rattle.std.specs.Prelude.{Option, Some, None}
use Rattle.sets.specs.Lists.{all}
use Rattle.sets.proofs.Tests.{no_and}
use Rattle.percolation.specs.Ranges.{in_range}
use Rattle.text.specs.Reading.{value_from, value, is_weight}

-- what the code answers for digits l behind the value v
unfoldable pub weight_from : ℕ → List ℕ → Option ℕ
weight_from v l = cond (all (in_range 48 57) l && leb (value_from v l) 65535) (Some (value_from v l)) None

-- ---- a digit

pub digit_none : (b : ℕ) → None ≡ cond (in_range 48 57 b) (Some (b - 48)) None → in_range 48 57 b ≡ false
digit_none b e = pick (in_range 48 57 b) e
  where
    pick : (x : Bool) → None ≡ cond x (Some (b - 48)) None → x ≡ false
    pick true f = absurd cc
    pick false f = refl

pub digit_some : (b d : ℕ) → Some d ≡ cond (in_range 48 57 b) (Some (b - 48)) None → (in_range 48 57 b ≡ true) × (d ≡ b - 48)
digit_some b d e = pick (in_range 48 57 b) e
  where
    pick : (x : Bool) → Some d ≡ cond x (Some (b - 48)) None → (x ≡ true) × (d ≡ b - 48)
    pick true f = (refl, cc)
    pick false f = absurd cc

-- ---- digit by digit

value_grows : (v : ℕ) (l : List ℕ) → v ≤ value_from v l
unfolding value_from
value_grows v [] = omega arith
value_grows v (b ∷ l) = let h = value_grows (10 * v + (b - 48)) l in omega arith

pub weight_none : (w : List ℕ) → cond (is_weight w) (Some (value w)) None ≡ weight_from 0 w
unfolding weight_from is_weight value
weight_none w = refl

pub weight_bad : (v : ℕ) (w : List ℕ) (i : ℕ) → i < length w → in_range 48 57 (get_or w i 0) ≡ false → weight_from v (drop i w) ≡ None
unfolding weight_from all
weight_bad v w i h e = ap (weight_from v) (drop-cons w i 0 h) ∙ rw e refl

pub weight_over : (v : ℕ) (w : List ℕ) (i : ℕ) → i < length w → 65535 < 10 * v + (get_or w i 0 - 48) → weight_from v (drop i w) ≡ None
unfolding weight_from all value_from
weight_over v w i h g =
    let l = drop (suc i) w in
    let k : 65535 < value_from (10 * v + (get_or w i 0 - 48)) l = omega (arith, value_grows (10 * v + (get_or w i 0 - 48)) l) in
    ap (weight_from v) (drop-cons w i 0 h)
    ∙ rw (lt-leb (value_from (10 * v + (get_or w i 0 - 48)) l) 65535 k, no_and (in_range 48 57 (get_or w i 0) && all (in_range 48 57) l)) refl

pub weight_more : (v : ℕ) (w : List ℕ) (i : ℕ) → i < length w → in_range 48 57 (get_or w i 0) ≡ true
    → weight_from v (drop i w) ≡ weight_from (10 * v + (get_or w i 0 - 48)) (drop (i + 1) w)
unfolding weight_from all value_from
weight_more v w i h e = ap (weight_from v) (drop-cons w i 0 h) ∙ rw (e, add-one i) refl

pub weight_end : (v : ℕ) (w : List ℕ) (i : ℕ) → length w ≤ i → v ≤ 65535 → weight_from v (drop i w) ≡ Some v
unfolding weight_from all value_from
weight_end v w i h k = ap (weight_from v) (drop_of_length-le w h) ∙ rw (le-leb v 65535 k) refl
