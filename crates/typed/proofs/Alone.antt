-- A line of one word. Assumes nothing.
use mathlib.Core.Path.{◌≡◌, ap}
use mathlib.Core.List.{List, [], ◌∷◌}
use Prim.Native.Nat.{ℕ}
use native.Mathlib.Omega.{arith}
use lib.ListN.{length, get_or}

pub alone : (ws : List (List ℕ)) (w : List ℕ) → length ws ≡ 1 → get_or ws 0 [] ≡ w → ws ≡ w ∷ []
alone [] w h e = absurd (omega arith)
alone (x ∷ []) w h e = ap (λ y. y ∷ []) e
alone (x ∷ y ∷ ws) w h e = absurd (omega arith)
