-- The six columns of a number. Assumes nothing.
use mathlib.Core.Path.{◌≡◌, ap, ap₂}
use mathlib.Core.List.{List, [], ◌∷◌}
use Prim.Native.Nat.{ℕ}
use lib.Seq.{sets}
use Rattle.page.specs.Page.{column, six_columns}

pub six_put : (o : List ℕ) (n a b c d e f : ℕ) → a ≡ column n 100000 → b ≡ column n 10000 → c ≡ column n 1000 → d ≡ column n 100
    → e ≡ column n 10 → f ≡ column n 1 → sets o 0 (a ∷ b ∷ c ∷ d ∷ e ∷ f ∷ []) ≡ sets o 0 (six_columns n)
unfolding six_columns
six_put o n a b c d e f ea eb ec ed ee ef =
    let cons : ℕ → List ℕ → List ℕ = λ x l. x ∷ l in
    ap (sets o 0) (ap₂ cons ea (ap₂ cons eb (ap₂ cons ec (ap₂ cons ed (ap₂ cons ee (ap (λ (x : ℕ). x ∷ []) ef))))))
