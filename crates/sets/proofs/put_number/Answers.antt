use mathlib.Core.Path.{◌≡◌, ap, ◌∙◌}
use mathlib.Core.List.{List}
use Prim.Native.Nat.{ℕ}
use Rattle.sets.specs.Value.{store}
use Rattle.sets.proofs.put_number.Goals as goal

put_is : (xs ys : List ℕ) (i m n : ℕ) → ys ≡ store xs i m → m ≡ n → ys ≡ store xs i n
put_is xs ys i m n e f = e ∙ ap (store xs i) f

pub returns : goal.returns
returns c = put_is _ _ _ _ _ c.put.ensures c.from_word.ensures
