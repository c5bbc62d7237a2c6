use mathlib.Core.Path.{◌≡◌, sym, ap₂, ◌∙◌}
use mathlib.Core.List.{List, [], ◌∷◌}
use Prim.Native.Nat.{ℕ, ◌*◌}
use native.Mathlib.Omega.{arith}
use lib.ListN.{set}
use lib.Seq.{sets}
use Rattle.sets.specs.Words.{words}
use Rattle.sets.specs.Value.{set_words, num, rows}
use Rattle.sets.proofs.Held.{held_back}
use Rattle.sets.proofs.Tables.{store_in, store_past}
use Rattle.sets.proofs.put.Goals as goal

-- the words of row i are those from i * set_words on
put_words : (xs : List ℕ) (i w n : ℕ) → words set_words n ≡ w ∷ [] → set xs i w ≡ sets xs (i * set_words) (words set_words n)
put_words xs i w n e = ap₂ (λ (k : ℕ) (ws : List ℕ). sets xs k ws) (let f : i ≡ i * set_words = omega arith in f) (sym e)

pub returns-then-i-table : goal.returns-then-i-table
unfolding rows
returns-then-i-table c =
    let a = c.args in
    put_words _ _ a.s.word (num a.s) (held_back a.s c.well_formed.1.1.0) ∙ sym (store_in _ _ _ (omega arith))

pub returns-else-i-table : goal.returns-else-i-table
unfolding rows
returns-else-i-table c = sym (store_past _ _ _ (omega arith))
