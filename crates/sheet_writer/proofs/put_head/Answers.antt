use mathlib.Core.Path.{sym, ap, ap₂, ◌∙◌}
use mathlib.Core.List.{List}
use Prim.Native.Nat.{ℕ}
use lib.ListN.{set}
use lib.Seq.{sets}
use Rattle.sets.specs.Value.{bytes}
use Rattle.sets.proofs.SetBytes.{one_byte, two_bytes}
use Rattle.sheet_writer.proofs.Written.{head_put}
use Rattle.sheet_writer.proofs.put_head.Goals as goal

-- the mark alone
abbrev marked : List ℕ → List ℕ
marked l = set (set (set l 0 80) 1 76) 2 83

pub returns : goal.returns
returns c =
    let a = c.args in
    c.put-3.ensures
    ∙ ap (λ (o : List ℕ). sets o 6 (bytes 2 a.m))
    (c.put-2.ensures ∙ ap₂ (λ (o b : List ℕ). sets o 5 b) (c.put.ensures ∙ ap (sets (marked a.out.now) 3) (two_bytes 1)) (one_byte a.p))
    ∙ sym (ap (sets a.out.now 0) (head_put a.p a.m))
