use mathlib.Core.Path.{sym, ap, ap₂, ◌∙◌}
use mathlib.Core.List.{List}
use Prim.Native.Nat.{ℕ, ◌+◌}
use lib.Seq.{sets}
use Rattle.sets.specs.Value.{bytes}
use Rattle.sheet_writer.proofs.Written.{link_put, ones_then}
use Rattle.sheet_writer.proofs.put_link.Goals as goal

pub returns : goal.returns
returns c =
    let a = c.args in
    let l = a.link in
    c.put-3.ensures
    ∙ ap₂ (λ (w : ℕ) (o : List ℕ). sets o (a.k + 2) (bytes 2 w)) c.from.ensures
    (c.put-2.ensures ∙ ap (λ (o : List ℕ). sets o (a.k + 1) (bytes 1 l.high)) c.put.ensures)
    ∙ ones_then a.out.now a.k l.low l.high (bytes 2 l.weight)
    ∙ sym (ap (sets a.out.now a.k) (link_put l.low l.high l.weight))
