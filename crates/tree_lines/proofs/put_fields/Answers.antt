use Rattle.tree_lines.proofs.LinePlaces.{fields_written}
use Rattle.sets.specs.Value.{num}
use Prim.Native.Nat.{ℕ, ◌+◌}
use mathlib.Core.Path.{refl, ap}
use Rattle.tree_lines.proofs.put_fields.Goals as goal

pub returns : goal.returns
returns c =
    let a = c.args in
    fields_written a.out.now _ _ _ _ _ a.start _ _ _ _ a.line.weight a.line.joins a.line.into (num a.line.small) (num a.line.whole)
    refl refl refl (ap (λ (n : ℕ). a.start + n) c.whole_place.ensures)
    c.put.ensures
    c.put-2.ensures
    c.put-3.ensures
    c.put_bytes.ensures
    c.put_bytes-2.ensures
    c.requires
