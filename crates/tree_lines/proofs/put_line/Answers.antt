use Rattle.tree_lines.proofs.LinePlaces.{line_room, line_no_room, put_whole}
use Rattle.tree_lines.specs.LineModel.{line_in}
use lib.ListN.{length}
use Prim.Native.Nat.{ℕ, ◌*◌}
use mathlib.Core.Path.{ap}
use native.Mathlib.Omega.{arith}
use Rattle.tree_lines.proofs.put_line.Goals as goal

pub returns-then-out-size : goal.returns-then-out-size
returns-then-out-size c X Y x rest e l h m f = line_no_room c.args.out.now x rest X Y _ c.args.to c.line_length-size.ensures c.if-out-size.true h e m

pub gap-start-requires : goal.gap-start-requires
gap-start-requires c =
    let a = c.args in
    let s = c.line_length-size.ensures in
    (c.requires, omega (arith, s, ap (λ (k : ℕ). a.to * k) s, line_room (length a.out.now) _ a.to s c.if-out-size.false), omega (arith, s))

pub returns : goal.returns
returns c =
    let a = c.args in
    put_whole a.out.now _ _ a.from a.to _ c.gap-start.result (line_in a.line)
    c.line_length-size.ensures c.gap-start.ensures c.put_fields.ensures
