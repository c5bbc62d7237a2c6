use mathlib.Core.Path.{refl, ap, ◌∙◌}
use native.Mathlib.Omega.{arith}
use Prim.Native.Nat.{ℕ, ◌+◌, ◌*◌}
use Rattle.sets.specs.Sets.{size}
use Rattle.page.specs.Page.{rows_for}
use Rattle.page.proofs.Filling.{part_length}
use Rattle.page.proofs.ReadLines.{read_union, read_weight}
use Rattle.page.proofs.Steps.{lines_start, line_named, line_rows_lem, line_room, line_same, lines_step, lines_end}
use Rattle.page.proofs.put_page.Goals as goal

pub loop-j-init : goal.loop-j-init
loop-j-init c = (
  lines_start c.args.sheet.now c.args.lines.now c.args.out.now
      c.args.n c.requires.1 c.requires.2,
  refl,
)

pub overflow_add-end : goal.overflow_add-end
overflow_add-end c =
    let a = c.args in
    let p = c.requires in
    let l = c.loop-j in
    record {
      fits = omega (
        arith,
        line_room a.sheet.now a.lines.now p.0 l.out a.n l.at l.j l.invariant.0 p.1 c.loop-j-test.true
            c.rows_of-rows.result (c.rows_of-rows.ensures.0 ∙ ap (λ (u : ℕ). rows_for (size u)) (read_union a.lines.now l.j _ c.line_at-line.ensures)),
        l.invariant.1,
      );
    }

pub slice_bounds-put_line-end : goal.slice_bounds-put_line-end
slice_bounds-put_line-end c =
    let a = c.args in
    let l = c.loop-j in
    line_room a.sheet.now a.lines.now c.requires.0 l.out a.n l.at l.j l.invariant.0 c.requires.1 c.loop-j-test.true
    c.rows_of-rows.result (c.rows_of-rows.ensures.0 ∙ ap (λ (u : ℕ). rows_for (size u)) (read_union a.lines.now l.j _ c.line_at-line.ensures))

pub put_line-requires : goal.put_line-requires
put_line-requires c =
    let a = c.args in
    let p = c.requires in
    let l = c.loop-j in
    let s = a.sheet.now in
    let b = a.lines.now in
    let t = c.loop-j-test.true in
    let u = read_union b l.j _ c.line_at-line.ensures in
    let k = c.rows_of-rows in
    let all = k.ensures.0 ∙ ap (λ (x : ℕ). rows_for (size x)) u in
    let room = line_room s b p.0 l.out a.n l.at l.j l.invariant.0 p.1 t k.result all in (
      line_named s b p.0 l.out a.n l.at l.j l.invariant.0 p.1 t _ u,
      line_rows_lem s b p.0 l.out a.n l.at l.j l.invariant.0 p.1 t _ _ k.result u refl k.ensures.0,
      part_length l.out l.at (l.at + 73 * k.result) (73 * k.result) refl room,
    )

pub loop-j-preserved : goal.loop-j-preserved
loop-j-preserved c =
    let a = c.args in
    let p = c.requires in
    let l = c.loop-j in
    let s = a.sheet.now in
    let b = a.lines.now in
    let t = c.loop-j-test.true in
    let y = c.line_at-line.ensures in
    let u = read_union b l.j _ y in
    let k = c.rows_of-rows in
    let all = k.ensures.0 ∙ ap (λ (x : ℕ). rows_for (size x)) u in
    let same = line_same s b p.0 l.out a.n l.at l.j l.invariant.0 p.1 t _ _ _ refl (read_weight b l.j _ y) u in
    let step =
    lines_step s b p.0 l.out a.n l.at l.j l.invariant.0 p.1 t _ k.result (l.at + 73 * k.result) all refl
    (c.put_line.ensures ∙ same) in
    (step.0, step.1 ∙ l.invariant.1)

pub shape_of-out : goal.shape_of-out
shape_of-out c = c.loop-j.invariant.1

pub returns : goal.returns
returns c =
    let l = c.loop-j in
    lines_end c.args.sheet.now c.args.lines.now l.out c.args.n l.at l.j l.invariant.0 (omega arith)
