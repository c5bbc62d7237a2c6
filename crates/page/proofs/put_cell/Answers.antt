use mathlib.Core.Path.{sym, ap, ◌∙◌}
use native.Mathlib.Omega.{arith}
use Rattle.sets.proofs.Given.{given_some, given_lowest, given_out, none_left, none_empty}
use Rattle.page.specs.Page.{blanks}
use Rattle.page.proofs.Names.{next_below, cell_empty, cell_filled}
use Rattle.page.proofs.put_cell.Goals as goal

pub name_at-a-requires : goal.name_at-a-requires
name_at-a-requires c =
    let N = c.requires.0 in
    let h = c.in-Some.ensures.steps in
    omega (arith, N.narrow, next_below c.args.sheet.now _ c.in-Some.q N (given_some _ _ _ h) (given_lowest _ _ _ h))

pub slice_bounds-copy-end : goal.slice_bounds-copy-end
slice_bounds-copy-end c =
    let N = c.requires.0 in
    let h = c.in-Some.ensures.steps in
    omega (arith, N.long, c.name_at-a.ensures.0, next_below c.args.sheet.now _ c.in-Some.q N (given_some _ _ _ h) (given_lowest _ _ _ h))

pub returns-in-Some : goal.returns-in-Some
returns-in-Some c =
    let h = c.in-Some.ensures.steps in
    let e =
    cell_filled c.args.sheet.now _ c.in-Some.q _ c.name_at-a.result c.requires.0 (given_some _ _ _ h) (given_lowest _ _ _ h) c.fill.new.self c.copy.new.dst
    c.name_at-a.ensures.0 (c.fill.ensures.after (λ y e. e) ∙ ap blanks c.requires.1) c.copy.ensures (given_out _ _ _ h) in
    record { out_after = e.0; leaves = e.1 }

pub returns-in_default : goal.returns-in_default
returns-in_default c =
    let h = c.in_default.ensures.steps in
    let e =
    cell_empty c.args.sheet.now _ _ _ c.requires.0 (none_empty _ h.0) (none_left _ h.1 ∙ sym (none_left _ h.0))
    (c.fill.ensures.after (λ y e. e) ∙ ap blanks c.requires.1) in
    record { out_after = e.0; leaves = e.1 }
