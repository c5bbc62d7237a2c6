use mathlib.Core.Path.{◌≡◌, refl, ap, ◌∙◌}
use native.Mathlib.Omega.{arith}
use Rattle.percolation.specs.Links.{Link}
use Rattle.slots.proofs.Places.{same_slots, slots_both}
use Rattle.runs.proofs.InSheet.{sheet_given, link_ends}
use Rattle.runs.proofs.LinkList.{rows_next, rows_end, tables_next, tables_end}
use Rattle.runs.proofs.take_links.Goals as goal

pub loop-j-init : goal.loop-j-init
loop-j-init c = (same_slots _, refl, refl, refl)

pub take_link-requires : goal.take_link-requires
take_link-requires c =
    let e = c.link.ensures.0 in
    let h = link_ends _ c.args.sheet.passed c.loop-j.j (omega (arith, c.loop-j-test.true, c.requires.1)) in
    (c.requires.2, omega (arith, h.0, ap (λ (l : Link). l.low) e), omega (arith, h.1, ap (λ (l : Link). l.high) e))

pub loop-j-preserved : goal.loop-j-preserved
loop-j-preserved c =
    let a = c.args in
    let l = c.loop-j in
    let t = c.take_link in
    let e = c.link.ensures.0 in (
      slots_both l.invariant.0 t.ensures.same,
      t.auto.rows ∙ l.invariant.1,
      rows_next _ _ _ (sheet_given a.sheet.bytes.now) a.to c.requires.1 l.rows _ l.j _ c.loop-j-test.true e t.ensures.rows_after ∙ l.invariant.2,
      tables_next _ _ _ (sheet_given a.sheet.bytes.now) a.to c.requires.1 a.k l.rows _ _ _ l.j _ c.loop-j-test.true e t.ensures.rows_after
          t.ensures.slots_after ∙ l.invariant.3,
    )

pub shape_of-rows : goal.shape_of-rows
shape_of-rows c = c.loop-j.invariant.1

pub returns-clause-slots_after : goal.returns-clause-slots_after
returns-clause-slots_after c =
    let l = c.loop-j in
    let e : l.j ≡ c.args.to = omega (arith, c.requires.0, c.loop-j.auto.j-end) in
    tables_end _ _ _ (sheet_given c.args.sheet.bytes.now) c.args.to c.requires.1 c.args.k l.rows _ l.j e ∙ l.invariant.3

pub returns-clause-rows_after : goal.returns-clause-rows_after
returns-clause-rows_after c =
    let l = c.loop-j in
    let e : l.j ≡ c.args.to = omega (arith, c.requires.0, c.loop-j.auto.j-end) in
    rows_end _ _ _ (sheet_given c.args.sheet.bytes.now) c.args.to c.requires.1 l.rows l.j e ∙ l.invariant.2
