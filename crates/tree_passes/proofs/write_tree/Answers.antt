use mathlib.Core.Path.{refl, ap, ◌∙◌}
use Prim.Native.Nat.{◌<◌, ◌^◌}
use native.Mathlib.Omega.{arith}
use lib.ListN.{length}
use Rattle.sheet.specs.Sheet.{links}
use Rattle.sheet.specs.declared.checked_sheet.Checked.{Checked}
use Rattle.slots.proofs.Lengths.{room_within}
use Rattle.slots.proofs.Places.{same_slots, slots_both}
use Rattle.slots.specs.List.{slots_of}
use Rattle.tree_passes.proofs.SheetPasses.{
  passes_two,
  takes_same,
  kept_same,
  kept_tables,
  writing_first,
  writing_more,
  writing_bound,
  writing_last,
}
use Rattle.tree_passes.proofs.write_tree.Goals as goal

pub loop-level-init : goal.loop-level-init
loop-level-init c = (
  omega arith,
  refl,
  refl,
  refl,
  same_slots _,
  writing_first _ _ _ c.requires.0 c.requires.1 c.args.out.now c.requires.2 _ _ c.no_rows-rows.ensures c.clear.ensures.tables_after,
)

pub next-requires : goal.next-requires
next-requires c =
    let l = c.loop-level in (
      omega (arith, passes_two _ _ _ c.requires.0 c.requires.1, l.invariant.2),
      omega (arith, l.invariant.0, ap (λ (x : Checked). links x.bytes.now) l.invariant.1),
    )

pub write_end-n-requires : goal.write_end-n-requires
write_end-n-requires c =
    let l = c.loop-level in
    let u = c.next.new.slots in
    let b = writing_bound _ _ _ c.requires.0 c.requires.1 c.args.out.now c.requires.2 l.walk.start l.walk.rows.now (slots_of l.slots) l.n l.out l.invariant.5 in
    let s : length c.args.out.now < 2 ^ 64 = omega (arith, c.well_formed) in
    omega (arith, b, s, u.fits, room_within u.tables.now.entries.now)

pub loop-level-preserved : goal.loop-level-preserved
loop-level-preserved c =
    let l = c.loop-level in
    let w = c.write_end-n in
    let b = ap (λ (x : Checked). x.bytes.now) l.invariant.1 in
    let t = takes_same _ _ _ _ _ _ _ _ _ _ _ b l.invariant.2 c.in-Some.ensures.level.0 in
    let small : length c.args.out.now < 2 ^ 64 = omega (arith, c.well_formed) in (
      t.few,
      c.in-Some.ensures.walk.0 ∙ l.invariant.1,
      c.in-Some.ensures.walk.1 ∙ l.invariant.2,
      w.auto.out ∙ l.invariant.3,
      slots_both l.invariant.4 (slots_both c.in-Some.ensures.same (kept_same w.ensures.kept)),
      writing_more _ _ _ c.requires.0 c.requires.1 c.args.out.now c.requires.2 small _ _ _ _ _ _ _ _ l.n w.result _ l.out _ l.invariant.5 t
          c.in-Some.ensures.level.1 w.ensures.value (kept_tables w.ensures.kept) w.ensures.writes_level,
    )

pub returns-clause-output : goal.returns-clause-output
returns-clause-output c =
    let l = c.loop-level in
    writing_last _ _ _ c.requires.0 c.requires.1 c.args.out.now c.requires.2 l.walk.start l.walk.rows.now (slots_of l.slots) l.n l.out
    (omega (arith, c.in_default.ensures.level, ap (λ (x : Checked). links x.bytes.now) l.invariant.1)) l.invariant.5
