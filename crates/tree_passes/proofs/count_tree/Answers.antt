use mathlib.Core.Path.{refl, ap, ◌∙◌}
use native.Mathlib.Omega.{arith}
use Rattle.sheet.specs.Sheet.{links}
use Rattle.sheet.specs.declared.checked_sheet.Checked.{Checked}
use Rattle.slots.proofs.Lengths.{room_within}
use Rattle.slots.proofs.Places.{same_slots, slots_both}
use Rattle.slots.specs.List.{slots_of}
use Rattle.tree_passes.proofs.SheetPasses.{passes_two, passes_few, takes_same, kept_same, counting_first, counting_more, counting_last}
use Rattle.tree_passes.proofs.count_tree.Goals as goal

pub loop-level-init : goal.loop-level-init
loop-level-init c = (
  omega arith,
  omega arith,
  refl,
  refl,
  same_slots _,
  counting_first _ _ _ c.requires.0 c.requires.1 _ _ c.no_rows-rows.ensures c.clear.ensures.tables_after,
)

pub next-requires : goal.next-requires
next-requires c =
    let l = c.loop-level in (
      omega (arith, passes_two _ _ _ c.requires.0 c.requires.1, l.invariant.3),
      omega (arith, l.invariant.0, ap (λ (x : Checked). links x.bytes.now) l.invariant.2),
    )

pub overflow_add-n : goal.overflow_add-n
overflow_add-n c =
    let l = c.loop-level in
    let t = c.in-Some.ensures.level.0 in
    let few = passes_few _ _ _ c.requires.0 c.requires.1 in
    let u = c.next.new.slots in
    record {
      fits = omega (
        arith,
        l.invariant.1,
        l.invariant.0,
        c.count_end-n.ensures.value.1,
        u.fits,
        room_within u.tables.now.entries.now,
        few,
      );
    }

pub loop-level-preserved : goal.loop-level-preserved
loop-level-preserved c =
    let l = c.loop-level in
    let n = c.count_end-n in
    let u = c.next.new.slots in
    let b = ap (λ (x : Checked). x.bytes.now) l.invariant.2 in
    let t = takes_same _ _ _ _ _ _ _ _ _ _ _ b l.invariant.3 c.in-Some.ensures.level.0 in (
      t.few,
      omega (arith, l.invariant.1, n.ensures.value.1, u.fits, room_within u.tables.now.entries.now, t.more),
      c.in-Some.ensures.walk.0 ∙ l.invariant.2,
      c.in-Some.ensures.walk.1 ∙ l.invariant.3,
      slots_both l.invariant.4 (slots_both c.in-Some.ensures.same (kept_same n.ensures.kept)),
      counting_more _ _ _ c.requires.0 c.requires.1 _ _ _ _ _ _ _ _ l.n n.result _ l.invariant.5 t c.in-Some.ensures.level.1 n.ensures.value.0
          n.ensures.slots_after,
    )

pub returns-clause-value : goal.returns-clause-value
returns-clause-value c =
    let l = c.loop-level in
    counting_last _ _ _ c.requires.0 c.requires.1 l.walk.start l.walk.rows.now (slots_of l.slots) l.n
    (omega (arith, c.in_default.ensures.level, ap (λ (x : Checked). links x.bytes.now) l.invariant.2)) l.invariant.5
