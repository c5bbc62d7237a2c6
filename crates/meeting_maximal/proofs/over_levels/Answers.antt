use mathlib.Core.Bool.{not}
use mathlib.Core.Path.{sym, ap, ◌∙◌}
use native.Mathlib.Omega.{arith}
use Rattle.std.proofs.Common.{rules}
use Rattle.sets.proofs.Tables.{rows_length}
use Rattle.percolation.specs.Links.{Link}
use Rattle.slots.proofs.Lengths.{room_within}
use Rattle.answers.specs.declared.Refusal.{Refusal}
use Rattle.answers.specs.Faults.{number_of}
use Rattle.answers.specs.Verdict.{refused}
use Rattle.answers.proofs.Laws.{last_stop}
use Rattle.meeting.proofs.Calls.{meet_refused}
use Rattle.meeting_maximal.proofs.Levels.{first_new, first_kept, first_not, level_past, level_short, level_next, levels_told}
use Rattle.meeting_maximal.proofs.over_levels.Goals as goal
use Rattle.meeting_maximal.proofs.over_levels.Goals.{else-is_none-via-then-is_none+else-joined_in, else-is_none-via-else-is_none}

pub take_level-requires : goal.take_level-requires
take_level-requires c =
    let e = room_within c.args.tables.now.entries.now in
    let r = c.room-room.ensures in
    let l = c.loop-n in (
      c.heavy-end.ensures.1,
      omega (arith, r, e.1),
      omega (arith, r, e.0, c.requires.1, rows_length l.tables.sets.now c.args.tables.now.sets.now l.invariant.1.sets_length),
    )

pub returns-in_default-clause-run : goal.returns-in_default-clause-run
returns-in_default-clause-run c =
    let short =
    level_short _ c.args.sheet.passed c.loop-n.n _ (omega (arith, c.loop-n-test.true, c.args.sheet.counted.1)) (ap (λ (x : Link). x.weight) c.link-l.ensures.0)
    c.heavy-end.result c.heavy-end.ensures.1 c.heavy-end.ensures.0 _ _ _ c.room-room.ensures _ _
    c.in_default.ensures.filled (omega arith) in
    meet_refused _ _ _ (ap (λ (f : Refusal). refused (number_of f.fault) f.place) c.from-full.ensures ∙ sym (last_stop _ 15 0 short))

pub loop-n-smaller-then-joined_in : goal.loop-n-smaller-then-joined_in
loop-n-smaller-then-joined_in c =
    omega (
      arith,
      c.heavy-end.ensures.1,
      level_past _ c.args.sheet.passed c.loop-n.n _ (omega (arith, c.loop-n-test.true, c.args.sheet.counted.1)) (ap (λ (x : Link). x.weight) c.link-l.ensures.0)
          c.heavy-end.result c.heavy-end.ensures.1 c.heavy-end.ensures.0,
    )

pub loop-n-preserved-then-joined_in : goal.loop-n-preserved-then-joined_in
loop-n-preserved-then-joined_in c =
    let q = c.requires in
    let i = c.is_none.ensures ∙ ap not c.if-is_none.true in (
      c.heavy-end.ensures.1,
      search rules,
      level_next _ c.args.sheet.passed c.loop-n.n _ (omega (arith, c.loop-n-test.true, c.args.sheet.counted.1)) (ap (λ (x : Link). x.weight) c.link-l.ensures.0) c.heavy-end.result
          c.heavy-end.ensures.1 c.heavy-end.ensures.0 _ _ _ c.room-room.ensures _ _ c.in-Some.ensures.filled
          c.in-Some.ensures.fits _ _ (omega (arith, q.0)) q.2 q.3 _ _
          (λ K p st one sa sb. first_new _ _ _ i (sym (c.joined_in.ensures K p st one sa sb) ∙ c.if-joined_in.true)) c.loop-n.invariant.2,
    )

pub loop-n-smaller : goal.loop-n-smaller
loop-n-smaller c =
    omega (
      arith,
      c.heavy-end.ensures.1,
      level_past _ c.args.sheet.passed c.loop-n.n _ (omega (arith, c.loop-n-test.true, c.args.sheet.counted.1)) (ap (λ (x : Link). x.weight) c.link-l.ensures.0)
          c.heavy-end.result c.heavy-end.ensures.1 c.heavy-end.ensures.0,
    )

pub loop-n-preserved : goal.loop-n-preserved
loop-n-preserved c =
    let q = c.requires in
    let next = level_next _ c.args.sheet.passed c.loop-n.n _ (omega (arith, c.loop-n-test.true, c.args.sheet.counted.1)) (ap (λ (x : Link). x.weight) c.link-l.ensures.0) c.heavy-end.result
    c.heavy-end.ensures.1 c.heavy-end.ensures.0 _ _ _ c.room-room.ensures _ _ c.in-Some.ensures.filled
    c.in-Some.ensures.fits _ _ (omega (arith, q.0)) q.2 q.3 c.loop-n.met c.loop-n.met in (
      c.heavy-end.ensures.1,
      elim c.else-is_none.branch [ else-is_none-via-then-is_none+else-joined_in w ↦ search rules | else-is_none-via-else-is_none w ↦ search rules ],
      elim c.else-is_none.branch [
        | else-is_none-via-then-is_none+else-joined_in w ↦
            next (λ K p st one sa sb. first_not _ _ _ (sym (w.joined_in.ensures K p st one sa sb) ∙ w.if-joined_in.false)) c.loop-n.invariant.2
        | else-is_none-via-else-is_none w ↦
            next (λ K p st one sa sb. first_kept _ _ _ (c.is_none.ensures ∙ ap not w.if-is_none.false)) c.loop-n.invariant.2
      ],
    )

pub returns-clause-run : goal.returns-clause-run
returns-clause-run c =
    levels_told _ _ _ _ _ _ c.room-room.ensures c.loop-n.n (omega (arith, c.loop-n-test.false, c.loop-n.invariant.0, c.args.sheet.counted.1)) _ c.loop-n.invariant.2
