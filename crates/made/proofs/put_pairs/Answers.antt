use mathlib.Core.Path.{◌≡◌, ap, ap₂, ◌∙◌}
use Prim.Native.Nat.{ℕ, ◌+◌, ◌*◌, ◌/◌, ◌%◌}
use native.Mathlib.Omega.{arith}
use mathlib.Core.List.{List}
use mathlib.Core.Bool.{true, false}
use lib.ListN.{get_or}
use Rattle.std.proofs.lemmas.Grind.{common_steps}
use Rattle.percolation.specs.Links.{link}
use Rattle.link_order.specs.Lent.{link_lists_of}
use Rattle.made.specs.Made.{weight_at}
use Rattle.made.specs.Model.{pair_at, is_pair}
use Rattle.made.proofs.Standing.{room_for, stand_bounds}
use Rattle.made.proofs.Turns.{turn_first, turn_pair, turn_none, turn_last}
use Rattle.made.proofs.put_pairs.Goals as goal
use Rattle.made.proofs.put_pairs.Goals.{then-is_pair, else-is_pair}

-- a pair's weight is that of the table
same_link : (C : List ℕ) (i : ℕ) → link (i / 64) (i % 64) (get_or C i 0) ≡ link (i / 64) (i % 64) (weight_at C (i / 64) (i % 64))
same_link C i = ap (λ (k : ℕ). link (i / 64) (i % 64) (get_or C k 0)) (let e : i ≡ i / 64 * 64 + i % 64 = omega arith in e)

pub loop-i-init : goal.loop-i-init
loop-i-init c = (grind (arith, common_steps), turn_first (weight_at c.args.table.now) c.args.p _)

pub loop-i-preserved : goal.loop-i-preserved
loop-i-preserved c =
    let l = c.loop-i in
    let r = c.requires.room in
    let t = link_lists_of c.args.links.now in
    let f = weight_at c.args.table.now in
    let room = room_for t 4095 (omega arith) (omega arith) (omega arith) in
    elim c.if-is_pair.branch [
      | then-is_pair w ↦
          let is : is_pair c.args.p (pair_at l.i) ≡ true = cc in
          let k = w.put_pair-m in
          let stand = turn_pair f c.args.p t l.i l.m k.result (link_lists_of l.links) (link_lists_of k.new.links) _ room c.loop-i-test.true is
          (ap₂ (λ (q h : ℕ). link q h (get_or c.args.table.now l.i 0)) w.ends-low.ensures.0 w.ends-low.ensures.1 ∙ same_link c.args.table.now l.i)
          l.invariant.1 k.ensures.put in
          rw (w.links-is, w.m-is) (grind (arith, common_steps), stand)
      | else-is_pair w ↦
          let none : is_pair c.args.p (pair_at l.i) ≡ false = cc in
          rw (w.links-is, w.m-is) (l.invariant.0, turn_none f c.args.p t l.i l.m _ none l.invariant.1)
    ]

pub returns-clause-stand : goal.returns-clause-stand
returns-clause-stand c =
    let l = c.loop-i in
    turn_last (weight_at c.args.table.now) c.args.p _ l.i l.m _ c.requires.table.0 (omega arith) l.invariant.1

pub returns-clause-bounds : goal.returns-clause-bounds
returns-clause-bounds c = stand_bounds _ _ (link_lists_of c.loop-i.links) c.loop-i.m c.loop-i.invariant.1
