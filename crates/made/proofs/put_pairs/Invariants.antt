use Rattle.link_order.specs.Lent.{link_lists_of, SameLinks}
use Rattle.made.specs.Made.{weighed_of, weight_at}
use Rattle.made.specs.Model.{LinksStand, pairs_before}
use Rattle.made.proofs.put_pairs.Given as goal

abbrev pub invariant-loop-i : goal.invariant-loop-i
invariant-loop-i l =
    SameLinks l.initial.links l.links
    × LinksStand (weighed_of (weight_at l.table) (pairs_before l.p l.i)) (link_lists_of l.initial.links) (link_lists_of l.links) l.m
