use Rattle.std.proofs.Common.{length}
use Rattle.listings.specs.Model.{root_slots}
use Rattle.listings.proofs.Filling.{Filled}
use Rattle.listings.proofs.put_roots.Given as goal

-- The invariant: the output holds the listing of the ends so far. Assumes nothing.
abbrev pub invariant-loop-n : goal.invariant-loop-n
invariant-loop-n l =
    let T = l.tables in
    Filled T.smallest.now T.unions.now (root_slots T.entries.now l.used) l.initial.out (length l.yielded) l.out
