use Rattle.text.specs.Walk.{rest}
use Rattle.text.specs.Model.{Held}
use Rattle.text.proofs.Pass2.{LinksSoFar}
use Rattle.link_order.specs.Lent.{link_lists_of, SameLinks}
use lib.ListN.{length}
use Prim.Native.Nat.{ℕ}
use mathlib.Core.List.{List}
use mathlib.Core.Path.{◌≡◌}
use Rattle.sets.specs.Value.{no_rows}
use Rattle.text.proofs.read_links.Given as goal

abbrev pub invariant-loop-place : goal.invariant-loop-place
invariant-loop-place l = record {
  rows : length l.seen ≡ length no_rows;
  same : SameLinks l.initial.links l.links;
  links :
      (N : List (List ℕ)) → Held N l.names.bytes.now → length N ≡ l.names.count
      → LinksSoFar l.text N (link_lists_of l.initial.links) (link_lists_of l.links) l.seen l.m (rest l.place-iterator);
}
