-- What an accepted network has: a right shape, distinct names, legal links, and so no more than 4,096 of them. Assumes nothing.
use mathlib.Core.Path.{◌≡◌}
use mathlib.Core.Bool.{true}
use Prim.Native.Nat.{◌%◌, ◌≤◌}
use native.Mathlib.Omega.{arith}
use lib.ListN.{length}
use Rattle.answers.specs.Verdict.{Verdict, accepted, ◌then◌, unless, in_order}
use Rattle.answers.proofs.Laws.{then_left, then_right, then_both, unless_passed, last_go}
use Rattle.percolation.specs.Ranges.{narrow_count}
use Rattle.percolation.specs.Steps.{legal}
use Rattle.percolation.proofs.Ranges.{narrow_count_lem}
use Rattle.percolation.proofs.Accepted.{legal_most}
use Rattle.part_names.specs.Names.{check_names, AllDiffer}
use Rattle.part_names.proofs.Form.{names_distinct}
use Rattle.sheet.specs.Sheet.{list_of}
use Rattle.sheet.specs.Network.{Network}
use Rattle.sheet.proofs.Lists.{list_of_length}
use Rattle.sheet.proofs.Sound.{order_legal, legal_order}
use Rattle.sheet_writer.specs.Writing.{parts_of, links_in, eight_in, link_in, has_shape, check_link_in, check_network}
use Rattle.sheet_writer.proofs.Shape.{shape_parts, shape_most}

-- the checks from 5 and from 4 on
abbrev from5 : Network → Verdict
from5 n = check_names (eight_in n) (λ q. 0) (parts_of n) then in_order (check_link_in n) (links_in n)

abbrev from4 : Network → Verdict
from4 n = unless (narrow_count (parts_of n)) 4 0 then from5 n

module _ (n : Network) (e : check_network n ≡ accepted) where
  pub network_shape : has_shape n ≡ true
  unfolding check_network
  network_shape = unless_passed (has_shape n) 3 0 (then_left (unless (has_shape n) 3 0) (from4 n) e)

  past3 : from4 n ≡ accepted
  unfolding check_network
  past3 = then_right (unless (has_shape n) 3 0) (from4 n) e

  pub network_count : narrow_count (parts_of n) ≡ true
  network_count = unless_passed (narrow_count (parts_of n)) 4 0 (then_left (unless (narrow_count (parts_of n)) 4 0) (from5 n) past3)

  past4 : from5 n ≡ accepted
  past4 = then_right (unless (narrow_count (parts_of n)) 4 0) (from5 n) past3

  pub network_names : check_names (eight_in n) (λ q. 0) (parts_of n) ≡ accepted
  network_names = then_left (check_names (eight_in n) (λ q. 0) (parts_of n)) (in_order (check_link_in n) (links_in n)) past4

  -- no two parts have one name
  pub network_distinct : AllDiffer (eight_in n) (parts_of n)
  network_distinct = names_distinct (eight_in n) (λ q. 0) (parts_of n) network_names

  pub network_links : in_order (check_link_in n) (links_in n) ≡ accepted
  network_links = then_right (check_names (eight_in n) (λ q. 0) (parts_of n)) (in_order (check_link_in n) (links_in n)) past4

  pub network_legal : legal (parts_of n) (list_of (link_in n) (links_in n)) ≡ true
  unfolding check_link_in
  network_legal = order_legal (parts_of n) (link_in n) _ (links_in n) network_links

pub network_few : (n : Network) → check_network n ≡ accepted
    → (length n.names ≤ 512) × (links_in n ≤ 4096) × (length n.higher ≡ links_in n) × (length n.weights ≡ links_in n) × (length n.names % 8 ≡ 0)
network_few n e =
    let h = shape_parts n (network_shape n e) in
    let c = narrow_count_lem (parts_of n) (network_count n e) in
    let few = legal_most (parts_of n) (list_of (link_in n) (links_in n)) c.1 (network_legal n e) in
    let size = list_of_length (link_in n) (links_in n) in
    (shape_most n (network_shape n e) (network_count n e), omega (arith, few, size), h.1, h.2, h.0)

-- and the other way
pub network_passes : (n : Network) → has_shape n ≡ true → narrow_count (parts_of n) ≡ true → check_names (eight_in n) (λ q. 0) (parts_of n) ≡ accepted
    → legal (parts_of n) (list_of (link_in n) (links_in n)) ≡ true → check_network n ≡ accepted
unfolding check_network check_link_in
network_passes n h c a l =
    then_both (unless (has_shape n) 3 0) (from4 n) (last_go (has_shape n) 3 0 h)
    (then_both (unless (narrow_count (parts_of n)) 4 0) (from5 n) (last_go (narrow_count (parts_of n)) 4 0 c)
    (then_both (check_names (eight_in n) (λ q. 0) (parts_of n)) (in_order (check_link_in n) (links_in n)) a (legal_order (parts_of n) (link_in n) _ (links_in n) l)))
