-- What 12 tests of a state and its joining entries. Assumes nothing.
use Rattle.std.specs.Prelude.{Bool, ◌&&◌, List, ℕ, leb, get_or}
use Rattle.sets.specs.Lists.{all, below}
use Rattle.percolation.specs.Ranges.{good_count, good_k}
use Rattle.slots.specs.Tables.{room}
use Rattle.states.specs.declared.State.{State}

-- k, p and the used slots lie in their ranges, and no used one of the joining entries es is above its slot number
unfoldable pub good_state : State → List ℕ → Bool
unfolding good_count good_k room all below
good_state S es = good_k S.k && (good_count S.p && (leb S.used (room es) && all (λ i. leb (get_or es i 0) i) (below S.used)))
