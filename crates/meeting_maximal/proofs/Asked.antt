-- What the levels ask for, where the checks before 15 let a meeting pass. Assumes nothing.
use mathlib.Core.Path.{◌≡◌}
use mathlib.Core.List.{List}
use Prim.Native.Nat.{ℕ, ◌≤◌}
use lib.ListN.{length}
use Rattle.answers.specs.Verdict.{accepted}
use Rattle.sets.specs.Sets.{size}
use Rattle.sets.specs.Value.{rows}
use Rattle.percolation.proofs.Families.{cliques_of}
use Rattle.percolation.proofs.Ranges.{good_k_lem}
use Rattle.sheet.specs.Sheet.{parts, links_of}
use Rattle.slots.specs.Tables.{Tables}
use Rattle.slots.proofs.Lengths.{level_sets}
use Rattle.runs.proofs.Admitted.{call_k, call_level}
use Rattle.runs.proofs.Left.{level_of_lem}
use Rattle.meeting.specs.Answers.{check_pair}
use Rattle.meeting.proofs.Pairs.{pair_call, pair_first_lem, pair_second}

pub meeting_asks : (s : List ℕ) (k a b : ℕ) (T : Tables) → check_pair s k a b T ≡ accepted
    → (2 ≤ k) × (rows T.sets ≡ length T.entries) × (size a ≡ k) × (size b ≡ k)
meeting_asks s k a b T ok =
    let e = pair_call s k a b T ok in (
      (good_k_lem k (call_k s k T e)).0,
      level_sets T (level_of_lem T (call_level s k T e)),
      (cliques_of (links_of s) (parts s) k (pair_first_lem s k a b T ok)).sized,
      (cliques_of (links_of s) (parts s) k (pair_second s k a b T ok)).sized,
    )
