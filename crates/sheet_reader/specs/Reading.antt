-- What the reader checks, and what it must do: its answer, and each lent list afterwards. Assumes nothing.
use Rattle.std.specs.Prelude.{◌≡◌, Bool, ◌&&◌, List, ℕ, ◌*◌, ◌≤◌, leb, length, Result}
use Rattle.answers.specs.Verdict.{Verdict, ◌then◌, unless, written}
use Rattle.answers.specs.declared.Refusal.{Refusal}
use Rattle.link_order.specs.declared.Links.{Links}
use Rattle.sheet.specs.declared.Counts.{Counts}
use Rattle.sheet.specs.Sheet.{parts, links, check_sheet}
use Rattle.sheet.specs.Network.{Network, network, network_of}
use Rattle.sheet.specs.Answers.{sheet_says, sheet_say}

-- the names' bytes and three lists that a call is lent
abbrev pub network_lent : List ℕ → Links → Network
network_lent names l = network names l.lower.now l.higher.now l.weights.now

-- each of three lists has m elements or more
abbrev pub HaveLength : ℕ → Links → Type 0
HaveLength m l = (m ≤ length l.lower.now) × (m ≤ length l.higher.now) × (m ≤ length l.weights.now)

-- the network of p parts and m links has room in the lent network r
unfoldable pub room_for : ℕ → ℕ → Network → Bool
room_for p m r = leb (8 * p) (length r.names) && (leb m (length r.lower) && (leb m (length r.higher) && leb m (length r.weights)))

-- 16, after all else
unfoldable pub check_read : List ℕ → Network → Verdict
unfolding check_sheet room_for unless ◌then◌
check_read s r = check_sheet s then unless (room_for (parts s) (links s) r) 16 0

-- a lent network after a call: each of its lists as `written` has it
unfoldable pub written_network : Verdict → Network → Network → Network
unfolding written
written_network v n old =
    network (written v n.names old.names) (written v n.lower old.lower) (written v n.higher old.higher) (written v n.weights old.weights)

-- `read` of the sheet s: its answer r, and the lent lists before it (`old`) and after it (`new`)
pub record ReadMeets (s : List ℕ) (old : Network) (r : Result Counts Refusal) (new : Network) : Type 0 where
  pub answer : sheet_says r ≡ sheet_say (check_read s old) s
  pub lists : new ≡ written_network (check_read s old) (network_of s) old
