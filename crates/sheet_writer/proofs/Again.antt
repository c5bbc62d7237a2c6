-- The round trips over what the contracts of `read` and `write` cite: a sheet read and written again, and a network written and read again; and that what
-- either accepts has distinct names. Assumes nothing.
use mathlib.Core.Path.{◌≡◌, refl, sym, ap, ap₂, ◌∙◌, subst}
use mathlib.Core.Bool.{true}
use mathlib.Core.List.{List, ◌++◌}
use Prim.Native.Nat.{ℕ, ◌*◌, ◌≤◌}
use native.Mathlib.Omega.{arith}
use lib.Dec.{leb}
use lib.ListN.{length, take, drop}
use lib.Seq.{take_at, drop_at}
use borrow.Author.Tests.{le-leb}
use Rattle.answers.specs.Answers.{Answer}
use Rattle.answers.specs.Verdict.{Verdict, accepted, written}
use Rattle.answers.specs.Answers.{counts, says}
use Rattle.answers.proofs.Laws.{then_left, then_both, last_go, say_accepted, said_count, written_accepted}
use Rattle.part_names.specs.Names.{AllDiffer}
use Rattle.std.specs.Prelude.{Result, Ok}
use Rattle.answers.specs.declared.Refusal.{Refusal}
use Rattle.sheet.specs.declared.Counts.{Counts}
use Rattle.sheet.specs.Sheet.{parts, links, check_sheet}
use Rattle.sheet.specs.Network.{Network, network, network_of}
use Rattle.sheet_writer.specs.Writing.{parts_of, links_in, eight_in, sheet_of, check_network, check_write, WriteMeets}
use Rattle.sheet_reader.specs.Reading.{room_for, check_read, written_network, ReadMeets}
use Rattle.sheet.specs.Answers.{holds, sheet_says, sheet_say}
use Rattle.sheet_writer.proofs.Sound.{network_few, network_distinct}
use Rattle.sheet.proofs.Sound.{sheet_length_lem}
use Rattle.sheet.proofs.Heading.{length_is}
use Rattle.sheet.proofs.Said.{said_holds}
use Rattle.sheet_writer.specs.RoundTrip.{Bytes, Held, front, Stands, Filled}
use Rattle.sheet_writer.proofs.RoundTrip.{read_twin, write_twin, sheet_again, network_again}

-- ---- what is written where the verdict is "accepted"

stands : (v : Verdict) (k : ℕ) (l old new : List ℕ) → v ≡ accepted → length l ≡ k → new ≡ written v l old → Stands k l old new
stands v k l old new a h e =
    let f : new ≡ l ++ drop (length l) old = e ∙ written_accepted v l old a in
    record {
      first = ap (take k) f ∙ take_at l (drop (length l) old) k h;
      rest = ap (drop k) f ∙ drop_at l (drop (length l) old) k h ∙ ap (λ (j : ℕ). drop j old) h;
    }

filled : (v : Verdict) (n old new : Network) → v ≡ accepted → check_network n ≡ accepted → new ≡ written_network v n old → Filled n old new
unfolding written_network
filled v n old new a ok e =
    let few = network_few n ok in
    record {
      names = stands v (length n.names) n.names old.names new.names a refl (ap (λ (x : Network). x.names) e);
      lower = stands v (links_in n) n.lower old.lower new.lower a refl (ap (λ (x : Network). x.lower) e);
      higher = stands v (links_in n) n.higher old.higher new.higher a few.2 (ap (λ (x : Network). x.higher) e);
      weights = stands v (links_in n) n.weights old.weights new.weights a few.3 (ap (λ (x : Network). x.weights) e);
    }

front_back : (n old new : Network) → check_network n ≡ accepted → Filled n old new → front (parts_of n) (links_in n) new ≡ n
front_back n old new ok f =
    let few = network_few n ok in
    let k : 8 * parts_of n ≡ length n.names = omega arith in
    let names = ap (λ (j : ℕ). take j new.names) k ∙ f.names.first in
    ap₂ (λ (x y : List ℕ). network x y (take (links_in n) new.higher) (take (links_in n) new.weights)) names f.lower.first
    ∙ ap₂ (network n.names n.lower) f.higher.first f.weights.first

-- what is accepted and has room is written, and read
write_passes : (n : Network) (room : ℕ) → check_network n ≡ accepted → length (sheet_of n) ≤ room → check_write n room ≡ accepted
unfolding check_write
write_passes n room ok h = then_both (check_network n) _ ok (last_go (leb (length (sheet_of n)) room) 16 0 (le-leb (length (sheet_of n)) room h))

read_passes : (s : List ℕ) (old : Network) → check_sheet s ≡ accepted → room_for (parts s) (links s) old ≡ true → check_read s old ≡ accepted
unfolding check_read
read_passes s old ok h = then_both (check_sheet s) _ ok (last_go (room_for (parts s) (links s) old) 16 0 h)

-- what `read` left in the lists is the sheet's network
read_front : (s : List ℕ) → Bytes s → (old new : Network) (r : Result Counts Refusal) (p m : ℕ) → ReadMeets s old r new → r ≡ Ok (record { parts = p; links = m })
    → (check_sheet s ≡ accepted) × (p ≡ parts_of (network_of s)) × (front p m new ≡ network_of s)
unfolding check_read
read_front s b old new r p m d e =
    let a = said_holds (check_read s old) s p m (sym (ap sheet_says e) ∙ d.answer) in
    let ok = then_left (check_sheet s) _ a.0 in
    let net = (sheet_again s b ok).0 in
    let t = read_twin s (length_is _ s (sheet_length_lem s ok)) in
    let full = filled (check_read s old) (network_of s) old new a.0 net d.lists in
    let count = a.1 ∙ t.count in
    (ok, count, ap₂ (λ (x y : ℕ). front x y new) count (a.2 ∙ t.number) ∙ front_back (network_of s) old new net full)

-- ---- the round trips

-- A sheet that `read` accepts, written again from the lists that it filled: the same bytes.
pub read_write : (s : List ℕ) → Bytes s → (old new : Network) (r : Result Counts Refusal) (p m : ℕ) → ReadMeets s old r new → r ≡ Ok (record { parts = p; links = m })
    → (out out' : List ℕ) (w : Answer) → WriteMeets (front p m new) out w out' → length s ≤ length out
    → (says w ≡ counts (length s)) × (out' ≡ s ++ drop (length s) out)
read_write s b old new r p m d e out out' w d' room =
    let f = read_front s b old new r p m d e in
    let again = sheet_again s b f.0 in
    let g = subst (λ (n : Network). WriteMeets n out w out') f.2 d' in
    let v = write_passes (network_of s) (length out) again.0 (omega (arith, ap length again.1)) in (
      g.answer ∙ say_accepted (check_write (network_of s) (length out)) (length (sheet_of (network_of s))) v ∙ ap (λ (l : List ℕ). counts (length l)) again.1,
      g.bytes ∙ written_accepted (check_write (network_of s) (length out)) (sheet_of (network_of s)) out v
          ∙ ap (λ (l : List ℕ). l ++ drop (length l) out) again.1,
    )

-- A network that `write` accepts, read again from the bytes that it wrote into lists with room: the same lists.
pub write_read : (n : Network) → Held n → (out out' : List ℕ) (w : Answer) (c : ℕ) → WriteMeets n out w out' → says w ≡ counts c
    → (old new : Network) (r : Result Counts Refusal) → ReadMeets (take c out') old r new → room_for (parts_of n) (links_in n) old ≡ true
    → (sheet_says r ≡ holds (parts_of n) (links_in n)) × Filled n old new
unfolding check_write sheet_say
write_read n held out out' w c d e old new r d' room =
    let s = sheet_of n in
    let a = said_count (check_write n (length out)) (length s) c (sym e ∙ d.answer) in
    let ok = then_left (check_network n) _ a.0 in
    let again = network_again n held ok in
    let t = write_twin n held ok in
    let bytes = d.bytes ∙ written_accepted (check_write n (length out)) s out a.0 in
    let back = ap (take c) bytes ∙ take_at s (drop (length s) out) c (sym a.1) in
    let g = subst (λ (x : List ℕ). ReadMeets x old r new) back d' in
    let v = read_passes s old again.0 (ap₂ (λ (p m : ℕ). room_for p m old) t.count t.number ∙ room) in (
      g.answer ∙ ap (λ (x : Verdict). sheet_say x s) v ∙ ap₂ holds t.count t.number,
      filled (check_read s old) n old new v ok (g.lists ∙ ap (λ (x : Network). written_network (check_read s old) x old) again.1),
    )

-- ---- no two names are equal

-- of those that `read` leaves
pub read_distinct : (s : List ℕ) → Bytes s → (old new : Network) (r : Result Counts Refusal) (p m : ℕ) → ReadMeets s old r new → r ≡ Ok (record { parts = p; links = m })
    → AllDiffer (eight_in (front p m new)) p
read_distinct s b old new r p m d e =
    let f = read_front s b old new r p m d e in
    subst (λ (n : Network). AllDiffer (eight_in n) p) (sym f.2)
    (subst (AllDiffer (eight_in (network_of s))) (sym f.1) (network_distinct (network_of s) (sheet_again s b f.0).0))

-- of those that `write` is given where it accepts
pub write_distinct : (n : Network) (out out' : List ℕ) (w : Answer) (c : ℕ) → WriteMeets n out w out' → says w ≡ counts c → AllDiffer (eight_in n) (parts_of n)
unfolding check_write
write_distinct n out out' w c d e =
    network_distinct n (then_left (check_network n) _ (said_count (check_write n (length out)) (length (sheet_of n)) c (sym e ∙ d.answer)).0)
