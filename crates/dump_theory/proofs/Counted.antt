-- The counts of rows, row by row: what the table says, that no count outgrows its rows, and the links that it gives. Assumes nothing.
use mathlib.Core.Bool.{true, ◌&&◌, cond}
use mathlib.Core.List.{List, [], ◌∷◌, ◌++◌}
use mathlib.Core.Path.{◌≡◌, sym, ap, ◌∙◌}
use mathlib.Core.Logic.{◌⊎◌, inl, inr}
use Prim.Native.Nat.{ℕ, ◌+◌, ◌*◌, ◌^◌, ◌≤◌, ◌<◌}
use native.Mathlib.Omega.{arith}
use lib.ListN.{length, get_or, replicate, length-replicate, get_or-replicate}
use Rattle.sets.specs.Sets.{has, out, lowest}
use Rattle.sets.proofs.Tests.{never, lt_or_le}
use Rattle.sets.proofs.Laws.{has_lt}
use Rattle.sets.proofs.Parts.{out_part, out_other}
use Rattle.sets.proofs.Members.{lowest_has, lowest_least}
use Rattle.made.specs.Made.{weighed, weight_at}
use Rattle.made.proofs.Weighed.{weighed_same}
use Rattle.dump_theory.specs.Rows.{together}
use Rattle.dump_theory.specs.Model.{Counts, RoomWith, Room, raised, counted_with, counted}
use Rattle.dump_theory.proofs.RowSums.{together_none, together_more, together_most}
use Rattle.dump_theory.proofs.Counting.{raised_other, length_counted, counted_at, counted_with_other}

-- ---- what the table says

pub counts_none : Counts [] (replicate 4096 0)
counts_none = record {
  places = length-replicate {A = ℕ} 4096 0;
  counts = λ q r h k. get_or-replicate 4096 (q * 64 + r) 0 0 (omega arith) ∙ sym (together_none q r);
}

pub counts_more : (R C : List ℕ) (s : ℕ) → Counts R C → Counts (R ++ (s ∷ [])) (counted C s)
counts_more R C s c = record {
  places = length_counted C s ∙ c.places;
  counts = λ q r h k.
      counted_at C s q r h k c.places ∙ ap (λ (n : ℕ). n + cond (has q s && has r s) 1 0) (c.counts q r h k) ∙ sym (together_more R s q r);
}

-- ---- room for one more

-- the parts of s after the lowest
rest : (s r : ℕ) → has r (out (lowest s) s) ≡ true → (lowest s < r) × (has r s ≡ true)
rest s r t = go (lt_or_le (lowest s) r) (lt_or_le r (lowest s))
  where
    old : has r s ≡ true
    old = out_part (lowest s) r s t

    go : (lowest s < r) ⊎ (r ≤ lowest s) → (r < lowest s) ⊎ (lowest s ≤ r) → (lowest s < r) × (has r s ≡ true)
    go (inl l) k = (l, old)
    go (inr l) (inl k) = never (has r s) old (lowest_least s r k)
    go (inr l) (inr k) = absurd (out_other (lowest s) r s t (omega arith))

pub counts_room : (R C : List ℕ) (s n : ℕ) → Counts R C → s < 2 ^ 64 → length R < n → Room n C s
counts_room R C s n c fits l q r h a b = omega (arith, c.counts q r h (has_lt 64 r s fits b), together_most R q r)

pub room_first : (n : ℕ) (C : List ℕ) (q t : ℕ) → RoomWith n C q t → (t ≡ 0 → ⊥) → get_or C (q * 64 + lowest t) 0 < n
room_first n C q t room some = room (lowest t) (lowest_has t some)

pub room_raised : (n : ℕ) (C : List ℕ) (q t : ℕ) → RoomWith n C q t → RoomWith n (raised C q (lowest t)) q (out (lowest t) t)
room_raised n C q t room r h =
    let after : (lowest t < r) × (has r t ≡ true) = rest t r h in
    omega (arith, raised_other C q (lowest t) (q * 64 + r) (λ e. omega (arith, after.0)), room r after.1)

pub room_with : (n : ℕ) (C : List ℕ) (s : ℕ) → Room n C s → (s ≡ 0 → ⊥) → RoomWith n C (lowest s) (out (lowest s) s)
room_with n C s room some r h = let after = rest s r h in room (lowest s) r after.0 (lowest_has s some) after.1

pub room_next : (n : ℕ) (C : List ℕ) (s : ℕ) → Room n C s → s < 2 ^ 64 → Room n (counted_with C (lowest s) (out (lowest s) s)) (out (lowest s) s)
room_next n C s room fits q r h a b =
    let low : (lowest s < q) × (has q s ≡ true) = rest s q a in
    let high : (lowest s < r) × (has r s ≡ true) = rest s r b in
    let k : r < 64 = has_lt 64 r s fits high.1 in
    let same : get_or (counted_with C (lowest s) (out (lowest s) s)) (q * 64 + r) 0 ≡ get_or C (q * 64 + r) 0 =
    counted_with_other C (lowest s) (out (lowest s) s) (q * 64 + r) (λ x l t e. omega (arith, low.0)) in
    omega (arith, room q r h low.1 high.1)

-- ---- the links that it gives

pub counts_weighed : (R C : List ℕ) (p : ℕ) → Counts R C → p ≤ 64 → weighed (weight_at C) p ≡ weighed (together R) p
counts_weighed R C p c h = weighed_same (weight_at C) (together R) p (λ q r a b. c.counts q r a (omega arith))
