-- What the call for the fullest sheet wrote, whatever programs meet the contracts: the reader reads it, what it is told to need is the slot bound, and no
-- sheet of as many parts is told to need more. Assumes nothing.
use mathlib.Core.Path.{◌≡◌, sym, ap, ◌∙◌, subst}
use mathlib.Core.Bool.{true}
use mathlib.Core.List.{List}
use Prim.Native.Nat.{ℕ, ◌≤◌}
use native.Mathlib.Omega.{arith}
use lib.Dec.{leb}
use lib.ListN.{length, take, drop}
use lib.Seq.{take_at}
use borrow.Author.Tests.{le-leb}
use Rattle.answers.specs.Verdict.{Verdict, accepted, ◌then◌, unless}
use Rattle.answers.specs.Answers.{counts, says, say_of}
use Rattle.answers.specs.Answers.{Answer}
use Rattle.answers.proofs.Laws.{then_left, then_right, then_both, last_go, unless_passed, say_accepted, said_count, written_accepted}
use Rattle.sets.specs.Value.{width}
use Rattle.sets.proofs.Tests.{and_intro}
use Rattle.percolation.specs.Ranges.{narrow_count, good_count, good_k}
use Rattle.percolation.proofs.Ranges.{narrow_count_lem}
use Rattle.std.specs.Prelude.{Result}
use Rattle.answers.specs.declared.Refusal.{Refusal}
use Rattle.sheet.specs.declared.Counts.{Counts}
use Rattle.sheet.specs.Sheet.{parts, check_sheet}
use Rattle.sheet.specs.Network.{Network}
use Rattle.sheet.specs.Answers.{holds, sheet_says}
use Rattle.subsets.specs.Subsets.{slot_bound, check_bound}
use Rattle.sheet_reader.specs.Reading.{room_for, ReadMeets}
use Rattle.runs.specs.OnSheet.{slots_for}
use Rattle.sheet_writer.specs.RoundTrip.{Filled}
use Rattle.made.specs.Made.{made_network}
use Rattle.made.proofs.Sheets.{made_wrote, made_again}
use Rattle.needs.specs.declared.Needed.{Needed}
use Rattle.needs.specs.Needs.{Need, gives, need_says, need_say, check_needs, need_for, NeedsMeets}
use Rattle.needs.proofs.Told.{told_need}
use Rattle.fullest.specs.Fullest.{part_names, full_links, full_sheet, check_full, FullMeets}
use Rattle.fullest.proofs.PartNames.{part_named}
use Rattle.fullest.proofs.Full.{full_proper, fullest_read}
use Rattle.fullest.proofs.Most.{fullest_bound, fullest_most}

-- a call for p parts and k told the count c, and left `out`
module _ (p k : ℕ) (old out : List ℕ) (a : Answer) (c : ℕ) (wrote : FullMeets p k old a out) (said : says a ≡ counts c) where
  abbrev room : Verdict
  room = unless (leb (length (full_sheet p)) (length old)) 16 0

  told : (check_full p k (length old) ≡ accepted) × (c ≡ length (full_sheet p))
  told = said_count (check_full p k (length old)) (length (full_sheet p)) c (sym said ∙ wrote.answer)

  four : narrow_count p ≡ true
  unfolding check_full
  four = unless_passed (narrow_count p) 4 0 (then_left (unless (narrow_count p) 4 0) (unless (good_k k) 10 0 then room) told.0)

  past_four : (unless (good_k k) 10 0 then room) ≡ accepted
  unfolding check_full
  past_four = then_right (unless (narrow_count p) 4 0) (unless (good_k k) 10 0 then room) told.0

  ten : good_k k ≡ true
  ten = unless_passed (good_k k) 10 0 (then_left (unless (good_k k) 10 0) room past_four)

  -- then it wrote the fullest sheet
  pub told_full : take c out ≡ full_sheet p
  told_full =
      ap (take c) (wrote.bytes ∙ written_accepted (check_full p k (length old)) (full_sheet p) old told.0)
      ∙ take_at (full_sheet p) (drop (length (full_sheet p)) old) c (sym told.1)

  -- ---- the reader

  -- reads what was written into lists with room: p parts, their names, and all pairs in order
  pub fullest_again : (before after : Network) (r : Result Counts Refusal) → ReadMeets (take c out) before r after → room_for p (length (full_links p)) before ≡ true
      → (sheet_says r ≡ holds p (length (full_links p))) × Filled (made_network (part_names p) (full_links p)) before after
  unfolding full_sheet
  fullest_again =
      let n = part_named p four in
      let ok = full_proper p in
      made_again (part_names p) (full_links p) p n ok old out a c
      (made_wrote (part_names p) (full_links p) p n ok old out a (check_full p k (length old))
      (told.0 ∙ sym (then_right (unless (good_k k) 10 0) room past_four)) wrote.answer wrote.bytes)
      said

  -- ---- the need

  asked : check_needs (full_sheet p) k ≡ accepted
  unfolding check_needs
  asked = then_both (check_sheet (full_sheet p)) (unless (good_k k) 10 0) (fullest_read p four).0 (last_go (good_k k) 10 0 ten)

  -- what was written is told to need, at t 1, as many slots as the slot bound
  pub fullest_told : (r : Result Needed Refusal) → NeedsMeets (take c out) k 1 r → (x : Need) × (need_says r ≡ gives x) × (x.slots ≡ slot_bound p k)
  unfolding need_say need_for
  fullest_told r meets =
      let m : NeedsMeets (full_sheet p) k 1 r = subst (λ (s : List ℕ). NeedsMeets s k 1 r) told_full meets in
      (need_for (full_sheet p) k 1, m.answer ∙ ap (λ (v : Verdict). need_say v (need_for (full_sheet p) k 1)) asked, fullest_bound p k four ten)

  good : good_count p ≡ true
  unfolding good_count
  good = and_intro (leb 1 p) (leb p width) (le-leb 1 p (narrow_count_lem p four).0) (le-leb p width (narrow_count_lem p four).1)

  -- which is what the call for it tells
  pub bound_told : (b : Answer) → says b ≡ say_of (check_bound p k) (slot_bound p k) → says b ≡ counts (slot_bound p k)
  unfolding check_bound
  bound_told b e =
      e ∙ say_accepted (check_bound p k) (slot_bound p k)
      (then_both (unless (good_count p) 4 0) (unless (good_k k) 10 0) (last_go (good_count p) 4 0 good) (last_go (good_k k) 10 0 ten))

  -- and no sheet of as many parts is told to need more, at any threshold
  pub fullest_tops : (r : Result Needed Refusal) → NeedsMeets (take c out) k 1 r → (x : Need) → need_says r ≡ gives x
      → (s : List ℕ) (t : ℕ) → parts s ≡ p → (q : Result Needed Refusal) → NeedsMeets s k t q → (y : Need) → need_says q ≡ gives y → y.slots ≤ x.slots
  unfolding check_needs need_for
  fullest_tops r meets x e s t same q meets' y f =
      let n = told_need (take c out) k 1 r meets x e in
      let m = told_need s k t q meets' y f in
      let high : x.slots ≡ slots_for (full_sheet p) k 1 =
      ap (λ (z : Need). z.slots) n.1 ∙ ap (λ (z : List ℕ). slots_for z k 1) told_full in
      let low : y.slots ≡ slots_for s k t = ap (λ (z : Need). z.slots) m.1 in
      let most = fullest_most s k t (then_left (check_sheet s) (unless (good_k k) 10 0) m.0) ten in
      let at_p : slots_for (full_sheet (parts s)) k 1 ≡ slots_for (full_sheet p) k 1 = ap (λ (z : ℕ). slots_for (full_sheet z) k 1) same in
      omega (arith, high, low, most, at_p)
