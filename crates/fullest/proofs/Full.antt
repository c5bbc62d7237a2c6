-- The fullest sheet: accepted by the reader, with all pairs linked in order; and what the call did. Assumes nothing.
use mathlib.Core.Path.{◌≡◌, sym, ap, ap₂, ◌∙◌, subst}
use mathlib.Core.Bool.{true}
use mathlib.Core.List.{List}
use Prim.Native.Nat.{ℕ, ◌+◌, ◌*◌, ◌≤◌}
use native.Mathlib.Omega.{arith}
use lib.Dec.{leb}
use lib.ListN.{length, replicate, get_or-replicate}
use Rattle.answers.specs.Verdict.{Verdict, accepted, refused, unless, written}
use Rattle.answers.specs.Answers.{say_of}
use Rattle.answers.specs.Answers.{Answer}
use Rattle.answers.proofs.Laws.{go}
use Rattle.std.specs.Prelude.{Err}
use Rattle.answers.specs.declared.Refusal.{Refusal}
use Rattle.answers.specs.Faults.{number_of}
use Rattle.sheet.proofs.Said.{refused_writes}
use Rattle.percolation.specs.Ranges.{narrow_count, good_k}
use Rattle.percolation.proofs.Ranges.{narrow_count_lem}
use Rattle.sheet.specs.Sheet.{parts, links_of, check_sheet}
use Rattle.sheet.specs.Network.{Network}
use Rattle.sheet_writer.specs.Writing.{WriteMeets}
use Rattle.made.specs.Made.{Proper, made_network, weighed, weight_at}
use Rattle.made.proofs.InOrder.{constant_sorted}
use Rattle.made.proofs.Weighed.{weighed_same, weighed_proper}
use Rattle.made.proofs.Sheets.{made_sheet_lem, made_parts, made_links_of, made_meets}
use Rattle.fullest.specs.Fullest.{part_names, full_links, full_sheet, check_full, FullMeets}
use Rattle.fullest.proofs.PartNames.{part_named}

pub full_proper : (p : ℕ) → Proper p (full_links p)
unfolding full_links
full_proper p = weighed_proper (λ l h. 1) (λ l h. omega arith) p

-- a table of ones gives them
ones_full : (p : ℕ) → p ≤ 64 → weighed (weight_at (replicate 4096 1)) p ≡ full_links p
unfolding full_links
ones_full p most =
    weighed_same (weight_at (replicate 4096 1)) (λ l h. 1) p (λ q h a b. get_or-replicate 4096 (q * 64 + h) 1 0 (omega arith))

-- the reader accepts it, with p parts and all pairs in order
pub fullest_read : (p : ℕ) → narrow_count p ≡ true
    → (check_sheet (full_sheet p) ≡ accepted) × (parts (full_sheet p) ≡ p) × (links_of (full_sheet p) ≡ full_links p)
unfolding full_sheet full_links
fullest_read p good =
    let n = part_named p good in
    let ok = full_proper p in (
      made_sheet_lem (part_names p) (full_links p) p n ok,
      made_parts (part_names p) (full_links p) p n ok,
      made_links_of (part_names p) (full_links p) p n ok ∙ constant_sorted p 1 (omega arith),
    )

-- ---- what the call did

pub full_refused : (p k : ℕ) (old : List ℕ) (r : Answer) (x : Refusal) → r ≡ Err x → check_full p k (length old) ≡ refused (number_of x.fault) x.place
    → FullMeets p k old r old
full_refused p k old r x e f =
    let t = refused_writes (check_full p k (length old)) (length (full_sheet p)) (full_sheet p) old r x e f in
    record { answer = t.0; bytes = t.1 }

module _ (p k : ℕ) (old : List ℕ) (r : Answer) (out : List ℕ) where
  -- from the table of ones, and the names as the code lends them
  pub full_written : narrow_count p ≡ true → good_k k ≡ true → (x : List ℕ) → x ≡ part_names p
      → WriteMeets (made_network x (weighed (weight_at (replicate 4096 1)) p)) old r out → FullMeets p k old r out
  unfolding check_full full_sheet
  full_written e g x same w =
      let v : check_full p k (length old) ≡ unless (leb (length (full_sheet p)) (length old)) 16 0 = go (narrow_count p) 4 0 _ e ∙ go (good_k k) 10 0 _ g in
      let y : WriteMeets (made_network (part_names p) (full_links p)) old r out =
      subst (λ (n : Network). WriteMeets n old r out) (ap₂ made_network same (ones_full p (narrow_count_lem p e).1)) w in
      let m = made_meets (part_names p) (full_links p) p (part_named p e) (full_proper p) old out r y in
      record {
        answer = m.0 ∙ sym (ap (λ (z : Verdict). say_of z (length (full_sheet p))) v);
        bytes = m.1 ∙ sym (ap (λ (z : Verdict). written z (full_sheet p) old) v);
      }
