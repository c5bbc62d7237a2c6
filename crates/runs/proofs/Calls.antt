-- A call on a sheet with an output by its parts: 15 and the room, refused before 15, and let through. Assumes nothing.
use mathlib.Core.Path.{◌≡◌, refl, sym, ap, ap₂, ◌∙◌, subst}
use mathlib.Core.Bool.{Bool, true}
use mathlib.Core.List.{List}
use Prim.Native.Nat.{ℕ, ◌≤◌, min}
use native.Mathlib.Omega.{arith}
use lib.Dec.{leb}
use lib.ListN.{length, take}
use borrow.Author.Tests.{leb-true, le-leb}
use Rattle.std.specs.Prelude.{Err}
use Rattle.answers.specs.Verdict.{Verdict, accepted, refused, ◌then◌, unless}
use Rattle.answers.specs.Answers.{Answer}
use Rattle.answers.specs.Faults.{number_of}
use Rattle.answers.specs.declared.Refusal.{Refusal}
use Rattle.answers.proofs.Laws.{go, then_go, then_stop}
use Rattle.sets.specs.Value.{no_rows}
use Rattle.sets.proofs.Tests.{iff}
use Rattle.percolation.specs.Percolate.{Community, listing_bytes}
use Rattle.percolation.specs.Links.{Link, cliques, slots}
use Rattle.percolation.specs.Steps.{enough}
use Rattle.slots.specs.Tables.{Tables, room}
use Rattle.slots.proofs.Lengths.{room_within, enough_is}
use Rattle.search.specs.Model.{cap, needed_by}
use Rattle.search.proofs.SlotTally.{slots_is}
use Rattle.sheet.specs.Answers.{holds, faulty, sheet_say}
use Rattle.sheet.specs.Sheet.{parts, links, links_of, check_sheet}
use Rattle.sheet.proofs.Said.{said_faulty, said_holds}
use Rattle.listings.specs.Listing.{check_out, Writes, WritesListing}
use Rattle.listings.proofs.Outputs.{writes_refused, writes_same}
use Rattle.runs.specs.Lent.{cleared}
use Rattle.runs.specs.Model.{rows_with}
use Rattle.runs.specs.OnSheet.{check_run, RunMeets, CallMeets, slots_of}
use Rattle.runs.proofs.InSheet.{first_all, parts_width, first_legal, first_near}
use Rattle.runs.proofs.Left.{left_passed, left_refused}

-- ---- 15

-- a count that stops at the cap decides as the whole count does
capped : (es : List ℕ) (x : ℕ) → leb (min x cap) (room es) ≡ leb x (room es)
capped es x =
    iff (leb (min x cap) (room es)) (leb x (room es))
    (λ t. le-leb x (room es) (omega (arith, leb-true (min x cap) (room es) t, (room_within es).1)))
    (λ t. le-leb (min x cap) (room es) (omega (arith, leb-true x (room es) t)))

-- the slots that the first n links of a checked sheet need, by their rows of neighbours R
pub slots_first : (s : List ℕ) → check_sheet s ≡ accepted → (k : ℕ) → 2 ≤ k → (es : List ℕ) (n : ℕ) (R : List ℕ) → R ≡ rows_with no_rows (take n (links_of s))
    → (q c y : ℕ) → q ≡ parts s → c ≡ min (needed_by R q k) cap → y ≡ room es
    → leb c y ≡ enough (length es) (slots (parts s) k (cliques (take n (links_of s)) (parts s) k))
slots_first s e k two es n R rows q c y same count space =
    ap₂ leb (count ∙ ap (λ (x : ℕ). min (needed_by R x k) cap) same ∙ ap (λ (x : ℕ). min x cap) (sym need)) space
    ∙ capped es (slots (parts s) k (cliques N (parts s) k)) ∙ sym (enough_is es (slots (parts s) k (cliques N (parts s) k)))
  where
    N : List Link
    N = take n (links_of s)

    need : slots (parts s) k (cliques (take n (links_of s)) (parts s) k) ≡ needed_by R (parts s) k
    need =
        slots_is (parts s) (take n (links_of s)) R (first_legal s e n (take n (links_of s)) refl) (parts_width s e) (first_near s e n (take n (links_of s)) refl R rows) k
        (omega (arith, two))

-- the first m links are all
pub slots_all : (s : List ℕ) (k : ℕ) (es : List ℕ) (m : ℕ) → m ≡ links s → (f : Bool)
    → f ≡ enough (length es) (slots (parts s) k (cliques (take m (links_of s)) (parts s) k)) → f ≡ enough (length es) (slots_of s k)
slots_all s k es m all f e = e ∙ ap (λ (L : List Link). enough (length es) (slots (parts s) k (cliques L (parts s) k))) (first_all s m all)

-- ---- from 15 on

-- refused by what 15 says
pub run_refused : (fits : Bool) (n : ℕ) (B old : List ℕ) (f : Refusal) → refused (number_of f.fault) f.place ≡ unless fits 15 0
    → RunMeets fits n B old (Err f) old
unfolding check_run
run_refused fits n B old f e =
    let m = number_of f.fault in
    writes_refused (check_run fits B (length old)) n B old (Err f) m f.place (then_stop (unless fits 15 0) (check_out B (length old)) m f.place (sym e)) refl

module _ (fits : Bool) (n : ℕ) (B old : List ℕ) (r : Answer) where
  pub run_whole : (out : List ℕ) → fits ≡ true → Writes (check_out B (length old)) n B old r out → RunMeets fits n B old r out
  unfolding check_run
  run_whole out e w = writes_same (check_run fits B (length old)) n B old r out _ (go fits 15 0 _ e) w

-- the listing of what was found, which is the one that is asked for
pub run_listing : (fits : Bool) (D C : List Community) (old : List ℕ) (r : Answer) (out : List ℕ) → fits ≡ true → C ≡ D → WritesListing C old r out
    → RunMeets fits (length D) (listing_bytes D) old r out
run_listing fits D C old r out e f w =
    run_whole fits (length D) (listing_bytes D) old r out e (subst (λ (X : List Community). WritesListing X old r out) f w)

-- ---- the whole call

-- by what the checks before 15 said of the sheet s
module _ (before : Verdict) (fits : Bool) (n : ℕ) (B : List ℕ) (T : Tables) (old s : List ℕ) where
  -- refused before 15: nothing is written
  pub call_stopped : (f : Refusal) → faulty (number_of f.fault) f.place ≡ sheet_say before s → CallMeets before fits n B T old (Err f) T old
  call_stopped f said =
      let m = number_of f.fault in
      let e = said_faulty before s m f.place said in
      record {
        writes = writes_refused (before then check_run fits B (length old)) n B old (Err f) m f.place (then_stop before (check_run fits B (length old)) m f.place e) refl;
        tables = sym (left_refused m f.place before T e);
      }

  -- let through: what the run gives, and the tables zeroed
  pub call_ran : (p m : ℕ) → holds p m ≡ sheet_say before s → (r : Answer) (out : List ℕ) (W : Tables) → RunMeets fits n B old r out → W ≡ cleared T
      → CallMeets before fits n B T old r W out
  call_ran p m said r out W y w =
      let e = (said_holds before s p m said).0 in
      record {
        writes = writes_same (before then check_run fits B (length old)) n B old r out _ (then_go before (check_run fits B (length old)) e) y;
        tables = w ∙ sym (left_passed before T e);
      }
