-- A meeting by the sequential run: the first links by which both k-cliques are complete, in the tables. Assumes nothing.
use mathlib.Core.Path.{◌≡◌, ap, ap₂, ◌∙◌, subst⁻¹}
use mathlib.Core.Logic.{◌⊎◌, inl, inr}
use mathlib.Core.Bool.{true}
use mathlib.Core.List.{List}
use Prim.Native.Nat.{ℕ, ◌≤◌, ◌<◌, max}
use native.Mathlib.Omega.{arith}
use lib.ListN.{length, take, drop}
use Rattle.answers.specs.Verdict.{accepted}
use Rattle.sets.specs.Lists.{◌∈◌}
use Rattle.sets.specs.Value.{width, no_rows}
use Rattle.sets.proofs.Tests.{lt_or_le}
use Rattle.percolation.specs.Links.{Link, cliques, slots}
use Rattle.percolation.specs.Steps.{legal, enough}
use Rattle.percolation.proofs.Ranges.{good_k_lem}
use Rattle.checks.specs.Neighbours.{Neighbours}
use Rattle.slots.specs.Tables.{Tables, room}
use Rattle.slots_theory.specs.Shows.{Shows}
use Rattle.slots.proofs.Lengths.{room_enough, same_room}
use Rattle.clique_taking.proofs.AllTaken.{slots_mono}
use Rattle.sheet.specs.Sheet.{parts, links, links_of, check_sheet}
use Rattle.sheet.proofs.Sound.{sheet_legal}
use Rattle.runs.specs.Lent.{check_call, cleared}
use Rattle.runs.specs.Model.{rows_with, took_links}
use Rattle.runs.specs.OnSheet.{slots_of}
use Rattle.runs.proofs.Admitted.{call_sheet, call_k, call_level}
use Rattle.runs.proofs.InSheet.{parts_width, links_length}
use Rattle.runs.proofs.Left.{cleared_room}
use Rattle.runs.proofs.Ran.{take_legal, links_kept, run_near, run_shown}
use Rattle.meeting.specs.Answers.{check_pair}
use Rattle.meeting.proofs.Pairs.{pair_call, pair_first_lem, pair_second}
use Rattle.meeting.proofs.Prefixes.{held_cliques, prefix_all}
use Rattle.meeting_sequential.specs.Model.{Complete, Taken}
use Rattle.meeting_sequential.proofs.Completed.{complete_member, complete_some, apart_before}

-- both are complete within the sheet
pub meet_within : (s : List ℕ) (a b x y n : ℕ) → Complete (links_of s) a x → Complete (links_of s) b y → n ≡ max x y → n ≤ links s
meet_within s a b x y n fa fb e = omega (arith, e, fa.within, fb.within, links_length s)

module _ (s : List ℕ) (k a b : ℕ) (T : Tables) (ok : check_pair s k a b T ≡ accepted) where
  abbrev p : ℕ
  p = parts s

  abbrev L : List Link
  L = links_of s

  call : check_call s k T ≡ accepted
  call = pair_call s k a b T ok

  pub meet_sheet : check_sheet s ≡ accepted
  meet_sheet = call_sheet s k T call

  pub meet_two : 2 ≤ k
  meet_two = (good_k_lem k (call_k s k T call)).0

  legals : legal p L ≡ true
  legals = sheet_legal s meet_sheet

  wide : p ≤ width
  wide = parts_width s meet_sheet

  -- there are slots enough for all links; n first links make both complete
  module _ (fit : enough (length T.entries) (slots_of s k) ≡ true) (x y n : ℕ) (fa : Complete (links_of s) a x) (fb : Complete (links_of s) b y)
      (e : n ≡ max x y) where
    pub meet_taken : (X Q : List ℕ) (W U : Tables) → X ≡ no_rows → W ≡ cleared T → Q ≡ rows_with X (drop 0 (take n (links_of s)))
        → U ≡ took_links k X W (drop 0 (take n (links_of s))) → Taken s k a b n Q U
    meet_taken X Q W U none zero rows tabs = record {
      some = omega (arith, e, complete_some L p k a x fa meet_two ina);
      within = meet_within s a b x y n fa fb e;
      near = subst⁻¹ (Neighbours N) (rows ∙ ap (λ (Z : List ℕ). rows_with Z N) none) (run_near p N wide (take_legal p n L legals));
      shows = subst⁻¹ (Shows p k (cliques N p k)) from (run_shown p k N T wide meet_two (take_legal p n L legals) (call_level s k T call) less);
      fits = omega (arith, all, long);
      first = complete_member L p k a x fa ina n (omega arith);
      second = complete_member L p k b y fb (pair_second s k a b T ok) n (omega arith);
      apart = λ m l. apart_before L p k a b x y legals fa fb m (lower m l (lt_or_le m x));
    }
      where
        N : List Link
        N = take n (links_of s)

        ina : a ∈ cliques (links_of s) (parts s) k
        ina = pair_first_lem s k a b T ok

        all : slots (parts s) k (cliques (links_of s) (parts s) k) ≤ room T.entries
        all = room_enough T.entries (slots_of s k) fit

        from : U ≡ took_links k no_rows (cleared T) (take n (links_of s))
        from = tabs ∙ ap₂ (λ (Z : List ℕ) (Y : Tables). took_links k Z Y (take n (links_of s))) none zero

        less : slots (parts s) k (cliques (take n (links_of s)) (parts s) k) ≤ room T.entries
        less = omega (arith, slots_mono p k (cliques N p k) (cliques L p k) (held_cliques N L p k (prefix_all L n)), all)

        long : room U.entries ≡ room T.entries
        long =
            same_room (cleared T).entries U.entries
            (ap (λ (Z : Tables). length Z.entries) from ∙ (links_kept k no_rows (cleared T) N).entries) ∙ cleared_room T

        lower : (m : ℕ) → m < n → (m < x) ⊎ (x ≤ m) → (m < x) ⊎ (m < y)
        lower m l (inl g) = inl g
        lower m l (inr g) = inr (omega arith)
