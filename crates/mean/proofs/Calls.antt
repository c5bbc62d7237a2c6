-- The call by its parts: 13 and the checks before it, refused before 15, from 15 on, and the links at t as the tables count them. Assumes nothing.
use mathlib.Core.Path.{◌≡◌, refl, sym, ap, ap₂, ◌∙◌, subst, subst⁻¹}
use mathlib.Core.Bool.{Bool, true}
use mathlib.Core.List.{List}
use Prim.Native.Nat.{ℕ, ◌≤◌, ◌<◌, ◌/◌, ◌%◌}
use native.Mathlib.Omega.{arith}
use lib.Dec.{eqb}
use lib.ListN.{length, take, drop}
use Rattle.std.specs.Prelude.{Result, Ok, Err}
use Rattle.answers.specs.declared.Refusal.{Refusal}
use Rattle.answers.specs.Faults.{number_of}
use Rattle.answers.specs.Verdict.{Verdict, accepted, refused, unless}
use Rattle.answers.proofs.Laws.{then_left, then_right, then_stop, then_go, last_go, unless_passed}
use Rattle.sets.specs.Lists.{◌∈◌, any, keep}
use Rattle.sets.specs.Sets.{out, lowest}
use Rattle.sets.specs.Value.{width, no_rows}
use Rattle.sets.proofs.ListLaws.{elem_of, keep_same}
use Rattle.percolation.specs.Links.{Link, heavy, cliques, family, slots}
use Rattle.percolation.specs.Steps.{legal, enough}
use Rattle.percolation.specs.Mean.{in_family, family_links, mean, mean_of}
use Rattle.percolation.proofs.Ranges.{good_k_lem}
use Rattle.percolation.proofs.Mean.{mean_exact, family_at}
use Rattle.checks.specs.Neighbours.{Neighbours}
use Rattle.slots.specs.Tables.{Tables, root_of}
use Rattle.slots.specs.Model.{find}
use Rattle.slots_theory.specs.Shows.{Shows}
use Rattle.slots_theory.proofs.Communal.{member_found}
use Rattle.clique_taking.proofs.Inserted.{cliques_family}
use Rattle.sheet.specs.Answers.{SheetSaid, holds, faulty, sheet_say}
use Rattle.sheet.specs.Sheet.{parts, links_of, check_sheet}
use Rattle.sheet.proofs.Said.{said_faulty, said_holds}
use Rattle.sheet.proofs.Sound.{sheet_legal}
use Rattle.runs.specs.Lent.{check_call, cleared}
use Rattle.runs.specs.Model.{rows_with, took_links}
use Rattle.runs.specs.OnSheet.{slots_for}
use Rattle.runs.proofs.Admitted.{call_sheet, call_k}
use Rattle.runs.proofs.InSheet.{first_near, first_legal, parts_width}
use Rattle.runs.proofs.Left.{left_passed, left_refused}
use Rattle.runs.proofs.FromZero.{first_shown}
use Rattle.mean.specs.declared.FamilyMean.{FamilyMean}
use Rattle.mean.specs.declared.Tally.{Tally}
use Rattle.mean.specs.Answers.{gives, mean_say, mean_at, is_clique_at, check_clique, check_mean, MeanRuns, MeanMeets}
use Rattle.mean.specs.Model.{Covered, counts, Adds}
use Rattle.mean.proofs.Covering.{covered_is}

-- ---- 13: what the code says of a set, by the rows of neighbours of the first n links, which are those of weight t or more

pub clique_told : (s : List ℕ) → check_sheet s ≡ accepted → (n t : ℕ) → take n (links_of s) ≡ heavy t (links_of s) → (R : List ℕ)
    → R ≡ rows_with no_rows (take n (links_of s)) → (p k x : ℕ) (r : Bool) → p ≡ parts s
    → ((L : List Link) → Neighbours L R → legal p L ≡ true → p ≤ width → r ≡ any (eqb x) (cliques L p k)) → r ≡ is_clique_at s k t x
unfolding is_clique_at family
clique_told s ok n t first R rows p k x r e f =
    let L = heavy t (links_of s) in
    f L (first_near s ok n L first R rows) (ap (λ (z : ℕ). legal z L) e ∙ first_legal s ok n L first) (omega (arith, e, parts_width s ok))
    ∙ ap (λ (z : ℕ). any (eqb x) (cliques L z k)) e

module _ (s : List ℕ) (k t c : ℕ) (T : Tables) where
  pub clique_early : (n x : ℕ) → check_call s k T ≡ refused n x → check_clique s k t c T ≡ refused n x
  unfolding check_clique
  clique_early n x e = then_stop (check_call s k T) (unless (is_clique_at s k t c) 13 0) n x e

  module _ (e : check_call s k T ≡ accepted) where
    pub clique_13 : (v : Verdict) → v ≡ unless (is_clique_at s k t c) 13 0 → check_clique s k t c T ≡ v
    unfolding check_clique
    clique_13 v f = then_go (check_call s k T) (unless (is_clique_at s k t c) 13 0) e ∙ sym f

  -- what they have that pass
  module _ (ok : check_clique s k t c T ≡ accepted) where
    pub clique_call : check_call s k T ≡ accepted
    unfolding check_clique
    clique_call = then_left (check_call s k T) (unless (is_clique_at s k t c) 13 0) ok

    pub clique_sheet : check_sheet s ≡ accepted
    clique_sheet = call_sheet s k T clique_call

    pub clique_two : 2 ≤ k
    clique_two = (good_k_lem k (call_k s k T clique_call)).0

    pub clique_member : c ∈ family (links_of s) (parts s) k t
    unfolding check_clique is_clique_at
    clique_member =
        elem_of c (family (links_of s) (parts s) k t)
        (unless_passed (is_clique_at s k t c) 13 0 (then_right (check_call s k T) (unless (is_clique_at s k t c) 13 0) ok))

-- ---- the links of a family, by the tables of the first n links

module _ (s : List ℕ) (k : ℕ) (T : Tables) (ok : check_call s k T ≡ accepted) (n : ℕ)
    (fit : enough (length T.entries) (slots (parts s) k (cliques (take n (links_of s)) (parts s) k)) ≡ true) (c : ℕ)
    (m : c ∈ cliques (take n (links_of s)) (parts s) k) (X : List ℕ) (W U : Tables) (none : X ≡ no_rows) (zero : W ≡ cleared T)
    (e : U ≡ took_links k X W (drop 0 (take n (links_of s)))) where
  abbrev p : ℕ
  p = parts s

  abbrev L : List Link
  L = take n (links_of s)

  sheet : check_sheet s ≡ accepted
  sheet = call_sheet s k T ok

  two : 2 ≤ k
  two = (good_k_lem k (call_k s k T ok)).0

  legals : legal (parts s) (take n (links_of s)) ≡ true
  legals = first_legal s sheet n L refl

  shows : Shows p k (cliques L p k) U
  shows = first_shown s k T ok n fit X W U none zero e

  -- a slot of the clique is found
  pub family_found : find U.sets U.used (out (lowest c) c) < U.used
  family_found = (member_found p k (cliques L p k) U shows (omega (arith, two)) (cliques_family L p k) c m (find U.sets U.used (out (lowest c) c)) refl).0

  pub family_counted : (i r : ℕ) → i ≡ find U.sets U.used (out (lowest c) c) → r ≡ root_of U.entries i → (C : List ℕ)
      → Covered U.sets U.entries U.used r C → (a : Tally) → Adds a (keep (counts k C) (take n (links_of s)))
      → Adds a (keep (in_family k (cliques (take n (links_of s)) (parts s) k) c) (take n (links_of s)))
  family_counted i r f g C v a d =
      let b = member_found p k (cliques L p k) U shows (omega (arith, two)) (cliques_family L p k) c m i f in
      subst (Adds a) (keep_same (counts k C) (in_family k (cliques L p k) c) L (λ l x.
      covered_is p k L legals (parts_width s sheet) two U shows c m i b.0 b.1 r g l x C v)) d

-- ---- the links at t, where the checks before 15 passed: they are the first n

module _ (s : List ℕ) (k t c : ℕ) (T : Tables) (ok : check_clique s k t c T ≡ accepted) (n : ℕ) (first : take n (links_of s) ≡ heavy t (links_of s)) where
  pub fits_first : enough (length T.entries) (slots (parts s) k (cliques (take n (links_of s)) (parts s) k)) ≡ enough (length T.entries) (slots_for s k t)
  unfolding slots_for family
  fits_first = ap (λ (L : List Link). enough (length T.entries) (slots (parts s) k (cliques L (parts s) k))) first

  pub first_member : c ∈ cliques (take n (links_of s)) (parts s) k
  unfolding family
  first_member = subst⁻¹ (λ (L : List Link). c ∈ cliques L (parts s) k) first (clique_member s k t c T ok)

  -- the links of the family, and what they add up to
  links_are : keep (in_family k (cliques (take n (links_of s)) (parts s) k) c) (take n (links_of s)) ≡ family_links (links_of s) (parts s) k t c
  unfolding family
  links_are =
      ap (λ (L : List Link). keep (in_family k (cliques L (parts s) k) c) L) first
      ∙ family_at (links_of s) (parts s) k t c (sheet_legal s (clique_sheet s k t c T ok))

  module _ (a : Tally) (d : Adds a (keep (in_family k (cliques (take n (links_of s)) (parts s) k) c) (take n (links_of s)))) where
    adds : Adds a (family_links (links_of s) (parts s) k t c)
    adds = subst (Adds a) links_are d

    pub some_links : 1 ≤ a.links
    unfolding mean_of
    some_links = omega (arith, adds.links, (mean_exact (links_of s) (parts s) k t c (clique_two s k t c T ok) (clique_member s k t c T ok)).0)

    pub mean_is : mean a.sum a.links (a.sum / a.links) (a.sum % a.links) ≡ mean_at s k t c
    unfolding mean_at mean_of
    mean_is = ap₂ (λ (x y : ℕ). mean x y (x / y) (x % y)) adds.sum adds.links

-- what was said of a view of the tables is said of them
pub clique_viewed : (s : List ℕ) (k t c : ℕ) (x : SheetSaid) (T U : Tables) → T ≡ U → x ≡ sheet_say (check_clique s k t c T) s
    → x ≡ sheet_say (check_clique s k t c U) s
clique_viewed s k t c x T U e said = said ∙ ap (λ (X : Tables). sheet_say (check_clique s k t c X) s) e

-- the sheet that is given back is admitted, with the tables that were viewed
pub clique_admitted : (s b : List ℕ) (k t c p m : ℕ) (T U : Tables) → T ≡ U → b ≡ s → holds p m ≡ sheet_say (check_clique s k t c T) s
    → check_clique b k t c U ≡ accepted
clique_admitted s b k t c p m T U e f said =
    ap (λ (x : List ℕ). check_clique x k t c U) f ∙ (said_holds _ s p m (clique_viewed s k t c (holds p m) T U e said)).0

-- ---- the run: 15, or the mean

module _ (s : List ℕ) (k t c : ℕ) (T : Tables) (ok : check_clique s k t c T ≡ accepted) (n : ℕ) (first : take n (links_of s) ≡ heavy t (links_of s)) where
  abbrev by_first : Bool
  by_first = enough (length T.entries) (slots (parts s) k (cliques (take n (links_of s)) (parts s) k))

  abbrev fits : Bool
  fits = enough (length T.entries) (slots_for s k t)

  pub run_stopped : (f : Refusal) → refused (number_of f.fault) f.place ≡ unless by_first 15 0 → MeanRuns fits (mean_at s k t c) (Err f)
  unfolding mean_say
  run_stopped f e = ap (λ (v : Verdict). mean_say v (mean_at s k t c)) (e ∙ ap (λ (b : Bool). unless b 15 0) (fits_first s k t c T ok n first))

  pub run_ran : by_first ≡ true → (q : Tally) → Adds q (keep (in_family k (cliques (take n (links_of s)) (parts s) k) c) (take n (links_of s)))
      → MeanRuns fits (mean_at s k t c) (Ok (record { sum = q.sum; links = q.links; quotient = q.sum / q.links; remainder = q.sum % q.links }))
  unfolding mean_say
  run_ran z q l =
      ap gives (mean_is s k t c T ok n first q l)
      ∙ ap (λ (v : Verdict). mean_say v (mean_at s k t c)) (sym (last_go fits 15 0 (sym (fits_first s k t c T ok n first) ∙ z)))

-- ---- the whole call

module _ (s : List ℕ) (k t c : ℕ) (T : Tables) where
  abbrev before : Verdict
  before = check_clique s k t c T

  abbrev enough_slots : Bool
  enough_slots = enough (length T.entries) (slots_for s k t)

  -- refused before 15: nothing is written
  pub mean_stopped : (f : Refusal) → faulty (number_of f.fault) f.place ≡ sheet_say before s → MeanMeets s k t c T (Err f) T
  unfolding mean_say check_mean
  mean_stopped f said =
      let m = number_of f.fault in
      let e = said_faulty before s m f.place said in
      record {
        answer = ap (λ (v : Verdict). mean_say v (mean_at s k t c)) (sym (then_stop before (unless enough_slots 15 0) m f.place e));
        tables = sym (left_refused m f.place before T e);
      }

  -- let through, and the tables zeroed
  pub mean_ran : (p m : ℕ) → holds p m ≡ sheet_say before s → (r : Result FamilyMean Refusal) (W : Tables) → MeanRuns enough_slots (mean_at s k t c) r
      → W ≡ cleared T → MeanMeets s k t c T r W
  unfolding mean_say check_mean
  mean_ran p m said r W y w =
      let e = (said_holds before s p m said).0 in
      record {
        answer = y ∙ ap (λ (v : Verdict). mean_say v (mean_at s k t c)) (sym (then_go before (unless enough_slots 15 0) e));
        tables = w ∙ sym (left_passed before T e);
      }
