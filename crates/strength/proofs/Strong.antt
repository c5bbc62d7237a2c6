-- The run on an admitted sheet: 15 for the clique list by all k-cliques, and then the listing of the family that the list gives is that of the strong cliques
-- of the definition. Assumes nothing.
use mathlib.Core.Path.{◌≡◌, sym, ap, ◌∙◌, subst}
use mathlib.Core.Bool.{Bool, true, false, ◌&&◌}
use mathlib.Core.List.{List, map}
use Prim.Native.Nat.{ℕ, ◌≤◌, ◌<◌}
use native.Mathlib.Omega.{arith}
use lib.Dec.{leb}
use lib.ListN.{length, take}
use lib.Ieee.{Float}
use Rattle.answers.specs.Verdict.{accepted, refused, unless}
use Rattle.answers.specs.Answers.{Answer}
use Rattle.sets.specs.Lists.{◌∈◌, keep, below}
use Rattle.sets.specs.Sets.{size, sets_of}
use Rattle.sets.specs.Value.{width, rows, row, no_rows}
use Rattle.answers.proofs.Laws.{last_stop}
use Rattle.sets.proofs.Tests.{and_stop}
use Rattle.sets.proofs.ListLaws.{Holds, keep_at, keep_of, keep_same}
use Rattle.percolation.specs.Percolate.{Community, communities, listing_bytes}
use Rattle.percolation.specs.Links.{Link, cliques, slots}
use Rattle.percolation.specs.Steps.{legal, enough}
use Rattle.percolation.specs.Strength.{strong, strong_listing}
use Rattle.percolation.proofs.Communities.{communities_same}
use Rattle.percolation.proofs.Families.{cliques_of, in_sets}
use Rattle.percolation.proofs.SlotCount.{slots_same}
use Rattle.percolation.proofs.Ranges.{good_k_lem}
use Rattle.products.specs.declared.Measure.{Measure}
use Rattle.products.specs.Measures.{reaches}
use Rattle.products.proofs.CliqueProducts.{table_reaches}
use Rattle.checks.specs.Neighbours.{Neighbours}
use Rattle.sheet.specs.Sheet.{parts, links, links_of, check_sheet}
use Rattle.sheet.proofs.Sound.{sheet_legal}
use Rattle.maximal_search.specs.Model.{found, found_all}
use Rattle.weights.specs.Model.{Weighs}
use Rattle.clique_list.specs.Model.{cliques_by, Scores}
use Rattle.clique_list.proofs.Stored.{stored_of, stored_at, stored_many, stored_fit, stored_rows}
use Rattle.percolating.specs.Model.{strong_by}
use Rattle.strong_listing.specs.Model.{ListsFamily}
use Rattle.runs.specs.Model.{rows_with}
use Rattle.runs.specs.OnSheet.{RunMeets}
use Rattle.runs.proofs.InSheet.{first_all, parts_width, first_near}
use Rattle.strong_checks.specs.Model.{bearing}
use Rattle.strong_checks.specs.OnSheet.{strong_of, strength_listing, fits_strength, StrengthRuns, check_strength}
use Rattle.strong_checks.proofs.Calls.{strength_sheet, strength_k}
use Rattle.strong_checks.proofs.Sure.{sure_fits}

module _ (s : List ℕ) (k : ℕ) (M : Measure) (b : Bool) (ok : check_strength s k M b ≡ accepted) (q m : ℕ) (count : q ≡ parts s) (all : m ≡ links s)
    (R : List ℕ) (are : R ≡ rows_with no_rows (take m (links_of s)))
    (r c : ℕ) (T S : List ℕ) (filled : found S c ≡ found_all r (found T 0) (cliques_by R q k)) where
  abbrev p : ℕ
  p = parts s

  abbrev L : List Link
  L = links_of s

  sheet : check_sheet s ≡ accepted
  sheet = strength_sheet s k M b ok

  legals : legal (parts s) (links_of s) ≡ true
  legals = sheet_legal s sheet

  wide : parts s ≤ width
  wide = parts_width s sheet

  near : Neighbours (links_of s) R
  near = first_near s sheet m (links_of s) (first_all s m all) R are

  held : found S c ≡ found_all r (found T 0) (cliques_by R (parts s) k)
  held = filled ∙ ap (λ (x : ℕ). found_all r (found T 0) (cliques_by R x k)) count

  -- 15 for the clique list
  pub list_short : (n : ℕ) → r < c → fits_strength s k M r n ≡ false
  unfolding fits_strength
  list_short n h = sym (and_stop (leb (length (cliques L p k)) r) _ (stored_many L p R legals wide near k r c T S held h))

  -- as the code says it
  pub list_refused : (n : ℕ) → r < c → refused 15 0 ≡ unless (fits_strength s k M r n) 15 0
  list_refused n h = sym (last_stop (fits_strength s k M r n) 15 0 (list_short n h))

  -- the cliques of the list that the table of weights W finds strong
  module _ (h : c ≤ r) (long : r ≤ rows T) (W : List ℕ) (weighs : Weighs (links_of s) W) where
    abbrev K : List ℕ
    K = cliques_by R p k

    abbrev F : List ℕ
    F = keep (strong_by M W) (map (row S) (below c))

    in_list : (x : ℕ) → x ∈ cliques_by R (parts s) k → x ∈ cliques (links_of s) (parts s) k
    in_list x i = stored_of L p R legals wide near k x i

    as_told : (x : ℕ) → x ∈ cliques_by R (parts s) k → strong_by M W x ≡ reaches (links_of s) (parts s) M x
    unfolding strong_by
    as_told x i =
        table_reaches L W p x M wide (in_sets p x (cliques_of L p k (in_list x i)).fits) (λ a d l g. weighs.weights a d l (omega (arith, g, wide)))

    are_strong : keep (strong_by M W) (map (row S) (below c)) ≡ keep (reaches (links_of s) (parts s) M) (cliques_by R (parts s) k)
    are_strong =
        ap (keep (strong_by M W)) (stored_rows L p R legals wide near k r c T S held h long) ∙ keep_same (strong_by M W) (reaches L p M) K as_told

    to_strong : Holds (strong_of s k M) (keep (strong_by M W) (map (row S) (below c)))
    unfolding strong_of strong
    to_strong x i =
        let f = keep_of (reaches L p M) K (subst (λ (l : List ℕ). x ∈ l) are_strong i) in
        keep_at (reaches L p M) (cliques L p k) (in_list x f.0) f.1

    from_strong : Holds (keep (strong_by M W) (map (row S) (below c))) (strong_of s k M)
    unfolding strong_of strong
    from_strong x i =
        let f = keep_of (reaches L p M) (cliques L p k) i in
        subst (λ (l : List ℕ). x ∈ l) (sym are_strong) (keep_at (reaches L p M) K (stored_at L p R legals wide near k x f.0) f.1)

    own_sets : (x : ℕ) → x ∈ strong_of s k M → (size x ≡ k) × x ∈ sets_of (parts s)
    unfolding strong_of strong
    own_sets x i =
        let g = cliques_of L p k (keep_of (reaches L p M) (cliques L p k) i).0 in (g.sized, in_sets p x g.fits)

    same_listing : communities k (keep (strong_by M W) (map (row S) (below c))) ≡ strength_listing s k M
    unfolding strength_listing strong_listing strong_of
    same_listing = communities_same k F (strong_of s k M) to_strong from_strong

    same_slots : slots (parts s) k (keep (strong_by M W) (map (row S) (below c))) ≡ slots (parts s) k (strong_of s k M)
    same_slots =
        slots_same p p k F (strong_of s k M) to_strong from_strong (λ x i. (own_sets x (to_strong x i)).1) (λ x i. (own_sets x i).1)

    same_fit : (n : ℕ) → enough n (slots (parts s) k (keep (strong_by M W) (map (row S) (below c)))) ≡ fits_strength s k M r n
    unfolding fits_strength
    same_fit n =
        ap (enough n) same_slots ∙ sym (ap (λ (x : Bool). x && enough n (slots p k (strong_of s k M))) (stored_fit L p R legals wide near k r c T S held h))

    -- where u says that there are slots enough for the cliques of the links that a strong one may have
    pub list_strong : (es old : List ℕ) (a : Answer) (out : List ℕ) (u : Bool)
        → u ≡ enough (length es) (slots (parts s) k (cliques (bearing M (links_of s)) (parts s) k))
        → ListsFamily u (keep (strong_by M W) (map (row S) (below c))) (length es) old a out → StrengthRuns s k M r (length es) old a out
    list_strong es old a out u told f =
        subst (λ (x : Bool). RunMeets x (length (strength_listing s k M)) (listing_bytes (strength_listing s k M)) old a out) (same_fit (length es))
        (subst (λ (D : List Community). RunMeets (enough (length es) (slots p k F)) (length D) (listing_bytes D) old a out) same_listing
        (f p k wide (good_k_lem k (strength_k s k M b ok)).0 (λ x i. own_sets x (to_strong x i))
        (λ e. ap (enough (length es)) same_slots ∙ sure_fits s k M sheet es u told e)))

-- ---- the lists as the code hands them on

pub scores_seen : (W C D : List ℕ) (n : ℕ) (P Q : List Float) → C ≡ D → P ≡ Q → Scores W D n Q → Scores W C n P
scores_seen W C D n P Q e f h = subst (λ (X : List ℕ). Scores W X n P) (sym e) (subst (λ (X : List Float). Scores W D n X) (sym f) h)

pub family_seen : (M : Measure) (W C D : List ℕ) (n : ℕ) (u : Bool) (x : ℕ) (old : List ℕ) (a : Answer) (out : List ℕ) → C ≡ D
    → ListsFamily u (keep (strong_by M W) (map (row C) (below n))) x old a out → ListsFamily u (keep (strong_by M W) (map (row D) (below n))) x old a out
family_seen M W C D n u x old a out e h = subst (λ (X : List ℕ). ListsFamily u (keep (strong_by M W) (map (row X) (below n))) x old a out) e h
