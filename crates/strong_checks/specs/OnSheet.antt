-- The listing of a sheet by clique strength: the lent clique list, what is checked, in order, and what the call must do. Assumes nothing.
use Rattle.std.specs.Prelude.{◌≡◌, Bool, not, ◌&&◌, List, ℕ, leb, length, replicate, Float}
use Rattle.std.specs.Float.Ieee.{is_nan}
use Rattle.answers.specs.Verdict.{Verdict, accepted, refused, ◌then◌, unless}
use Rattle.answers.specs.Answers.{Answer}
use Rattle.sets.specs.Value.{sized}
use Rattle.percolation.specs.Percolate.{Community, listing_bytes}
use Rattle.percolation.specs.Links.{cliques, slots}
use Rattle.percolation.specs.Ranges.{good_k}
use Rattle.percolation.specs.Steps.{enough}
use Rattle.percolation.specs.Strength.{strong, strong_listing}
use Rattle.products.specs.declared.Measure.{Measure}
use Rattle.products.specs.declared.Measure.TheVariants.{Weakest, Product}
use Rattle.products.specs.Measures.{reaches}
use Rattle.sheet.specs.Sheet.{parts, links_of, check_sheet}
use Rattle.slots.specs.Tables.{Tables}
use Rattle.runs.specs.Lent.{level}
use Rattle.runs.specs.OnSheet.{RunMeets, CallMeets}
use Rattle.clique_list.specs.NoProduct.{no_product}
use Rattle.clique_list.specs.declared.CliqueList.{CliqueList as LentList}
use Rattle.clique_list.specs.declared.CliqueView.{CliqueView}

-- ---- the lent clique list

-- a list of sets and one of products
pub record CliqueList : Type 0 where
  pub sets : List ℕ
  pub products : List Float

abbrev pub clique_list : List ℕ → List Float → CliqueList
clique_list s v = record { sets = s; products = v }

-- the one that the code is lent
abbrev pub list_of : LentList → CliqueList
list_of l = clique_list l.cliques.now l.products.now

abbrev pub list_in : CliqueView → CliqueList
list_in v = clique_list v.cliques.now v.products.now

-- as many sets as products, and tables of as many sets as there are joining entries, no word more
unfoldable pub level_all : CliqueList → Tables → Bool
unfolding sized level
level_all C T = sized C.sets (length C.products) && level T

-- all zero
unfoldable pub cleared_list : CliqueList → CliqueList
cleared_list C = clique_list (replicate (length C.sets) 0) (replicate (length C.products) no_product)

-- after a call: zeroed where the checks before 15 let it pass; as it was where they refused it
unfoldable pub left_list : Verdict → CliqueList → CliqueList
unfolding cleared_list
left_list accepted C = cleared_list C
left_list (refused n a) C = C

-- ---- what is checked

-- 22: a product with k above 4; 23: a threshold that is not a number
unfoldable pub check_measure : ℕ → Measure → Verdict
unfolding is_nan unless ◌then◌
check_measure k (Weakest t) = accepted
check_measure k (Product t) = unless (leb k 4) 22 0 then unless (not (is_nan t)) 23 0

-- the checks before 15, where the lists are of the right lengths or not: the sheet's own, then 10, 22, 23, 11
unfoldable pub check_strength : List ℕ → ℕ → Measure → Bool → Verdict
unfolding check_sheet good_k check_measure unless ◌then◌
check_strength s k M ok = check_sheet s then unless (good_k k) 10 0 then check_measure k M then unless ok 11 0

-- the k-cliques of a sheet at or above the threshold, and their listing
unfoldable pub strong_of : List ℕ → ℕ → Measure → List ℕ
unfolding strong reaches links_of
strong_of s k M = strong (links_of s) (parts s) k (reaches (links_of s) (parts s) M)

unfoldable pub strength_listing : List ℕ → ℕ → Measure → List Community
unfolding strong_listing reaches links_of
strength_listing s k M = strong_listing (links_of s) (parts s) k (reaches (links_of s) (parts s) M)

-- what 15 asks: all k-cliques of the sheet are no more than the clique list holds, c of them, and there are slots for the strong ones in tables of n
unfoldable pub fits_strength : List ℕ → ℕ → Measure → ℕ → ℕ → Bool
unfolding cliques slots strong_of enough links_of
fits_strength s k M c n = leb (length (cliques (links_of s) (parts s) k)) c && enough n (slots (parts s) k (strong_of s k M))

-- ---- what the call must do

-- from 15 on
abbrev pub StrengthRuns : List ℕ → ℕ → Measure → ℕ → ℕ → List ℕ → Answer → List ℕ → Type 0
StrengthRuns s k M c n old r out =
    RunMeets (fits_strength s k M c n) (length (strength_listing s k M)) (listing_bytes (strength_listing s k M)) old r out

-- the whole: r is its answer, C and T are the clique list and the tables before it and D and U those after it, old and out the output
pub record StrengthMeets (s : List ℕ) (k : ℕ) (M : Measure) (C : CliqueList) (T : Tables) (old : List ℕ) (r : Answer) (D : CliqueList) (U : Tables)
    (out : List ℕ) : Type 0 where
  pub call : CallMeets (check_strength s k M (level_all C T)) (fits_strength s k M (length C.products) (length T.entries))
      (length (strength_listing s k M)) (listing_bytes (strength_listing s k M)) T old r U out
  -- zeroed whenever it came as far as 15
  pub list : D ≡ left_list (check_strength s k M (level_all C T)) C
