-- By the weakest link at t the call gives the old listing at t: where neither is refused it writes the bytes that either run writes. From what the calls must
-- do alone; and how near to the whole product each product of an accepted sheet is. Assumes nothing.
use mathlib.Core.Path.{◌≡◌, sym, ap, ◌∙◌, subst}
use mathlib.Core.List.Memᴰ
use mathlib.Core.List.{List}
use Prim.Native.Nat.{ℕ, ◌+◌, ◌≤◌}
use native.Mathlib.Omega.{arith}
use lib.ListN.{length}
use Rattle.answers.specs.Verdict.{accepted}
use Rattle.answers.specs.Answers.{counts, says}
use Rattle.answers.specs.Answers.{Answer}
use Rattle.answers.proofs.Laws.{then_left, said_count}
use Rattle.sets.specs.Lists.{◌∈◌, below}
use Rattle.percolation.specs.Percolate.{Community}
use Rattle.percolation.specs.Links.{Link, cliques}
use Rattle.percolation.specs.Strength.{weights_in}
use Rattle.products.specs.declared.Measure.{Measure}
use Rattle.products.specs.declared.Measure.TheVariants.{Weakest}
use Rattle.products.specs.Products.{product_of, whole_product, Near}
use Rattle.products.proofs.CliqueProducts.{clique_near, weakest_same}
use Rattle.sheet.specs.Sheet.{parts, links, link_at, link_of, list_of, links_of, check_sheet}
use Rattle.sheet.proofs.Sound.{sheet_legal}
use Rattle.sheet_writer.specs.RoundTrip.{Bytes}
use Rattle.slots.specs.Tables.{Tables}
use Rattle.listings.specs.Listing.{Gives}
use Rattle.listings.proofs.Outputs.{writes_gives}
use Rattle.runs.specs.OnSheet.{listing_of, ListingMeets}
use Rattle.runs.proofs.Agreed.{not_refused}
use Rattle.strong_checks.specs.OnSheet.{CliqueList, level_all, check_strength, strength_listing, StrengthMeets}
use Rattle.strong_checks.proofs.Calls.{strength_sheet}

-- the listing of an accepted sheet by its weakest links at t is its listing at t
pub weakest_sheet : (s : List ℕ) (k t : ℕ) → check_sheet s ≡ accepted → t ≤ 65535 → strength_listing s k (Weakest t) ≡ listing_of s k t
unfolding strength_listing listing_of
weakest_sheet s k t ok narrow = weakest_same (links_of s) (parts s) k t (sheet_legal s ok) narrow

module _ (s : List ℕ) (k : ℕ) (M : Measure) (C : CliqueList) (T : Tables) (old : List ℕ) (r : Answer) (D : CliqueList) (U : Tables) (out : List ℕ)
    (m : StrengthMeets s k M C T old r D U out) (n : ℕ) (e : says r ≡ counts n) where
  -- a listing by strength that is not refused
  pub strength_gives : Gives (strength_listing s k M) old n out
  strength_gives = writes_gives _ (strength_listing s k M) old r out m.call.writes n e

  -- and its sheet is accepted
  pub strength_accepted : check_sheet s ≡ accepted
  strength_accepted =
      let f = said_count _ (length (strength_listing s k M)) n (sym e ∙ m.call.writes.answer) in
      strength_sheet s k M (level_all C T) (then_left (check_strength s k M (level_all C T)) _ f.0)

-- by the weakest link and by either run, at one threshold and with whatever tables: the same count, and with the same output before it the same output
pub weakest_agree : (s : List ℕ) (k t c : ℕ) (C : CliqueList) (T Z : Tables) (old : List ℕ) (a b : Answer) (D : CliqueList) (U W : Tables) (x y : List ℕ)
    → t ≤ 65535 → StrengthMeets s k (Weakest t) C T old a D U x → ListingMeets c s k t Z old b W y
    → (n m : ℕ) → says a ≡ counts n → says b ≡ counts m → (n ≡ m) × (x ≡ y)
weakest_agree s k t c C T Z old a b D U W x y narrow p q n m e f =
    let same = weakest_sheet s k t (strength_accepted s k (Weakest t) C T old a D U x p n e) narrow in
    let g = subst (λ (G : List Community). Gives G old n x) same (strength_gives s k (Weakest t) C T old a D U x p n e) in
    let h = not_refused c s k t Z old b W y q m f in
    (g.count ∙ sym h.count, g.bytes ∙ sym h.bytes)

-- ---- the bound

-- the weights in a sheet are of 16 bits
weights_narrow : (s : List ℕ) → Bytes s → (l : Link) → l ∈ links_of s → l.weight ≤ 65535
unfolding links_of list_of link_of
weights_narrow s small l i =
    let f = Memᴰ.of_map (link_of s) (below (links s)) i in
    let at = link_at s f.0 + 2 in
    omega (arith, ap (λ (x : Link). x.weight) f.2, small.small at, small.small (at + 1))

-- for k 2 to 4 the float product of each k-clique of an accepted sheet is near to the whole product
pub sheet_near : (s : List ℕ) → Bytes s → check_sheet s ≡ accepted → (k x : ℕ) → 2 ≤ k → k ≤ 4 → x ∈ cliques (links_of s) (parts s) k
    → Near (product_of (weights_in (links_of s) (parts s) x)) (whole_product (weights_in (links_of s) (parts s) x))
sheet_near s small ok k x two four i = clique_near (links_of s) (parts s) k x (sheet_legal s ok) (weights_narrow s small) two four i
