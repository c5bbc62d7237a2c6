-- Two listings of one sheet at one k and threshold, whatever each counts for 15: where neither is refused they are equal, count and bytes. From what the
-- calls must do alone. Assumes nothing.
use mathlib.Core.Path.{◌≡◌, sym, ◌∙◌}
use mathlib.Core.List.{List}
use Prim.Native.Nat.{ℕ}
use Rattle.answers.specs.Answers.{Answer, counts, says}
use Rattle.slots.specs.Tables.{Tables}
use Rattle.listings.specs.Listing.{Gives}
use Rattle.listings.proofs.Outputs.{writes_gives}
use Rattle.runs.specs.OnSheet.{listing_of, ListingMeets}

-- a listing that is not refused
pub not_refused : (c : ℕ) (s : List ℕ) (k t : ℕ) (T : Tables) (old : List ℕ) (r : Answer) (U : Tables) (out : List ℕ) → ListingMeets c s k t T old r U out
    → (n : ℕ) → says r ≡ counts n → Gives (listing_of s k t) old n out
not_refused c s k t T old r U out m n e =
    writes_gives _ (listing_of s k t) old r out m.writes n e

-- by either run, with other tables and other space: the same count, and with the same output before it the same output
pub runs_agree : (c d : ℕ) (s : List ℕ) (k t : ℕ) (T Z : Tables) (old : List ℕ) (a b : Answer) (U W : Tables) (x y : List ℕ)
    → ListingMeets c s k t T old a U x → ListingMeets d s k t Z old b W y
    → (n m : ℕ) → says a ≡ counts n → says b ≡ counts m → (n ≡ m) × (x ≡ y)
runs_agree c d s k t T Z old a b U W x y p q n m e f =
    let g = not_refused c s k t T old a U x p n e in
    let h = not_refused d s k t Z old b W y q m f in
    (g.count ∙ sym h.count, g.bytes ∙ sym h.bytes)
