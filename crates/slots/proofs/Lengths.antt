-- Every step keeps the lengths of the four tables, uses no slot past the room, and gives up none. Assumes nothing.
use mathlib.Core.Bool.{true, false, ◌&&◌}
use mathlib.Core.Path.{◌≡◌, refl, sym, ◌∙◌}
use mathlib.Core.List.{[], List, ◌∷◌}
use Prim.Native.Nat.{ℕ, ◌≤◌, ◌<◌}
use native.Mathlib.Omega.{arith}
use lib.Dec.{leb}
use borrow.Author.Tests.{leb-true, le-leb, lt-leb}
use lib.ListN.{length, set, length-set}
use Rattle.sets.specs.Sets.{union, out, lesser, lowest, members}
use Rattle.sets.specs.Value.{width, rows}
use Rattle.sets.proofs.Tests.{iff, and_intro, and_left, and_right}
use Rattle.sets.proofs.Tables.{length_store, sized_rows, sized_same}
use Rattle.percolation.specs.Ranges.{most_slots}
use Rattle.percolation.specs.Steps.{enough}
use Rattle.joining.specs.Entries.{root_of}
use Rattle.slots.specs.Tables.{Tables, Level, room}
use Rattle.joining.specs.Model.{halved}
use Rattle.slots.specs.Model.{find, low_root, high_root, merged, joined, placed, joined_used, took_part, took_parts, touched, took_in}
use Rattle.slots.proofs.Cases.{appended, counted, placed_cases, joined_cases, touched_cases}
use Rattle.joining.proofs.Follow.{halved_length}

-- what every step keeps
pub record Kept (T U : Tables) : Type 0 where
  pub entries : length U.entries ≡ length T.entries
  pub sets : length U.sets ≡ length T.sets
  pub smallest : length U.smallest ≡ length T.smallest
  pub unions : length U.unions ≡ length T.unions
  pub more : T.used ≤ U.used
  pub fits : T.used ≤ room T.entries → U.used ≤ room U.entries

pub kept_none : (T : Tables) → Kept T T
kept_none T = record { entries = refl; sets = refl; smallest = refl; unions = refl; more = omega arith; fits = λ h. h }

pub kept_both : (T U W : Tables) → Kept T U → Kept U W → Kept T W
kept_both T U W a b = record {
  entries = b.entries ∙ a.entries;
  sets = b.sets ∙ a.sets;
  smallest = b.smallest ∙ a.smallest;
  unions = b.unions ∙ a.unions;
  more = omega (arith, a.more, b.more);
  fits = λ h. b.fits (a.fits h);
}

pub kept_level : (T U : Tables) → Kept T U → Level T → Level U
kept_level T U k l = record {
  sets = sized_same U.sets T.sets _ _ k.sets k.entries ∙ l.sets;
  smallest = sized_same U.smallest T.smallest _ _ k.smallest k.entries ∙ l.smallest;
  unions = sized_same U.unions T.unions _ _ k.unions k.entries ∙ l.unions;
}

-- such tables have a row for each entry
module _ (T : Tables) (l : Level T) where
  pub level_sets : rows T.sets ≡ length T.entries
  level_sets = sized_rows T.sets (length T.entries) l.sets

  pub level_smallest : rows T.smallest ≡ length T.entries
  level_smallest = sized_rows T.smallest (length T.entries) l.smallest

  pub level_unions : rows T.unions ≡ length T.entries
  level_unions = sized_rows T.unions (length T.entries) l.unions

-- the room is in the tables, and goes by the length
pub room_within : (es : List ℕ) → (room es ≤ length es) × (room es ≤ most_slots)
unfolding room
room_within es = (omega arith, omega arith)

-- what is enough is what there is room for
pub enough_is : (es : List ℕ) (c : ℕ) → enough (length es) c ≡ leb c (room es)
unfolding enough room
enough_is es c = iff _ _ to (λ e. fro (leb-true c (room es) e))
  where
    to : leb c (length es) && leb c most_slots ≡ true → leb c (room es) ≡ true
    to e =
        le-leb c (room es)
        (omega (arith, leb-true c (length es) (and_left (leb c (length es)) (leb c most_slots) e), leb-true c most_slots (and_right (leb c (length es)) (leb c most_slots) e)))

    fro : c ≤ room es → leb c (length es) && leb c most_slots ≡ true
    fro h =
        and_intro (leb c (length es)) (leb c most_slots) (le-leb c (length es) (omega (arith, (room_within es).0))) (le-leb c most_slots (omega (arith, (room_within es).1)))

pub enough_room : (es : List ℕ) (c : ℕ) → c ≤ room es → enough (length es) c ≡ true
enough_room es c h = enough_is es c ∙ le-leb c (room es) h

pub enough_short : (es : List ℕ) (c : ℕ) → room es < c → enough (length es) c ≡ false
enough_short es c h = enough_is es c ∙ lt-leb c (room es) h

pub room_enough : (es : List ℕ) (c : ℕ) → enough (length es) c ≡ true → c ≤ room es
room_enough es c e = leb-true c (room es) (sym (enough_is es c) ∙ e)

pub same_room : (es fs : List ℕ) → length fs ≡ length es → room fs ≡ room es
unfolding room
same_room es fs e = omega arith

merged_length : (f : ℕ → ℕ → ℕ) (xs : List ℕ) (lo hi : ℕ) → length (merged f xs lo hi) ≡ length xs
unfolding merged
merged_length f xs lo hi = length_store xs lo _

pub joined_kept : (T : Tables) (i j : ℕ) → Kept T (joined T i j)
unfolding joined
joined_kept T i j = record {
  entries = long;
  sets = refl;
  smallest = merged_length lesser T.smallest (low_root T.entries i j) (high_root T.entries i j);
  unions = merged_length union T.unions (low_root T.entries i j) (high_root T.entries i j);
  more = omega arith;
  fits = λ h. omega (arith, same_room T.entries (joined T i j).entries long);
}
  where
    long : length (joined T i j).entries ≡ length T.entries
    long =
        length-set (halved (halved T.entries i) j) (high_root T.entries i j) (low_root T.entries i j)
        ∙ halved_length (halved T.entries i) j
        ∙ halved_length T.entries i

pub appended_kept : (T : Tables) (s Q : ℕ) → T.used < room T.entries → Kept T (appended T s Q)
appended_kept T s Q l = record {
  entries = length-set T.entries T.used T.used;
  sets = length_store T.sets T.used s;
  smallest = length_store T.smallest T.used Q;
  unions = length_store T.unions T.used Q;
  more = omega arith;
  fits = λ h. omega (arith, same_room T.entries (set T.entries T.used T.used) (length-set T.entries T.used T.used));
}

pub placed_kept : (T : Tables) (s Q : ℕ) → Kept T (placed T s Q)
placed_kept T s Q = placed_cases T s Q (Kept T) (kept_none T) (appended_kept T s Q)

pub joined_used_kept : (T : Tables) (f i : ℕ) → Kept T (joined_used T f i)
joined_used_kept T f i = joined_cases T f i (Kept T) (kept_none T) (joined_kept T f i)

pub counted_kept : (T : Tables) (f Q : ℕ) → Kept T (counted T f Q)
counted_kept T f Q = record {
  entries = refl;
  sets = refl;
  smallest = length_store T.smallest (root_of T.entries f) _;
  unions = length_store T.unions (root_of T.entries f) _;
  more = omega arith;
  fits = λ h. h;
}

pub touched_kept : (T : Tables) (f Q : ℕ) → Kept T (touched T f Q)
touched_kept T f Q = touched_cases T f Q (Kept T) (kept_none T) (counted_kept T f Q)

pub took_part_kept : (f Q q : ℕ) (T : Tables) → Kept T (took_part f Q q T)
unfolding took_part
took_part_kept f Q q T =
    kept_both T (placed T (out q Q) Q) (took_part f Q q T) (placed_kept T (out q Q) Q)
    (joined_used_kept (placed T (out q Q) Q) f (find T.sets T.used (out q Q)))

pub took_parts_kept : (f Q : ℕ) (qs : List ℕ) (T : Tables) → Kept T (took_parts f Q qs T)
unfolding took_parts
took_parts_kept f Q [] T = kept_none T
took_parts_kept f Q (q ∷ qs) T =
    kept_both T (took_part f Q q T) (took_parts f Q (q ∷ qs) T) (took_part_kept f Q q T) (took_parts_kept f Q qs (took_part f Q q T))

pub took_length : (T : Tables) (Q : ℕ) → Kept T (took_in T Q)
unfolding took_in
took_length T Q =
    let f = find T.sets T.used (out (lowest Q) Q) in
    let U = took_parts f Q (members width Q) T in
    kept_both T U (took_in T Q) (took_parts_kept f Q (members width Q) T) (touched_kept U f Q)

pub took_fits : (T : Tables) (Q : ℕ) → T.used ≤ room T.entries → (took_in T Q).used ≤ room (took_in T Q).entries
took_fits T Q = (took_length T Q).fits
