-- What the loop over the ends of slots keeps: the listing of the first ones at the start of the output. Assumes nothing.
use mathlib.Core.Path.{◌≡◌, refl, sym, ap, ap₂, ◌∙◌, subst}
use mathlib.Core.Logic.{◌⊎◌, inl, inr}
use mathlib.Core.Bool.{Bool, true}
use mathlib.Core.List.Memᴰ
use mathlib.Core.List.{List, [], ◌∷◌, ◌++◌, map}
use Prim.Native.Nat.{ℕ, ◌+◌, ◌*◌, ◌/◌, ◌≤◌, ◌<◌, ◌^◌}
use native.Mathlib.Numerals.{add-one}
use native.Mathlib.Omega.{arith}
use lib.Dec.{eqb, leb}
use borrow.Author.Tests.{leb-true, le-leb}
use lib.ListN.{length, get_or, take, drop, length-drop, length-map}
use lib.Seq.{length-take-le, drop-drop, take_all, take-suc}
use Rattle.std.specs.Prelude.{Option, Some, None}
use Rattle.std.specs.Iterator.{Yields}
use Rattle.std.specs.List.{filter, range_with_len, enumerate_from}
use Rattle.std.proofs.lemmas.Iterator.{YieldsList}
use Rattle.std.proofs.lemmas.Iterator.Consumers.{YieldsList-turn, YieldsList-end}
use Rattle.std.proofs.lemmas.List.FromFn.{get_or-enumerate_from, length-enumerate_from}
use Rattle.answers.specs.Verdict.{accepted, unless, written}
use Rattle.answers.proofs.Laws.{unless_passed, written_accepted}
use Rattle.sets.specs.Lists.{◌∈◌, insert_by, insert_all}
use Rattle.sets.specs.Value.{width, row}
use Rattle.sets.proofs.Tests.{iff}
use Rattle.sets.proofs.ListLaws.{map_append, get_d_in}
use Rattle.sets.proofs.Insertion.{insert_of, insert_all_more, insert_all_length}
use Rattle.percolation.specs.Percolate.{Community, shown, listing_bytes}
use Rattle.slots.specs.Tables.{root_of}
use Rattle.records.proofs.InBytes.{parted}
use Rattle.listings.specs.Listing.{check_out}
use Rattle.listings.specs.Model.{by_small, root_slots, stands_at, listed}
use Rattle.listings.proofs.Places.{stride, listing_length}
use Rattle.listings.proofs.Listed.{roots_filtered, listed_length}

-- ---- the listing of the first ends, at the start of the output

-- what `put` gives of the output: c among any n communities whose listing stands at its start
abbrev pub Inserts : List ℕ → List ℕ → ℕ → Community → Type 0
Inserts out next n c =
    (C : List Community) (x rest : List ℕ) → out ≡ listing_bytes C ++ x ++ rest → length C ≡ n → length x ≡ stride
    → ((d : Community) → d ∈ C → d.small < 2 ^ width) → next ≡ listing_bytes (insert_by by_small c C) ++ rest

module _ (ms us R : List ℕ) where
  -- what stands at the first n of the ends R
  abbrev pub first_ends : ℕ → List Community
  first_ends n = insert_all by_small [] (map (stands_at ms us) (take n R))

  first_more : (n : ℕ) → n < length R → first_ends (n + 1) ≡ insert_by by_small (stands_at ms us (get_or R n 0)) (first_ends n)
  first_more n h =
      ap (λ (j : ℕ). first_ends j) (add-one n)
      ∙ ap (λ (l : List ℕ). insert_all by_small [] (map (stands_at ms us) l)) (take-suc R n 0 h)
      ∙ ap (insert_all by_small []) (map_append (stands_at ms us) (take n R) (get_or R n 0 ∷ []))
      ∙ insert_all_more by_small [] (map (stands_at ms us) (take n R)) (stands_at ms us (get_or R n 0))

  first_length : (n : ℕ) → n ≤ length R → length (first_ends n) ≡ n
  first_length n h =
      insert_all_length by_small [] (map (stands_at ms us) (take n R))
      ∙ (let e = length-map (take n R) (stands_at ms us) in let l = length-take-le n R h in omega arith)

  -- out holds their listing, and behind it what stood there before
  pub record Filled (before : List ℕ) (n : ℕ) (out : List ℕ) : Type 0 where
    pub few : n ≤ length R
    pub bytes : out ≡ listing_bytes (first_ends n) ++ drop (n * stride) before
    pub fits : (c : Community) → c ∈ first_ends n → c.small < 2 ^ width
    pub long : length out ≡ length before

  module _ (before : List ℕ) where
    pub filled_none : Filled before 0 before
    unfolding listing_bytes insert_all
    filled_none = record { few = omega arith; bytes = refl; fits = λ c m. absurd (Memᴰ.not-nil m); long = refl }

    module _ (n : ℕ) (out : List ℕ) (f : Filled before n out) (h : n < length R) where
      pub filled_room : length R * stride ≤ length before → n * stride + stride ≤ length out
      filled_room l = omega (arith, f.long)

      pub filled_more : (i s w m : ℕ) (next : List ℕ) → i ≡ get_or R n 0 → s ≡ row ms i → w ≡ row us i → s < 2 ^ width → n * stride + stride ≤ length out
          → Inserts out next n (shown s w) → length next ≡ length out → m ≡ n + 1 → Filled before m next
      unfolding stands_at
      filled_more i s w m next e p q small room put kept g = record {
        few = omega (arith, g);
        bytes = put old (take stride rest) (drop stride rest) (parted out (listing_bytes old) rest stride f.bytes) (first_length n f.few) (length-take-le stride rest enough) f.fits
            ∙ ap₂ (λ (C : List Community) (l : List ℕ). listing_bytes C ++ l) (sym more)
            (drop-drop stride (n * stride) before ∙ ap (λ (j : ℕ). drop j before) (let z : n * stride + stride ≡ m * stride = omega (arith, g) in z));
        fits = λ c i. inside c (insert_of by_small (shown s w) old (subst (λ (C : List Community). c ∈ C) more i));
        long = kept ∙ f.long;
      }
        where
          old : List Community
          old = first_ends n

          rest : List ℕ
          rest = drop (n * stride) before

          enough : stride ≤ length rest
          enough = omega (arith, length-drop (n * stride) before, f.long)

          more : first_ends m ≡ insert_by by_small (shown s w) old
          more =
              ap first_ends g ∙ first_more n h ∙ ap (λ (j : ℕ). insert_by by_small (stands_at ms us j) old) (sym e)
              ∙ ap₂ (λ (a b : ℕ). insert_by by_small (shown a b) old) (sym p) (sym q)

          inside : (c : Community) → (c ≡ shown s w) ⊎ c ∈ old → c.small < 2 ^ width
          inside c (inl d) = subst (λ (x : Community). x.small < 2 ^ width) (sym d) small
          inside c (inr i) = f.fits c i

-- a turn of a loop over an iterator that gives a known list, and its end: the laws of the library with what is known of the calls in front
module _ {S A B : Type 0} {steps : S → Option A → S → Type 0} {v : A → B} {s : S} {all : List B} (xs : List A) (t : S) (y : Yields steps s xs t)
    (r : Option A) (u : S) (n : steps t r u) where
  pub given_turn : (x : A) → r ≡ Some x → YieldsList steps v s all → (length xs < length all) × (v x ≡ get_or all (length xs) (v x))
  given_turn x e road = YieldsList-turn road xs t y r u x e n

  pub given_end : r ≡ None → YieldsList steps v s all → length xs ≡ length all
  given_end e road = (YieldsList-end road xs t y r u e n).1

-- the pair that comes after k pairs of an end and its number among the ends
pub ends_turn : (es : List ℕ) (used k n i : ℕ)
    → (k < length (enumerate_from 0 (filter (λ j. eqb (root_of es j) j) (range_with_len 0 used))))
    × ((n, i) ≡ get_or (enumerate_from 0 (filter (λ j. eqb (root_of es j) j) (range_with_len 0 used))) k (n, i))
    → (k < length (root_slots es used)) × (n ≡ k) × (i ≡ get_or (root_slots es used) k 0)
ends_turn es used k n i t =
    let F = filter (λ j. eqb (root_of es j) j) (range_with_len 0 used) in
    let r : F ≡ root_slots es used = roots_filtered es used in
    let l : k < length F = omega (arith, t.0, length-enumerate_from 0 F) in
    let e : (n, i) ≡ (0 + k, get_or F k i) = t.1 ∙ get_or-enumerate_from 0 F k (n, i) l in (
      omega (arith, l, ap length r),
      (let z : n ≡ 0 + k = ap (λ (p : ℕ × ℕ). p.0) e in omega (arith, z)),
      ap (λ (p : ℕ × ℕ). p.1) e ∙ get_d_in F k i 0 l ∙ ap (λ (X : List ℕ). get_or X k 0) r,
    )

-- all of them
pub ends_end : (es : List ℕ) (used k : ℕ) → k ≡ length (enumerate_from 0 (filter (λ j. eqb (root_of es j) j) (range_with_len 0 used)))
    → k ≡ length (root_slots es used)
ends_end es used k e = e ∙ length-enumerate_from 0 (filter (λ j. eqb (root_of es j) j) (range_with_len 0 used)) ∙ ap length (roots_filtered es used)

pub filled_end : (es ms us before : List ℕ) (used n : ℕ) (out : List ℕ) → Filled ms us (root_slots es used) before n out → n ≡ length (root_slots es used)
    → out ≡ written accepted (listing_bytes (listed es ms us used)) before
unfolding listed
filled_end es ms us before used n out f e =
    f.bytes
    ∙ ap₂ (λ (C : List Community) (j : ℕ). listing_bytes C ++ drop j before) all size
    ∙ sym (written_accepted accepted (listing_bytes (listed es ms us used)) before refl)
  where
    all : first_ends ms us (root_slots es used) n ≡ listed es ms us used
    all = ap (λ (l : List ℕ). insert_all by_small [] (map (stands_at ms us) l)) (take_all n (root_slots es used) (omega (arith, e)))

    size : n * stride ≡ length (listing_bytes (listed es ms us used))
    size = omega (arith, listing_length (listed es ms us used), listed_length es ms us used, e)

-- ---- room for the listing of n communities of b bytes each

module _ (C : List Community) (n b len : ℕ) (count : n ≡ length C) (size : b ≡ stride) where
  whole : length (listing_bytes C) ≡ n * stride
  whole = listing_length C ∙ ap (λ (j : ℕ). j * stride) (sym count)

  fitting : len / b ≡ len / stride
  fitting = ap (λ (j : ℕ). len / j) size

  pub room_test : unless (leb n (len / b)) 16 0 ≡ check_out (listing_bytes C) len
  unfolding check_out
  room_test = ap (λ (t : Bool). unless t 16 0) (iff (leb n (len / b)) (leb (length (listing_bytes C)) len) to fro)
    where
      to : leb n (len / b) ≡ true → leb (length (listing_bytes C)) len ≡ true
      to e = le-leb (length (listing_bytes C)) len (omega (arith, whole, fitting, leb-true n (len / b) e))

      fro : leb (length (listing_bytes C)) len ≡ true → leb n (len / b) ≡ true
      fro e = le-leb n (len / b) (omega (arith, whole, fitting, leb-true (length (listing_bytes C)) len e))

  pub room_enough : unless (leb n (len / b)) 16 0 ≡ accepted → length (listing_bytes C) ≤ len
  room_enough e = omega (arith, whole, fitting, leb-true n (len / b) (unless_passed (leb n (len / b)) 16 0 e))
