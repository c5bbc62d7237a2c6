-- The slots of the lines that start: no two lines have one, each line's number is its place, and each class that starts a line has one. Assumes nothing.
use mathlib.Core.Path.{◌≡◌, refl, sym, ap, ◌∙◌, subst, subst⁻¹}
use mathlib.Core.Bool.{Bool, true, cond}
use mathlib.Core.List.Memᴰ
use mathlib.Core.List.{List, [], ◌∷◌, map}
use Prim.Native.Nat.{ℕ, zero, suc, ◌+◌, ◌<◌}
use native.Mathlib.Omega.{arith}
use lib.ListN.{length, get_or}
use borrow.Author.Tests.{eq-eqb, ne_eqb}
use Rattle.sets.specs.Lists.{◌∈◌, keep, insert_all}
use Rattle.sets.proofs.ListLaws.{Distinct, keep_distinct, get_d_member, member_index, map_at, map_distinct}
use Rattle.sets.proofs.Insertion.{insert_all_distinct, insert_all_from}
use Rattle.slots.specs.Tables.{Tables, root_of}
use Rattle.listings.specs.Model.{root_slots}
use Rattle.listings.proofs.Listed.{roots_of, roots_distinct}
use Rattle.tree_theory.specs.Model.{Rooted, Begun, starts_line, begun_at, by_begun, begun_lines, line_number}
use Rattle.tree_theory.proofs.RootsNumbers.{begun_of, begun_at_lem}

-- ---- no two lines have one slot

abbrev pub slots_in : List Begun → List ℕ
slots_in B = map (λ b. b.slot) B

-- where f gives at each slot a line of that slot
slots_distinct : (f : ℕ → Begun) → ((i : ℕ) → (f i).slot ≡ i) → (l : List ℕ) → Distinct l → Distinct (slots_in (insert_all by_begun [] (map f l)))
unfolding Distinct
slots_distinct f own l d =
    map_distinct (λ (b : Begun). b.slot) (insert_all by_begun [] (map f l))
    (insert_all_distinct by_begun [] (map f l) tt (map_distinct f l d (λ i j a b e. sym (own i) ∙ ap (λ (b : Begun). b.slot) e ∙ own j))
    (λ z i j. Memᴰ.not-nil j)) one
  where
    of : (b : Begun) → b ∈ insert_all by_begun [] (map f l) → f b.slot ≡ b
    of b m = let q = Memᴰ.of_map f l (insert_all_from by_begun (map f l) m) in ap f (sym (ap (λ (b : Begun). b.slot) q.2) ∙ own q.0) ∙ q.2

    one : (x y : Begun) → x ∈ insert_all by_begun [] (map f l) → y ∈ insert_all by_begun [] (map f l) → x.slot ≡ y.slot → x ≡ y
    one x y m n e = sym (of x m) ∙ ap f e ∙ of y n

module _ (w : ℕ) (U : Tables) (A : List Rooted) where
  abbrev B : List Begun
  B = begun_lines w U A

  pub begun_distinct : Distinct (slots_in (begun_lines w U A))
  unfolding begun_lines begun_at
  begun_distinct =
      slots_distinct (begun_at w U A) (λ r. refl) (keep (starts_line U.entries A) (root_slots U.entries U.used))
      (keep_distinct (starts_line U.entries A) (root_slots U.entries U.used) (roots_distinct U.entries U.used))

  -- slot j of theirs
  pub begun_slot : (j : ℕ) → j < length (slots_in (begun_lines w U A))
      → (get_or (slots_in (begun_lines w U A)) j 0 < U.used)
      × (root_of U.entries (get_or (slots_in (begun_lines w U A)) j 0) ≡ get_or (slots_in (begun_lines w U A)) j 0)
      × (starts_line U.entries A (get_or (slots_in (begun_lines w U A)) j 0) ≡ true)
  unfolding begun_at
  begun_slot j l =
      let r = get_or (slots_in B) j 0 in
      let q = Memᴰ.of_map (λ (x : Begun). x.slot) B (get_d_member (slots_in B) j 0 l) in
      let b = begun_of w U A q.0 q.1 in
      let e : b.0 ≡ r = ap (λ (x : Begun). x.slot) b.3 ∙ q.2 in
      let o = roots_of U.entries U.used b.1 in (
        omega (arith, e, o.0),
        subst (λ (x : ℕ). root_of U.entries x ≡ x) e o.1,
        subst (λ (x : ℕ). starts_line U.entries A x ≡ true) e b.2,
      )

  -- line j starts at its slot
  pub begun_start : (j : ℕ) (d : Begun) → j < length (begun_lines w U A)
      → get_or (begun_lines w U A) j d ≡ begun_at w U A (get_or (slots_in (begun_lines w U A)) j 0)
  unfolding begun_at
  begun_start j d l =
      let b = begun_of w U A (get_or B j d) (get_d_member B j d l) in
      sym b.3 ∙ ap (begun_at w U A) (ap (λ (x : Begun). x.slot) b.3 ∙ sym (map_at (λ (x : Begun). x.slot) B j d 0 l))

  -- a class that starts a line has one
  pub begun_place : (r : ℕ) → r ∈ root_slots U.entries U.used → starts_line U.entries A r ≡ true
      → (j : ℕ) × (j < length (slots_in (begun_lines w U A))) × (get_or (slots_in (begun_lines w U A)) j 0 ≡ r)
  unfolding begun_at
  begun_place r m t = member_index r 0 (slots_in B) (Memᴰ.map (λ (x : Begun). x.slot) (begun_at_lem w U A r m t))

-- ---- its number is its place

number_index : (n : ℕ) (B : List Begun) → Distinct (slots_in B) → (j : ℕ) → j < length (slots_in B) → line_number (get_or (slots_in B) j 0) n B ≡ suc (n + j)
unfolding line_number Distinct
number_index n [] s j l = absurd (omega arith)
number_index n (b ∷ B) s zero l =
    ap (λ (t : Bool). cond t (suc n) (line_number b.slot (suc n) B)) (eq-eqb b.slot b.slot refl) ∙ (let z : suc n ≡ suc (n + 0) = omega arith in z)
number_index n (b ∷ B) s (suc j) l =
    let r = get_or (slots_in B) j 0 in
    let other : b.slot ≡ r → ⊥ = λ e. s.0 (subst⁻¹ (λ (x : ℕ). x ∈ slots_in B) e (get_d_member (slots_in B) j 0 (omega arith))) in
    ap (λ (t : Bool). cond t (suc n) (line_number r (suc n) B)) (ne_eqb b.slot r other)
    ∙ number_index (suc n) B s.1 j (omega arith) ∙ (let z : suc (suc n + j) ≡ suc (n + suc j) = omega arith in z)

pub begun_number : (w : ℕ) (U : Tables) (A : List Rooted) (n j : ℕ) → j < length (slots_in (begun_lines w U A))
    → line_number (get_or (slots_in (begun_lines w U A)) j 0) n (begun_lines w U A) ≡ suc (n + j)
begun_number w U A n j l = number_index n (begun_lines w U A) (begun_distinct w U A) j l
