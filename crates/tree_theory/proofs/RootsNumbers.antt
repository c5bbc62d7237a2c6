-- The numbers of the lines at the classes of a level, by their roots: those so far, and what a line joins. Assumes nothing.
use mathlib.Core.Path.{◌≡◌, refl, sym, ap, ◌∙◌, subst}
use mathlib.Core.Logic.{◌⊎◌, inl, inr}
use mathlib.Core.Bool.{true, false, cond}
use mathlib.Core.List.Memᴰ
use mathlib.Core.List.{List, [], ◌∷◌, map}
use Prim.Native.Nat.{ℕ, suc, ◌+◌, ◌≤◌}
use native.Mathlib.Omega.{arith}
use lib.Dec.{eqb}
use lib.ListN.{length}
use borrow.Author.Tests.{eq-eqb, eqb-true, not-false}
use Rattle.sets.specs.Lists.{◌∈◌, keep}
use Rattle.sets.proofs.Tests.{split}
use Rattle.sets.proofs.ListLaws.{keep_at, keep_of}
use Rattle.sets.proofs.Insertion.{insert_all_from, insert_all_at}
use Rattle.slots.specs.Tables.{Tables, root_of}
use Rattle.tree_theory.specs.Model.{Rooted, rooted, Begun, ending_at, starts_line, begun_at, by_begun, begun_lines, line_number, only_number, rooted_now}
use Rattle.tree_theory.proofs.RootsLevel.{roots_in}

-- numbers from 1 to n
abbrev pub Within : ℕ → List Rooted → Type 0
Within n A = (x : Rooted) → x ∈ A → (1 ≤ x.number) × (x.number ≤ n)

-- the number of a line that starts at r is one of those from n + 1 on
number_within : (r n : ℕ) (B : List Begun) {b : Begun} → b ∈ B → b.slot ≡ r → (suc n ≤ line_number r n B) × (line_number r n B ≤ n + length B)
unfolding line_number
number_within r n [] m e = absurd (Memᴰ.not-nil m)
number_within r n (c ∷ B) {b} m e = go (split (eqb c.slot r)) (Memᴰ.cases_cons m) (λ i. number_within r (suc n) B i e)
  where
    go : (eqb c.slot r ≡ true) ⊎ (eqb c.slot r ≡ false) → (b ≡ c) ⊎ b ∈ B
        → (b ∈ B → (suc (suc n) ≤ line_number r (suc n) B) × (line_number r (suc n) B ≤ suc n + length B))
        → (suc n ≤ cond (eqb c.slot r) (suc n) (line_number r (suc n) B)) × (cond (eqb c.slot r) (suc n) (line_number r (suc n) B) ≤ n + suc (length B))
    go (inl t) i rest = rw t (omega arith, omega arith)
    go (inr t) (inl d) rest =
        let u : eqb c.slot r ≡ true = eq-eqb c.slot r (ap (λ (x : Begun). x.slot) (sym d) ∙ e) in
        let z : ◌≡◌ {A = ℕ} 0 1 = cc in absurd (omega arith)
    go (inr t) (inr i) rest = let h = rest i in rw t (omega arith, omega arith)

module _ (w : ℕ) (T : Tables) (A : List Rooted) where
  abbrev start_at : ℕ → Begun
  start_at r = begun_at w T A r

  pub begun_of : (b : Begun) → b ∈ begun_lines w T A → (r : ℕ) × r ∈ roots_in T × (starts_line T.entries A r ≡ true) × (begun_at w T A r ≡ b)
  unfolding begun_lines
  begun_of b m =
      let q = Memᴰ.of_map start_at (keep (starts_line T.entries A) (roots_in T))
      (insert_all_from by_begun (map start_at (keep (starts_line T.entries A) (roots_in T))) m) in
      let h = keep_of (starts_line T.entries A) (roots_in T) q.1 in
      (q.0, h.0, h.1, q.2)

  pub begun_at_lem : (r : ℕ) → r ∈ roots_in T → starts_line T.entries A r ≡ true → begun_at w T A r ∈ begun_lines w T A
  unfolding begun_lines
  begun_at_lem r m t =
      insert_all_at by_begun [] (map start_at (keep (starts_line T.entries A) (roots_in T)))
      (inr (Memᴰ.map start_at (keep_at (starts_line T.entries A) (roots_in T) m t)))

  -- what a line joins are numbers of A
  pub joins_from : (b : Begun) → b ∈ begun_lines w T A → (i : ℕ) → i ∈ b.start.joins → (x : Rooted) × x ∈ A × (x.number ≡ i)
  unfolding begun_at ending_at
  joins_from b m i j =
      let r = begun_of b m in
      let q = Memᴰ.of_map (λ (x : Rooted). x.number) (ending_at T.entries A r.0) (subst (λ (c : Begun). i ∈ c.start.joins) (sym r.3) j) in
      (q.0, (keep_of (λ x. eqb (root_of T.entries x.slot) r.0) A q.1).0, q.2)

  -- a class that starts none goes on with one of A
  only_from : (r : ℕ) → starts_line T.entries A r ≡ false → (x : Rooted) × x ∈ A × (x.number ≡ only_number (ending_at T.entries A r))
  unfolding starts_line ending_at only_number
  only_from r t = go (ending_at T.entries A r) (λ x i. (keep_of (λ y. eqb (root_of T.entries y.slot) r) A i).0)
      (eqb-true (length (ending_at T.entries A r)) 1 (not-false (eqb (length (ending_at T.entries A r)) 1) t))
    where
      go : (E : List Rooted) → ((x : Rooted) → x ∈ E → x ∈ A) → length E ≡ 1 → (x : Rooted) × x ∈ A × (x.number ≡ only_number E)
      go [] f e = absurd (omega arith)
      go (x ∷ E) f e = (x, f x (Memᴰ.head refl), refl)

  -- the numbers after a level
  pub rooted_within : (n : ℕ) → Within n A → Within (n + length (begun_lines w T A)) (rooted_now w n T A)
  unfolding rooted_now begun_at
  rooted_within n h x m = go (split (starts_line T.entries A r))
    where
      now : ℕ → ℕ
      now q = cond (starts_line T.entries A q) (line_number q n (begun_lines w T A)) (only_number (ending_at T.entries A q))

      found : (r : ℕ) × r ∈ roots_in T × (rooted r (now r) ≡ x)
      found = Memᴰ.of_map (λ q. rooted q (now q)) (roots_in T) m

      r : ℕ
      r = found.0

      is : x.number ≡ now r
      is = ap (λ (y : Rooted). y.number) (sym found.2)

      go : (starts_line T.entries A r ≡ true) ⊎ (starts_line T.entries A r ≡ false) → (1 ≤ x.number) × (x.number ≤ n + length (begun_lines w T A))
      go (inl t) =
          let e : x.number ≡ line_number r n (begun_lines w T A) = is ∙ rw t refl in
          let b = number_within r n (begun_lines w T A) (begun_at_lem r found.1 t) refl in
          (omega (arith, e, b.0), omega (arith, e, b.1))
      go (inr t) =
          let e : x.number ≡ only_number (ending_at T.entries A r) = is ∙ rw t refl in
          let o = only_from r t in
          let b = h o.0 o.1 in
          (omega (arith, e, o.2, b.0), omega (arith, e, o.2, b.1))
