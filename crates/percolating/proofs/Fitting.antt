-- Cliques taken in one after the other: where their slots suffice the tables show them all, and where they do not the number of used slots is above the room.
-- Assumes nothing.
use mathlib.Core.Path.{◌≡◌, refl, sym, ap, ◌∙◌, subst}
use mathlib.Core.Logic.{◌⊎◌, inl, inr}
use mathlib.Core.Bool.{Bool, true, false, ◌||◌}
use mathlib.Core.List.Memᴰ
use mathlib.Core.List.{List, [], ◌∷◌, ◌++◌, append-nil}
use Prim.Native.Nat.{ℕ, suc, ◌+◌, ◌-◌, ◌≤◌, ◌<◌}
use native.Mathlib.Omega.{arith}
use lib.Dec.{leb, ltb}
use lib.ListN.{length}
use borrow.Author.Tests.{le-leb, lt-leb, lt-ltb, le-ltb}
use Rattle.sets.specs.Lists.{◌∈◌}
use Rattle.sets.specs.Sets.{size, sets_of}
use Rattle.sets.specs.Value.{width}
use Rattle.sets.proofs.Tests.{lt_or_le, not_so, or_right, cond_go, cond_stop}
use Rattle.percolation.specs.Links.{slots}
use Rattle.slots.specs.Tables.{Tables, tables, room}
use Rattle.slots.specs.Model.{took_in}
use Rattle.slots.proofs.Lengths.{same_room, took_length}
use Rattle.slots_theory.specs.Shows.{Shows}
use Rattle.slots_theory.proofs.Shown.{Family, shown_same, used_slots}
use Rattle.slots_theory.proofs.Taken.{taken_shown}
use Rattle.clique_taking.proofs.AllTaken.{slots_mono, moved, back}
use Rattle.percolating.specs.Model.{lacking, has_room, overfull, took_fitting, took_each}
use Rattle.percolating.proofs.Lacking.{slots_one}

-- ---- one clique

-- neither sure nor so
neither : (a b : Bool) → a ≡ false → b ≡ false → a || b ≡ false
neither a b e f = ap (λ (x : Bool). x || b) e ∙ f

module _ (sure : Bool) (T : Tables) (Q : ℕ) where
  pub fitting_over : room T.entries < T.used → took_fitting sure T Q ≡ T
  unfolding took_fitting
  fitting_over h = sym (cond_go (ltb (room T.entries) T.used) _ _ (lt-ltb (room T.entries) T.used h) refl)

  pub fitting_in : T.used ≤ room T.entries → length (lacking T.sets T.used Q) ≤ room T.entries - T.used
      → took_fitting sure T Q ≡ took_in T Q
  unfolding took_fitting
  fitting_in h l =
      sym (cond_stop (ltb (room T.entries) T.used) _ _ (le-ltb (room T.entries) T.used h)
      (cond_go (sure || leb (length (lacking T.sets T.used Q)) (room T.entries - T.used)) _ _ (or_right sure _ (le-leb _ _ l)) refl))

  pub fitting_none : T.used ≤ room T.entries → room T.entries - T.used < length (lacking T.sets T.used Q) → sure ≡ false
      → took_fitting sure T Q ≡ overfull T
  unfolding took_fitting
  fitting_none h l open-it =
      sym (cond_stop (ltb (room T.entries) T.used) _ _ (le-ltb (room T.entries) T.used h)
      (cond_stop (sure || leb (length (lacking T.sets T.used Q)) (room T.entries - T.used)) _ _ (neither sure _ open-it (lt-leb _ _ l)) refl))

-- ---- several

pub each_over : (sure : Bool) (T : Tables) (F : List ℕ) → room T.entries < T.used → took_each sure T F ≡ T
unfolding took_each
each_over sure T [] h = refl
each_over sure T (Q ∷ F) h = ap (λ (X : Tables). took_each sure X F) (fitting_over sure T Q h) ∙ each_over sure T F h

each_next : (sure : Bool) (T : Tables) (Q : ℕ) (F : List ℕ) (U : Tables) → took_fitting sure T Q ≡ U → took_each sure T (Q ∷ F) ≡ took_each sure U F
unfolding took_each
each_next sure T Q F U e = ap (λ (X : Tables). took_each sure X F) e

-- overfull tables have more slots in use than there may be
over_used : (T : Tables) → (overfull T).used ≡ suc (room T.entries)
unfolding overfull
over_used T = refl

over_room : (T : Tables) → room (overfull T).entries < (overfull T).used
unfolding overfull
over_room T = omega arith

grown_sets : (p k Q : ℕ) (F G : List ℕ) → Family p k (Q ∷ F) → Family p k G → (x : ℕ) → (x ≡ Q) ⊎ x ∈ G → (size x ≡ k) × x ∈ sets_of p
grown_sets p k Q F G f g x (inl e) = f x (Memᴰ.head e)
grown_sets p k Q F G f g x (inr i) = g x i

module _ (p k : ℕ) (wide : p ≤ width) (two : 2 ≤ k) (sure : Bool) where
  -- that there are slots enough, where it is sure
  abbrev pub Plenty : List ℕ → Tables → Type 0
  Plenty F T = sure ≡ true → slots p k F ≤ room T.entries

  -- what is to be shown of the tables once F is taken into those that show G
  abbrev Fitting : List ℕ → List ℕ → Tables → Tables → Type 0
  Fitting F G T U =
      (slots p k (F ++ G) ≤ room T.entries → Shows p k (F ++ G) U) × (room T.entries < slots p k (F ++ G) → room T.entries < U.used)

  step : (Q : ℕ) (F G : List ℕ) (T : Tables) → Family p k (Q ∷ F) → Family p k G → Shows p k G T → Plenty ((Q ∷ F) ++ G) T
      → (Shows p k (Q ∷ G) (took_in T Q) → Plenty (F ++ (Q ∷ G)) (took_in T Q) → Fitting F (Q ∷ G) (took_in T Q) (took_each sure (took_in T Q) F))
      → Fitting (Q ∷ F) G T (took_each sure T (Q ∷ F))
  step Q F G T f g h plenty rest = go (lt_or_le (room T.entries) (slots p k (Q ∷ G)))
    where
      own : (size Q ≡ k) × Q ∈ sets_of p
      own = f Q (Memᴰ.head refl)

      one : slots p k (Q ∷ G) ≡ T.used + length (lacking T.sets T.used Q)
      one = slots_one p k wide Q G T own.0 own.1 g h

      more : slots p k (Q ∷ G) ≤ slots p k ((Q ∷ F) ++ G)
      more = slots_mono p k (Q ∷ G) ((Q ∷ F) ++ G) (λ x m. moved Q F G x (Memᴰ.append_right F m))

      same : room (took_in T Q).entries ≡ room T.entries
      same = same_room T.entries (took_in T Q).entries (took_length T Q).entries

      fewer : slots p k (F ++ (Q ∷ G)) ≤ slots p k ((Q ∷ F) ++ G)
      fewer = slots_mono p k (F ++ (Q ∷ G)) ((Q ∷ F) ++ G) (moved Q F G)

      go : (room T.entries < slots p k (Q ∷ G)) ⊎ (slots p k (Q ∷ G) ≤ room T.entries) → Fitting (Q ∷ F) G T (took_each sure T (Q ∷ F))
      go (inl l) =
          let full = fitting_none sure T Q h.fits (omega (arith, one, h.fits)) (not_so sure (λ e. omega (arith, plenty e, more))) in
          let e = each_next sure T Q F (overfull T) full ∙ each_over sure (overfull T) F (over_room T) in (
            (λ m. absurd (omega (arith, more))),
            (λ m. omega (arith, ap (λ (X : Tables). X.used) e, over_used T)),
          )
      go (inr l) =
          let in_it = fitting_in sure T Q h.fits (omega (arith, one)) in
          let e = each_next sure T Q F (took_in T Q) in_it in
          let r = rest (taken_shown p k Q G T wide two own.0 own.1 g h l) (λ y. omega (arith, plenty y, same, fewer)) in (
            (λ m.
                subst (Shows p k ((Q ∷ F) ++ G)) (sym e)
                (shown_same p k (F ++ (Q ∷ G)) ((Q ∷ F) ++ G) (took_each sure (took_in T Q) F) (moved Q F G) (back Q F G)
                (r.0 (omega (arith, same, fewer))))),
            (λ m.
                omega
                (arith, ap (λ (X : Tables). X.used) e, r.1 (omega (arith, same, slots_mono p k ((Q ∷ F) ++ G) (F ++ (Q ∷ G)) (back Q F G))), same)),
          )

  pub each_fitting : (F G : List ℕ) (T : Tables) → Family p k F → Family p k G → Shows p k G T → Plenty (F ++ G) T → Fitting F G T (took_each sure T F)
  unfolding took_each
  each_fitting [] G T f g h plenty = ((λ l. h), (λ l. absurd (omega (arith, h.fits, used_slots p k G T h))))
  each_fitting (Q ∷ F) G T f g h plenty =
      step Q F G T f g h plenty
      (λ shows more. each_fitting F (Q ∷ G) (took_in T Q) (λ x m. f x (Memᴰ.tail m)) (λ x m. grown_sets p k Q F G f g x (Memᴰ.cases_cons m))
      shows more)

  -- from tables that show no clique
  abbrev FittingAll : List ℕ → List ℕ → Tables → Type 0
  FittingAll X F T =
      (slots p k X ≤ room T.entries → Shows p k X (took_each sure T F)) × (room T.entries < slots p k X → room T.entries < (took_each sure T F).used)

  pub all_fitting : (F : List ℕ) (T : Tables) → Family p k F → Shows p k [] T → Plenty F T
      → (slots p k F ≤ room T.entries → Shows p k F (took_each sure T F)) × (room T.entries < slots p k F → room T.entries < (took_each sure T F).used)
  all_fitting F T f h plenty =
      subst (λ (X : List ℕ). FittingAll X F T) (append-nil F)
      (each_fitting F [] T f (λ x m. absurd (Memᴰ.not-nil m)) h (subst (λ (X : List ℕ). Plenty X T) (sym (append-nil F)) plenty))

-- ---- one clique as the code takes it in

module _ (sure : Bool) (T : Tables) (Q : ℕ) (h : T.used ≤ room T.entries) where
  pub took_full : sure || has_room T Q ≡ false → tables T.sets T.entries T.smallest T.unions (room T.entries + 1) ≡ took_fitting sure T Q
  unfolding took_fitting overfull
  took_full e =
      ap (tables T.sets T.entries T.smallest T.unions) (let n : room T.entries + 1 ≡ suc (room T.entries) = omega arith in n)
      ∙ cond_stop (ltb (room T.entries) T.used) _ _ (le-ltb (room T.entries) T.used h) (cond_stop (sure || has_room T Q) _ _ e refl)

  pub took_fits : sure || has_room T Q ≡ true → took_in T Q ≡ took_fitting sure T Q
  unfolding took_fitting
  took_fits e = cond_stop (ltb (room T.entries) T.used) _ _ (le-ltb (room T.entries) T.used h) (cond_go (sure || has_room T Q) _ _ e refl)
