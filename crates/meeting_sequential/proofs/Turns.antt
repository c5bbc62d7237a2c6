-- A meeting by the sequential run, link by link: two slots end at the same one exactly from the link on at which their cliques are joined, so that the
-- link is the one whose weight they meet at. Assumes nothing.
use mathlib.Core.Path.{◌≡◌, refl, sym, ap, ◌∙◌, subst, subst⁻¹}
use mathlib.Core.Logic.{◌⊎◌, inl, inr, ◌↔◌}
use mathlib.Core.Bool.{Bool, true, false}
use mathlib.Core.List.Memᴰ
use mathlib.Core.List.{List}
use Prim.Native.Nat.{ℕ, suc, ◌+◌, ◌-◌, ◌≤◌, ◌<◌}
use native.Mathlib.Omega.{arith}
use lib.Dec.{eqb}
use borrow.Author.Tests.{eq-eqb, eqb-true}
use lib.ListN.{take, drop, drop_of_length-le}
use lib.Seq.{drop-cons, take_all}
use Rattle.answers.specs.Verdict.{accepted}
use Rattle.sets.specs.Lists.{◌∈◌}
use Rattle.sets.specs.Sets.{out, sub, lowest}
use Rattle.sets.specs.Value.{width, row}
use Rattle.sets.proofs.Tests.{never, not_so, lt_or_le}
use Rattle.percolation.specs.Percolate.{joined}
use Rattle.percolation.specs.Links.{Link, link, inside, cliques}
use Rattle.percolation.specs.Levels.{met, never as never_met}
use Rattle.percolation.specs.Steps.{legal}
use Rattle.percolation.proofs.Families.{cliques_of}
use Rattle.checks.specs.Neighbours.{Neighbours}
use Rattle.slots.specs.Tables.{Tables, root_of}
use Rattle.slots_theory.specs.Shows.{Shows}
use Rattle.slots.specs.Model.{find}
use Rattle.slots.proofs.Lengths.{Kept, same_room}
use Rattle.slots_theory.proofs.Communal.{slot_joined, member_found}
use Rattle.clique_taking.proofs.Inserted.{cliques_family}
use Rattle.clique_taking.proofs.AllTaken.{slots_mono}
use Rattle.sheet.specs.Sheet.{parts, links, link_of, links_of, check_sheet}
use Rattle.sheet.proofs.Sound.{sheet_legal}
use Rattle.runs.specs.Model.{rows_with, took_links}
use Rattle.runs.proofs.InSheet.{parts_width, links_length, link_at_lem}
use Rattle.slots_theory.proofs.Free.{Stays}
use Rattle.runs.proofs.FreeLinks.{links_stays}
use Rattle.runs.proofs.Ran.{links_kept, further_near, further_shown}
use Rattle.meeting.specs.Answers.{meeting_of}
use Rattle.meeting_sequential.specs.Model.{Complete, Taken}
use Rattle.meeting.proofs.Prefixes.{link_at, held_cliques, prefix_held, prefix_all, first_met, never_met as apart_never}

-- ---- how many first links make a set complete: the links from the last on, one by one

-- no link from j on is inside x
abbrev pub Later : List ℕ → ℕ → ℕ → Type 0
Later s x j = (l : Link) → l ∈ drop j (links_of s) → inside x l ≡ false

module _ (s : List ℕ) (x : ℕ) where
  pub later_none : (j : ℕ) → j ≡ links s → Later s x j
  later_none j e l m =
      absurd (Memᴰ.not-nil (subst (λ (N : List Link). l ∈ N) (drop_of_length-le (links_of s) {i = j} (omega (arith, e, links_length s))) m))

  -- link i, as the code reads it, and what the code says of its ends
  module _ (i : ℕ) (h : i < links s) (r : Link) (e : r ≡ link_of s i) (t : Bool) (both : t ≡ inside x r) where
    inside_is : inside x (link_at (links_of s) i) ≡ t
    inside_is =
        ap (inside x) (link_at_lem s i (link 0 0 0) h ∙ sym e) ∙ sym both

    pub later_more : t ≡ false → (j : ℕ) → j ≡ suc i → Later s x j → Later s x i
    later_more f j g rest l m =
        go (Memᴰ.cases_cons (subst (λ (N : List Link). l ∈ N) (drop-cons (links_of s) i (link 0 0 0) (omega (arith, h, links_length s))) m))
      where
        go : (l ≡ link_at (links_of s) i) ⊎ l ∈ drop (suc i) (links_of s) → inside x l ≡ false
        go (inl d) = ap (inside x) d ∙ inside_is ∙ f
        go (inr n) = rest l (subst (λ (z : ℕ). l ∈ drop z (links_of s)) (sym g) n)

    pub complete_here : t ≡ true → (j z : ℕ) → j ≡ suc i → z ≡ suc i → Later s x j → Complete (links_of s) x z
    complete_here f j z g e rest = record {
      within = omega (arith, h, links_length s);
      last = λ w d. let y : w ≡ i = omega arith in ap (λ (v : ℕ). inside x (link_at (links_of s) v)) y ∙ inside_is ∙ f;
      later = λ l m. rest l (subst (λ (v : ℕ). l ∈ drop v (links_of s)) (e ∙ sym g) m);
    }

-- ---- the loop: slots of both, one link more until they end at the same one

-- slot i is used, and its set lies in x
abbrev pub InSlot : Tables → ℕ → ℕ → Type 0
InSlot T i x = (i < T.used) × (sub (row T.sets i) x ≡ true)

pub record Turn (s : List ℕ) (k a b n : ℕ) (R : List ℕ) (T : Tables) (i j : ℕ) : Type 0 where
  pub taken : Taken s k a b n R T
  pub slot : InSlot T i a
  pub other : InSlot T j b

module _ (s : List ℕ) (ok : check_sheet s ≡ accepted) (k : ℕ) (two : 2 ≤ k) where
  abbrev p : ℕ
  p = parts s

  abbrev L : List Link
  L = links_of s

  legals : legal p L ≡ true
  legals = sheet_legal s ok

  wide : p ≤ width
  wide = parts_width s ok

  abbrev F : ℕ → List ℕ
  F n = cliques (take n (links_of s)) (parts s) k

  pub turn_begin : (a b n : ℕ) (R : List ℕ) (T : Tables) → Taken s k a b n R T → (i j : ℕ) → i ≡ find T.sets T.used (out (lowest a) a)
      → j ≡ find T.sets T.used (out (lowest b) b) → Turn s k a b n R T i j
  turn_begin a b n R T t i j e f = record {
    taken = t;
    slot = member_found p k (F n) T t.shows (omega (arith, two)) (cliques_family (take n L) p k) a t.first i e;
    other = member_found p k (F n) T t.shows (omega (arith, two)) (cliques_family (take n L) p k) b t.second j f;
  }

  -- slots of both are found
  pub both_found : (a b n : ℕ) (R : List ℕ) (T : Tables) → Taken s k a b n R T
      → (find T.sets T.used (out (lowest a) a) < T.used) × (find T.sets T.used (out (lowest b) b) < T.used)
  both_found a b n R T t =
      let g = turn_begin a b n R T t (find T.sets T.used (out (lowest a) a)) (find T.sets T.used (out (lowest b) b)) refl refl in (g.slot.0, g.other.0)

  module _ (a b n : ℕ) (R : List ℕ) (T : Tables) (i j : ℕ) (t : Turn s k a b n R T i j) where
    decides : (root_of T.entries i ≡ root_of T.entries j) ↔ (joined k (F n) a b ≡ true)
    decides =
        slot_joined p k (F n) T t.taken.shows (λ x m. (cliques_of (take n L) p k m).sized) a b i j t.taken.first t.taken.second t.slot.0 t.other.0
        t.slot.1 t.other.1

    -- whether both end at the same one, as the code says
    module _ (q : Bool) (test : q ≡ eqb (root_of T.entries i) (root_of T.entries j)) where
      pub turn_met : q ≡ true → (r : Link) (z : ℕ) → z ≡ n - 1 → r ≡ link_of s z → met r.weight ≡ meeting_of s k a b
      unfolding meeting_of
      turn_met e r z d f =
          let g : z < links s = omega (arith, t.taken.some, t.taken.within) in
          ap (λ (l : Link). met l.weight) (f ∙ sym (link_at_lem s z (link 0 0 0) g) ∙ ap (link_at L) d)
          ∙ sym (first_met L p k two legals a b n t.taken.some (omega (arith, t.taken.within, links_length s))
          (decides.0 (eqb-true (root_of T.entries i) (root_of T.entries j) (sym test ∙ e)))
          (t.taken.apart (n - 1) (omega (arith, t.taken.some))))

      not_yet : q ≡ false → joined k (F n) a b ≡ false
      not_yet f =
          not_so (joined k (F n) a b) (λ e. never (eqb (root_of T.entries i) (root_of T.entries j))
          (eq-eqb (root_of T.entries i) (root_of T.entries j) (decides.1 e)) (sym test ∙ f))

      pub turn_never : q ≡ false → n ≡ links s → never_met ≡ meeting_of s k a b
      unfolding meeting_of
      turn_never f e =
          sym (apart_never L p k two legals a b
          (subst (λ (M : List Link). joined k (cliques M p k) a b ≡ false) (take_all n L (omega (arith, e, links_length s))) (not_yet f)))

      module _ (f : q ≡ false) (l : n < links s) (Q : List ℕ) (U : Tables) (rows : Q ≡ rows_with R (drop n (take (n + 1) (links_of s))))
          (tabs : U ≡ took_links k R T (drop n (take (n + 1) (links_of s)))) where
        kept : Kept T U
        kept = subst⁻¹ (Kept T) tabs (links_kept k R T (drop n (take (n + 1) L)))

        stays : Stays T U
        stays = subst⁻¹ (Stays T) tabs (links_stays k R T (drop n (take (n + 1) L)) t.taken.shows.fits)

        more : Taken s k a b (n + 1) Q U
        more = record {
          some = omega arith;
          within = omega arith;
          near = subst⁻¹ (Neighbours (take (n + 1) L)) rows (further_near p L n (n + 1) wide legals (omega arith) R t.taken.near);
          shows = subst⁻¹ (Shows p k (F (n + 1))) tabs
              (further_shown p L n (n + 1) wide legals (omega arith) R t.taken.near k T two t.taken.shows
              (omega (arith, slots_mono p k (F (n + 1)) (cliques L p k) (held_cliques (take (n + 1) L) L p k (prefix_all L (n + 1))), t.taken.fits)));
          fits = omega (arith, same_room T.entries U.entries kept.entries, t.taken.fits);
          first = held_cliques (take n L) (take (n + 1) L) p k (prefix_held L n (n + 1) (omega arith)) a t.taken.first;
          second = held_cliques (take n L) (take (n + 1) L) p k (prefix_held L n (n + 1) (omega arith)) b t.taken.second;
          apart = λ m h. go m (lt_or_le m n) h;
        }
          where
            go : (m : ℕ) → (m < n) ⊎ (n ≤ m) → m < n + 1 → joined k (F m) a b ≡ false
            go m (inl g) h = t.taken.apart m g
            go m (inr g) h = let e : m ≡ n = omega arith in ap (λ (z : ℕ). joined k (F z) a b) e ∙ not_yet f

        moved : (z c : ℕ) → InSlot T z c → InSlot U z c
        moved z c h = (omega (arith, h.0, kept.more), ap (λ (w : ℕ). sub w c) (stays.sets z h.0) ∙ h.1)

        pub turn_more : Turn s k a b (n + 1) Q U i j
        turn_more = record { taken = more; slot = moved i a t.slot; other = moved j b t.other }
