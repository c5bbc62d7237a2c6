-- The levels of a sheet one after the other: room for the maximal cliques of each, and the first at which two k-cliques are joined is their meeting
-- weight. Assumes nothing.
use mathlib.Core.Path.{◌≡◌, refl, sym, ap, ◌∙◌, subst}
use mathlib.Core.Logic.{◌⊎◌, inl, inr}
use mathlib.Core.Bool.{Bool, true, false, cond}
use mathlib.Core.List.Memᴰ
use mathlib.Core.List.{List, ◌∷◌, ◌++◌, append_assoc}
use Prim.Native.Nat.{ℕ, suc, ◌≤◌, ◌<◌}
use native.Mathlib.Omega.{arith}
use lib.ListN.{length, get_or, take, drop, length-append, take-append-drop}
use lib.Seq.{take-suc, take-length, split_at, length-take-le}
use Rattle.std.specs.Prelude.{Option, Some, None, Ok, is_some}
use Rattle.answers.specs.Verdict.{accepted}
use Rattle.sets.specs.Lists.{◌∈◌, keep}
use Rattle.sets.specs.Sets.{size}
use Rattle.sets.proofs.Tests.{split, never, not_so, lt_or_le}
use Rattle.sets.proofs.ListLaws.{all_at, all_of, keep_at, keep_of, get_d_member, member_split}
use Rattle.percolation.specs.Percolate.{joined}
use Rattle.percolation.specs.Links.{Link, link, heavy, cliques, family, maximals}
use Rattle.percolation.specs.Levels.{Meeting, met, levels, joined_at, meeting}
use Rattle.percolation.specs.Levels as level
use Rattle.percolation.specs.Steps.{legal, enough}
use Rattle.percolation.proofs.Accepted.{legal_falling}
use Rattle.percolation.proofs.Levels.{levels_of, levels_at, largest_met, largest_never, heavy_of, heavy_at, heavy_all}
use Rattle.slots.specs.Tables.{room}
use Rattle.sheet.specs.Sheet.{parts, links, link_of, links_of, check_sheet}
use Rattle.sheet.proofs.Sound.{sheet_legal}
use Rattle.slots.proofs.Lengths.{enough_room, enough_short}
use Rattle.runs.proofs.InSheet.{links_length, link_at_lem}
use Rattle.runs.proofs.Falling.{AllHeavy, heavy_append, heavy_more}
use Rattle.runs.specs.OnSheet.{maximals_for}
use Rattle.meeting.specs.Answers.{meet_weight, meeting_of, MeetingRuns}
use Rattle.meeting.proofs.Calls.{meet_whole}
use Rattle.meeting_maximal.specs.Fits.{levels_fit}
use Rattle.meeting_maximal.specs.Model.{Stands, Filled}

-- ---- the links of one level after those before it

-- link n weighs w, and the first j links are those of weight w or more
module _ (p : ℕ) (L : List Link) (ok : legal p L ≡ true) (n w : ℕ) (d : Link) (h : n < length L) (e : w ≡ (get_or L n d).weight) (j : ℕ) (le : j ≤ length L)
    (first : take j L ≡ heavy w L) where
  abbrev l : Link
  l = get_or L n d

  -- the links before it weigh no less
  earlier : AllHeavy w (take n L)
  earlier x m =
      let r = member_split _ (take n L) m in
      omega (
        arith,
        e,
        legal_falling p L ok r.0 (r.1 ++ (l ∷ drop (suc n) L)) x l
            (split_at L n d h ∙ ap (λ (A : List Link). A ++ (l ∷ drop (suc n) L)) r.2 ∙ append_assoc r.0 (x ∷ r.1) (l ∷ drop (suc n) L))
            (Memᴰ.append_right r.1 (Memᴰ.head refl)),
      )

  and_it : AllHeavy w (take (suc n) L)
  and_it = rw (take-suc L n d h) (heavy_more w (take n L) l earlier (omega (arith, e)))

  past : n < j
  past =
      let q : heavy w L ≡ take (suc n) L ++ heavy w (drop (suc n) L) =
      ap (heavy w) (sym (take-append-drop (suc n) L)) ∙ heavy_append w (take (suc n) L) (drop (suc n) L)
      ∙ ap (λ (A : List Link). A ++ heavy w (drop (suc n) L)) (heavy_all w (take (suc n) L) and_it) in
      omega
      (arith, length-take-le j L le, ap length (first ∙ q), length-append (take (suc n) L) (heavy w (drop (suc n) L)), length-take-le (suc n) L h)

  -- one of the first j links is one of the first n, or weighs w
  old_or_level : (x : Link) → x ∈ take j L → x ∈ take n L ⊎ (x.weight ≡ w)
  old_or_level x m =
      let g = heavy_of w L (subst (λ (A : List Link). x ∈ A) first m) in
      go g.1 (Memᴰ.append_cases (take n L) (subst (λ (A : List Link). x ∈ A) (split_at L n d h) g.0))
    where
      last : w ≤ x.weight → (x ≡ l) ⊎ x ∈ drop (suc n) L → x.weight ≡ w
      last a (inl q) = ap (λ (z : Link). z.weight) q ∙ sym e
      last a (inr i) = omega (arith, a, e, legal_falling p L ok (take n L) (drop (suc n) L) l x (split_at L n d h) i)

      go : w ≤ x.weight → x ∈ take n L ⊎ x ∈ (l ∷ drop (suc n) L) → x ∈ take n L ⊎ (x.weight ≡ w)
      go a (inl i) = inl i
      go a (inr i) = inr (last a (Memᴰ.cases_cons i))

-- ---- the meeting weight by the levels

module _ (L : List Link) (p k a b : ℕ) where
  -- joined at the level w, and at none above it
  meets : (w : ℕ) → w ∈ levels L → joined_at L p k w a b ≡ true → ((x : ℕ) → x ∈ levels L → joined_at L p k x a b ≡ true → x ≤ w) → meeting L p k a b ≡ met w
  unfolding meeting
  meets w m t top = go (meeting L p k a b) refl
    where
      kept : w ∈ keep (λ u. joined_at L p k u a b) (levels L)
      kept = keep_at (λ u. joined_at L p k u a b) (levels L) m t

      go : (z : Meeting) → meeting L p k a b ≡ z → z ≡ met w
      go (met u) q =
          let f = largest_met (keep (λ u. joined_at L p k u a b) (levels L)) u q in
          let g = keep_of (λ u. joined_at L p k u a b) (levels L) f.0 in
          ap met (omega (arith, top u g.0 g.1, f.1 w kept))
      go level.never q = absurd (largest_never (keep (λ u. joined_at L p k u a b) (levels L)) q w kept)

  meets_never : ((x : ℕ) → x ∈ levels L → joined_at L p k x a b ≡ false) → meeting L p k a b ≡ level.never
  unfolding meeting
  meets_never none = go (meeting L p k a b) refl
    where
      go : (z : Meeting) → meeting L p k a b ≡ z → z ≡ level.never
      go (met u) q =
          let f = largest_met (keep (λ u. joined_at L p k u a b) (levels L)) u q in
          let g = keep_of (λ u. joined_at L p k u a b) (levels L) f.0 in
          never (joined_at L p k u a b) g.1 (none u g.0)
      go level.never q = refl

-- ---- what is known before link n

-- a and b are joined at no level of the first n links, or v is their meeting weight
abbrev FirstMet : List Link → ℕ → ℕ → ℕ → ℕ → ℕ → Option ℕ → Type 0
FirstMet L p k a b n None = (l : Link) → l ∈ take n L → joined_at L p k l.weight a b ≡ false
FirstMet L p k a b n (Some v) = meeting L p k a b ≡ met v

-- there is space for the maximal cliques of each level of the first n links
pub record Counted (L : List Link) (p k a b space n : ℕ) (v : Option ℕ) : Type 0 where
  pub fit : (l : Link) → l ∈ take n L → length (maximals (heavy l.weight L) p k) ≤ space
  pub meets : FirstMet L p k a b n v

pub counted_none : (L : List Link) (p k a b space n : ℕ) → n ≡ 0 → Counted L p k a b space n None
counted_none L p k a b space n e = record { fit = λ l m. absurd (nothing l m); meets = λ l m. absurd (nothing l m) }
  where
    nothing : (l : Link) → l ∈ take n L → ⊥
    nothing l m = Memᴰ.not-nil (subst (λ (i : ℕ). l ∈ take i L) e m)

-- the weight v so far, or w where the two are joined now
abbrev pub first_of : Option ℕ → Bool → ℕ → Option ℕ
first_of (Some v) t w = Some v
first_of None t w = cond t (Some w) None

module _ (v : Option ℕ) (w : ℕ) (t : Bool) where
  pub first_new : is_some v ≡ false → t ≡ true → Some w ≡ first_of v t w
  first_new e f = go v e
    where
      go : (u : Option ℕ) → is_some u ≡ false → Some w ≡ first_of u t w
      go None i = sym (ap (λ (b : Bool). cond {A = Option ℕ} b (Some w) None) f)
      go (Some x) i = cc

  pub first_kept : is_some v ≡ true → v ≡ first_of v t w
  first_kept e = go v e
    where
      go : (u : Option ℕ) → is_some u ≡ true → u ≡ first_of u t w
      go None i = cc
      go (Some x) i = refl

  pub first_not : t ≡ false → v ≡ first_of v t w
  first_not f = go v
    where
      go : (u : Option ℕ) → u ≡ first_of u t w
      go None = sym (ap (λ (b : Bool). cond {A = Option ℕ} b (Some w) None) f)
      go (Some x) = refl

-- what the code makes of the weight v so far at a level w, where the tables have the maximal cliques of the links K
abbrev pub MeetsNow : ℕ → ℕ → ℕ → ℕ → List ℕ → ℕ → Option ℕ → Option ℕ → Type 0
MeetsNow k a b f T w v r = (K : List Link) (q : ℕ) → Stands (maximals K q k) f T → 1 ≤ k → size a ≡ k → size b ≡ k
    → r ≡ first_of v (joined k (cliques K q k) a b) w

module _ (p : ℕ) (L : List Link) (ok : legal p L ≡ true) (k space n w : ℕ) (d : Link) (h : n < length L) (e : w ≡ (get_or L n d).weight) (j : ℕ)
    (le : j ≤ length L) (first : take j L ≡ heavy w L) (f : ℕ) (T : List ℕ) (taken : Filled (maximals (take j L) p k) space f T) where
  level_in : w ∈ levels L
  level_in = subst (λ (x : ℕ). x ∈ levels L) (sym e) (levels_at L (get_or L n d) (get_d_member L n d h))

  kept_in : (x : Link) → x ∈ L → w ≤ x.weight → x ∈ take j L
  kept_in x i q = subst (λ (A : List Link). x ∈ A) (sym first) (heavy_at w L i q)

  too_many : space < f → space < length (maximals (heavy w L) p k)
  too_many g = pick (lt_or_le space (length (maximals (take j L) p k)))
    where
      pick : (space < length (maximals (take j L) p k)) ⊎ (length (maximals (take j L) p k) ≤ space) → space < length (maximals (heavy w L) p k)
      pick (inl q) = subst (λ (A : List Link). space < length (maximals A p k)) first q
      pick (inr q) = absurd (omega (arith, (taken.fit q).0))

  module _ (g : f ≤ space) where
    few : length (maximals (take j L) p k) ≤ space
    few = pick (lt_or_le space (length (maximals (take j L) p k)))
      where
        pick : (space < length (maximals (take j L) p k)) ⊎ (length (maximals (take j L) p k) ≤ space) → length (maximals (take j L) p k) ≤ space
        pick (inl q) = absurd (omega (arith, taken.full q))
        pick (inr q) = q

    module _ (a b : ℕ) (one : 1 ≤ k) (sa : size a ≡ k) (sb : size b ≡ k) (v r : Option ℕ) (now : MeetsNow k a b f T w v r)
        (old : Counted L p k a b space n v) where
      said : r ≡ first_of v (joined_at L p k w a b) w
      unfolding joined_at family
      said = now (take j L) p (taken.fit few).1 one sa sb ∙ ap (λ (A : List Link). first_of v (joined k (cliques A p k) a b) w) first

      fit_next : (x : Link) → x ∈ take n L ⊎ (x.weight ≡ w) → length (maximals (heavy x.weight L) p k) ≤ space
      fit_next x (inl i) = old.fit x i
      fit_next x (inr q) =
          subst (λ (t : ℕ). length (maximals (heavy t L) p k) ≤ space) (sym q) (subst (λ (A : List Link). length (maximals A p k) ≤ space) first few)

      meets_next : (u : Option ℕ) → FirstMet L p k a b n u → FirstMet L p k a b j (first_of u (joined_at L p k w a b) w)
      meets_next (Some u) m = m
      meets_next None m = pick (split (joined_at L p k w a b))
        where
          pick : (joined_at L p k w a b ≡ true) ⊎ (joined_at L p k w a b ≡ false) → FirstMet L p k a b j (cond (joined_at L p k w a b) (Some w) None)
          pick (inl t) = rw t (meets L p k a b w level_in t top)
            where
              -- a level above w is one of the first n links
              above : (x : Link) → joined_at L p k x.weight a b ≡ true → x ∈ take n L ⊎ (x.weight ≡ w) → x.weight ≤ w
              above x u (inl i) = never (joined_at L p k x.weight a b) u (m x i)
              above x u (inr i) = omega (arith, i)

              top : (x : ℕ) → x ∈ levels L → joined_at L p k x a b ≡ true → x ≤ w
              top x i u = case (lt_or_le w x)
                where
                  case : (w < x) ⊎ (x ≤ w) → x ≤ w
                  case (inr q) = q
                  case (inl q) =
                      let y = levels_of L x i in
                      let s = ap (λ (t : ℕ). joined_at L p k t a b) (sym y.2) ∙ u in
                      omega (arith, y.2, above y.0 s (old_or_level p L ok n w d h e j le first y.0 (kept_in y.0 y.1 (omega (arith, q, y.2)))))
          pick (inr t) = rw t (λ x i. none x (old_or_level p L ok n w d h e j le first x i))
            where
              none : (x : Link) → x ∈ take n L ⊎ (x.weight ≡ w) → joined_at L p k x.weight a b ≡ false
              none x (inl i) = m x i
              none x (inr i) = ap (λ (u : ℕ). joined_at L p k u a b) i ∙ t

      counted_next : Counted L p k a b space j r
      counted_next = record {
        fit = λ x i. fit_next x (old_or_level p L ok n w d h e j le first x i);
        meets = subst (FirstMet L p k a b j) (sym said) (meets_next v old.meets);
      }

-- ---- the links of a checked sheet

-- link n of a checked sheet weighs w, and the first j links are those of weight w or more
module _ (s : List ℕ) (ok : check_sheet s ≡ accepted) (n w : ℕ) (h : n < links s) (e : w ≡ (link_of s n).weight) (j : ℕ) (le : j ≤ links s)
    (first : take j (links_of s) ≡ heavy w (links_of s)) where
  abbrev d : Link
  d = link 0 0 0

  in_list : n < length (links_of s)
  in_list = omega (arith, links_length s)

  weighs : w ≡ (get_or (links_of s) n d).weight
  weighs = e ∙ ap (λ (x : Link). x.weight) (sym (link_at_lem s n d h))

  upto : j ≤ length (links_of s)
  upto = omega (arith, links_length s)

  pub level_past : n < j
  level_past = past (parts s) (links_of s) (sheet_legal s ok) n w d in_list weighs j upto first

  -- the code's room c is that of the joining entries es
  module _ (k : ℕ) (es : List ℕ) (c : ℕ) (space : c ≡ room es) (f : ℕ) (T : List ℕ)
      (taken : Filled (maximals (take j (links_of s)) (parts s) k) c f T) where
    abbrev test : ℕ → Bool
    test t = enough (length es) (maximals_for s k t)

    pub level_short : c < f → levels_fit s k (length es) ≡ false
    unfolding levels_fit maximals_for
    level_short g =
        not_so (levels_fit s k (length es)) (λ t.
        never (test w)
        (all_of test (levels (links_of s)) t (level_in (parts s) (links_of s) (sheet_legal s ok) k c n w d in_list weighs j upto first f T taken))
        (enough_short es (maximals_for s k w)
        (omega (arith, space, too_many (parts s) (links_of s) (sheet_legal s ok) k c n w d in_list weighs j upto first f T taken g))))

    pub level_next : f ≤ c → (a b : ℕ) → 1 ≤ k → size a ≡ k → size b ≡ k → (v r : Option ℕ) → MeetsNow k a b f T w v r
        → Counted (links_of s) (parts s) k a b c n v → Counted (links_of s) (parts s) k a b c j r
    level_next g a b one sa sb v r now old =
        counted_next (parts s) (links_of s) (sheet_legal s ok) k c n w d in_list weighs j upto first f T taken g a b one sa sb v r now old

-- all levels
module _ (s : List ℕ) (k a b : ℕ) (es : List ℕ) (c : ℕ) (space : c ≡ room es) (n : ℕ) (every : n ≡ links s)
    (v : Option ℕ) (done : Counted (links_of s) (parts s) k a b c n v) where
  abbrev L : List Link
  L = links_of s

  abbrev p : ℕ
  p = parts s

  each : (x : Link) → x ∈ L → x ∈ take n L
  each x i =
      let q : take n L ≡ L = ap (λ (i : ℕ). take i L) (every ∙ sym (links_length s)) ∙ take-length L in
      subst (λ (A : List Link). x ∈ A) (sym q) i

  fits : (t : ℕ) → t ∈ levels L → enough (length es) (maximals_for s k t) ≡ true
  unfolding maximals_for
  fits t i =
      let y = levels_of L t i in
      enough_room es (maximals_for s k t)
      (subst (λ (u : ℕ). length (maximals (heavy t L) p k) ≤ u) space
      (subst (λ (u : ℕ). length (maximals (heavy u L) p k) ≤ c) (sym y.2) (done.fit y.0 (each y.0 y.1))))

  passes : levels_fit s k (length es) ≡ true
  unfolding levels_fit
  passes = all_at (λ t. enough (length es) (maximals_for s k t)) (levels L) fits

  pub levels_told : MeetingRuns (levels_fit s k (length es)) (meeting_of s k a b) (Ok v)
  unfolding meeting_of
  levels_told = meet_whole (levels_fit s k (length es)) (meeting_of s k a b) passes v (go v done.meets)
    where
      go : (u : Option ℕ) → FirstMet L p k a b n u → meet_weight u ≡ meeting L p k a b
      go (Some u) m = sym m
      go None m =
          sym (meets_never L p k a b (λ t i.
          let y = levels_of L t i in
          ap (λ (u : ℕ). joined_at L p k u a b) y.2 ∙ m y.0 (each y.0 y.1)))
