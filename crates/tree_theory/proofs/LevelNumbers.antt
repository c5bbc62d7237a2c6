-- The numbers that the lines of a level get, and the lines that go into them, where the ends of their classes are known. Assumes nothing.
use mathlib.Core.Path.{◌≡◌, refl, sym, ap, ◌∙◌, subst, subst⁻¹}
use mathlib.Core.Logic.{◌⊎◌, inl, inr}
use mathlib.Core.Bool.{Bool, true, false, cond}
use mathlib.Core.List.{List}
use Prim.Native.Nat.{ℕ, zero, suc, ◌+◌, ◌%◌, ◌≤◌, ◌<◌, ◌^◌}
use native.Mathlib.Omega.{arith}
use native.Mathlib.Nat.{mod-eq_of_lt}
use lib.Dec.{ltb}
use lib.ListN.{length, get_or}
use borrow.Author.Tests.{lt-ltb, le-ltb}
use Rattle.sets.specs.Value.{width, rows, row, store, number_at}
use Rattle.sets.proofs.Tests.{never, split, lt_or_le, same_or_not}
use Rattle.sets.proofs.Tables.{length_store, rows_length, row_store, row_other}
use Rattle.sets.proofs.RowNumbers.{small_fits, none_fits, number_is}
use Rattle.slots.specs.Tables.{root_of}
use Rattle.tree_lines.specs.LineModel.{changed}
use Rattle.tree_levels.specs.LevelModel.{absorbed, Numbering, numbering, end_of, numbered_at, numbered, went_into}
use Rattle.tree_lines.proofs.LineFields.{changed_at, changed_other}
use Rattle.tree_levels.proofs.LineNumbers.{into_yes, into_no}
use Rattle.tree_theory.proofs.UnionsKept.{Bounded, bounded_store}

-- ---- what lines go into: f before the level, G after it; n lines stand before those that start

module _ (n : ℕ) (f G : ℕ → ℕ) where
  -- each of the n lines goes where it went, or where it will
  abbrev pub Sound : (ℕ → ℕ) → Type 0
  Sound g = (m : ℕ) → 1 ≤ m → m ≤ n → (g m ≡ f m) ⊎ (g m ≡ G m)

  pub sound_changed : (g : ℕ → ℕ) (x v : ℕ) → Sound g → v ≡ G x → Sound (changed g x v)
  sound_changed g x v s e m low high = go (same_or_not m x)
    where
      go : (m ≡ x) ⊎ (m ≡ x → ⊥) → (changed g x v m ≡ f m) ⊎ (changed g x v m ≡ G m)
      go (inl z) = inr (ap (changed g x v) z ∙ changed_at g x v ∙ e ∙ ap G (sym z))
      go (inr z) = keep (s m low high)
        where
          keep : (g m ≡ f m) ⊎ (g m ≡ G m) → (changed g x v m ≡ f m) ⊎ (changed g x v m ≡ G m)
          keep (inl y) = inl (changed_other g x v m z ∙ y)
          keep (inr y) = inr (changed_other g x v m z ∙ y)

  pub sound_past : (g : ℕ → ℕ) (x v : ℕ) → Sound g → n < x → Sound (changed g x v)
  sound_past g x v s l m low high = keep (s m low high)
    where
      other : changed g x v m ≡ g m
      other = changed_other g x v m (λ z. omega (arith, z))

      keep : (g m ≡ f m) ⊎ (g m ≡ G m) → (changed g x v m ≡ f m) ⊎ (changed g x v m ≡ G m)
      keep (inl y) = inl (other ∙ y)
      keep (inr y) = inr (other ∙ y)

  pub done_changed : (g : ℕ → ℕ) (x v m : ℕ) → g m ≡ G m → v ≡ G x → changed g x v m ≡ G m
  done_changed g x v m d e = go (same_or_not m x)
    where
      go : (m ≡ x) ⊎ (m ≡ x → ⊥) → changed g x v m ≡ G m
      go (inl z) = ap (changed g x v) z ∙ changed_at g x v ∙ e ∙ ap G (sym z)
      go (inr z) = changed_other g x v m z ∙ d

-- ---- the lines that start at the slots sl

pub record Starting (n before : ℕ) (f G number : ℕ → ℕ) (sl ms us : List ℕ) (into : ℕ → ℕ) : Type 0 where
  pub apart : (i j : ℕ) → i < length sl → j < length sl → get_or sl i 0 ≡ get_or sl j 0 → i ≡ j
  pub small : (j : ℕ) → j < length sl → get_or sl j 0 < 2 ^ 32
  pub held : (j : ℕ) → j < length sl → suc (get_or sl j 0) < rows ms
  pub tall : (j : ℕ) → j < length sl → suc (get_or sl j 0) < rows us
  pub many : n + length sl < 2 ^ 64
  -- their slots stand where the numbers of the lines that they go into will; the others are as before
  pub ends : (j : ℕ) → j < length sl → into (suc (n + j)) ≡ get_or sl j 0
  pub olds : (m : ℕ) → 1 ≤ m → m ≤ n → into m ≡ f m
  -- the line that the class of such a slot had
  pub had : (j : ℕ) → j < length sl → get_or sl j 0 < before → row ms (suc (get_or sl j 0)) ≡ number (get_or sl j 0)
  pub within : (j : ℕ) → j < length sl → get_or sl j 0 < before → (1 ≤ number (get_or sl j 0)) × (number (get_or sl j 0) ≤ n)
  pub own : (j : ℕ) → j < length sl → get_or sl j 0 < before → G (number (get_or sl j 0)) ≡ suc (n + j)

-- after i of them
pub record Given (n before : ℕ) (f G number : ℕ → ℕ) (sl ms us : List ℕ) (i : ℕ) (N : Numbering) : Type 0 where
  pub later : (j : ℕ) → i ≤ j → j < length sl → N.into (suc (n + j)) ≡ get_or sl j 0
  pub none : (j : ℕ) → j < i → N.into (suc (n + j)) ≡ 0
  pub sound : Sound n f G N.into
  pub done : (j : ℕ) → j < i → get_or sl j 0 < before → N.into (number (get_or sl j 0)) ≡ G (number (get_or sl j 0))
  pub smallest : (j : ℕ) → j < i → row N.smallest (suc (get_or sl j 0)) ≡ suc (n + j)
  pub others : (x : ℕ) → ((j : ℕ) → j < i → x ≡ suc (get_or sl j 0) → ⊥) → row N.smallest x ≡ row ms x
  pub unions : (j : ℕ) → j < i → row N.unions (suc (get_or sl j 0)) ≡ 0
  pub rest : (x : ℕ) → ((j : ℕ) → j < i → x ≡ suc (get_or sl j 0) → ⊥) → row N.unions x ≡ row us x
  pub long : length N.smallest ≡ length ms
  pub tall : length N.unions ≡ length us
  pub bounded : Bounded us → Bounded N.unions

module _ (n before : ℕ) (f G number : ℕ → ℕ) (sl ms us : List ℕ) (into : ℕ → ℕ) (s : Starting n before f G number sl ms us into) where
  given_none : Given n before f G number sl ms us 0 (numbering into ms us)
  given_none = record {
    later = λ j l h. s.ends j h;
    none = λ j l. absurd (omega arith);
    sound = λ m low high. inl (s.olds m low high);
    done = λ j l h. absurd (omega arith);
    smallest = λ j l. absurd (omega arith);
    others = λ x h. refl;
    unions = λ j l. absurd (omega arith);
    rest = λ x h. refl;
    long = refl;
    tall = refl;
    bounded = λ b. b;
  }

  module _ (i : ℕ) (l : i < length sl) (N : Numbering) (g : Given n before f G number sl ms us i N) where
    abbrev r : ℕ
    r = get_or sl i 0

    abbrev m : ℕ
    m = suc (n + i)

    -- the line that its class had goes into it
    ended : ℕ → ℕ
    ended = cond (ltb r before) (changed N.into (number_at N.smallest (suc r)) m) N.into

    fresh : (j : ℕ) → j < i → suc r ≡ suc (get_or sl j 0) → ⊥
    fresh j h e = let z : i ≡ j = s.apart i j l (omega arith) (let y : get_or sl i 0 ≡ get_or sl j 0 = omega (arith, e) in y) in omega (arith, z)

    line_had : r < before → number_at N.smallest (suc r) ≡ number r
    line_had h = number_is N.smallest (suc r) (number r) (g.others (suc r) fresh ∙ s.had i l h) (omega (arith, (s.within i l h).1, s.many))

    record Ends (e : ℕ → ℕ) : Type 0 where
      past : (x : ℕ) → n < x → e x ≡ N.into x
      sound : Sound n f G e
      kept : (x : ℕ) → N.into x ≡ G x → e x ≡ G x
      here : r < before → e (number r) ≡ G (number r)

    ends : Ends ended
    unfolding ended
    ends = go (lt_or_le r before)
      where
        go : (r < before) ⊎ (before ≤ r) → Ends (cond (ltb r before) (changed N.into (number_at N.smallest (suc r)) m) N.into)
        go (inl h) =
            let w = s.within i l h in
            let o = s.own i l h in
            subst⁻¹ (λ (t : Bool). Ends (cond t (changed N.into (number_at N.smallest (suc r)) m) N.into)) (lt-ltb r before h)
            (subst⁻¹ (λ (x : ℕ). Ends (changed N.into x m)) (line_had h) record {
              past = λ x p. changed_other N.into (number r) m x (λ z. omega (arith, z, w.1));
              sound = sound_changed n f G N.into (number r) m g.sound (sym o);
              kept = λ x d. done_changed n f G N.into (number r) m x d (sym o);
              here = λ k. changed_at N.into (number r) m ∙ sym o;
            })
        go (inr h) =
            subst⁻¹ (λ (t : Bool). Ends (cond t (changed N.into (number_at N.smallest (suc r)) m) N.into)) (le-ltb r before h)
            record { past = λ x p. refl; sound = g.sound; kept = λ x d. d; here = λ k. absurd (omega arith) }

    next : Numbering
    next = numbering (changed ended m 0) (store N.smallest (suc r) m) (store N.unions (suc r) 0)

    -- a slot of those so far is this one, or one of those before
    cases : (j : ℕ) → j < suc i → (j ≡ i) ⊎ (j < i)
    cases j h = go (lt_or_le j i)
      where
        go : (j < i) ⊎ (i ≤ j) → (j ≡ i) ⊎ (j < i)
        go (inl a) = inr a
        go (inr a) = inl (let z : j ≡ i = omega arith in z)

    big : m < 2 ^ width
    big = small_fits m (omega (arith, s.many))

    given_suc : Given n before f G number sl ms us (suc i) next
    unfolding next
    given_suc = record {
      later = λ j a b. changed_other ended m 0 (suc (n + j)) (λ z. omega (arith, z)) ∙ ends.past (suc (n + j)) (omega arith) ∙ g.later j (omega arith) b;
      none = λ j a. none_at j (cases j a);
      sound = sound_past n f G ended m 0 ends.sound (omega arith);
      done = λ j a h. done_at j (cases j a) h;
      smallest = λ j a. small_at j (cases j a);
      others = λ x h. row_other N.smallest (suc r) x m (h i (omega arith)) ∙ g.others x (λ j a. h j (omega arith));
      unions = λ j a. empty_at j (cases j a);
      rest = λ x h. row_other N.unions (suc r) x 0 (h i (omega arith)) ∙ g.rest x (λ j a. h j (omega arith));
      long = length_store N.smallest (suc r) m ∙ g.long;
      tall = length_store N.unions (suc r) 0 ∙ g.tall;
      bounded = λ b. bounded_store N.unions (suc r) 0 (g.bounded b) none_fits;
    }
      where
        none_at : (j : ℕ) → (j ≡ i) ⊎ (j < i) → changed ended m 0 (suc (n + j)) ≡ 0
        none_at j (inl e) = ap (λ (x : ℕ). changed ended m 0 (suc (n + x))) e ∙ changed_at ended m 0
        none_at j (inr e) = changed_other ended m 0 (suc (n + j)) (λ z. omega (arith, z)) ∙ ends.past (suc (n + j)) (omega arith) ∙ g.none j e

        kept_at : (x : ℕ) → x ≤ n → ended x ≡ G x → changed ended m 0 x ≡ G x
        kept_at x h d = changed_other ended m 0 x (λ z. omega (arith, z)) ∙ d

        done_at : (j : ℕ) → (j ≡ i) ⊎ (j < i) → get_or sl j 0 < before → changed ended m 0 (number (get_or sl j 0)) ≡ G (number (get_or sl j 0))
        done_at j (inl e) h =
            let k : r < before = subst (λ (x : ℕ). get_or sl x 0 < before) e h in
            subst⁻¹ (λ (x : ℕ). changed ended m 0 (number (get_or sl x 0)) ≡ G (number (get_or sl x 0))) e (kept_at (number r) (s.within i l k).1 (ends.here k))
        done_at j (inr e) h =
            kept_at (number (get_or sl j 0)) (s.within j (omega arith) h).1 (ends.kept (number (get_or sl j 0)) (g.done j e h))

        small_at : (j : ℕ) → (j ≡ i) ⊎ (j < i) → row (store N.smallest (suc r) m) (suc (get_or sl j 0)) ≡ suc (n + j)
        small_at j (inl e) =
            subst⁻¹ (λ (x : ℕ). row (store N.smallest (suc r) m) (suc (get_or sl x 0)) ≡ suc (n + x)) e
            (row_store N.smallest (suc r) m (omega (arith, s.held i l, rows_length N.smallest ms g.long)) big)
        small_at j (inr e) = row_other N.smallest (suc r) (suc (get_or sl j 0)) m (λ z. fresh j e (sym z)) ∙ g.smallest j e

        empty_at : (j : ℕ) → (j ≡ i) ⊎ (j < i) → row (store N.unions (suc r) 0) (suc (get_or sl j 0)) ≡ 0
        empty_at j (inl e) =
            subst⁻¹ (λ (x : ℕ). row (store N.unions (suc r) 0) (suc (get_or sl x 0)) ≡ 0) e
            (row_store N.unions (suc r) 0 (omega (arith, s.tall i l, rows_length N.unions us g.tall)) none_fits)
        empty_at j (inr e) = row_other N.unions (suc r) (suc (get_or sl j 0)) 0 (λ z. fresh j e (sym z)) ∙ g.unions j e

    slot_read : end_of N.into m ≡ r
    unfolding end_of
    slot_read = ap (λ (x : ℕ). x % 2 ^ 32) (g.later i (omega arith) l) ∙ mod-eq_of_lt (s.small i l)

    given_step : Given n before f G number sl ms us (suc i) (numbered_at before (end_of N.into m) m N)
    unfolding numbered_at next ended
    given_step = subst⁻¹ (λ (q : ℕ). Given n before f G number sl ms us (suc i) (numbered_at before q m N)) slot_read given_suc

  pub given_all : (i : ℕ) → i ≤ length sl → Given n before f G number sl ms us i (numbered before n i (numbering into ms us))
  unfolding numbered
  given_all zero l = given_none
  given_all (suc i) l = given_step i l (numbered before n i (numbering into ms us)) (given_all i (omega arith))

-- ---- the lines of absorbed classes

-- after the slots below i, from g on
pub record Joined (n : ℕ) (f G : ℕ → ℕ) (es ms us : List ℕ) (g : ℕ → ℕ) (i : ℕ) : Type 0 where
  pub past : (x : ℕ) → n < x → went_into es ms us g i x ≡ g x
  pub sound : Sound n f G (went_into es ms us g i)
  pub kept : (x : ℕ) → g x ≡ G x → went_into es ms us g i x ≡ G x
  pub done : (j : ℕ) → j < i → absorbed es us j ≡ true → went_into es ms us g i (number_at ms (suc j)) ≡ G (number_at ms (suc j))

module _ (n : ℕ) (f G : ℕ → ℕ) (es ms us : List ℕ) (g : ℕ → ℕ) (start : Sound n f G g) (used : ℕ)
    (within : (j : ℕ) → j < used → absorbed es us j ≡ true → number_at ms (suc j) ≤ n)
    (own : (j : ℕ) → j < used → absorbed es us j ≡ true → number_at ms (suc (root_of es j)) ≡ G (number_at ms (suc j))) where
  joined_none : Joined n f G es ms us g 0
  unfolding went_into
  joined_none = record { past = λ x l. refl; sound = start; kept = λ x d. d; done = λ j l. absurd (omega arith) }

  joined_suc : (i : ℕ) → i < used → Joined n f G es ms us g i → Joined n f G es ms us g (suc i)
  joined_suc i l w = go (split (absorbed es us i))
    where
      h : ℕ → ℕ
      h = went_into es ms us g i

      go : (absorbed es us i ≡ true) ⊎ (absorbed es us i ≡ false) → Joined n f G es ms us g (suc i)
      go (inr t) =
          let e : went_into es ms us g (suc i) ≡ h = into_no es ms us g i t in
          record {
            past = λ x k. ap (λ (q : ℕ → ℕ). q x) e ∙ w.past x k;
            sound = subst⁻¹ (Sound n f G) e w.sound;
            kept = λ x d. ap (λ (q : ℕ → ℕ). q x) e ∙ w.kept x d;
            done = λ j k a. ap (λ (q : ℕ → ℕ). q (number_at ms (suc j))) e ∙ w.done j (last j k a (lt_or_le j i)) a;
          }
        where
          last : (j : ℕ) → j < suc i → absorbed es us j ≡ true → (j < i) ⊎ (i ≤ j) → j < i
          last j k a (inl b) = b
          last j k a (inr b) = let z : j ≡ i = omega arith in absurd (never (absorbed es us j) a (ap (absorbed es us) z ∙ t))
      go (inl t) =
          let x = number_at ms (suc i) in
          let v = number_at ms (suc (root_of es i)) in
          let e : went_into es ms us g (suc i) ≡ changed h x v = into_yes es ms us g i t in
          let o = own i l t in
          record {
            past = λ y k. ap (λ (q : ℕ → ℕ). q y) e ∙ changed_other h x v y (λ z. omega (arith, z, within i l t)) ∙ w.past y k;
            sound = subst⁻¹ (Sound n f G) e (sound_changed n f G h x v w.sound o);
            kept = λ y d. ap (λ (q : ℕ → ℕ). q y) e ∙ done_changed n f G h x v y (w.kept y d) o;
            done = λ j k a. ap (λ (q : ℕ → ℕ). q (number_at ms (suc j))) e ∙ at j k a (lt_or_le j i);
          }
        where
          at : (j : ℕ) → j < suc i → absorbed es us j ≡ true → (j < i) ⊎ (i ≤ j)
              → changed h (number_at ms (suc i)) (number_at ms (suc (root_of es i))) (number_at ms (suc j)) ≡ G (number_at ms (suc j))
          at j k a (inl b) = done_changed n f G h (number_at ms (suc i)) (number_at ms (suc (root_of es i))) (number_at ms (suc j)) (w.done j b a) (own i l t)
          at j k a (inr b) =
              let z : j ≡ i = omega arith in
              subst⁻¹ (λ (y : ℕ). changed h (number_at ms (suc i)) (number_at ms (suc (root_of es i))) (number_at ms (suc y)) ≡ G (number_at ms (suc y))) z
              (changed_at h (number_at ms (suc i)) (number_at ms (suc (root_of es i))) ∙ own i l t)

  joined_to : (i : ℕ) → i ≤ used → Joined n f G es ms us g i
  joined_to zero l = joined_none
  joined_to (suc i) l = joined_suc i l (joined_to i (omega arith))

  pub joined_all : Joined n f G es ms us g used
  joined_all = joined_to used (omega arith)
