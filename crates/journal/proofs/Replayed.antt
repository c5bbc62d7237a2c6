-- Entries taken in one after the other, as the loop reads them. Assumes nothing.
use mathlib.Core.Path.{◌≡◌, refl, sym, ap, ap₂, ◌∙◌}
use mathlib.Core.Logic.{◌⊎◌, inl, inr}
use mathlib.Core.Bool.{true, false}
use mathlib.Core.List.{List, [], ◌∷◌, map}
use Prim.Native.Nat.{ℕ, ◌+◌, ◌≤◌, ◌<◌}
use native.Mathlib.Numerals.{add-one}
use lib.ListN.{length, get_or, drop, drop_of_length-le}
use lib.Seq.{drop-cons}
use Rattle.sets.specs.Lists.{keep}
use Rattle.sets.proofs.ListLaws.{keep_yes, keep_no}
use Rattle.sets.proofs.Tests.{split}
use Rattle.percolation.specs.Links.{Link}
use Rattle.percolation.specs.Steps.{good_parts}
use Rattle.checks.specs.Model.{marked}
use Rattle.slots.specs.Tables.{Tables}
use Rattle.search.specs.Model.{new_cliques}
use Rattle.clique_taking.specs.Model.{took_all}
use Rattle.runs.specs.Model.{rows_with, took_links}
use Rattle.journal.specs.Model.{entry_link, readable}

-- ---- one entry

module _ (p e : ℕ) (J : List ℕ) where
  pub read_yes : good_parts p (entry_link e) ≡ true → readable p (e ∷ J) ≡ entry_link e ∷ readable p J
  unfolding readable
  read_yes t = keep_yes (good_parts p) (entry_link e) (map entry_link J) t

  pub read_no : good_parts p (entry_link e) ≡ false → readable p (e ∷ J) ≡ readable p J
  unfolding readable
  read_no t = keep_no (good_parts p) (entry_link e) (map entry_link J) t

pub read_none : (p : ℕ) → readable p [] ≡ []
unfolding readable keep
read_none p = refl

-- of the link l, as the code has it
module _ (p e : ℕ) (l : Link) (is : l ≡ entry_link e) where
  is_read : good_parts p l ≡ true → readable p (e ∷ []) ≡ l ∷ []
  is_read t = read_yes p e [] (ap (good_parts p) (sym is) ∙ t) ∙ ap₂ (λ (m : Link) (M : List Link). m ∷ M) (sym is) (read_none p)

  not_read : good_parts p l ≡ false → readable p (e ∷ []) ≡ []
  not_read t = read_no p e [] (ap (good_parts p) (sym is) ∙ t) ∙ read_none p

  pub skip_rows : (R : List ℕ) → good_parts p l ≡ false → R ≡ rows_with R (readable p (e ∷ []))
  unfolding rows_with
  skip_rows R t = sym (ap (rows_with R) (not_read t))

  pub one_rows : (R Q : List ℕ) → good_parts p l ≡ true → Q ≡ marked R l.low l.high → Q ≡ rows_with R (readable p (e ∷ []))
  unfolding rows_with
  one_rows R Q t m = m ∙ sym (ap (rows_with R) (is_read t))

  module _ (k : ℕ) (R : List ℕ) (T : Tables) where
    pub skip_tables : good_parts p l ≡ false → T ≡ took_links k R T (readable p (e ∷ []))
    unfolding took_links
    skip_tables t = sym (ap (took_links k R T) (not_read t))

    pub one_tables : (U : Tables) → good_parts p l ≡ true → U ≡ took_all T (new_cliques R k l.low l.high) → U ≡ took_links k R T (readable p (e ∷ []))
    unfolding took_links
    one_tables U t m = m ∙ sym (ap (took_links k R T) (is_read t))

-- ---- an entry and the others behind it

module _ (p e : ℕ) (J : List ℕ) where
  pub rows_apart : (R : List ℕ) → rows_with R (readable p (e ∷ J)) ≡ rows_with (rows_with R (readable p (e ∷ []))) (readable p J)
  unfolding rows_with
  rows_apart R = go (split (good_parts p (entry_link e)))
    where
      go : (good_parts p (entry_link e) ≡ true) ⊎ (good_parts p (entry_link e) ≡ false)
          → rows_with R (readable p (e ∷ J)) ≡ rows_with (rows_with R (readable p (e ∷ []))) (readable p J)
      go (inl t) =
          ap (rows_with R) (read_yes p e J t)
          ∙ sym (ap (λ (M : List Link). rows_with (rows_with R M) (readable p J)) (read_yes p e [] t ∙ ap (λ (M : List Link). entry_link e ∷ M) (read_none p)))
      go (inr t) =
          ap (rows_with R) (read_no p e J t) ∙ sym (ap (λ (M : List Link). rows_with (rows_with R M) (readable p J)) (read_no p e [] t ∙ read_none p))

  pub tables_apart : (k : ℕ) (R : List ℕ) (T : Tables)
      → took_links k R T (readable p (e ∷ J)) ≡ took_links k (rows_with R (readable p (e ∷ []))) (took_links k R T (readable p (e ∷ []))) (readable p J)
  unfolding rows_with took_links
  tables_apart k R T = go (split (good_parts p (entry_link e)))
    where
      go : (good_parts p (entry_link e) ≡ true) ⊎ (good_parts p (entry_link e) ≡ false)
          → took_links k R T (readable p (e ∷ J)) ≡ took_links k (rows_with R (readable p (e ∷ []))) (took_links k R T (readable p (e ∷ []))) (readable p J)
      go (inl t) =
          ap (took_links k R T) (read_yes p e J t)
          ∙ sym (ap (λ (M : List Link). took_links k (rows_with R M) (took_links k R T M) (readable p J)) (read_yes p e [] t ∙ ap (λ (M : List Link). entry_link e ∷ M) (read_none p)))
      go (inr t) =
          ap (took_links k R T) (read_no p e J t)
          ∙ sym (ap (λ (M : List Link). took_links k (rows_with R M) (took_links k R T M) (readable p J)) (read_no p e [] t ∙ read_none p))

-- ---- the entries from j on

module _ (L : List ℕ) where
  next_entry : (j : ℕ) → j < length L → drop j L ≡ get_or L j 0 ∷ drop (j + 1) L
  next_entry j h = drop-cons L j 0 h ∙ ap (λ (i : ℕ). get_or L j 0 ∷ drop i L) (sym (add-one j))

  no_entry : (j : ℕ) → length L ≤ j → drop j L ≡ []
  no_entry j h = drop_of_length-le L {i = j} h

  module _ (p : ℕ) where
    pub rows_next : (R Q : List ℕ) (j : ℕ) → j < length L → Q ≡ rows_with R (readable p (get_or L j 0 ∷ []))
        → rows_with Q (readable p (drop (j + 1) L)) ≡ rows_with R (readable p (drop j L))
    rows_next R Q j h g =
        ap (λ (X : List ℕ). rows_with X (readable p (drop (j + 1) L))) g
        ∙ sym (rows_apart p (get_or L j 0) (drop (j + 1) L) R) ∙ ap (λ (X : List ℕ). rows_with R (readable p X)) (sym (next_entry j h))

    pub rows_end : (R : List ℕ) (j : ℕ) → length L ≤ j → R ≡ rows_with R (readable p (drop j L))
    unfolding rows_with
    rows_end R j h = sym (ap (λ (X : List ℕ). rows_with R (readable p X)) (no_entry j h) ∙ ap (rows_with R) (read_none p))

    pub tables_next : (k : ℕ) (R Q : List ℕ) (T U : Tables) (j : ℕ) → j < length L → Q ≡ rows_with R (readable p (get_or L j 0 ∷ []))
        → U ≡ took_links k R T (readable p (get_or L j 0 ∷ []))
        → took_links k Q U (readable p (drop (j + 1) L)) ≡ took_links k R T (readable p (drop j L))
    tables_next k R Q T U j h g f =
        ap₂ (λ (X : List ℕ) (Y : Tables). took_links k X Y (readable p (drop (j + 1) L))) g f
        ∙ sym (tables_apart p (get_or L j 0) (drop (j + 1) L) k R T)
        ∙ ap (λ (X : List ℕ). took_links k R T (readable p X)) (sym (next_entry j h))

    pub tables_end : (k : ℕ) (R : List ℕ) (T : Tables) (j : ℕ) → length L ≤ j → T ≡ took_links k R T (readable p (drop j L))
    unfolding took_links
    tables_end k R T j h = sym (ap (λ (X : List ℕ). took_links k R T (readable p X)) (no_entry j h) ∙ ap (took_links k R T) (read_none p))
