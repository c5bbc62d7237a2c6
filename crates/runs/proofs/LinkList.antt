-- Any list of links given by a function of the link's number, one link after the other, as the loops read it. Assumes nothing.
use mathlib.Core.Path.{◌≡◌, sym, ap, ap₂, ◌∙◌, subst}
use mathlib.Core.Bool.{true}
use mathlib.Core.List.{List, [], ◌∷◌, ◌++◌}
use Prim.Native.Nat.{ℕ, ◌+◌, ◌≤◌, ◌<◌}
use native.Mathlib.Omega.{arith}
use native.Mathlib.Numerals.{add-one}
use lib.ListN.{length, get_or, take, drop, drop_of_length-le}
use lib.Seq.{take-suc, drop-cons, get_or-take, length-take-le}
use Rattle.sets.specs.Lists.{◌∈◌}
use Rattle.sets.proofs.ListLaws.{get_d_member}
use Rattle.percolation.specs.Links.{Link, link, heavy}
use Rattle.percolation.specs.Steps.{legal}
use Rattle.percolation.proofs.Accepted.{good_parts_lem, legal_parts}
use Rattle.sheet.specs.Sheet.{list_of}
use Rattle.sheet.proofs.Lists.{list_of_length, list_of_at}
use Rattle.checks.specs.Model.{marked}
use Rattle.slots.specs.Tables.{Tables}
use Rattle.search.specs.Model.{new_cliques}
use Rattle.clique_taking.specs.Model.{took_all}
use Rattle.runs.specs.Model.{rows_with, took_links}
use Rattle.runs.proofs.Falling.{AllHeavy, heavy_more, take_stop, take_every}

-- L has m links, of which number j is f j
pub record Given (L : List Link) (f : ℕ → Link) (m : ℕ) : Type 0 where
  pub count : length L ≡ m
  pub link_at_lem : (j : ℕ) (d : Link) → j < m → get_or L j d ≡ f j

pub given_list : (f : ℕ → Link) (m : ℕ) → Given (list_of f m) f m
given_list f m = record { count = list_of_length f m; link_at_lem = λ j d h. list_of_at f m j d h }

module _ (L : List Link) (f : ℕ → Link) (m : ℕ) (g : Given L f m) where
  pub link_in_lem : (j : ℕ) → j < m → f j ∈ L
  link_in_lem j h =
      subst (λ (l : Link). l ∈ L) (g.link_at_lem j (link 0 0 0) h) (get_d_member L j (link 0 0 0) (omega (arith, g.count)))

  -- the links below j, and one more
  pub first_more : (j : ℕ) → j < m → take (j + 1) L ≡ take j L ++ (f j ∷ [])
  first_more j h =
      let d = link 0 0 0 in
      ap (λ (n : ℕ). take n L) (add-one j) ∙ take-suc L j d (omega (arith, g.count))
      ∙ ap (λ (l : Link). take j L ++ (l ∷ [])) (g.link_at_lem j d h)

  -- the links from j on and below n: link j and the others; none from n on
  pub next_link : (n j : ℕ) → j < n → n ≤ m → drop j (take n L) ≡ f j ∷ drop (j + 1) (take n L)
  next_link n j h w =
      let d = link 0 0 0 in
      drop-cons (take n L) j d (omega (arith, length-take-le n L (omega (arith, g.count))))
      ∙ ap₂ (λ (l : Link) (i : ℕ). l ∷ drop i (take n L)) (get_or-take n L j d h ∙ g.link_at_lem j d (omega arith)) (sym (add-one j))

  pub no_link : (n j : ℕ) → j ≡ n → n ≤ m → drop j (take n L) ≡ []
  no_link n j e w = drop_of_length-le (take n L) {i = j} (omega (arith, length-take-le n L (omega (arith, g.count))))

  -- ---- rows of neighbours, and tables, with what is still to come

  module _ (n : ℕ) (within : n ≤ m) where
    -- the links from j on
    abbrev later : ℕ → List Link
    later j = drop j (take n L)

    pub rows_next : (R Q : List ℕ) (j : ℕ) (l : Link) → j < n → l ≡ f j → Q ≡ marked R l.low l.high
        → rows_with Q (drop (j + 1) (take n L)) ≡ rows_with R (drop j (take n L))
    unfolding rows_with
    rows_next R Q j l h e q =
        ap (λ (X : List ℕ). rows_with X (later (j + 1))) q
        ∙ ap (λ (x : Link). rows_with R (x ∷ later (j + 1))) e
        ∙ ap (rows_with R) (sym (next_link n j h within))

    pub rows_end : (R : List ℕ) (j : ℕ) → j ≡ n → R ≡ rows_with R (drop j (take n L))
    unfolding rows_with
    rows_end R j e = sym (ap (rows_with R) (no_link n j e within))

    pub tables_next : (k : ℕ) (R Q : List ℕ) (T U : Tables) (j : ℕ) (l : Link) → j < n → l ≡ f j → Q ≡ marked R l.low l.high
        → U ≡ took_all T (new_cliques R k l.low l.high)
        → took_links k Q U (drop (j + 1) (take n L)) ≡ took_links k R T (drop j (take n L))
    unfolding took_links
    tables_next k R Q T U j l h e q u =
        ap₂ (λ (X : List ℕ) (Y : Tables). took_links k X Y (later (j + 1))) q u
        ∙ ap (λ (x : Link). took_links k R T (x ∷ later (j + 1))) e
        ∙ ap (took_links k R T) (sym (next_link n j h within))

    pub tables_end : (k : ℕ) (R : List ℕ) (T : Tables) (j : ℕ) → j ≡ n → T ≡ took_links k R T (drop j (take n L))
    unfolding took_links
    tables_end k R T j e = sym (ap (took_links k R T) (no_link n j e within))

  -- ---- the links of weight t or more

  pub weighs_more : (t j : ℕ) → j < m → AllHeavy t (take j L) → t ≤ (f j).weight → AllHeavy t (take (j + 1) L)
  weighs_more t j h a w = rw (first_more j h) (heavy_more t (take j L) (f j) a w)

  -- ---- links that pass 6 to 9

  module _ (p : ℕ) (ok : legal p L ≡ true) where
    pub ends_below : (j : ℕ) → j < m → ((f j).low < (f j).high) × ((f j).high < p)
    ends_below j h = good_parts_lem p (f j) (legal_parts p L ok (f j) (link_in_lem j h))

    pub weighs_less : (t j : ℕ) → j < m → AllHeavy t (take j L) → (f j).weight < t → take j L ≡ heavy t L
    weighs_less t j h a w =
        take_stop p t L ok j (link 0 0 0) (omega (arith, g.count)) a (omega (arith, w, ap (λ (x : Link). x.weight) (g.link_at_lem j (link 0 0 0) h)))

    pub weighs_all : (t j : ℕ) → j ≡ m → AllHeavy t (take j L) → take j L ≡ heavy t L
    weighs_all t j h a = take_every p t L ok j (h ∙ sym g.count) a
