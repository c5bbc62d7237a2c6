-- The worked examples P1 to P10 of document 01, as one table; proofs/Examples.antt has the one theorem for it. Assumes nothing.
use Rattle.std.specs.Prelude.{◌≡◌, List, [], ◌∷◌, ◌++◌, map, ℕ, replicate}
use Rattle.answers.specs.Verdict.{Verdict, accepted, refused}
use Rattle.percolation.specs.Percolate.{Community, shown}
use Rattle.percolation.specs.Links.{Link, link, listing, slots, family}
use Rattle.percolation.specs.Levels.{Meeting, met, never, meeting}
use Rattle.percolation.specs.Steps.{Step, insert, back, remaining_links, step_answers}
use Rattle.percolation.specs.Tree.{Line, line, tree}
use Rattle.percolation.specs.Mean.{family_links, Mean, mean, mean_of}

-- What is asked of links, a part count and k, and what is expected: the listing at t; the meeting weight of a and b; the slots needed at t;
-- what each step gets when the links are inserted in order with tables of n slots and the steps X follow, and the links that remain then; the merge tree; the
-- mean link weight of the family of c at t.
pub data Asked : Type 0 where
  lists : ℕ → List Community → Asked
  meets : ℕ → ℕ → Meeting → Asked
  needs : ℕ → ℕ → Asked
  gets : ℕ → List Step → List Verdict → Asked
  leaves : ℕ → List Step → List Link → Asked
  grows : List Line → Asked
  weighs : ℕ → ℕ → Mean → Asked

pub record Row : Type 0 where
  pub links : List Link
  pub parts : ℕ
  pub k : ℕ
  pub asked : Asked

abbrev pub row : List Link → ℕ → ℕ → Asked → Row
row L p k q = record { links = L; parts = p; k = k; asked = q }

-- a row as a statement
abbrev pub Says : List Link → ℕ → ℕ → Asked → Type 0
Says L p k (lists t C) = listing L p k t ≡ C
Says L p k (meets a b m) = meeting L p k a b ≡ m
Says L p k (needs t n) = slots p k (family L p k t) ≡ n
Says L p k (gets n X r) = step_answers p k n [] (map insert L ++ X) ≡ r
Says L p k (leaves n X M) = remaining_links p k n [] (map insert L ++ X) ≡ M
Says L p k (grows X) = tree L p k ≡ X
Says L p k (weighs t c m) = mean_of (family_links L p k t c) ≡ m

abbrev pub RowHolds : Row → Type 0
RowHolds r = Says r.links r.parts r.k r.asked

-- links of one weight
abbrev pub pairs : ℕ → List (ℕ × ℕ) → List Link
pairs w l = map (λ e. link e.0 e.1 w) l

abbrev pub sheet1 : List Link
sheet1 = pairs 9 ((0, 1) ∷ (0, 2) ∷ []) ++ pairs 8 ((1, 2) ∷ []) ++ pairs 5 ((1, 3) ∷ (2, 3) ∷ [])

abbrev pub sheet5 : List Link
sheet5 = pairs 4 ((0, 1) ∷ (0, 2) ∷ (1, 2) ∷ (2, 3) ∷ (2, 4) ∷ (3, 4) ∷ [])

abbrev pub sheet8 : List Link
sheet8 = sheet5 ++ pairs 2 ((1, 3) ∷ [])

-- P8 in which the first triangle grows before the two join, the second one at that level, and the class of both after it
abbrev pub sheet_grown : List Link
sheet_grown = sheet5 ++ pairs 3 ((0, 5) ∷ (1, 5) ∷ []) ++ pairs 2 ((1, 3) ∷ (3, 6) ∷ (4, 6) ∷ []) ++ pairs 1 ((0, 7) ∷ (1, 7) ∷ [])

abbrev pub sheet9 : List Link
sheet9 =
    pairs 4 ((0, 1) ∷ (0, 2) ∷ (1, 2) ∷ (1, 3) ∷ (2, 3) ∷ (2, 4) ∷ (3, 4) ∷ (3, 5) ∷ (4, 5) ∷ (4, 6) ∷ (5, 6) ∷ (5, 7) ∷ (6, 7) ∷ (6, 8) ∷ (7, 8)
    ∷ (7, 9) ∷ (8, 9) ∷ (8, 10) ∷ (9, 10) ∷ (0, 5) ∷ (5, 10) ∷ (0, 10) ∷ [])

abbrev pub sheet10 : List Link
sheet10 = pairs 4 ((0, 1) ∷ (0, 2) ∷ (0, 3) ∷ (1, 2) ∷ (1, 3) ∷ (2, 3) ∷ (2, 4) ∷ (2, 5) ∷ (3, 4) ∷ (3, 5) ∷ (4, 5) ∷ [])

abbrev pub table : List Row
table =
    row sheet1 4 3 (lists 9 [])
    ∷ row sheet1 4 3 (lists 8 (shown 7 7 ∷ []))
    ∷ row sheet1 4 3 (lists 5 (shown 7 15 ∷ []))
    ∷ row sheet1 4 3 (meets 7 14 (met 5))
    ∷ row sheet1 4 3 (weighs 5 7 (mean 36 5 7 1))
    ∷ row sheet1 4 3 (grows (line 8 0 0 7 15 ∷ []))
    ∷ row sheet5 5 3 (lists 4 (shown 7 7 ∷ shown 28 28 ∷ []))
    ∷ row sheet5 5 3 (meets 7 28 never)
    ∷ row sheet5 5 2 (lists 4 (shown 3 31 ∷ []))
    ∷ row sheet8 5 3 (lists 2 (shown 7 31 ∷ []))
    ∷ row sheet8 5 3 (needs 2 7)
    ∷ row sheet8 5 3 (gets 7 [] (replicate 7 accepted))
    ∷ row sheet8 5 3 (gets 6 [] (replicate 6 accepted ++ (refused 15 0 ∷ [])))
    ∷ row sheet1 4 3 (gets 7 (back ∷ back ∷ insert (link 1 3 7) ∷ insert (link 2 3 8) ∷ []) (replicate 8 accepted ++ (refused 8 0 ∷ [])))
    ∷ row sheet1 4 3 (leaves 7 (back ∷ back ∷ insert (link 1 3 7) ∷ insert (link 2 3 8) ∷ []) (pairs 9 ((0, 1) ∷ (0, 2) ∷ []) ++ pairs 8 ((1, 2) ∷ []) ++ pairs 7 ((1, 3) ∷ [])))
    ∷ row [] 4 3 (gets 7 (back ∷ insert (link 0 1 5) ∷ back ∷ back ∷ []) (refused 19 0 ∷ accepted ∷ accepted ∷ refused 19 0 ∷ []))
    ∷ row sheet8 5 3 (grows (line 4 0 3 7 7 ∷ line 4 0 3 28 28 ∷ line 2 2 0 7 31 ∷ []))
    ∷ row sheet_grown 8 3 (grows (line 4 0 3 7 39 ∷ line 4 0 3 28 28 ∷ line 2 2 0 7 255 ∷ []))
    ∷ row sheet9 11 3 (lists 4 (shown 7 2047 ∷ shown 1057 1057 ∷ []))
    ∷ row sheet9 11 3 (weighs 4 7 (mean 76 19 4 0))
    ∷ row sheet9 11 3 (weighs 4 1057 (mean 12 3 4 0))
    ∷ row sheet10 6 4 (lists 4 (shown 15 15 ∷ shown 60 60 ∷ []))
    ∷ []
