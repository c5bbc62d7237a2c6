-- The merge tree, level by level. Assumes nothing.
use Rattle.std.specs.Prelude.{cond, ℕ, suc, ◌+◌, eqb, ltb}
use mathlib.Core.List.{List, [], ◌∷◌, ◌++◌, map, flatten}
use Rattle.std.proofs.Math.ListN.{length}
use Rattle.sets.specs.Lists.{any, keep}
use Rattle.sets.specs.Value.{bytes, set_bytes, set_length}
use Rattle.percolation.specs.Percolate.{Community, union_at, communities}
use Rattle.percolation.specs.Links.{Link, family}
use Rattle.percolation.specs.Levels.{levels, joined_at}

-- A line at its start: the weight of its level, the numbers of the lines that it joins, and its class's smallest clique.
pub record Start : Type 0 where
  pub weight : ℕ
  pub joins : List ℕ
  pub small : ℕ

-- a class of a level, by its smallest clique, and the number of its line
pub record Branch : Type 0 where
  pub small : ℕ
  pub number : ℕ

-- the classes of a level with their lines, and the lines that start there
pub record Level : Type 0 where
  pub branches : List Branch
  pub starts : List Start

-- c continues the line i, before the rest of the level
abbrev pub continues : Community → ℕ → Level → Level
continues c i rest = record { branches = record { small = c.small; number = i } ∷ rest.branches; starts = rest.starts }

-- c starts the line i at the weight w, which joins the lines J
abbrev pub begins : ℕ → Community → ℕ → List ℕ → Level → Level
begins w c i J rest =
    record {
      branches = record { small = c.small; number = i } ∷ rest.branches;
      starts = record { weight = w; joins = J; small = c.small } ∷ rest.starts;
    }

-- The class c at the weight w, by the classes of the level before that it holds. One: it continues that line; `same` is the rest of the level.
-- None, or two or more: it starts line n + 1, which joins theirs; `more` is the rest of the level, with one line more before it.
unfoldable pub class_at : ℕ → ℕ → Community → List Branch → Level → Level → Level
class_at w n c [] same more = begins w c (suc n) [] more
class_at w n c (d ∷ []) same more = continues c d.number same
class_at w n c (d ∷ e ∷ D) same more = begins w c (suc n) (map (λ b. b.number) (d ∷ e ∷ D)) more

module _ (L : List Link) (p k : ℕ) where
  -- the classes of the level before, P, that the class c of the level w holds
  unfoldable pub held_by : ℕ → List Branch → Community → List Branch
  unfolding keep joined_at
  held_by w P c = keep (λ b. joined_at L p k w c.small b.small) P

  -- the classes C of the level w in order, with n lines before
  unfoldable pub level_of : ℕ → List Branch → ℕ → List Community → Level
  unfolding held_by class_at
  level_of w P n [] = record { branches = []; starts = [] }
  level_of w P n (c ∷ C) =
      let same = level_of w P n C in
      let more = level_of w P (suc n) C in
      class_at w n c (held_by w P c) same more

  -- the lines that start at the levels W, with n lines before, where P are the classes of the level before
  unfoldable pub starts_from : List Branch → ℕ → List ℕ → List Start
  unfolding level_of family communities
  starts_from P n [] = []
  starts_from P n (w ∷ W) = let l = level_of w P n (communities k (family L p k w)) in l.starts ++ starts_from l.branches (n + length l.starts) W

-- the number of the line that joins the line i, or 0; n is the number of the first of the lines X
unfoldable pub goes_into : ℕ → ℕ → List Start → ℕ
unfolding any
goes_into i n [] = 0
goes_into i n (x ∷ X) = cond (any (eqb i) x.joins) n (goes_into i (suc n) X)

pub record Line : Type 0 where
  pub weight : ℕ
  pub joins : ℕ
  pub into : ℕ
  pub small : ℕ
  pub whole : ℕ

abbrev pub line : ℕ → ℕ → ℕ → ℕ → ℕ → Line
line w j i s u = record { weight = w; joins = j; into = i; small = s; whole = u }

-- the weight of the line that joins the line i, or 0, below every level
unfoldable pub joined_at_weight : ℕ → List Start → ℕ
unfolding any
joined_at_weight i [] = 0
joined_at_weight i (x ∷ X) = cond (any (eqb i) x.joins) x.weight (joined_at_weight i X)

-- the last of a list, or v
unfoldable pub last_of : ℕ → List ℕ → ℕ
last_of v [] = v
last_of v (w ∷ W) = last_of w W

-- The last of the falling levels W at which the line i of the lines S is a line of its own: the last one above the weight of the line that it goes into, or
-- the last of all where it goes into none.
unfoldable pub last_level : List ℕ → List Start → ℕ → ℕ
unfolding keep joined_at_weight last_of
last_level W S i = last_of 0 (keep (λ w. ltb (joined_at_weight i S) w) W)

module _ (L : List Link) (p k : ℕ) where
  -- the union of the class of line i at its last level, where s is a clique of the class
  unfoldable pub whole_of : List ℕ → List Start → ℕ → ℕ → ℕ
  unfolding last_level family union_at
  whole_of W S i s = union_at k (family L p k (last_level W S i)) s

  -- the lines X of all lines S of the levels W, numbered from n
  unfoldable pub lines_from : List ℕ → List Start → ℕ → List Start → List Line
  unfolding goes_into whole_of
  lines_from W S n [] = []
  lines_from W S n (x ∷ X) = line x.weight (length x.joins) (goes_into n 1 S) x.small (whole_of W S n x.small) ∷ lines_from W S (suc n) X

unfoldable pub tree : List Link → ℕ → ℕ → List Line
unfolding starts_from lines_from levels
tree L p k = let S = starts_from L p k [] 0 (levels L) in lines_from L p k (levels L) S 1 S

-- how many bytes a line has, and where its union stands among them
abbrev pub line_length : ℕ
line_length = 10 + (set_length + set_length)

abbrev pub whole_place : ℕ
whole_place = 10 + set_length

-- 26 bytes a line: weight (2), lines joined (4), the line it goes into or 0 (4), smallest clique, union
unfoldable pub tree_bytes : List Line → List ℕ
unfolding flatten bytes set_bytes
tree_bytes X = flatten (map (λ x. bytes 2 x.weight ++ bytes 4 x.joins ++ bytes 4 x.into ++ set_bytes x.small ++ set_bytes x.whole) X)
