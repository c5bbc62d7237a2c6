-- Model of the code: the lines of a level by the roots of its classes. A class of the level before goes where its root ends now. That these are the lines
-- of the tree is proved of it (proofs/ByRoots.antt). Assumes nothing.
use Rattle.std.specs.Prelude.{Bool, cond, not, List, [], ◌∷◌, ◌++◌, map, ℕ, suc, eqb, length}
use Rattle.sets.specs.Lists.{keep, insert_all}
use Rattle.sets.specs.Sets.{before}
use Rattle.sets.specs.Value.{row}
use Rattle.percolation.specs.Tree.{Start}
use Rattle.slots.specs.Tables.{Tables, root_of}
use Rattle.listings.specs.Model.{root_slots}

-- a class of a level: the slot where it ends, and the number of its line
pub record Rooted : Type 0 where
  pub slot : ℕ
  pub number : ℕ

abbrev pub rooted : ℕ → ℕ → Rooted
rooted r i = record { slot = r; number = i }

-- a line that starts, and the slot where its class ends
pub record Begun : Type 0 where
  pub slot : ℕ
  pub start : Start

-- those of the classes A of the level before that end at r now
unfoldable pub ending_at : List ℕ → List Rooted → ℕ → List Rooted
unfolding keep root_of
ending_at es A r = keep (λ x. eqb (root_of es x.slot) r) A

-- the class at r starts a line: it holds no class of the level before, or two or more
unfoldable pub starts_line : List ℕ → List Rooted → ℕ → Bool
unfolding ending_at
starts_line es A r = not (eqb (length (ending_at es A r)) 1)

unfoldable pub begun_at : ℕ → Tables → List Rooted → ℕ → Begun
unfolding ending_at row
begun_at w T A r =
    record {
      slot = r;
      start = record { weight = w; joins = map (λ x. x.number) (ending_at T.entries A r); small = row T.smallest r };
    }

-- lines that start stand by their smallest cliques
abbrev pub by_begun : Begun → Begun → Bool
by_begun b c = before b.start.small c.start.small

-- the lines that start at the weight w, by smallest clique
unfoldable pub begun_lines : ℕ → Tables → List Rooted → List Begun
unfolding insert_all before begun_at starts_line root_slots
begun_lines w T A = insert_all by_begun [] (map (begun_at w T A) (keep (starts_line T.entries A) (root_slots T.entries T.used)))

-- the number of the line that starts at the slot r, where n lines stand before these; 0 where none does
unfoldable pub line_number : ℕ → ℕ → List Begun → ℕ
line_number r n [] = 0
line_number r n (b ∷ B) = cond (eqb b.slot r) (suc n) (line_number r (suc n) B)

-- the number of the one line that goes on, or 0
unfoldable pub only_number : List Rooted → ℕ
only_number [] = 0
only_number (x ∷ A) = x.number

-- the classes of this level with their lines, where n lines stand before those that start now
unfoldable pub rooted_now : ℕ → ℕ → Tables → List Rooted → List Rooted
unfolding root_slots starts_line line_number begun_lines only_number ending_at
rooted_now w n T A =
    map (λ r. rooted r (cond (starts_line T.entries A r) (line_number r n (begun_lines w T A)) (only_number (ending_at T.entries A r))))
    (root_slots T.entries T.used)

-- the lines S, and behind them those that start at the weight w
abbrev pub starts_now : ℕ → Tables → List Rooted → List Start → List Start
starts_now w T A S = S ++ map (λ b. b.start) (begun_lines w T A)
