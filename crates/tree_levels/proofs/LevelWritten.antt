-- A level's steps one after the other: its lines put, numbered, joined lines sent into them, and what each line grew to. Assumes nothing.
use mathlib.Core.Path.{◌≡◌, sym, ap, ap₂, ◌∙◌, subst}
use mathlib.Core.List.{List, [], ◌++◌, append-nil}
use Prim.Native.Nat.{ℕ, ◌+◌, ◌-◌, ◌*◌, ◌^◌, ◌≤◌, ◌<◌, min}
use native.Mathlib.Omega.{arith}
use lib.ListN.{length, take, drop, length-append}
use lib.Seq.{take_at, drop_at}
use Rattle.percolation.specs.Tree.{Line, tree_bytes}
use Rattle.tree_levels.specs.declared.Level.{Level}
use Rattle.tree_levels.specs.declared.Ends.{Ends}
use Rattle.tree_levels.specs.Kept.{KeepsEnds}
use Rattle.tree_lines.specs.LineModel.{line_length, line_count, lines_with, holding}
use Rattle.tree_levels.specs.LevelModel.{join_counts, start_slots, wiped, Numbering, numbers_of, went_into, grew_to, WentTo, GrewTo, FilledTo, NumbersTo}
use Rattle.tree_levels.specs.LevelModel.{WritesLevel}
use Rattle.tree_lines.proofs.LinePlaces.{tree_append, tree_length}
use Rattle.tree_lines.proofs.LineFields.{lines_length, lines_append}
use Rattle.tree_levels.proofs.LineFilling.{starts_length}

-- the numbers, the joins and the unions are written in the first `end` bytes: those of m lines, where the output has them
module _ (b used w n : ℕ) (es ms us old cs out1 ms2 us2 in2 in3 in4 us3 : List ℕ) (m end : ℕ) (counted : cs ≡ join_counts es us b)
    (total : m ≡ n + length (start_slots es cs b used)) (put : FilledTo w es ms cs b used old n used out1)
    (first : end ≡ min (min (m * line_length) (2 ^ 64 - 1)) (length out1)) (narrow : length out1 < 2 ^ 64)
    (numbers : NumbersTo b n (line_count (take end out1) - n) ms cs (take end out1) (line_count (take end out1)) ms2 us2 in2)
    (length_2 : length in2 ≡ length (take end out1))
    (went : WentTo es ms2 us2 in2 (line_count in2) b in3) (length_3 : length in3 ≡ length in2)
    (grew : GrewTo es ms2 us2 in3 (line_count in3) used in4) (wipes : us3 ≡ wiped es us2 used) where
  written : WritesLevel b used w n es ms cs old ms2 us3 (in4 ++ drop end out1)
  written g u S X rest e l lines fit = (h.1, wipes ∙ ap (λ (x : List ℕ). wiped es x used) h.2, bytes)
    where
      c : ℕ
      c = length (start_slots es cs b used)

      many : c ≡ length X
      many = sym (starts_length w es ms cs b used) ∙ ap length lines ∙ lines_length g u (1 + n) X

      tail : List ℕ
      tail = drop (length X * line_length) rest

      long : length (S ++ X) ≡ m
      long = omega (arith, length-append S X, l, many, total)

      room : c * line_length ≤ length rest
      room = omega (arith, fit, ap (λ (x : ℕ). x * line_length) many)

      placed : out1 ≡ holding g u (S ++ X) tail
      placed =
          put (lines_with g u 1 S) rest e (lines_length g u 1 S ∙ l) room
          ∙ ap₂ (λ (Y : List Line) (x : ℕ). tree_bytes (lines_with g u 1 S) ++ tree_bytes Y ++ drop (x * line_length) rest) lines many
          ∙ ap (λ (t : List ℕ). t ++ tail) (sym (ap tree_bytes (lines_append g u 1 S X ∙ ap (λ (x : ℕ). lines_with g u 1 S ++ lines_with g u (1 + x) X) l)
          ∙ tree_append (lines_with g u 1 S) (lines_with g u (1 + n) X)))

      -- the lines themselves, and what is behind them
      L : List ℕ
      L = tree_bytes (lines_with g u 1 (S ++ X))

      size : length L ≡ m * line_length
      size = omega (arith, tree_length (lines_with g u 1 (S ++ X)), lines_length g u 1 (S ++ X), long)

      end_is : length L ≡ end
      end_is = omega (arith, size, first, narrow, ap length placed, length-append L tail)

      behind : drop end out1 ≡ tail
      behind = ap (drop end) placed ∙ drop_at L tail end end_is

      inside : take end out1 ≡ holding g u (S ++ X) []
      inside = ap (take end) placed ∙ take_at L tail end end_is ∙ sym (append-nil L)

      count_1 : line_count (take end out1) ≡ m
      count_1 = omega (arith, ap length (inside ∙ append-nil L), size)

      N : Numbering
      N = numbers_of b n (length X) g ms cs

      h : (in2 ≡ holding N.into u (S ++ X) []) × (ms2 ≡ N.smallest) × (us2 ≡ N.unions)
      h =
          subst (λ (x : ℕ). NumbersTo b n x ms cs (take end out1) (line_count (take end out1)) ms2 us2 in2)
          (let z : line_count (take end out1) - n ≡ length X = omega (arith, count_1, many, total) in z) numbers g u (S ++ X) [] inside
          (long ∙ sym count_1)

      bytes : in4 ++ drop end out1
          ≡ holding (went_into es N.smallest N.unions N.into b) (grew_to es N.smallest N.unions u used) (S ++ X) tail
      bytes =
          ap₂ (λ (x y : List ℕ). x ++ y)
          (grew (went_into es ms2 us2 N.into b) u (S ++ X) []
          (went N.into u (S ++ X) [] h.0 (omega (arith, long, count_1, length_2)))
          (omega (arith, long, count_1, length_2, length_3))
          ∙ ap₂ (λ (x y : List ℕ). holding (went_into es x y N.into b) (grew_to es x y u used) (S ++ X) []) h.1 h.2
          ∙ append-nil _)
          behind

  pub level_written : WritesLevel b used w n es ms (join_counts es us b) old ms2 us3 (in4 ++ drop end out1)
  level_written = subst (λ (x : List ℕ). WritesLevel b used w n es ms x old ms2 us3 (in4 ++ drop end out1)) counted written

-- with the tables as the code has them: T, counted in C, numbered in N, wiped in W, which leaves ms4 and us4
pub level_wrote : (v : Level) (used n m end : ℕ) (T C N W : Ends) (old out1 in2 in3 in4 ms4 us4 : List ℕ)
    → KeepsEnds T C → C.smallest.now ≡ T.smallest.now → C.unions.now ≡ join_counts T.entries.now T.unions.now v.before
    → m ≡ n + length (start_slots C.entries.now C.unions.now v.before used)
    → FilledTo v.weight C.entries.now C.smallest.now C.unions.now v.before used old n used out1
    → end ≡ min (min (m * line_length) (2 ^ 64 - 1)) (length out1) → length out1 < 2 ^ 64 → KeepsEnds C N
    → NumbersTo v.before n (line_count (take end out1) - n) C.smallest.now C.unions.now (take end out1) (line_count (take end out1))
    N.smallest.now N.unions.now in2
    → length in2 ≡ length (take end out1)
    → WentTo N.entries.now N.smallest.now N.unions.now in2 (line_count in2) v.before in3 → length in3 ≡ length in2
    → GrewTo N.entries.now N.smallest.now N.unions.now in3 (line_count in3) used in4
    → W.smallest.now ≡ N.smallest.now → W.unions.now ≡ wiped N.entries.now N.unions.now used → ms4 ≡ W.smallest.now → us4 ≡ W.unions.now
    → WritesLevel v.before used v.weight n T.entries.now T.smallest.now (join_counts T.entries.now T.unions.now v.before) old ms4 us4 (in4 ++ drop end out1)
level_wrote v used n m end T C N W old out1 in2 in3 in4 ms4 us4 same cs counted total put first narrow kept numbers l2 went l3 grew ws wipes left_s left_u =
    let ce : C.entries.now ≡ T.entries.now = same.entries in
    let ne : N.entries.now ≡ T.entries.now = kept.entries ∙ ce in
    rw (left_s, left_u, ws)
    (level_written v.before used v.weight n T.entries.now T.smallest.now T.unions.now old C.unions.now out1 N.smallest.now N.unions.now in2 in3 in4
    W.unions.now m end counted (rw ce at total) (rw (ce, cs) at put) first narrow (rw cs at numbers) l2 (rw ne at went) l3
    (rw ne at grew) (rw ne at wipes))
