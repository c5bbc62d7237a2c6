-- The second pass over the levels of a sheet: what holds before each level, and that after the last one the output holds the tree. Assumes nothing.
use mathlib.Core.Path.{◌≡◌, refl, sym, ap, ap₂, ◌∙◌, subst, subst⁻¹}
use mathlib.Core.Bool.{cond}
use mathlib.Core.List.{List, [], ◌∷◌, ◌++◌, map}
use Prim.Native.Nat.{ℕ, suc, ◌+◌, ◌*◌, ◌≤◌, ◌<◌, ◌^◌}
use native.Mathlib.Omega.{arith}
use lib.ListN.{length, take, drop, length-append, length-map, length-drop}
use lib.Seq.{drop-drop}
use Rattle.sets.specs.Value.{row}
use Rattle.percolation.specs.Links.{Link}
use Rattle.percolation.specs.Levels.{levels}
use Rattle.percolation.specs.Tree.{Start, Line, goes_into, tree, tree_bytes}
use Rattle.percolation.proofs.Growth.{no_start}
use Rattle.slots.specs.Tables.{Tables, tables, root_of}
use Rattle.listings.specs.Model.{root_slots}
use Rattle.runs.specs.Model.{rows_with}
use Rattle.tree_theory.specs.Model.{Rooted, rooted, Begun, ending_at, starts_line, begun_lines, line_number, only_number, rooted_now}
use Rattle.tree_lines.specs.LineModel.{line_length, lines_with}
use Rattle.tree_levels.specs.LevelModel.{join_counts, start_lines, wiped, Numbering, numbers_of, went_into, grew_to, WritesLevel}
use Rattle.tree_theory.proofs.RootsRest.{levels_end}
use Rattle.tree_theory.proofs.ByRoots.{Grown, grown_bytes, grown_count, grown_fits}
use Rattle.tree_lines.proofs.LineFields.{lines_same}
use Rattle.tree_theory.proofs.ClassCounts.{Turned}
use Rattle.sets.proofs.ListLaws.{map_at}
use Rattle.tree_theory.proofs.BegunSlots.{slots_in}
use Rattle.tree_theory.proofs.LevelLines.{lines_agree, slot_lines}
use Rattle.tree_theory.proofs.RootsLines.{shown_whole, lines_shown}
use Rattle.tree_theory.proofs.LevelStep.{with_slots, level_numbers, slots_olds, slots_news, step_into, step_ends, step_stored}
use Rattle.tree_theory.proofs.LinesGrown.{step_wholes}
use Rattle.tree_theory.proofs.LevelKept.{SameEnds, emptied}
use Rattle.tree_passes.proofs.TreePasses.{NextLevel, Passed, with_links, starts_in, past_same, past_all, level_turned, level_bounded, level_shows}
use Rattle.tree_passes.proofs.TreePasses.{level_positive, level_grown, level_past, level_passed, level_count}

-- before link i, in the tables T, with n lines in the output, which held `old` before
pub record Writing (L : List Link) (p k i : ℕ) (R : List ℕ) (T : Tables) (old : List ℕ) (n : ℕ) (out : List ℕ) : Type 0 where
  pub classes : List Rooted
  pub starts : List Start
  pub passed : Passed L p k i R T classes starts
  pub count : n ≡ length starts
  -- the number of the line of each class stands at the slot after its end
  pub number : ℕ → ℕ
  pub numbers : classes ≡ map (λ r. rooted r (number r)) (root_slots T.entries T.used)
  pub stored : (r : ℕ) → r < T.used → root_of T.entries r ≡ r → row T.smallest (suc r) ≡ number r
  -- each line with the union of the last level so far at which it is a line of its own
  pub bytes : out ≡ tree_bytes (lines_shown L p k passed.grown.past starts) ++ drop (length starts * line_length) old

module _ (L : List Link) (p k i j w : ℕ) (v : NextLevel L p k i j w) (old : List ℕ) (enough : length (tree L p k) * line_length ≤ length old)
    (small : length old < 2 ^ 64) (R : List ℕ) (T : Tables) (n : ℕ) (out : List ℕ) (h : Writing L p k i R T old n out) where
  abbrev U : Tables
  U = with_links L k i j R T

  abbrev A : List Rooted
  A = h.classes

  abbrev S : List Start
  S = h.starts

  abbrev B : List Begun
  B = begun_lines w U A

  abbrev X : List Start
  X = map (λ b. b.start) B

  abbrev sl : List ℕ
  sl = slots_in B

  abbrev g : ℕ → ℕ
  g = with_slots (λ i. goes_into i 1 S) (length S) sl

  abbrev cs : List ℕ
  cs = join_counts U.entries U.unions T.used

  abbrev N : ℕ → Numbering
  N x = numbers_of T.used (length S) x g U.smallest cs

  -- the unions that stand first: those of the lines so far, then those of the new lines at their start
  abbrev u0 : ℕ → ℕ
  u0 = shown_whole L p k h.passed.grown.past S

  abbrev wl : List ℕ
  wl = map (row U.unions) sl

  abbrev u : ℕ → ℕ
  u = with_slots u0 (length S) wl

  turned : Turned T U
  turned = level_turned L p k i j w v R T A S h.passed

  new : Grown L p k U (rooted_now w (length S) U A) (S ++ X) (levels (drop j L))
  new = level_grown L p k i j w v R T A S h.passed

  past_is : new.past ≡ h.passed.grown.past ++ (w ∷ [])
  unfolding new
  past_is = level_past L p k i j w v R T A S h.passed

  count_x : length X ≡ length B
  count_x = length-map B (λ (b : Begun). b.start)

  count_sl : length sl ≡ length B
  count_sl = length-map B (λ (b : Begun). b.slot)

  total : length (S ++ X) ≡ length S + length X
  total = length-append S X

  within : length (S ++ X) ≤ length (tree L p k)
  within = grown_fits L p k U (rooted_now w (length S) U A) (S ++ X) (levels (drop j L)) new

  many : length S + length B < 2 ^ 64
  many = omega (arith, within, total, count_x, enough, small)

  -- what stood before
  before_lines : lines_with (λ i. goes_into i 1 S) u0 1 S ≡ lines_with g u 1 S
  before_lines =
      sym (lines_same g u (λ i. goes_into i 1 S) u0 1 S
      (λ x l m. (slots_olds (λ i. goes_into i 1 S) (length S) sl x (omega arith), slots_olds u0 (length S) wl x (omega arith))))

  none : Begun
  none = record { slot = 0; start = no_start }

  new_lines : start_lines w U.entries U.smallest cs T.used U.used ≡ lines_with g u (1 + length S) X
  new_lines =
      lines_agree T U turned h.number A h.numbers w
      ∙ sym (slot_lines U.unions g u (1 + length S) B none (λ x l.
      let z : 1 + length S + x ≡ suc (length S + x) = omega arith in
      let e = map_at (λ (b : Begun). b.slot) B x none 0 l in (
        ap g z ∙ slots_news (λ i. goes_into i 1 S) (length S) sl x ∙ e,
        ap u z ∙ slots_news u0 (length S) wl x ∙ map_at (row U.unions) sl x 0 0 (omega (arith, l, count_sl)) ∙ ap (row U.unions) e,
      )))

  rest : List ℕ
  rest = drop (length S * line_length) old

  room_left : length X * line_length ≤ length rest
  unfolding rest
  room_left = omega (arith, length-drop (length S * line_length) old, within, total, enough)

  module _ (ms us next : List ℕ)
      (level : WritesLevel T.used U.used w (length S) U.entries U.smallest (join_counts U.entries U.unions T.used) out ms us next) where
    wrote : (ms ≡ (N (length X)).smallest) × (us ≡ wiped U.entries (N (length X)).unions U.used)
        × (next ≡ tree_bytes (lines_with (went_into U.entries (N (length X)).smallest (N (length X)).unions (N (length X)).into T.used)
        (grew_to U.entries (N (length X)).smallest (N (length X)).unions u U.used) 1 (S ++ X)) ++ drop (length X * line_length) rest)
    unfolding rest
    wrote = level g u S X rest (h.bytes ∙ ap (λ (Y : List Line). tree_bytes Y ++ rest) before_lines) refl new_lines room_left

    same : length X ≡ length sl
    same = count_x ∙ sym count_sl

    ends : SameEnds U (level_numbers T.used w U A S).smallest (level_numbers T.used w U A S).unions
    ends =
        step_ends L p k w T U turned h.number A h.numbers h.stored S (levels (drop i L)) (levels (drop j L)) h.passed.grown new many
        (level_bounded L p k i j w v R T A S h.passed)

    small_is : ms ≡ (level_numbers T.used w U A S).smallest
    small_is = wrote.0 ∙ ap (λ (x : ℕ). (N x).smallest) same

    union_is : us ≡ wiped U.entries (level_numbers T.used w U A S).unions U.used
    union_is = wrote.1 ∙ ap (λ (x : ℕ). wiped U.entries (N x).unions U.used) same

    -- each line goes where the definition says, and shows the union that it says
    lines : lines_with (went_into U.entries (N (length X)).smallest (N (length X)).unions (N (length X)).into T.used)
        (grew_to U.entries (N (length X)).smallest (N (length X)).unions u U.used) 1 (S ++ X)
        ≡ lines_shown L p k new.past (S ++ X)
    lines =
        ap (λ (x : ℕ). lines_with (went_into U.entries (N x).smallest (N x).unions (N x).into T.used)
        (grew_to U.entries (N x).smallest (N x).unions u U.used) 1 (S ++ X)) same
        ∙ lines_same _ _ (λ i. goes_into i 1 (S ++ X)) (shown_whole L p k new.past (S ++ X)) 1 (S ++ X)
        (λ m a b. (
          step_into L p k w T U turned h.number A h.numbers h.stored S (levels (drop i L)) (levels (drop j L)) h.passed.grown new many
              m a (omega arith),
          step_wholes L p k w T U turned h.number A h.numbers h.stored S (levels (drop i L)) (levels (drop j L)) h.passed.grown new many
              (level_bounded L p k i j w v R T A S h.passed) (omega (arith, v.two)) (level_shows L p k i j w v R T A S h.passed)
              (level_positive L p k i j w v R T A S h.passed) past_is u (λ x l z. slots_olds u0 (length S) wl x z) m a (omega arith),
        ))

    left_over : drop (length X * line_length) rest ≡ drop (length (S ++ X) * line_length) old
    unfolding rest
    left_over =
        drop-drop (length X * line_length) (length S * line_length) old
        ∙ ap (λ (x : ℕ). drop x old)
        (let z : length S * line_length + length X * line_length ≡ length (S ++ X) * line_length =
        omega (arith, ap (λ (y : ℕ). y * line_length) total) in z)

    written : (n' : ℕ) → n' ≡ n + starts_in T.used U
        → Writing L p k j (rows_with R (drop i (take j L))) (emptied U (level_numbers T.used w U A S).smallest (level_numbers T.used w U A S).unions) old n'
        next
    unfolding rooted_now
    written n' e = record {
      classes = rooted_now w (length S) U A;
      starts = S ++ X;
      passed = level_passed L p k i j w v R T A S h.passed _ _ ends;
      count = level_count L p k i j w v R T A S h.passed n n' h.count e;
      number = λ r. cond (starts_line U.entries A r) (line_number r (length S) B) (only_number (ending_at U.entries A r));
      numbers = refl;
      stored = step_stored L p k w T U turned h.number A h.numbers h.stored S (levels (drop i L)) (levels (drop j L)) h.passed.grown new many;
      bytes = wrote.2 ∙ ap₂ (λ (Y : List Line) (t : List ℕ). tree_bytes Y ++ t) lines left_over
          ∙ ap (λ (E : List ℕ). tree_bytes (lines_shown L p k E (S ++ X)) ++ drop (length (S ++ X) * line_length) old)
          (past_same L p k U _ (rooted_now w (length S) U A) (rooted_now w (length S) U A) (S ++ X) (S ++ X) (levels (drop j L)) (levels (drop j L)) new
          (level_passed L p k i j w v R T A S h.passed _ _ ends).grown refl);
    }

    pub written_next : (n' : ℕ) → n' ≡ n + starts_in T.used U
        → Writing L p k j (rows_with R (drop i (take j L))) (tables U.sets U.entries ms us U.used) old n' next
    written_next n' e =
        subst⁻¹ (λ (x : List ℕ). Writing L p k j (rows_with R (drop i (take j L))) (tables U.sets U.entries x us U.used) old n' next) small_is
        (subst⁻¹ (λ (x : List ℕ). Writing L p k j (rows_with R (drop i (take j L)))
        (tables U.sets U.entries (level_numbers T.used w U A S).smallest x U.used) old n' next) union_is
        (written n' e))

-- with the tables and rows as the code has them
pub writing_step : (L : List Link) (p k i j w : ℕ) → NextLevel L p k i j w → (old : List ℕ) → length (tree L p k) * line_length ≤ length old
    → length old < 2 ^ 64 → (R : List ℕ) (T : Tables) (n : ℕ) (out : List ℕ) → Writing L p k i R T old n out
    → (U : Tables) (R' ms us next : List ℕ) (n' w' : ℕ) → U ≡ with_links L k i j R T → R' ≡ rows_with R (drop i (take j L)) → w' ≡ w
    → n' ≡ n + starts_in T.used U → WritesLevel T.used U.used w' n U.entries U.smallest (join_counts U.entries U.unions T.used) out ms us next
    → Writing L p k j R' (tables U.sets U.entries ms us U.used) old n' next
writing_step L p k i j w v old enough small R T n out h U R' ms us next n' w' eu er ew en level =
    subst⁻¹ (λ (x : List ℕ). Writing L p k j x (tables U.sets U.entries ms us U.used) old n' next) er
    (subst⁻¹ (λ (Y : Tables). (n' ≡ n + starts_in T.used Y)
    → WritesLevel T.used Y.used w (length h.starts) Y.entries Y.smallest (join_counts Y.entries Y.unions T.used) out ms us next
    → Writing L p k j (rows_with R (drop i (take j L))) (tables Y.sets Y.entries ms us Y.used) old n' next) eu
    (λ e l. written_next L p k i j w v old enough small R T n out h ms us next l n' e) en
    (subst (λ (x : ℕ). WritesLevel T.used U.used x (length h.starts) U.entries U.smallest (join_counts U.entries U.unions T.used) out ms us next) ew
    (subst (λ (x : ℕ). WritesLevel T.used U.used w' x U.entries U.smallest (join_counts U.entries U.unions T.used) out ms us next) h.count level)))

pub writing_few : (L : List Link) (p k i : ℕ) (R : List ℕ) (T : Tables) (old : List ℕ) (n : ℕ) (out : List ℕ) → Writing L p k i R T old n out
    → n ≤ length (tree L p k)
writing_few L p k i R T old n out h = omega (arith, h.count, grown_fits L p k T h.classes h.starts (levels (drop i L)) h.passed.grown)

pub writing_end : (L : List Link) (p k i : ℕ) (R : List ℕ) (T : Tables) (old : List ℕ) (n : ℕ) (out : List ℕ) → length L ≤ i → Writing L p k i R T old n out
    → out ≡ tree_bytes (tree L p k) ++ drop (length (tree L p k) * line_length) old
writing_end L p k i R T old n out l h =
    let g : Grown L p k T h.classes h.starts [] = subst (λ (W : List ℕ). Grown L p k T h.classes h.starts W) (levels_end L i l) h.passed.grown in
    h.bytes
    ∙ ap (λ (E : List ℕ). tree_bytes (lines_shown L p k E h.starts) ++ drop (length h.starts * line_length) old)
    (past_all L p k T h.classes h.starts (levels (drop i L)) h.passed.grown (levels_end L i l))
    ∙ ap₂ (λ (t : List ℕ) (x : ℕ). t ++ drop (x * line_length) old) (grown_bytes L p k T h.classes h.starts g) (grown_count L p k T h.classes h.starts g)
