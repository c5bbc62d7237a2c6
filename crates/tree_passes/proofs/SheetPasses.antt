-- The passes over an admitted sheet: its levels one after the other. Assumes nothing.
use mathlib.Core.Path.{◌≡◌, refl, sym, ap, ap₂, ◌∙◌, subst, subst⁻¹}
use mathlib.Core.Bool.{true}
use mathlib.Core.List.{List, [], ◌++◌}
use Prim.Native.Nat.{ℕ, ◌+◌, ◌*◌, ◌^◌, ◌≤◌, ◌<◌}
use native.Mathlib.Omega.{arith}
use lib.ListN.{length, take, drop}
use Rattle.answers.specs.Verdict.{accepted, written}
use Rattle.answers.proofs.Laws.{written_accepted}
use Rattle.sets.specs.Lists.{keep, below}
use Rattle.sets.specs.Value.{width, no_rows}
use Rattle.percolation.specs.Links.{Link, heavy, cliques, slots}
use Rattle.percolation.specs.Steps.{legal}
use Rattle.percolation.specs.Tree.{tree, tree_bytes}
use Rattle.listings.specs.Model.{root_slots}
use Rattle.percolation.proofs.Ranges.{good_k_lem}
use Rattle.checks.proofs.Near.{near_none}
use Rattle.slots.specs.Tables.{Tables, tables, room}
use Rattle.sheet.specs.Sheet.{parts, links, link_of, links_of, check_sheet}
use Rattle.sheet.proofs.Sound.{sheet_legal}
use Rattle.runs.specs.Lent.{check_call, cleared}
use Rattle.runs.proofs.Left.{cleared_room}
use Rattle.runs.proofs.Admitted.{call_sheet, call_k, call_level}
use Rattle.runs.proofs.InSheet.{parts_width, links_length, link_at_lem, links_few}
use Rattle.tree_lines.specs.LineModel.{line_length, lines_with}
use Rattle.tree_levels.specs.LevelModel.{wiped, WritesLevel}
use Rattle.tree_levels.specs.Kept.{KeepsList, counted, starting, with_unions}
use Rattle.slots.specs.declared.list.SlotList.{SlotList}
use Rattle.slots.specs.List.{slots_of, SameSlots}
use Rattle.tree_theory.proofs.RootsRest.{rest_further}
use Rattle.tree_theory.proofs.ByRoots.{grown_none}
use Rattle.tree_theory.proofs.LevelKept.{between_none}
use Rattle.tree_lines.proofs.LinePlaces.{tree_none, tree_length}
use Rattle.tree_passes.specs.Taken.{TakesLevel}
use Rattle.tree_passes.proofs.TreePasses.{NextLevel, Passed, Counting, counting_step, counting_end}
use Rattle.tree_passes.proofs.TreeWritten.{Writing, writing_step, writing_few, writing_end}

-- the level of link j goes on behind it
pub level_on : (s : List ℕ) → check_sheet s ≡ accepted → (j r t : ℕ) → j < links s → t ≡ (link_of s j).weight → take r (links_of s) ≡ heavy t (links_of s)
    → (j < r) × (take r (links_of s) ≡ heavy (link_of s j).weight (links_of s))
level_on s ok j r t l e f =
    let first : take r (links_of s) ≡ heavy (link_of s j).weight (links_of s) = f ∙ ap (λ (x : ℕ). heavy x (links_of s)) e in (
      rest_further (links_of s) r (link_of s j).weight first (parts s) j (link_of s j) (sheet_legal s ok) (omega (arith, links_length s))
          (ap (λ (x : Link). x.weight) (sym (link_at_lem s j (link_of s j) l))),
      first,
    )

-- a step of a walk over the same sheet
pub takes_same : (a b : List ℕ) (k l i j w : ℕ) (R Q : List ℕ) (V U : Tables) → a ≡ b → k ≡ l → TakesLevel a k i j w R Q V U → TakesLevel b l i j w R Q V U
takes_same a b k l i j w R Q V U e f t =
    subst (λ (x : List ℕ). TakesLevel x l i j w R Q V U) e (subst (λ (x : ℕ). TakesLevel a x i j w R Q V U) f t)

-- the list of slots after a level's end
module _ {l m : SlotList} (h : KeepsList l m) where
  pub kept_same : SameSlots l m
  kept_same = record { tables = h.tables; lent = h.kept.lent; more = omega (arith, h.used) }

  pub kept_tables : slots_of m ≡ tables (slots_of l).sets (slots_of l).entries (slots_of m).smallest (slots_of m).unions (slots_of l).used
  kept_tables =
      ap₂ (λ (x y : List ℕ). tables x y (slots_of m).smallest (slots_of m).unions m.used) h.kept.sets h.kept.entries
      ∙ ap (λ (n : ℕ). tables (slots_of l).sets (slots_of l).entries (slots_of m).smallest (slots_of m).unions n) h.used

module _ (s : List ℕ) (k : ℕ) (T : Tables) (ok : check_call s k T ≡ accepted)
    (fits : slots (parts s) k (cliques (links_of s) (parts s) k) ≤ room T.entries) where
  abbrev p : ℕ
  p = parts s

  abbrev L : List Link
  L = links_of s

  sheet : check_sheet s ≡ accepted
  sheet = call_sheet s k T ok

  lawful : legal p L ≡ true
  lawful = sheet_legal s sheet

  wide : p ≤ width
  wide = parts_width s sheet

  pub passes_two : 2 ≤ k
  passes_two = (good_k_lem k (call_k s k T ok)).0

  pub passes_few : links s ≤ width * width
  passes_few = links_few s sheet

  -- what a step of the walk takes is the next level
  pub next_level : (i j w : ℕ) (R Q : List ℕ) (V U : Tables) → TakesLevel s k i j w R Q V U → NextLevel (links_of s) (parts s) k i j w
  next_level i j w R Q V U t = record {
    wide = wide;
    two = passes_two;
    lawful = lawful;
    link = link_of s i;
    inside = omega (arith, links_length s, t.more, t.few);
    weighs = t.weighs ∙ ap (λ (x : Link). x.weight) (sym (link_at_lem s i (link_of s i) (omega (arith, t.more, t.few))));
    first = t.first;
  }

  -- before the first link
  passed_none : Passed L p k 0 no_rows (cleared T) [] []
  unfolding cleared
  passed_none = record {
    between = between_none p k T passes_two (call_level s k T ok);
    near = near_none;
    fits = omega (arith, fits, cleared_room T);
    grown = grown_none L p k (cleared T) refl;
  }

  pub counting_first : (R : List ℕ) (U : Tables) → R ≡ no_rows → U ≡ cleared T → Counting (links_of s) (parts s) k 0 R U 0
  counting_first R U er eu =
      subst (λ (X : List ℕ). Counting L p k 0 X U 0) (sym er)
      (subst (λ (X : Tables). Counting L p k 0 no_rows X 0) (sym eu) record { classes = []; starts = []; passed = passed_none; count = refl })

  pub counting_last : (i : ℕ) (R : List ℕ) (W : Tables) (c : ℕ) → links s ≤ i → Counting (links_of s) (parts s) k i R W c
      → c ≡ length (tree (links_of s) (parts s) k)
  counting_last i R W c l = counting_end L p k i R W c (omega (arith, links_length s))

  -- a level counted, where b slots were used before it
  pub counting_more : (i j w : ℕ) (R Q : List ℕ) (V U W : Tables) (n c b : ℕ) → Counting (links_of s) (parts s) k i R V n
      → TakesLevel s k i j w R Q V U → b ≡ V.used → c ≡ length (starting U b) → W ≡ with_unions U (wiped U.entries (counted U b) U.used)
      → Counting (links_of s) (parts s) k j Q W (n + c)
  counting_more i j w R Q V U W n c b h t e g l =
      subst⁻¹ (λ (X : Tables). Counting L p k j Q X (n + c)) l
      (counting_step L p k i j w (next_level i j w R Q V U t) R V n h U Q _ (n + c) t.tables t.rows
      (ap (λ (x : ℕ). n + x) (rw e at g)) (ap (λ (x : ℕ). wiped U.entries (counted U x) U.used) e))

  -- ---- the second pass

  module _ (old : List ℕ) (room_out : length (tree_bytes (tree (links_of s) (parts s) k)) ≤ length old) where
    pub writing_room : length (tree (links_of s) (parts s) k) * line_length ≤ length old
    writing_room = omega (arith, room_out, tree_length (tree L p k))

    pub writing_first : (R : List ℕ) (U : Tables) → R ≡ no_rows → U ≡ cleared T → Writing (links_of s) (parts s) k 0 R U old 0 old
    unfolding cleared lines_with root_slots keep below
    writing_first R U er eu =
        subst (λ (X : List ℕ). Writing L p k 0 X U old 0 old) (sym er)
        (subst (λ (X : Tables). Writing L p k 0 no_rows X old 0 old) (sym eu) record {
          classes = [];
          starts = [];
          passed = passed_none;
          count = refl;
          number = λ r. 0;
          numbers = refl;
          stored = λ r l e. absurd (omega arith);
          bytes = sym (ap (λ (t : List ℕ). t ++ old) tree_none);
        })

    -- a level written
    pub writing_more : length old < 2 ^ 64 → (i j w : ℕ) (R Q : List ℕ) (V U W : Tables) (n m b : ℕ) (out next : List ℕ)
        → Writing (links_of s) (parts s) k i R V old n out → TakesLevel s k i j w R Q V U → b ≡ V.used → m ≡ n + length (starting U b)
        → W ≡ tables U.sets U.entries W.smallest W.unions U.used
        → WritesLevel b U.used w n U.entries U.smallest (counted U b) out W.smallest W.unions next
        → Writing (links_of s) (parts s) k j Q W old m next
    writing_more small i j w R Q V U W n m b out next h t e g l z =
        subst⁻¹ (λ (X : Tables). Writing L p k j Q X old m next) l
        (writing_step L p k i j w (next_level i j w R Q V U t) old writing_room small R V n out h U Q W.smallest W.unions next m w t.tables t.rows refl
        (rw e at g) (rw e at z))

    -- the lines so far fit
    pub writing_bound : (i : ℕ) (R : List ℕ) (W : Tables) (n : ℕ) (out : List ℕ) → Writing (links_of s) (parts s) k i R W old n out
        → n * line_length ≤ length old
    writing_bound i R W n out h = omega (arith, writing_few L p k i R W old n out h, writing_room)

    pub writing_last : (i : ℕ) (R : List ℕ) (W : Tables) (n : ℕ) (out : List ℕ) → links s ≤ i → Writing (links_of s) (parts s) k i R W old n out
        → out ≡ written accepted (tree_bytes (tree (links_of s) (parts s) k)) old
    writing_last i R W n out l h =
        writing_end L p k i R W old n out (omega (arith, links_length s)) h
        ∙ ap (λ (x : ℕ). tree_bytes (tree L p k) ++ drop x old) (sym (tree_length (tree L p k)))
        ∙ sym (written_accepted accepted (tree_bytes (tree L p k)) old refl)
