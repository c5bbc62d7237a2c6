-- The sheet made from an accepted dump: the weights fit, the reader accepts it and finds the links sorted, the part count and the names; its weights add up
-- to the pairs of the rows; and what the call wrote, the reader reads. Assumes nothing.
use mathlib.Core.Path.{◌≡◌, sym, ap, ap₂, ◌∙◌, subst}
use mathlib.Core.Bool.{true}
use mathlib.Core.List.Memᴰ
use mathlib.Core.List.{List, map}
use Prim.Native.Nat.{ℕ, ◌*◌, ◌≤◌}
use native.Mathlib.Omega.{arith}
use lib.Dec.{leb}
use lib.ListN.{length, take, drop, length-drop}
use lib.Seq.{length-take-le}
use Rattle.answers.specs.Answers.{Answer}
use Rattle.answers.specs.Verdict.{Verdict, accepted, refused, unless, written}
use Rattle.answers.specs.Answers.{counts, says, say_of}
use Rattle.answers.proofs.Laws.{then_left, then_stop, then_go, said_count, say_refused, written_refused}
use Rattle.sets.specs.Lists.{◌∈◌, below}
use Rattle.sets.specs.Sets.{full, sub}
use Rattle.sets.proofs.ListLaws.{below_of}
use Rattle.link_order.specs.Order.{sort_links}
use Rattle.part_names.specs.Names.{eight_at, AllDiffer}
use Rattle.part_names.proofs.Form.{names_again, names_distinct, eight_inside}
use Rattle.std.specs.Prelude.{Result, Err}
use Rattle.answers.specs.declared.Refusal.{Refusal}
use Rattle.answers.specs.Faults.{number_of}
use Rattle.sheet.specs.declared.Counts.{Counts as Read}
use Rattle.sheet.specs.Sheet.{head_length, parts, list_of, links_of, check_sheet}
use Rattle.sheet.specs.Network.{Network}
use Rattle.sheet.specs.Answers.{holds, sheet_says}
use Rattle.sheet.proofs.Lists.{list_of_length}
use Rattle.sheet_reader.specs.Reading.{room_for, ReadMeets}
use Rattle.sheet_writer.specs.Writing.{WriteMeets}
use Rattle.sheet_writer.specs.RoundTrip.{Bytes, Filled}
use Rattle.percolation.specs.Weights.{sum, weight_sum}
use Rattle.made.specs.Made.{Named, Proper, weighed, weight_at, made_network}
use Rattle.made.proofs.Weighed.{weighed_proper}
use Rattle.made.proofs.Sheets.{made_meets, made_read, made_sum, made_wrote, made_again}
use Rattle.dump_theory.specs.Rows.{together, pairs_in}
use Rattle.dump_theory.specs.Model.{Counts}
use Rattle.dump_theory.proofs.RowSums.{together_most, rows_sum}
use Rattle.dump_theory.proofs.Counted.{counts_weighed}
use Rattle.dump.specs.Dump.{dump_parts, rows_in, dump_name_at, dump_name, dump_names, row_of, tripped, links_from, sheet_from, check_dump, check_make, MakeMeets}
use Rattle.dump.proofs.Accepted.{front_length, front_count, front_most, dump_front, dump_names_lem, dump_within}

-- ---- rows

pub tripped_length : (d : List ℕ) → length (tripped d) ≡ rows_in d
unfolding tripped
tripped_length d = list_of_length (row_of d) (rows_in d)

-- no more rows than 16 bits count, so that each weight is one that a sheet can have
pub dump_weights : (d : List ℕ) → Bytes d → (q r : ℕ) → together (tripped d) q r ≤ 65535
dump_weights d b q r = omega (arith, together_most (tripped d) q r, tripped_length d, b.small 6, b.small 7)

pub tripped_within : (d : List ℕ) → check_dump d ≡ accepted → (s : ℕ) → s ∈ tripped d → sub s (full (dump_parts d)) ≡ true
unfolding tripped list_of
tripped_within d e s m =
    let r = Memᴰ.of_map (row_of d) (below (rows_in d)) m in
    subst (λ (x : ℕ). sub x (full (dump_parts d)) ≡ true) r.2 (dump_within d e r.0 (below_of (rows_in d) r.1))

-- ---- the sheet

module _ (d : List ℕ) (e : check_dump d ≡ accepted) where
  names_long : length (dump_names d) ≡ 8 * dump_parts d
  names_long = length-take-le (8 * dump_parts d) (drop 8 d) (omega (arith, length-drop 8 d, front_length d (dump_front d e)))

  pub dump_named : Named (dump_names d) (dump_parts d)
  dump_named = record {
    count = front_count d (dump_front d e);
    long = names_long;
    passed = names_again (dump_name d) (λ q. eight_at (dump_names d) (8 * q)) dump_name_at (λ q. 0) (dump_parts d)
        (λ q h. sym (eight_inside d 8 (8 * dump_parts d) (8 * q) (omega arith))) (dump_names_lem d e);
  }

  -- what is left to check
  make_is : (room : ℕ) → check_make d room ≡ unless (leb (length (sheet_from d)) room) 16 0
  unfolding check_make
  make_is room = then_go (check_dump d) (unless (leb (length (sheet_from d)) room) 16 0) e

  module _ (b : Bytes d) where
    pub dump_proper : Proper (dump_parts d) (links_from d)
    unfolding links_from
    dump_proper = weighed_proper (together (tripped d)) (dump_weights d b) (dump_parts d)

    -- the reader accepts the sheet, and finds the links by falling weight, then lower, then higher part, the part count and the names
    pub dump_read : (check_sheet (sheet_from d) ≡ accepted) × (links_of (sheet_from d) ≡ sort_links (links_from d)) × (parts (sheet_from d) ≡ dump_parts d)
        × (take (8 * parts (sheet_from d)) (drop head_length (sheet_from d)) ≡ dump_names d)
    unfolding sheet_from
    dump_read = made_read (dump_names d) (links_from d) (dump_parts d) dump_named dump_proper

    -- its weights add up to the pairs of parts of all rows
    pub dump_sum : weight_sum (links_of (sheet_from d)) ≡ sum (map pairs_in (tripped d))
    unfolding sheet_from links_from
    dump_sum =
        made_sum (dump_names d) (links_from d) (dump_parts d) dump_named dump_proper ∙ rows_sum (tripped d) (dump_parts d) (tripped_within d e)

    -- ---- what the call does

    -- from the counts of all rows, and the names as the code lends them
    pub make_meets : (C old out : List ℕ) (r : Answer) (p m : ℕ) → Counts (tripped d) C → p ≡ dump_parts d → m ≡ 8 * p
        → WriteMeets (made_network (take m (drop 8 d)) (weighed (weight_at C) p)) old r out → MakeMeets d old r out
    unfolding sheet_from links_from
    make_meets C old out r p m c f l w =
        let names : take m (drop 8 d) ≡ dump_names d = ap (λ (k : ℕ). take k (drop 8 d)) (l ∙ ap (λ (k : ℕ). 8 * k) f) in
        let same : weighed (weight_at C) p ≡ links_from d =
        ap (weighed (weight_at C)) f ∙ counts_weighed (tripped d) C (dump_parts d) c (front_most d (dump_front d e)) in
        let g = subst (λ (n : Network). WriteMeets n old r out) (ap₂ made_network names same) w in
        let h = made_meets (dump_names d) (links_from d) (dump_parts d) dump_named dump_proper old out r g in
        record {
          answer = h.0 ∙ ap (λ (v : Verdict). say_of v (length (sheet_from d))) (sym (make_is (length old)));
          bytes = h.1 ∙ ap (λ (v : Verdict). written v (sheet_from d) old) (sym (make_is (length old)));
        }

-- a refused dump
pub make_refused : (d old : List ℕ) (n a : ℕ) (r : Answer) → check_dump d ≡ refused n a → says r ≡ say_of (refused n a) 0 → MakeMeets d old r old
unfolding check_make say_of
make_refused d old n a r e s =
    let v = then_stop (check_dump d) (unless (leb (length (sheet_from d)) (length old)) 16 0) n a e in
    record { answer = s ∙ sym (say_refused (check_make d (length old)) (length (sheet_from d)) n a v); bytes = sym (written_refused _ _ old n a v) }

-- as the code hands it on
pub make_stopped : (d old : List ℕ) (r : Answer) (x : Refusal) → r ≡ Err x → check_dump d ≡ refused (number_of x.fault) x.place → MakeMeets d old r old
unfolding say_of
make_stopped d old r x e f = make_refused d old (number_of x.fault) x.place r f (ap says e)

-- ---- over the contracts: what the call wrote, the reader reads into lists with room

module _ (d : List ℕ) (b : Bytes d) (out out' : List ℕ) (w : Answer) (c : ℕ) (made : MakeMeets d out w out') (said : says w ≡ counts c) where
  passed : check_make d (length out) ≡ accepted
  passed = (said_count (check_make d (length out)) (length (sheet_from d)) c (sym said ∙ made.answer)).0

  ok : check_dump d ≡ accepted
  unfolding check_make
  ok = then_left (check_dump d) (unless (leb (length (sheet_from d)) (length out)) 16 0) passed

  pub dump_again : (old new : Network) (r : Result Read Refusal) → ReadMeets (take c out') old r new → room_for (dump_parts d) (length (links_from d)) old ≡ true
      → (sheet_says r ≡ holds (dump_parts d) (length (links_from d))) × Filled (made_network (dump_names d) (links_from d)) old new
  unfolding sheet_from
  dump_again =
      let n = dump_named d ok in
      let fine = dump_proper d ok b in
      made_again (dump_names d) (links_from d) (dump_parts d) n fine out out' w c
      (made_wrote (dump_names d) (links_from d) (dump_parts d) n fine out out' w (check_make d (length out)) (make_is d ok (length out))
      made.answer made.bytes)
      said

  -- no two names of a dump that a sheet is made from are equal
  pub dump_distinct : AllDiffer (dump_name d) (dump_parts d)
  dump_distinct = names_distinct (dump_name d) dump_name_at (dump_parts d) (dump_names_lem d ok)
