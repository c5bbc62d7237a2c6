-- What both calls say and write, by what was checked, and what they tell together. Assumes nothing.
use mathlib.Core.Path.{◌≡◌, sym, ap, ap₂, ◌∙◌}
use mathlib.Core.List.{List, [], ◌++◌}
use Prim.Native.Nat.{ℕ, ◌+◌, ◌-◌, ◌*◌, ◌≤◌, ◌<◌}
use native.Mathlib.Omega.{arith}
use lib.Dec.{leb}
use lib.ListN.{length, get_or, drop, get_or-append}
use borrow.Author.Tests.{le-leb, lt-leb, leb-true}
use Rattle.std.specs.Prelude.{Ok, Err}
use Rattle.answers.specs.Faults.{number_of}
use Rattle.answers.specs.declared.Refusal.{Refusal}
use Rattle.answers.specs.Verdict.{Verdict, accepted, refused, unless}
use Rattle.answers.specs.Answers.{Answer, says, counts, refuses}
use Rattle.answers.proofs.Laws.{
  then_left,
  then_stop,
  then_go,
  last_go,
  last_stop,
  unless_passed,
  say_accepted,
  say_refused,
  said_count,
  said_refused,
  written_accepted,
  written_refused,
}
use Rattle.sets.proofs.ListLaws.{get_d_member}
use Rattle.sheet.specs.Sheet.{parts, check_sheet}
use Rattle.page.specs.Page.{line_count, page_rows, page_of, good_lines, check_page, check_put, RowsMeets, PageMeets}
use Rattle.page.specs.Model.{rows_from}
use Rattle.page.proofs.Filling.{replaced}
use Rattle.page.proofs.Sizes.{wide_at}
use Rattle.page.proofs.PageRows.{row_shape, page_length, page_count}

module _ (s b : List ℕ) where
  -- the sheet's own checks, then 24
  pub admit_stop : (n a : ℕ) → check_sheet s ≡ refused n a → refused n a ≡ check_page s b
  unfolding check_page
  admit_stop n a e = sym (then_stop (check_sheet s) (unless (good_lines (parts s) b) 24 0) n a e)

  pub admit_go : (v : Verdict) → check_sheet s ≡ accepted → v ≡ unless (good_lines (parts s) b) 24 0 → v ≡ check_page s b
  unfolding check_page
  admit_go v e f = f ∙ sym (then_go (check_sheet s) (unless (good_lines (parts s) b) 24 0) e)

  pub rows_refused : (x : Refusal) → check_page s b ≡ refused (number_of x.fault) x.place → RowsMeets s b (Err x)
  rows_refused x e = record { answer = sym (say_refused (check_page s b) (length (page_rows s b)) _ _ e) }

  pub rows_counted : (c n : ℕ) → check_page s b ≡ accepted → n ≡ line_count b → c ≡ rows_from b 0 n → RowsMeets s b (Ok c)
  rows_counted c n e f g = record {
    answer = ap counts (g ∙ ap (rows_from b 0) f ∙ sym (page_count s b e)) ∙ sym (say_accepted (check_page s b) (length (page_rows s b)) e);
  }

  -- then 16
  put_refused : (room n a : ℕ) → check_page s b ≡ refused n a → check_put s b room ≡ refused n a
  unfolding check_put
  put_refused room n a e = then_stop (check_page s b) (unless (leb (length (page_of s b)) room) 16 0) n a e

  module _ (room : ℕ) (ok : check_page s b ≡ accepted) where
    put_short : room < 73 * length (page_rows s b) → check_put s b room ≡ refused 16 0
    unfolding check_put
    put_short h =
        then_go (check_page s b) (unless (leb (length (page_of s b)) room) 16 0) ok
        ∙ last_stop (leb (length (page_of s b)) room) 16 0 (lt-leb (length (page_of s b)) room (omega (arith, h, page_length s b ok)))

    put_fits : 73 * length (page_rows s b) ≤ room → check_put s b room ≡ accepted
    unfolding check_put
    put_fits h =
        then_go (check_page s b) (unless (leb (length (page_of s b)) room) 16 0) ok
        ∙ last_go (leb (length (page_of s b)) room) 16 0 (le-leb (length (page_of s b)) room (omega (arith, h, page_length s b ok)))

  module _ (old : List ℕ) where
    meets_refused : (x : Refusal) → check_put s b (length old) ≡ refused (number_of x.fault) x.place → PageMeets s b old (Err x) old
    meets_refused x v = record {
      answer = sym (say_refused (check_put s b (length old)) (length (page_rows s b)) _ _ v);
      bytes = sym (written_refused (check_put s b (length old)) (page_of s b) old _ _ v);
    }

    pub page_refused : (x : Refusal) → check_page s b ≡ refused (number_of x.fault) x.place → PageMeets s b old (Err x) old
    page_refused x e = meets_refused x (put_refused (length old) _ _ e)

    module _ (c n : ℕ) (ok : check_page s b ≡ accepted) (f : n ≡ line_count b) (g : c ≡ rows_from b 0 n) where
      pub count_rows : c ≡ length (page_rows s b)
      count_rows = g ∙ ap (rows_from b 0) f ∙ sym (page_count s b ok)

      pub count_bytes : 73 * c ≡ length (page_of s b)
      count_bytes = omega (arith, count_rows, page_length s b ok)

      pub page_short : (x : Refusal) → refused (number_of x.fault) x.place ≡ unless (leb (73 * c) (length old)) 16 0 → PageMeets s b old (Err x) old
      unfolding check_put
      page_short x e =
          meets_refused x
          (then_go (check_page s b) _ ok ∙ ap (λ (m : ℕ). unless (leb m (length old)) 16 0) (sym count_bytes) ∙ sym e)

      -- with room for the rows
      pub room_passed : accepted ≡ unless (leb (73 * c) (length old)) 16 0 → 73 * c ≤ length old
      room_passed e = leb-true (73 * c) (length old) (unless_passed (leb (73 * c) (length old)) 16 0 (sym e))

      pub page_written : (new page : List ℕ) → 73 * c ≤ length old → page ≡ page_of s b → new ≡ replaced old 0 (73 * c) page → PageMeets s b old (Ok c) new
      page_written new page h p e =
          let v = put_fits (length old) ok (omega (arith, h, count_rows)) in
          record {
            answer = ap counts count_rows ∙ sym (say_accepted (check_put s b (length old)) (length (page_rows s b)) v);
            bytes =
                e ∙ ap₂ (λ (l : List ℕ) (k : ℕ). l ++ drop k old) p (let z : 73 * c - 0 ≡ length (page_of s b) = omega (arith, count_bytes) in z)
                ∙ sym (written_accepted (check_put s b (length old)) (page_of s b) old v);
          }

-- ---- what is told of lines that pass every check, whatever program meets the contract

module _ (s b : List ℕ) (ok : check_page s b ≡ accepted) where
  pub rows_told : (q : Answer) → RowsMeets s b q → says q ≡ counts (length (page_rows s b))
  rows_told q Q = Q.answer ∙ say_accepted (check_page s b) (length (page_rows s b)) ok

  module _ (old : List ℕ) (r : Answer) (out : List ℕ) (R : PageMeets s b old r out) where
    pub page_told : 73 * length (page_rows s b) ≤ length old
        → (says r ≡ counts (length (page_rows s b))) × (out ≡ page_of s b ++ drop (73 * length (page_rows s b)) old)
    page_told h =
        let v = put_fits s b (length old) ok h in (
          R.answer ∙ say_accepted (check_put s b (length old)) (length (page_rows s b)) v,
          R.bytes ∙ written_accepted (check_put s b (length old)) (page_of s b) old v ∙ ap (λ (n : ℕ). page_of s b ++ drop n old) (page_length s b ok),
        )

    pub short_told : length old < 73 * length (page_rows s b) → (says r ≡ refuses 16 0) × (out ≡ old)
    short_told h =
        let v = put_short s b (length old) ok h in (
          R.answer ∙ say_refused (check_put s b (length old)) (length (page_rows s b)) 16 0 v,
          R.bytes ∙ written_refused (check_put s b (length old)) (page_of s b) old 16 0 v,
        )

-- ---- what the call that writes tells

module _ (s b old : List ℕ) (r : Answer) (out : List ℕ) (R : PageMeets s b old r out) (n : ℕ) (e : says r ≡ counts n) where
  -- where rows are counted every check has passed, and they are the page's
  pub told_page : (check_page s b ≡ accepted) × (n ≡ length (page_rows s b)) × (out ≡ page_of s b ++ drop (length (page_of s b)) old)
  unfolding check_put
  told_page =
      let w = said_count (check_put s b (length old)) (length (page_rows s b)) n (sym e ∙ R.answer) in (
        then_left (check_page s b) (unless (leb (length (page_of s b)) (length old)) 16 0) w.0,
        w.1,
        R.bytes ∙ written_accepted (check_put s b (length old)) (page_of s b) old w.0,
      )

  -- the byte in column c of row i, both from 0
  row_byte : (i c : ℕ) → i < n → c < 73 → get_or out (73 * i + c) 0 ≡ get_or (get_or (page_rows s b) i []) c 0
  unfolding page_of
  row_byte i c h l =
      let ok = told_page.0 in
      let inside : 73 * i + c < length (page_of s b) = omega (arith, page_length s b ok, told_page.1) in
      ap (λ (x : List ℕ). get_or x (73 * i + c) 0) told_page.2 ∙ get_or-append (page_of s b) (drop (length (page_of s b)) old) 0 (73 * i + c) inside
      ∙ wide_at (page_rows s b) (λ x m. (row_shape s b ok x m).long) i c (omega (arith, h, told_page.1)) l

  -- byte 72 of each 73 is a newline, and no other is
  pub told_newlines : (i : ℕ) → i < n → (get_or out (73 * i + 72) 0 ≡ 10) × ((c : ℕ) → c < 72 → get_or out (73 * i + c) 0 ≡ 10 → ⊥)
  told_newlines i h =
      let shape = row_shape s b told_page.0 (get_or (page_rows s b) i []) (get_d_member (page_rows s b) i [] (omega (arith, h, told_page.1))) in
      (row_byte i 72 h (omega arith) ∙ shape.ends, λ c l z. shape.columns c l (sym (row_byte i c h (omega arith)) ∙ z))

-- ---- both calls

module _ (s b old : List ℕ) (q r : Answer) (out : List ℕ) (Q : RowsMeets s b q) (R : PageMeets s b old r out) (n : ℕ) where
  -- the number of rows told without writing is that of the page written
  pub same_rows : says r ≡ counts n → says q ≡ counts n
  same_rows e = let t = told_page s b old r out R n e in rows_told s b t.0 q Q ∙ ap counts (sym t.1)

  -- where it is told, with room for so many rows the page is written, and no byte behind it
  pub rows_written : says q ≡ counts n → 73 * n ≤ length old → (says r ≡ counts n) × (out ≡ page_of s b ++ drop (73 * n) old)
  rows_written e h =
      let w = said_count (check_page s b) (length (page_rows s b)) n (sym e ∙ Q.answer) in
      let t = page_told s b w.0 old r out R (omega (arith, h, w.1)) in
      (t.0 ∙ ap counts (sym w.1), t.1 ∙ ap (λ (m : ℕ). page_of s b ++ drop (73 * m) old) (sym w.1))

  -- with less room 16
  pub rows_short : says q ≡ counts n → length old < 73 * n → (says r ≡ refuses 16 0) × (out ≡ old)
  rows_short e h =
      let w = said_count (check_page s b) (length (page_rows s b)) n (sym e ∙ Q.answer) in
      short_told s b w.0 old r out R (omega (arith, h, w.1))

  -- what is refused without writing is refused with it
  pub same_refusal : (a : ℕ) → says q ≡ refuses n a → (says r ≡ refuses n a) × (out ≡ old)
  same_refusal a e =
      let v = put_refused s b (length old) n a (said_refused (check_page s b) (length (page_rows s b)) n a (sym e ∙ Q.answer)) in (
        R.answer ∙ say_refused (check_put s b (length old)) (length (page_rows s b)) n a v,
        R.bytes ∙ written_refused (check_put s b (length old)) (page_of s b) old n a v,
      )
