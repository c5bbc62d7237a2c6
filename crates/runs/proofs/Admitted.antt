-- What a call on a sheet has where the checks before 15 let it pass, and where they stop it. Assumes nothing.
use mathlib.Core.Path.{◌≡◌, ap, ◌∙◌}
use mathlib.Core.Bool.{true}
use mathlib.Core.List.{List}
use Prim.Native.Nat.{ℕ}
use Rattle.answers.specs.Verdict.{Verdict, accepted, refused, ◌then◌, unless}
use Rattle.answers.proofs.Laws.{then_left, then_right, then_stop, then_second, then_third, unless_passed}
use Rattle.percolation.specs.Ranges.{good_k}
use Rattle.sheet.specs.Answers.{SheetSaid, holds, sheet_say}
use Rattle.sheet.specs.Sheet.{check_sheet}
use Rattle.sheet.proofs.Said.{said_holds}
use Rattle.slots.specs.Tables.{Tables}
use Rattle.runs.specs.Lent.{level, check_call}

-- what was said of a view of the tables is said of them
pub viewed : (s : List ℕ) (k : ℕ) (x : SheetSaid) (T U : Tables) → T ≡ U → x ≡ sheet_say (check_call s k T) s → x ≡ sheet_say (check_call s k U) s
viewed s k x T U e said = said ∙ ap (λ (X : Tables). sheet_say (check_call s k X) s) e

-- the sheet that is given back is admitted, with the tables that were viewed
pub admitted : (s b : List ℕ) (k p m : ℕ) (T U : Tables) → T ≡ U → b ≡ s → holds p m ≡ sheet_say (check_call s k T) s → check_call b k U ≡ accepted
admitted s b k p m T U e f said = ap (λ (x : List ℕ). check_call x k U) f ∙ (said_holds _ s p m (viewed s k (holds p m) T U e said)).0

module _ (s : List ℕ) (k : ℕ) (T : Tables) where
  -- 10 and 11
  abbrev from10 : Verdict
  from10 = unless (good_k k) 10 0 then unless (level T) 11 0

  module _ (e : check_call s k T ≡ accepted) where
    pub call_sheet : check_sheet s ≡ accepted
    unfolding check_call
    call_sheet = then_left (check_sheet s) from10 e

    past9 : from10 ≡ accepted
    unfolding check_call
    past9 = then_right (check_sheet s) from10 e

    pub call_k : good_k k ≡ true
    call_k = unless_passed (good_k k) 10 0 (then_left (unless (good_k k) 10 0) (unless (level T) 11 0) past9)

    pub call_level : level T ≡ true
    call_level = unless_passed (level T) 11 0 (then_right (unless (good_k k) 10 0) (unless (level T) 11 0) past9)

  pub call_faulty : (n a : ℕ) → check_sheet s ≡ refused n a → check_call s k T ≡ refused n a
  unfolding check_call
  call_faulty n a e = then_stop (check_sheet s) from10 n a e

  module _ (e : check_sheet s ≡ accepted) where
    pub call_ten : (n a : ℕ) → unless (good_k k) 10 0 ≡ refused n a → check_call s k T ≡ refused n a
    unfolding check_call
    call_ten n a g = then_second (check_sheet s) (unless (good_k k) 10 0) (unless (level T) 11 0) n a e g

    -- 11, or let through
    pub call_past : unless (good_k k) 10 0 ≡ accepted → (v : Verdict) → unless (level T) 11 0 ≡ v → check_call s k T ≡ v
    unfolding check_call
    call_past g v l = then_third (check_sheet s) (unless (good_k k) 10 0) (unless (level T) 11 0) v e g l
