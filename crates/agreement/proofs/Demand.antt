-- Demand 3: every list of inserts and takings back, both runs on a sheet of the same links, the meeting weight by both runs, and any three meeting weights.
-- Each is a theorem over what the calls must do. Assumes nothing.
use mathlib.Core.Path.{◌≡◌, refl, sym, ◌∙◌, subst}
use mathlib.Core.Logic.{◌↔◌}
use mathlib.Core.Bool.{Bool}
use mathlib.Core.List.{List, []}
use Prim.Native.Nat.{ℕ, ◌≤◌}
use native.Mathlib.Omega.{arith}
use lib.ListN.{length}
use Rattle.answers.specs.Verdict.{Verdict, accepted, refused, ◌then◌, unless}
use Rattle.answers.specs.Answers.{Answer, Said, counts, says}
use Rattle.answers.proofs.Laws.{said_count, then_left}
use Rattle.sets.specs.Lists.{◌∈◌}
use Rattle.percolation.specs.Percolate.{Community, adjacent, Chain}
use Rattle.percolation.specs.Links.{Link, family, listing}
use Rattle.percolation.specs.Levels.{Meeting, met, never, meeting, weight_of, MeetsAt, TwoLowest}
use Rattle.percolation.specs.Steps.{Step, remaining_links}
use Rattle.percolation.proofs.Ranges.{good_k_lem}
use Rattle.percolation.proofs.Accepted.{legal_positive, legal_none, remaining_legal}
use Rattle.percolation.proofs.ChainClasses.{all_chains}
use Rattle.percolation.proofs.Same.{legal_below, listing_same}
use Rattle.percolation.proofs.Meet.{meeting_of_lem, meeting_at, never_of, never_at, two_lowest}
use Rattle.slots.specs.Tables.{Tables}
use Rattle.listings.specs.Listing.{Gives}
use Rattle.listings.proofs.Outputs.{writes_gives}
use Rattle.sheet.specs.Sheet.{parts, links_of, check_sheet}
use Rattle.sheet.proofs.Sound.{sheet_legal}
use Rattle.runs.specs.OnSheet.{listing_of, ListingMeets}
use Rattle.runs.specs.Lent.{check_call}
use Rattle.runs.proofs.Agreed.{not_refused}
use Rattle.runs.proofs.Admitted.{call_sheet, call_k}
use Rattle.states.specs.declared.State.{State}
use Rattle.sequential.specs.declared.Stepped.{Stepped}
use Rattle.sequential.specs.Steps.{check_start, StartMeets, ListingNowMeets}
use Rattle.sequential.specs.EveryList.{Runs, Claim}
use Rattle.sequential.proofs.Every.{every_list}
use Rattle.meeting.specs.Answers.{Met, tells, meet_says, meet_say, meeting_of, check_pair, MeetingMeets}
use Rattle.agreement.specs.Same.{HasLinks, GivesChains, EverySheet}

-- ---- 1 and 2: the listing of a list of steps, and of every sheet with exactly the links that remain

-- p, k and the tables' n slots are those of an accepted start, X the steps; that any steps leave legal links is all that is used
module _ (p k n : ℕ) (X : List Step) where
  abbrev L : List Link
  L = remaining_links p k n [] X

  -- a sheet that has exactly these links, whatever its part count: its listing at threshold 0 is theirs
  sheet_listing : (s : List ℕ) → 2 ≤ k → HasLinks s L → listing_of s k 0 ≡ listing L p k 0
  unfolding listing_of
  sheet_listing s two same =
      listing_same (links_of s) L (parts s) p k two same.some same.each (legal_below (parts s) (links_of s) (sheet_legal s same.fine))
      (legal_below p L (remaining_legal p k n [] X (legal_none p))) 0

  -- by either run (c is what its 15 counts), where it is not refused: the count and the bytes of the listing of the chain classes of the links that remain
  pub sheet_gives : (s : List ℕ) → HasLinks s L → (c : ℕ) (T : Tables) (old : List ℕ) (r : Answer) (U : Tables) (out : List ℕ)
      → ListingMeets c s k 0 T old r U out → (j : ℕ) → says r ≡ counts j → GivesChains p k L old j out
  sheet_gives s same c T old r U out meets j e =
      let passed = then_left (check_call s k T) _ (said_count _ _ j (sym e ∙ meets.writes.answer)).0 in
      let two = (good_k_lem k (call_k s k T passed)).0 in
      record {
        chains = all_chains L p k;
        gives = subst (λ (C : List Community). Gives C old j out) (sheet_listing s two same) (not_refused c s k 0 T old r U out meets j e);
      }

  -- so does the listing now, where it is not refused
  pub now_gives : (A : List Said) (S : State) (T : Tables) (J : List ℕ) → Claim p k n X A S T J → (old : List ℕ) (r : Answer) (out : List ℕ) → ListingNowMeets S T old r out
      → (j : ℕ) → says r ≡ counts j → GivesChains p k L old j out
  now_gives A S T J claim old r out now j e =
      let l = claim.now old r out now in record { chains = l.chains; gives = writes_gives _ _ old r out l.lists j e }

  -- both methods agree: the same count, and with the same output before it the same output
  pub both_runs : (A : List Said) (S : State) (T : Tables) (J : List ℕ) → Claim p k n X A S T J → (old : List ℕ) (a : Answer) (x : List ℕ) → ListingNowMeets S T old a x
      → (s : List ℕ) → HasLinks s L → (c : ℕ) (Y : Tables) (b : Answer) (Z : Tables) (y : List ℕ) → ListingMeets c s k 0 Y old b Z y
      → (i j : ℕ) → says a ≡ counts i → says b ≡ counts j → (i ≡ j) × (x ≡ y)
  both_runs A S T J claim old a x now s same c Y b Z y meets i j e f =
      let g = (now_gives A S T J claim old a x now i e).gives in
      let h = (sheet_gives s same c Y old b Z y meets j f).gives in
      (g.count ∙ sym h.count, g.bytes ∙ sym h.bytes)

-- the whole, from an accepted start on: the claim of every list, and either run on every sheet with the links that remain
pub every_list_and_sheet : (p k : ℕ) (T : Tables) (J : List ℕ) (r : Stepped) (U : Tables) (K : List ℕ) → StartMeets p k T J r U K
    → check_start p k T J ≡ accepted → (X : List Step) (A : List Said) (S : State) (W : Tables) (M : List ℕ) → Runs r.state U K X A S W M
    → EverySheet p k (length T.entries) X A S W M
every_list_and_sheet p k T J r U K m ok X A S W M i =
    record { claim = every_list p k T J r U K m ok X A S W M i; sheets = sheet_gives p k (length T.entries) X }

-- ---- 3: the meeting weight by either run, in the sense of chains

told : (v : Verdict) (m x : Meeting) → tells m ≡ meet_say v x → (v ≡ accepted) × (m ≡ x)
unfolding meet_say
told accepted m x e = (refl, cc)
told (refused n a) m x e = let q : ◌≡◌ {A = ℕ} 0 1 = cc in absurd (omega arith)

-- what a call tells where it is not refused, by either run: f says whether what its 15 counts fits
module _ (s : List ℕ) (k a b : ℕ) (T : Tables) (f : Bool) (r : Met) (U : Tables) (meets : MeetingMeets s k a b T f r U) (m : Meeting) (e : meet_says r ≡ tells m) where
  abbrev v : Verdict
  v = check_pair s k a b T then unless f 15 0

  pub tells_meeting : m ≡ meeting (links_of s) (parts s) k a b
  unfolding meeting_of
  tells_meeting = (told v m (meeting (links_of s) (parts s) k a b) (sym e ∙ meets.answer)).1

  passed : check_call s k T ≡ accepted
  unfolding check_pair
  passed = then_left (check_call s k T) _ (then_left (check_pair s k a b T) _ (told v m (meeting_of s k a b) (sym e ∙ meets.answer)).0)

  pub told_fine : check_sheet s ≡ accepted
  told_fine = call_sheet s k T passed

  pub told_two : 2 ≤ k
  told_two = (good_k_lem k (call_k s k T passed)).0

  pos : (l : Link) → l ∈ links_of s → 1 ≤ l.weight
  pos = legal_positive (parts s) (links_of s) (sheet_legal s told_fine)

  -- a weight is the largest threshold from 1 at which a chain joins them
  pub tells_weight : (w : ℕ) → (m ≡ met w) ↔ MeetsAt (links_of s) (parts s) k a b w
  tells_weight w = (
    (λ q. meeting_of_lem (links_of s) (parts s) k told_two pos a b w (sym tells_meeting ∙ q)),
    (λ h. tells_meeting ∙ meeting_at (links_of s) (parts s) k told_two pos a b w h),
  )

  -- never, exactly when no chain at any threshold joins them
  pub tells_never : (m ≡ never) ↔ ((t : ℕ) → Chain (adjacent k) (family (links_of s) (parts s) k t) a b → ⊥)
  tells_never = (
    (λ q. never_of (links_of s) (parts s) k told_two pos a b (sym tells_meeting ∙ q)),
    (λ h. tells_meeting ∙ never_at (links_of s) (parts s) k told_two pos a b (λ t o. h t)),
  )

-- both runs agree where neither is refused, whatever tables they were lent and whatever their 15 counts
pub meetings_agree : (s : List ℕ) (k a b : ℕ) (T Z : Tables) (f g : Bool) (x y : Met) (U W : Tables) → MeetingMeets s k a b T f x U
    → MeetingMeets s k a b Z g y W → (m n : Meeting) → meet_says x ≡ tells m → meet_says y ≡ tells n → m ≡ n
meetings_agree s k a b T Z f g x y U W p q m n d e = tells_meeting s k a b T f x U p m d ∙ sym (tells_meeting s k a b Z g y W q n e)

-- ---- 4: of three meeting weights the two lowest are equal, never counting as 0; each may come from either run

pub lowest_agree : (s : List ℕ) (k a b c : ℕ) (T R W : Tables) (f g h : Bool) (x y z : Met) (X Y Z : Tables) → MeetingMeets s k a b T f x X
    → MeetingMeets s k b c R g y Y → MeetingMeets s k a c W h z Z → (l m n : Meeting) → meet_says x ≡ tells l → meet_says y ≡ tells m
    → meet_says z ≡ tells n → TwoLowest (weight_of l) (weight_of m) (weight_of n)
lowest_agree s k a b c T R W f g h x y z X Y Z p q r l m n d e i =
    rw (tells_meeting s k a b T f x X p l d, tells_meeting s k b c R g y Y q m e, tells_meeting s k a c W h z Z r n i)
    (two_lowest (links_of s) (parts s) k (told_two s k a b T f x X p l d)
    (legal_positive (parts s) (links_of s) (sheet_legal s (told_fine s k a b T f x X p l d))) a b c)
