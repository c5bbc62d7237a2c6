-- Lists of inserts and takings back from an accepted start, refused ones included, and what demand 3 says of every such list. Built from what each step must
-- do, so that it speaks of every program whose steps do that. Assumes nothing.
use Rattle.std.specs.Prelude.{◌≡◌, List, [], ◌∷◌, map, ℕ, length}
use Rattle.answers.specs.Verdict.{accepted}
use Rattle.answers.specs.Answers.{Answer, Said, says, say_of}
use Rattle.percolation.specs.Percolate.{Community, ChainListing}
use Rattle.percolation.specs.Links.{Link, cliques, slots, listing}
use Rattle.percolation.specs.Steps.{Step, insert, back, remaining_links, step_answers}
use Rattle.checks.specs.Neighbours.{last_weight}
use Rattle.slots.specs.Tables.{Tables}
use Rattle.listings.specs.Listing.{WritesListing}
use Rattle.journal.specs.Journal.{journal_of}
use Rattle.states.specs.declared.State.{State}
use Rattle.sequential.specs.declared.Stepped.{Stepped}
use Rattle.sequential.specs.Steps.{check_journal, Holds, InsertMeets, BackMeets, ListingNowMeets}

-- the steps X from the state S, the tables T and the journal J on, with the answers A: each gets the state that the one before it returned, and tables and
-- journal as that one left them
pub data Runs : State → Tables → List ℕ → List Step → List Said → State → Tables → List ℕ → Type 0 where
  none : (S : State) (T : Tables) (J : List ℕ) → Runs S T J [] [] S T J
  insertion : (S : State) (T : Tables) (J : List ℕ) (l : Link) (r : Stepped) (U : Tables) (K : List ℕ) (X : List Step) (A : List Said) (E : State)
      (W : Tables) (M : List ℕ) → InsertMeets S T J l r U K → Runs r.state U K X A E W M → Runs S T J (insert l ∷ X) (says r.answer ∷ A) E W M
  taking : (S : State) (T : Tables) (J : List ℕ) (r : Stepped) (U : Tables) (K : List ℕ) (X : List Step) (A : List Said) (E : State) (W : Tables)
      (M : List ℕ) → BackMeets S T J r U K → Runs r.state U K X A E W M → Runs S T J (back ∷ X) (says r.answer ∷ A) E W M

-- out and its answer r are the listing C of the chain classes of F, or 16
pub record Lists (k : ℕ) (F : List ℕ) (C : List Community) (old : List ℕ) (r : Answer) (out : List ℕ) : Type 0 where
  pub chains : ChainListing k F C
  pub lists : WritesListing C old r out

-- what is claimed of the steps X, which gave the answers A and left the state S, the tables T and the journal J, where the tables have n slots
pub record Claim (p k n : ℕ) (X : List Step) (A : List Said) (S : State) (T : Tables) (J : List ℕ) : Type 0 where
  -- each step passes, or is refused, as the rule of 6 to 9 and 15, or of 19, says
  pub answers : A ≡ map (λ v. say_of v 0) (step_answers p k n [] X)
  -- 11, 12 and 20 do not occur: what each step of a longer list gets passes them
  pub passes : check_journal S T J ≡ accepted
  -- state, tables and journal hold the links that remain
  pub holds : Holds p k n (remaining_links p k n [] X) S T J
  -- how many these are, the slots in use, the last weight and the journal are those of the links that remain
  pub many : S.links ≡ length (remaining_links p k n [] X)
  pub used : S.used ≡ slots p k (cliques (remaining_links p k n [] X) p k)
  pub last : S.last ≡ last_weight (remaining_links p k n [] X)
  pub journal : J ≡ journal_of (remaining_links p k n [] X)
  -- the listing now is the listing of the links that remain, that of the chain classes of their k-cliques
  pub now : (old : List ℕ) (r : Answer) (out : List ℕ) → ListingNowMeets S T old r out
      → Lists k (cliques (remaining_links p k n [] X) p k) (listing (remaining_links p k n [] X) p k 0) old r out
