-- What the listing now must do is what the code does: refused by 11 or 12, and listed from the ends of the slots. Assumes nothing.
use mathlib.Core.Path.{◌≡◌, sym, ap, ◌∙◌, subst}
use mathlib.Core.List.{List}
use Prim.Native.Nat.{ℕ}
use native.Mathlib.Omega.{arith}
use lib.ListN.{length}
use Rattle.answers.specs.Answers.{Answer, refuses, says}
use Rattle.answers.proofs.Laws.{said_refused, written_refused, accepted_not}
use Rattle.percolation.specs.Percolate.{Community, communities}
use Rattle.percolation.specs.Links.{Link, cliques, listing, family}
use Rattle.percolation.proofs.Levels.{heavy_zero}
use Rattle.percolation.proofs.Ranges.{good_k_lem}
use Rattle.checks.proofs.Numbers.{numbered_0}
use Rattle.slots.specs.Tables.{Tables}
use Rattle.clique_taking.proofs.Inserted.{cliques_family}
use Rattle.listings.specs.Listing.{WritesListing}
use Rattle.listings.specs.Model.{listed}
use Rattle.listings.proofs.Listed.{listed_communities}
use Rattle.states.specs.declared.State.{State}
use Rattle.states.specs.Model.{state_number}
use Rattle.sequential.specs.Steps.{Holds, ListingNowMeets}
use Rattle.sequential.proofs.Inserting.{state_says, numbered_refused, held_number}

module _ (S : State) (T : Tables) (old : List ℕ) (r : Answer) (out : List ℕ) where
  pub unlisted_meets : (n : ℕ) → n ≡ state_number S T → (n ≡ 0 → ⊥) → says r ≡ refuses n 0 → out ≡ old → ListingNowMeets S T old r out
  unlisted_meets n e bad a o = record {
    checked = λ m b c.
        let f = numbered_refused (state_number S T) 0 m b (sym (state_says S T) ∙ c) in a ∙ ap (λ (x : ℕ). refuses x 0) (e ∙ f.0) ∙ ap (refuses m) f.1.1;
    lists = λ p k n L J h. absurd (bad (e ∙ held_number p k n L S T J h));
    kept = λ m b c. o;
  }

  -- what stands at the ends of the slots is the listing of the links that are held
  abbrev C : List Community
  C = listed T.entries T.smallest T.unions S.used

  ends_are : (p k n : ℕ) (L : List Link) (J : List ℕ) → Holds p k n L S T J → C ≡ listing L p k 0
  unfolding listing family
  ends_are p k n L J h =
      ap (listed T.entries T.smallest T.unions) h.same_used
      ∙ listed_communities p k (cliques L p k) T (cliques_family L p k) (omega (arith, (good_k_lem k h.size).0)) h.shows
      ∙ ap (λ (M : List Link). communities k (cliques M p k)) (sym (heavy_zero L))

  pub listed_meets : state_number S T ≡ 0 → WritesListing C old r out → ListingNowMeets S T old r out
  listed_meets z w = record {
    checked = λ m b c. accepted_not m b (sym c ∙ state_says S T ∙ numbered_0 (state_number S T) 0 z);
    lists = λ p k n L J h. subst (λ (D : List Community). WritesListing D old r out) (ends_are p k n L J h) w;
    kept = λ m b c. w.bytes ∙ written_refused _ _ old m b (said_refused _ (length C) m b (sym c ∙ w.answer));
  }
