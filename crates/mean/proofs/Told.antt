-- What the call tells, whatever program meets its contract: a mean with an exact remainder, of links that weigh t or more, and the same for every clique
-- of the family. Assumes nothing.
use mathlib.Core.Path.{◌≡◌, refl, sym, ap, ◌∙◌, subst⁻¹}
use mathlib.Core.Bool.{Bool, true, false}
use mathlib.Core.List.{List}
use Prim.Native.Nat.{ℕ, ◌+◌, ◌*◌, ◌≤◌, ◌<◌}
use Rattle.answers.specs.Verdict.{Verdict, accepted, refused}
use Rattle.answers.proofs.Laws.{then_left}
use Rattle.sets.specs.Lists.{◌∈◌}
use Rattle.sets.proofs.Tests.{never}
use Rattle.percolation.specs.Links.{Link}
use Rattle.percolation.specs.Levels.{joined_at}
use Rattle.percolation.specs.Mean.{family_links, Mean, mean}
use Rattle.percolation.proofs.Mean.{mean_exact, mean_same, family_heavy}
use Rattle.sheet.specs.Sheet.{parts, links_of}
use Rattle.sheet.proofs.Sound.{sheet_legal}
use Rattle.slots.specs.Tables.{Tables}
use Rattle.std.specs.Prelude.{Result}
use Rattle.answers.specs.declared.Refusal.{Refusal}
use Rattle.mean.specs.declared.FamilyMean.{FamilyMean}
use Rattle.mean.specs.Answers.{MeanSaid, gives, refuses, mean_says, mean_say, mean_at, check_clique, check_mean, MeanMeets}
use Rattle.mean.proofs.Calls.{clique_sheet, clique_two, clique_member}

-- the mean in what is said
abbrev inside : MeanSaid → Mean
inside (gives m) = m
inside (refuses n a) = mean 0 0 0 0

abbrev is_mean : MeanSaid → Bool
is_mean (gives m) = true
is_mean (refuses n a) = false

module _ (s : List ℕ) (k t c : ℕ) (T : Tables) (r : Result FamilyMean Refusal) (U : Tables) (meets : MeanMeets s k t c T r U) (m : Mean) (e : mean_says r ≡ gives m) where
  -- where a mean is told every check has passed, and it is the definition's
  pub told_mean : (check_mean s k t c T ≡ accepted) × (m ≡ mean_at s k t c)
  unfolding mean_say
  told_mean = go (check_mean s k t c T) refl
    where
      go : (v : Verdict) → check_mean s k t c T ≡ v → (check_mean s k t c T ≡ accepted) × (m ≡ mean_at s k t c)
      go accepted f = (f, ap inside (sym e ∙ meets.answer ∙ ap (λ (v : Verdict). mean_say v (mean_at s k t c)) f))
      go (refused n a) f = never true refl (ap is_mean (sym e ∙ meets.answer ∙ ap (λ (v : Verdict). mean_say v (mean_at s k t c)) f))

  passed : check_clique s k t c T ≡ accepted
  unfolding check_mean
  passed = then_left (check_clique s k t c T) _ told_mean.0

  pub told_exact : (1 ≤ m.links) × (m.sum ≡ m.quotient * m.links + m.remainder) × (m.remainder < m.links)
  unfolding mean_at
  told_exact =
      subst⁻¹ (λ (x : Mean). (1 ≤ x.links) × (x.sum ≡ x.quotient * x.links + x.remainder) × (x.remainder < x.links)) told_mean.1
      (mean_exact (links_of s) (parts s) k t c (clique_two s k t c T passed) (clique_member s k t c T passed))

  pub told_heavy : (l : Link) → l ∈ family_links (links_of s) (parts s) k t c → t ≤ l.weight
  told_heavy = family_heavy (links_of s) (parts s) k t c (sheet_legal s (clique_sheet s k t c T passed))

-- two k-cliques of one family are told the same four numbers, whatever tables each call was lent
pub told_same : (s : List ℕ) (k t a b : ℕ) (T W : Tables) (q r : Result FamilyMean Refusal) (U X : Tables) → MeanMeets s k t a T q U → MeanMeets s k t b W r X
    → joined_at (links_of s) (parts s) k t a b ≡ true → (m n : Mean) → mean_says q ≡ gives m → mean_says r ≡ gives n → m ≡ n
unfolding mean_at
told_same s k t a b T W q r U X f g j m n d e =
    (told_mean s k t a T q U f m d).1 ∙ mean_same (links_of s) (parts s) k t a b j ∙ sym (told_mean s k t b W r X g n e).1
