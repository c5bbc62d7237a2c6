-- What a call with an output must do, by its verdict. Assumes nothing.
use mathlib.Core.Path.{◌≡◌, sym, ap, ◌∙◌, subst⁻¹}
use mathlib.Core.List.{List}
use Prim.Native.Nat.{ℕ}
use lib.ListN.{length}
use Rattle.answers.specs.Verdict.{Verdict, accepted, refused, written}
use Rattle.answers.specs.Answers.{Answer, counts, refuses, says}
use Rattle.answers.proofs.Laws.{say_accepted, say_refused, said_count, written_refused, written_accepted}
use Rattle.percolation.specs.Percolate.{Community, listing_bytes}
use Rattle.listings.specs.Listing.{Writes, Gives}

-- ---- what is written

module _ (v : Verdict) (n : ℕ) (B old : List ℕ) (r : Answer) where
  pub writes_refused : (m a : ℕ) → v ≡ refused m a → says r ≡ refuses m a → Writes v n B old r old
  writes_refused m a e x = record { answer = x ∙ sym (say_refused v n m a e); bytes = sym (written_refused v B old m a e) }

  module _ (out : List ℕ) where
    pub writes_all : v ≡ accepted → says r ≡ counts n → out ≡ written accepted B old → Writes v n B old r out
    writes_all e x y = record { answer = x ∙ sym (say_accepted v n e); bytes = y ∙ ap (λ (w : Verdict). written w B old) (sym e) }

    pub writes_same : (w : Verdict) → v ≡ w → Writes w n B old r out → Writes v n B old r out
    writes_same w e = subst⁻¹ (λ (u : Verdict). Writes u n B old r out) e

-- a listing that is not refused
pub writes_gives : (v : Verdict) (C : List Community) (old : List ℕ) (r : Answer) (out : List ℕ) → Writes v (length C) (listing_bytes C) old r out
    → (n : ℕ) → says r ≡ counts n → Gives C old n out
writes_gives v C old r out w n e =
    let f = said_count v (length C) n (sym e ∙ w.answer) in record { count = f.1; bytes = w.bytes ∙ written_accepted v _ old f.0 }
