-- What a journal holds: an entry is its link, one link more, the last link taken off, and the links of the first entries. Assumes nothing.
use mathlib.Core.Path.{◌≡◌, refl, sym, ap, ap₂, ◌∙◌}
use mathlib.Core.Bool.{true}
use mathlib.Core.List.Memᴰ
use mathlib.Core.List.{List, [], ◌∷◌, ◌++◌, map}
use Prim.Native.Nat.{ℕ, suc, ◌+◌, ◌-◌, ◌/◌, ◌%◌, ◌≤◌, ◌<◌}
use native.Mathlib.Omega.{arith}
use lib.ListN.{length, get_or, set, take, replicate, length-map, length-append, length-replicate}
use lib.Seq.{take_all, take_at, set_at, get_or_at, take-suc, append_snoc}
use Rattle.sets.specs.Lists.{◌∈◌, keep}
use Rattle.sets.specs.Value.{width}
use Rattle.sets.proofs.ListLaws.{keep_all, map_append}
use Rattle.percolation.specs.Links.{Link, link}
use Rattle.percolation.specs.Steps.{good_parts, legal}
use Rattle.percolation.proofs.Accepted.{good_parts_lem, legal_parts}
use Rattle.checks.specs.Neighbours.{last_weight}
use Rattle.checks.proofs.Near.{last_more}
use Rattle.journal.specs.Journal.{journal_length, journal_entry, journal_of}
use Rattle.journal.specs.Model.{entry_link, readable}

-- ---- an entry is its link

pub entry_low : (l : Link) → l.high < 65536 → l.weight < 65536 → journal_entry l / 4294967296 ≡ l.low
unfolding journal_entry
entry_low l h w = omega arith

pub entry_high : (l : Link) → l.high < 65536 → l.weight < 65536 → journal_entry l / 65536 % 65536 ≡ l.high
unfolding journal_entry
entry_high l h w = omega arith

pub entry_weight : (l : Link) → l.weight < 65536 → journal_entry l % 65536 ≡ l.weight
unfolding journal_entry
entry_weight l w = omega arith

pub entry_link_lem : (l : Link) → l.high < 65536 → l.weight < 65536 → entry_link (journal_entry l) ≡ l
unfolding entry_link
entry_link_lem l h w = λ i. link (entry_low l h w i) (entry_high l h w i) (entry_weight l w i)

-- ---- one link more, and the last taken off

pub journal_length_lem : (L : List Link) → length L ≤ journal_length → length (journal_of L) ≡ journal_length
unfolding journal_of
journal_length_lem L h =
    length-append (map journal_entry L) (replicate (journal_length - length L) 0)
    ∙ ap₂ ◌+◌ (length-map L journal_entry) (length-replicate (journal_length - length L) 0) ∙ (omega (arith, h))

module _ (L : List Link) (l : Link) (h : suc (length L) ≤ journal_length) where
  abbrev rest : ℕ
  rest = journal_length - suc (length L)

  pub many_more : length (L ++ (l ∷ [])) ≡ suc (length L)
  many_more = length-append L (l ∷ []) ∙ (omega arith)

  -- the entries from the last on
  with_zeros : journal_of L ≡ map journal_entry L ++ (0 ∷ replicate rest 0)
  unfolding journal_of
  with_zeros =
      let e : journal_length - length L ≡ suc (journal_length - suc (length L)) = omega (arith, h) in
      ap (λ (n : ℕ). map journal_entry L ++ replicate n 0) e

  with_link : journal_of (L ++ (l ∷ [])) ≡ map journal_entry L ++ (journal_entry l ∷ replicate rest 0)
  unfolding journal_of
  with_link =
      ap₂ (λ (A : List ℕ) (n : ℕ). A ++ replicate (journal_length - n) 0) (map_append journal_entry L (l ∷ [])) many_more
      ∙ append_snoc (map journal_entry L) (journal_entry l) (replicate rest 0)

  pub journal_more : set (journal_of L) (length L) (journal_entry l) ≡ journal_of (L ++ (l ∷ []))
  journal_more =
      ap (λ (J : List ℕ). set J (length L) (journal_entry l)) with_zeros
      ∙ set_at (map journal_entry L) 0 (replicate rest 0) (journal_entry l) (length L) (length-map L journal_entry) ∙ sym with_link

  pub journal_less : set (journal_of (L ++ (l ∷ []))) (length L) 0 ≡ journal_of L
  journal_less =
      ap (λ (J : List ℕ). set J (length L) 0) with_link
      ∙ set_at (map journal_entry L) (journal_entry l) (replicate rest 0) 0 (length L) (length-map L journal_entry) ∙ sym with_zeros

  pub first_entries : take (length L) (journal_of (L ++ (l ∷ []))) ≡ map journal_entry L
  first_entries =
      ap (take (length L)) with_link ∙ take_at (map journal_entry L) (journal_entry l ∷ replicate rest 0) (length L) (length-map L journal_entry)

  pub last_entry : get_or (journal_of (L ++ (l ∷ []))) (length L) 0 ≡ journal_entry l
  last_entry =
      ap (λ (J : List ℕ). get_or J (length L) 0) with_link
      ∙ get_or_at (map journal_entry L) (journal_entry l) (replicate rest 0) 0 (length L) (length-map L journal_entry)

-- ---- the links of entries

module _ (p : ℕ) (L : List Link) (wide : p ≤ width) (ok : legal p L ≡ true) (narrow : (l : Link) → l ∈ L → l.weight < 65536) where
  pub entries_links : map entry_link (map journal_entry L) ≡ L
  entries_links = each L (λ l m. m)
    where
      each : (M : List Link) → ((l : Link) → l ∈ M → l ∈ L) → map entry_link (map journal_entry M) ≡ M
      each [] f = refl
      each (l ∷ M) f =
          let m = f l (Memᴰ.head refl) in
          let g = good_parts_lem p l (legal_parts p L ok l m) in
          ap₂ (λ (x : Link) (N : List Link). x ∷ N) (entry_link_lem l (omega (arith, g.1, wide)) (narrow l m)) (each M (λ x i. f x (Memᴰ.tail i)))

  pub links_readable : readable p (map journal_entry L) ≡ L
  unfolding readable
  links_readable = ap (keep (good_parts p)) entries_links ∙ keep_all (good_parts p) L (legal_parts p L ok)

-- ---- the weight of the last entry

pub last_none : (J : List ℕ) → length J ≡ 0 → 65535 ≡ last_weight (map entry_link J)
unfolding last_weight
last_none [] e = refl
last_none (x ∷ J) e = absurd (omega (arith, e))

last_of : (J : List ℕ) (n w : ℕ) → n < length J → w ≡ (entry_link (get_or J n 0)).weight → w ≡ last_weight (map entry_link (take (suc n) J))
last_of J n w h e =
    e
    ∙ sym (last_more (map entry_link (take n J)) (entry_link (get_or J n 0)))
    ∙ ap last_weight (sym (ap (map entry_link) (take-suc J n 0 h) ∙ map_append entry_link (take n J) (get_or J n 0 ∷ [])))

pub last_some : (J : List ℕ) (w : ℕ) → 0 < length J → w ≡ (entry_link (get_or J (length J - 1) 0)).weight → w ≡ last_weight (map entry_link J)
last_some J w h e =
    last_of J (length J - 1) w (omega (arith, h)) e ∙ ap (λ (M : List ℕ). last_weight (map entry_link M)) (take_all (suc (length J - 1)) J (omega (arith, h)))
