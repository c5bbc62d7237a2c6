-- Names, padded to eight bytes: their form, their bytes, and the number of a name. Assumes nothing.
use mathlib.Core.Path.{◌≡◌, refl, sym, ap, ◌∙◌}
use mathlib.Core.Bool.{Bool, true, false, cond, not, ◌&&◌, ◌||◌}
use mathlib.Core.Logic.{◌⊎◌, inl, inr}
use mathlib.Core.List.{List, [], ◌∷◌, ◌++◌, append_assoc, append-nil}
use Prim.Native.Nat.{ℕ, zero, suc, ◌+◌, ◌*◌, ◌-◌, ◌<◌, ◌≤◌}
use native.Mathlib.Omega.{arith}
use native.Mathlib.Numerals.{add-one}
use lib.Dec.{eqb, leb, ltb, leb-zero, leb-suc-zero, leb-suc-suc}
use lib.ListN.{length, get_or, take, drop, set, drop_of_length-le, length-append, take-append-drop}
use lib.Seq.{drop-cons, drop-drop, set_at, append_snoc, take_at, drop_at}
use borrow.Author.Tests.{lt-ltb, le-ltb, le-leb, lt-leb, leb-true, eq-eqb, eqb-true, ne_eqb, not-true}
use Rattle.std.specs.Prelude.{nat_eq, ◌==◌, Option, Some, None, IfSome, MatchOption}
use Rattle.std.specs.List.{list_all, starts_with}
use Rattle.sets.specs.Lists.{all, same}
use Rattle.sets.proofs.Tests.{iff, no_and, not_so, and_intro, and_left, and_right, never, or_left}
use Rattle.percolation.specs.Ranges.{in_range}
use Rattle.part_names.specs.Names.{visible}
use Rattle.part_names.proofs.Form.{visible_range}
use Rattle.words.specs.Lines.{blank}
use Rattle.text.specs.Reading.{is_name, padded, name_bytes, number_of, known}
use Rattle.text.specs.Model.{Held, found}
use Rattle.sets.proofs.ListLaws.{all_of, get_d_member, same_self, same_of}
use Rattle.text.proofs.Bytes.{all_sub, all_list, part_take}

-- ---- the form of a name

pub name_else : (x : List ℕ) → (8 < length x) ⊎ (length x < 1) → false ≡ is_name x
unfolding is_name
name_else x (inl h) = sym (rw (lt-leb (length x) 8 h, no_and (leb 1 (length x))) refl)
name_else x (inr h) = sym (rw (lt-leb 1 (length x) h) refl)

pub name_then : (x : List ℕ) (r : Bool) → 1 ≤ length x → length x ≤ 8 → r ≡ list_all visible x → r ≡ is_name x
unfolding is_name
name_then x r h k e = e ∙ all_list visible x ∙ sym (rw (le-leb 1 (length x) h, le-leb (length x) 8 k) refl)

-- ---- padded bytes

pub padded_length : (n : ℕ) (x : List ℕ) → length (padded n x) ≡ n
unfolding padded
padded_length zero x = refl
padded_length (suc n) [] = ap suc (padded_length n [])
padded_length (suc n) (b ∷ x) = ap suc (padded_length n x)

padded_suc : (n : ℕ) (x : List ℕ) → padded (suc n) x ≡ padded n x ++ (get_or x n 32 ∷ [])
unfolding padded
padded_suc zero [] = refl
padded_suc zero (b ∷ x) = refl
padded_suc (suc n) [] = ap (λ (l : List ℕ). 32 ∷ l) (padded_suc n [])
padded_suc (suc n) (b ∷ x) = ap (λ (l : List ℕ). b ∷ l) (padded_suc n x)

eqb_turn : (a b : ℕ) → eqb a b ≡ eqb b a
eqb_turn a b = iff (eqb a b) (eqb b a) (λ e. eq-eqb b a (sym (eqb-true a b e))) (λ e. eq-eqb a b (sym (eqb-true b a e)))

and_turn : (a b c d e f : Bool) → a ≡ b → (c && d) ≡ (e && f) → ((a && c) && d) ≡ (e && (b && f))
and_turn true b c d e f p q = q ∙ ap (λ (t : Bool). e && (t && f)) p
and_turn false b c d true f p q = ap (λ (t : Bool). t && f) p
and_turn false b c d false f p q = refl

-- a slot that starts with the name, and has spaces behind it
pub slot_parts : (s x : List ℕ)
    → (starts_with nat_eq s x && list_all (λ b. b == 32) (drop (length x) s)) ≡ (leb (length x) (length s) && same s (padded (length s) x))
unfolding padded same
slot_parts [] [] = sym (rw (leb-zero 0) refl)
slot_parts [] (c ∷ x) = sym (rw (leb-suc-zero (length x)) refl)
slot_parts (b ∷ s) [] =
    let rest : list_all (λ b. b == 32) s ≡ same s (padded (length s) []) =
    slot_parts s [] ∙ ap (λ (t : Bool). t && same s (padded (length s) [])) (leb-zero (length s)) in
    ap (λ (t : Bool). eqb b 32 && t) rest ∙ sym (ap (λ (t : Bool). t && (eqb b 32 && same s (padded (length s) []))) (leb-zero (suc (length s))))
slot_parts (b ∷ s) (c ∷ x) =
    and_turn (eqb c b) (eqb b c) _ _ (leb (length x) (length s)) _ (eqb_turn c b) (slot_parts s x)
    ∙ ap (λ (t : Bool). t && (eqb b c && same s (padded (length s) x))) (sym (leb-suc-suc (length x) (length s)))

pub slot_then : (s x : List ℕ) (a r : Bool) → a ≡ starts_with nat_eq s x → a ≡ true → r ≡ list_all (λ b. b == 32) (drop (length x) s)
    → r ≡ leb (length x) (length s) && same s (padded (length s) x)
slot_then s x a r e t f = f ∙ ap (λ (b : Bool). b && list_all (λ b. b == 32) (drop (length x) s)) (sym t ∙ e) ∙ slot_parts s x

pub slot_else : (s x : List ℕ) (a : Bool) → a ≡ starts_with nat_eq s x → a ≡ false → a ≡ leb (length x) (length s) && same s (padded (length s) x)
slot_else s x a e t = t ∙ ap (λ (b : Bool). b && list_all (λ b. b == 32) (drop (length x) s)) (sym t ∙ e) ∙ slot_parts s x

-- a slot whose first i bytes are written
pub slot_none : (x s : List ℕ) → s ≡ padded 0 x ++ drop 0 s
unfolding padded
slot_none x s = refl

pub slot_more : (x s t : List ℕ) (i : ℕ) → i < length s → t ≡ padded i x ++ drop i s → set t i (get_or x i 32) ≡ padded (i + 1) x ++ drop (i + 1) s
slot_more x s t i h e =
    ap (λ (l : List ℕ). set l i (get_or x i 32)) (e ∙ ap (λ (l : List ℕ). padded i x ++ l) (drop-cons s i 0 h))
    ∙ set_at (padded i x) (get_or s i 0) (drop (suc i) s) (get_or x i 32) i (padded_length i x)
    ∙ sym (append_snoc (padded i x) (get_or x i 32) (drop (suc i) s))
    ∙ ap (λ (l : List ℕ). l ++ drop (suc i) s) (sym (padded_suc i x))
    ∙ ap (λ (j : ℕ). padded j x ++ drop j s) (sym (add-one i))

pub slot_end : (x s t : List ℕ) (i : ℕ) → i ≡ length s → t ≡ padded i x ++ drop i s → t ≡ padded (length s) x
slot_end x s t i h e =
    e ∙ ap (λ (l : List ℕ). padded i x ++ l) (drop_of_length-le s (let g : length s ≤ i = omega arith in g)) ∙ append-nil (padded i x) ∙ ap (λ (j : ℕ). padded j x) h

-- ---- padded names are the same where the names are

abbrev no_space : List ℕ → Bool
no_space x = all (λ b. not (eqb b 32)) x

name_plain : (x : List ℕ) → is_name x ≡ true → no_space x ≡ true
unfolding is_name
name_plain x e = all_sub visible (λ b. not (eqb b 32)) x each (and_right (in_range 1 8 (length x)) (all visible x) e)
  where
    each : (b : ℕ) → visible b ≡ true → not (eqb b 32) ≡ true
    each b h = let g : 33 ≤ b = (visible_range b h).0 in ap not (ne_eqb b 32 (λ q. omega arith))

unblank_plain : (x : List ℕ) → all (λ b. not (blank b)) x ≡ true → no_space x ≡ true
unfolding blank
unblank_plain x e = all_sub (λ b. not (blank b)) (λ b. not (eqb b 32)) x each e
  where
    each : (b : ℕ) → not (blank b) ≡ true → not (eqb b 32) ≡ true
    each b h = ap not (not_so (eqb b 32) (λ t. never (blank b) (or_left (eqb b 32) (eqb b 9 || eqb b 13) t) (not-true (blank b) h)))

pub name_fits : (x : List ℕ) → is_name x ≡ true → (1 ≤ length x) × (length x ≤ 8)
unfolding is_name
name_fits x e =
    let h = and_left (in_range 1 8 (length x)) (all visible x) e in
    (leb-true 1 (length x) (and_left (leb 1 (length x)) _ h), leb-true (length x) 8 (and_right (leb 1 (length x)) _ h))

swap : (a b c d : Bool) → a && c ≡ d → a && (b && c) ≡ b && d
swap true b c d e = ap (λ (x : Bool). b && x) e
swap false true c d e = e
swap false false c d e = refl

none : (a b c : Bool) → b ≡ false → a && (b && c) ≡ false
none a true c e = never true refl e
none a false c e = no_and a

pad_same : (n : ℕ) (y x : List ℕ) → length y ≤ n → no_space y ≡ true → no_space x ≡ true → leb (length x) n && same (padded n y) (padded n x) ≡ same y x
unfolding padded same all
pad_same zero [] [] h p q = refl
pad_same zero [] (b ∷ x) h p q = rw (leb-suc-zero (length x)) refl
pad_same zero (c ∷ y) x h p q = absurd (omega arith)
pad_same (suc n) [] [] h p q = rw (leb-zero (suc n)) (ap (λ (t : Bool). t && same (padded n []) (padded n [])) (sym (leb-zero n)) ∙ pad_same n [] [] (omega arith) p q)
pad_same (suc n) [] (b ∷ x) h p q =
    none (leb (length (b ∷ x)) (suc n)) (eqb 32 b) (same (padded n []) (padded n x)) (ne_eqb 32 b (λ e. never (eqb b 32) (ap (λ (k : ℕ). eqb b k) e ∙ self b) (not-true (eqb b 32) (and_left (not (eqb b 32)) _ q))))
  where
    self : (k : ℕ) → eqb k k ≡ true
    self k = eq-eqb k k refl
pad_same (suc n) (c ∷ y) [] h p q = none (leb 0 (suc n)) (eqb c 32) (same (padded n y) (padded n [])) (not-true (eqb c 32) (and_left (not (eqb c 32)) _ p))
pad_same (suc n) (c ∷ y) (b ∷ x) h p q =
    ap (λ (t : Bool). t && same (padded (suc n) (c ∷ y)) (padded (suc n) (b ∷ x))) (leb-suc-suc (length x) n)
    ∙ swap (leb (length x) n) (eqb c b) (same (padded n y) (padded n x)) (same y x) (pad_same n y x (omega arith) (and_right (not (eqb c 32)) _ p) (and_right (not (eqb b 32)) _ q))

-- a slot that holds the name y, against the word x
pub slot_same : (y x : List ℕ) → is_name y ≡ true → all (λ b. not (blank b)) x ≡ true → leb (length x) 8 && same (padded 8 y) (padded 8 x) ≡ same y x
slot_same y x p q = pad_same 8 y x (name_fits y p).1 (name_plain y p) (unblank_plain x q)

-- two names that are the same when padded are one
pub padded_once : (y x : List ℕ) → is_name y ≡ true → is_name x ≡ true → padded 8 y ≡ padded 8 x → y ≡ x
padded_once y x p q e =
    same_of y x
    (sym (pad_same 8 y x (name_fits y p).1 (name_plain y p) (name_plain x q))
    ∙ and_intro (leb (length x) 8) _ (le-leb (length x) 8 (name_fits x q).1) (ap (same (padded 8 y)) (sym e) ∙ same_self (padded 8 y)))

-- ---- the bytes of names

pub bytes_length : (N : List (List ℕ)) → length (name_bytes N) ≡ 8 * length N
unfolding name_bytes
bytes_length [] = refl
bytes_length (x ∷ N) = let h = bytes_length N in omega (arith, length-append (padded 8 x) (name_bytes N), padded_length 8 x)

pub bytes_more : (N : List (List ℕ)) (x : List ℕ) → name_bytes (N ++ (x ∷ [])) ≡ name_bytes N ++ padded 8 x
unfolding name_bytes
bytes_more [] x = append-nil (padded 8 x)
bytes_more (y ∷ N) x = ap (λ (l : List ℕ). padded 8 y ++ l) (bytes_more N x) ∙ sym (append_assoc (padded 8 y) (name_bytes N) (padded 8 x))

-- name q
pub bytes_at_lem : (N : List (List ℕ)) (rest : List ℕ) (q : ℕ) → q < length N → take 8 (drop (8 * q) (name_bytes N ++ rest)) ≡ padded 8 (get_or N q [])
unfolding name_bytes
bytes_at_lem [] rest q h = absurd (omega arith)
bytes_at_lem (x ∷ N) rest zero h =
    ap (take 8) (append_assoc (padded 8 x) (name_bytes N) rest) ∙ take_at (padded 8 x) (name_bytes N ++ rest) 8 (padded_length 8 x)
bytes_at_lem (x ∷ N) rest (suc q) h =
    let e : 8 * suc q ≡ 8 + 8 * q = omega arith in
    ap (λ (l : List ℕ). take 8 l)
    (ap (λ (i : ℕ). drop i ((padded 8 x ++ name_bytes N) ++ rest)) e ∙ sym (drop-drop (8 * q) 8 ((padded 8 x ++ name_bytes N) ++ rest))
    ∙ ap (drop (8 * q)) (ap (drop 8) (append_assoc (padded 8 x) (name_bytes N) rest) ∙ drop_at (padded 8 x) (name_bytes N ++ rest) 8 (padded_length 8 x)))
    ∙ bytes_at_lem N rest q (omega arith)

pub held_at : (N : List (List ℕ)) (names : List ℕ) → Held N names → (q : ℕ) → q < length N → take 8 (drop (8 * q) names) ≡ padded 8 (get_or N q [])
held_at N names h q l =
    ap (λ (x : List ℕ). take 8 (drop (8 * q) x)) (sym (take-append-drop (8 * length N) names) ∙ ap (λ (x : List ℕ). x ++ drop (8 * length N) names) h.stand)
    ∙ bytes_at_lem N (drop (8 * length N) names) q l

pub held_name : (N : List (List ℕ)) (q : ℕ) → all is_name N ≡ true → q < length N → is_name (get_or N q []) ≡ true
held_name N q h l = all_of is_name N h (get_d_member N q [] l)

-- ---- the number of a name

-- the first that has it
number_first : (N : List (List ℕ)) (x : List ℕ) (i : ℕ) → i < length N → same (get_or N i []) x ≡ true
    → ((k : ℕ) → k < i → same (get_or N k []) x ≡ false) → number_of N x ≡ i
unfolding number_of
number_first [] x i h e f = absurd (omega arith)
number_first (y ∷ N) x zero h e f = rw (number_of, e) refl
number_first (y ∷ N) x (suc i) h e f =
    rw (number_of, f 0 (omega arith)) (ap suc (number_first N x i (omega arith) e (λ k l. f (suc k) (omega arith))))

-- none has it
number_none : (N : List (List ℕ)) (x : List ℕ) → ((k : ℕ) → k < length N → same (get_or N k []) x ≡ false) → number_of N x ≡ length N
unfolding number_of
number_none [] x f = refl
number_none (y ∷ N) x f = rw (number_of, f 0 (omega arith)) (ap suc (number_none N x (λ k l. f (suc k) (omega arith))))

-- what slot q answers
pub slot_answers : (N : List (List ℕ)) (names x s : List ℕ) (q : ℕ) (r : Bool) → Held N names → q < length N → all (λ b. not (blank b)) x ≡ true
    → s ≡ take 8 (drop (8 * q) names) → r ≡ leb (length x) (length s) && same s (padded (length s) x) → r ≡ same (get_or N q []) x
slot_answers N names x s q r h l p e f =
    f ∙ ap (λ (t : List ℕ). leb (length x) (length t) && same t (padded (length t) x)) (e ∙ held_at N names h q l)
    ∙ ap (λ (n : ℕ). leb (length x) n && same (padded 8 (get_or N q [])) (padded n x)) (padded_length 8 (get_or N q []))
    ∙ slot_same (get_or N q []) x (held_name N q h.named l) p

-- whether slot q holds the name
abbrev pub holds : List ℕ → List ℕ → ℕ → Bool
holds names x q =
    let s : List ℕ = take (8 * q + 8 - 8 * q) (drop (8 * q) names) in
    leb (length x) (length s) && same s (padded (length s) x)

module _ (names x : List ℕ) (p : ℕ) (r : Option ℕ)
    (looked : MatchOption r ((k : ℕ) → 0 ≤ k → k < p → holds names x k ≡ false)
    (λ i. (0 ≤ i) × (i < p) × (holds names x i ≡ true) × ((k : ℕ) → 0 ≤ k → k < i → holds names x k ≡ false))) where
  pub looked_below : IfSome r (λ q. q < p)
  looked_below = elim r as (λ o. MatchOption o ((k : ℕ) → 0 ≤ k → k < p → holds names x k ≡ false)
      (λ i. (0 ≤ i) × (i < p) × (holds names x i ≡ true) × ((k : ℕ) → 0 ≤ k → k < i → holds names x k ≡ false))
      → IfSome o (λ q. q < p)) [ None ↦ (λ m. tt) | Some i ↦ (λ m. m.1) ] looked

  pub looked_first : (N : List (List ℕ)) → Held N names → length N ≡ p → all (λ b. not (blank b)) x ≡ true → r ≡ found N x
  unfolding found known
  looked_first N h l b = go r looked
    where
      here : (q : ℕ) → q < p → holds names x q ≡ same (get_or N q []) x
      here q k = slot_answers N names x _ q _ h (omega arith) b (part_take (8 * q) 8 names) refl

      go : (o : Option ℕ)
          → MatchOption o ((k : ℕ) → 0 ≤ k → k < p → holds names x k ≡ false)
          (λ i. (0 ≤ i) × (i < p) × (holds names x i ≡ true) × ((k : ℕ) → 0 ≤ k → k < i → holds names x k ≡ false))
          → o ≡ cond (ltb (number_of N x) (length N)) (Some (number_of N x)) None
      go None m =
          let e = number_none N x (λ k j. sym (here k (omega arith)) ∙ m k (omega arith) (omega arith)) in
          sym (rw (le-ltb (number_of N x) (length N) (omega (arith, e))) refl)
      go (Some i) m =
          let e = number_first N x i (omega (arith, m.1)) (sym (here i m.1) ∙ m.2) (λ k j. sym (here k (omega (arith, m.1))) ∙ m.3 k (omega arith) j) in
          ap (λ (n : ℕ). Some n) (sym e) ∙ sym (rw (lt-ltb (number_of N x) (length N) (omega (arith, e, m.1))) refl)
