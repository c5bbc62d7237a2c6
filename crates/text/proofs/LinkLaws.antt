-- A line of pass 2: its checks case by case, and the links with one more. Assumes nothing.
use mathlib.Core.Path.{◌≡◌, refl, sym, ap, ap₂, ◌∙◌, subst, subst⁻¹}
use mathlib.Core.Bool.{Bool, true, false, cond, not}
use mathlib.Core.List.{List, [], ◌∷◌, ◌++◌}
use mathlib.Core.Logic.{◌⊎◌, inl, inr}
use Prim.Native.Nat.{ℕ, ◌+◌, ◌<◌, ◌≤◌, min, max}
use native.Mathlib.Omega.{arith}
use lib.Dec.{eqb}
use lib.ListN.{length, get_or, length-append}
use borrow.Author.Tests.{ltb-true, eq-eqb, ne_eqb}
use Rattle.answers.specs.Verdict.{Verdict, accepted, refused, ◌then◌, unless}
use Rattle.answers.specs.Answers.{counts, say_of}
use Rattle.answers.proofs.Laws.{stop, go, last_stop, last_go, say_accepted, say_refused, accepted_not, then_left, then_right, then_go, then_stop, unless_passed}
use Rattle.sets.specs.Lists.{all}
use Rattle.sets.proofs.Tests.{iff, lt_or_le}
use Rattle.sets.specs.Sets.{has}
use Rattle.sets.specs.Value.{width, row}
use Rattle.percolation.specs.Links.{Link, link, linked}
use Rattle.percolation.proofs.Families.{linked_sym}
use Rattle.checks.specs.Neighbours.{Neighbours}
use Rattle.checks.proofs.Near.{near_more}
use Rattle.checks.specs.Model.{marked}
use Rattle.link_order.specs.Order.{LinkLists, has_room, put_link}
use Rattle.checks.specs.Model.{as_link}
use Rattle.words.specs.Lines.{blank, words, Said, silent, part_said, link_said, neither}
use Rattle.words.proofs.WordLaws.{word_plain}
use Rattle.std.specs.Prelude.{Option, Some, None, Result, Ok, Err}
use Rattle.answers.specs.Answers.{Answer}
use Rattle.answers.specs.Faults.{number_of as fault_no}
use Rattle.answers.specs.declared.Refusal.{Refusal}
use Rattle.answers.specs.declared.fault.Fault.{Fault}
use Rattle.answers.specs.declared.fault.Fault.TheVariants.{LinkParts, NoWeight, LinkAgain, Space, UnknownPart, WeightForm}
use Rattle.checks.specs.declared.Link.{Link as Row}
use Rattle.text.proofs.PartLaws.{refusal, then_same}
use Rattle.text.specs.Reading.{known, number_of, is_weight, value, link_given, check_link}
use Rattle.text.specs.Model.{found, check_fields, fields_check, fields_link, FieldsMeet, check_take, TakeMeets, LinkMeets}

-- ---- taking a link in

module _ (t : LinkLists) (seen : List ℕ) (m a : ℕ) (l : Link) (t2 : LinkLists) (seen2 : List ℕ) where
  take_refused : (r : Refusal) → check_take t seen m a l ≡ refused (fault_no r.fault) r.place → TakeMeets t seen m a l (Err r) t2 seen2
  take_refused r e = record {
    answer = sym (say_refused _ _ _ _ e);
    lists = λ g. accepted_not _ _ (sym e ∙ g);
    rows = λ g. accepted_not _ _ (sym e ∙ g);
  }

  pub take_9 : has l.high (row seen l.low) ≡ true → TakeMeets t seen m a l (Err (refusal LinkAgain a)) t2 seen2
  unfolding check_take
  take_9 g = take_refused (refusal LinkAgain a) (stop (not (has l.high (row seen l.low))) 9 a _ (ap not g))

  pub take_16 : has l.high (row seen l.low) ≡ false → has_room t m ≡ false → TakeMeets t seen m a l (Err (refusal Space 0)) t2 seen2
  unfolding check_take
  take_16 g r = take_refused (refusal Space 0) (go (not (has l.high (row seen l.low))) 9 a _ (ap not g) ∙ last_stop (has_room t m) 16 0 r)

  pub take_fine : has l.high (row seen l.low) ≡ false → has_room t m ≡ true → t2 ≡ put_link l t m → seen2 ≡ marked seen l.low l.high
      → TakeMeets t seen m a l (Ok (m + 1)) t2 seen2
  unfolding check_take
  take_fine g r p q = record {
    answer = sym (say_accepted _ _ (go (not (has l.high (row seen l.low))) 9 a _ (ap not g) ∙ last_go (has_room t m) 16 0 r));
    lists = λ z. p;
    rows = λ z. q;
  }

-- ---- the words of a link line

weight_not : (w : List ℕ) (o : Option ℕ) → o ≡ cond (is_weight w) (Some (value w)) None → o ≡ None → is_weight w ≡ false
weight_not w o e h = go_on (is_weight w) (sym h ∙ e)
  where
    go_on : (x : Bool) → None ≡ cond x (Some (value w)) None → x ≡ false
    go_on true f = absurd cc
    go_on false f = refl

weight_is : (w : List ℕ) (o : Option ℕ) (v : ℕ) → o ≡ cond (is_weight w) (Some (value w)) None → o ≡ Some v → (is_weight w ≡ true) × (v ≡ value w)
weight_is w o v e h = pick (is_weight w) (sym h ∙ e)
  where
    pick : (x : Bool) → Some v ≡ cond x (Some (value w)) None → (x ≡ true) × (v ≡ value w)
    pick true f = (refl, cc)
    pick false f = absurd cc

found_not : (N : List (List ℕ)) (x : List ℕ) → None ≡ found N x → known N x ≡ false
unfolding found
found_not N x e = pick (known N x) e
  where
    pick : (t : Bool) → None ≡ cond t (Some (number_of N x)) None → t ≡ false
    pick true f = absurd cc
    pick false f = refl

found_is : (N : List (List ℕ)) (x : List ℕ) (a : ℕ) → Some a ≡ found N x → (known N x ≡ true) × (a ≡ number_of N x)
unfolding found
found_is N x a e = pick (known N x) e
  where
    pick : (t : Bool) → Some a ≡ cond t (Some (number_of N x)) None → (t ≡ true) × (a ≡ number_of N x)
    pick true f = (refl, cc)
    pick false f = absurd cc

module _ (N : List (List ℕ)) (x y w : List ℕ) where
  fields_refused : (k : Fault) → ((a : ℕ) → check_fields N a x y w ≡ refused (fault_no k) a) → FieldsMeet N x y w (Err k)
  fields_refused k e = record {
    checked = λ a. sym (e a);
    given = λ a g. accepted_not _ a (sym (e a) ∙ g);
  }

  module _ (oa : Option ℕ) (ia : oa ≡ found N x) where
    pub fields_first : oa ≡ None → FieldsMeet N x y w (Err UnknownPart)
    unfolding check_fields
    fields_first h = fields_refused UnknownPart (λ k. stop (known N x) 103 k _ (found_not N x (sym h ∙ ia)))

    module _ (a : ℕ) (ha : oa ≡ Some a) (ob : Option ℕ) (ib : ob ≡ found N y) where
      known_a : known N x ≡ true
      known_a = (found_is N x a (sym ha ∙ ia)).0

      ea : a ≡ number_of N x
      ea = (found_is N x a (sym ha ∙ ia)).1

      pub fields_second : ob ≡ None → FieldsMeet N x y w (Err UnknownPart)
      unfolding check_fields
      fields_second h = fields_refused UnknownPart (λ k. go (known N x) 103 k _ known_a ∙ stop (known N y) 103 k _ (found_not N y (sym h ∙ ib)))

      module _ (b : ℕ) (hb : ob ≡ Some b) where
        known_b : known N y ≡ true
        known_b = (found_is N y b (sym hb ∙ ib)).0

        eb : b ≡ number_of N y
        eb = (found_is N y b (sym hb ∙ ib)).1

        pub fields_6 : a ≡ b → FieldsMeet N x y w (Err LinkParts)
        unfolding check_fields
        fields_6 h = fields_refused LinkParts (λ k. go (known N x) 103 k _ known_a ∙ go (known N y) 103 k _ known_b
            ∙ stop (not (eqb (number_of N x) (number_of N y))) 6 k _ (ap not (eq-eqb (number_of N x) (number_of N y) (sym ea ∙ h ∙ eb))))

        module _ (ne : a ≡ b → ⊥) (o : Option ℕ) (eo : o ≡ cond (is_weight w) (Some (value w)) None) where
          unlike : not (eqb (number_of N x) (number_of N y)) ≡ true
          unlike = ap not (ne_eqb (number_of N x) (number_of N y) (λ q. ne (ea ∙ q ∙ sym eb)))

          pub fields_104 : o ≡ None → FieldsMeet N x y w (Err WeightForm)
          unfolding check_fields
          fields_104 h = fields_refused WeightForm (λ k. go (known N x) 103 k _ known_a ∙ go (known N y) 103 k _ known_b
              ∙ go (not (eqb (number_of N x) (number_of N y))) 6 k _ unlike ∙ stop (is_weight w) 104 k _ (weight_not w o eo h))

          module _ (v : ℕ) (hv : o ≡ Some v) where
            pub fields_7 : v ≡ 0 → FieldsMeet N x y w (Err NoWeight)
            unfolding check_fields
            fields_7 h = let k = weight_is w o v eo hv in
                fields_refused NoWeight (λ a2. go (known N x) 103 a2 _ known_a ∙ go (known N y) 103 a2 _ known_b
                ∙ go (not (eqb (number_of N x) (number_of N y))) 6 a2 _ unlike ∙ go (is_weight w) 104 a2 _ k.0
                ∙ last_stop (not (eqb (value w) 0)) 7 a2 (ap not (eq-eqb (value w) 0 (sym k.1 ∙ h))))

            module _ (hz : v ≡ 0 → ⊥) where
              fields_pass : (a2 : ℕ) → check_fields N a2 x y w ≡ accepted
              unfolding check_fields
              fields_pass a2 = let k = weight_is w o v eo hv in
                  go (known N x) 103 a2 _ known_a ∙ go (known N y) 103 a2 _ known_b
                  ∙ go (not (eqb (number_of N x) (number_of N y))) 6 a2 _ unlike ∙ go (is_weight w) 104 a2 _ k.0
                  ∙ last_go (not (eqb (value w) 0)) 7 a2 (ap not (ne_eqb (value w) 0 (λ q. hz (k.1 ∙ q))))

              pub fields_fine : (l : Row ℕ) → l.low ≡ min a b → l.high ≡ max a b → l.weight ≡ v → FieldsMeet N x y w (Ok l)
              unfolding link_given
              fields_fine l el eh ew = record {
                checked = λ a2. sym (fields_pass a2);
                given = λ a2 g.
                    ap₂ (λ (i j : ℕ). link i j l.weight) (el ∙ ap₂ min ea eb) (eh ∙ ap₂ max ea eb)
                    ∙ ap (link (min (number_of N x) (number_of N y)) (max (number_of N x) (number_of N y))) (ew ∙ (weight_is w o v eo hv).1);
              }

-- what is found of a word of the line
pub word_found : (N : List (List ℕ)) (l : List ℕ) (k : ℕ) (x : List ℕ) (o : Option ℕ) → x ≡ get_or (words l) k []
    → (all (λ b. not (blank b)) x ≡ true → o ≡ found N x)
    → o ≡ found N (get_or (words l) k [])
word_found N l k x o e f = f (ap (all (λ b. not (blank b))) e ∙ word_plain l k) ∙ ap (found N) e

pub word_weight : (x w : List ℕ) (o : Option ℕ) → x ≡ w → o ≡ cond (is_weight x) (Some (value x)) None → o ≡ cond (is_weight w) (Some (value w)) None
word_weight x w o e f = f ∙ ap (λ (z : List ℕ). cond (is_weight z) (Some (value z)) None) e

-- ---- a link line as a whole

spread : (b1 b2 b3 b4 b5 : Bool) (a : ℕ) (v : Verdict)
    → (unless b1 103 a then unless b2 103 a then unless b3 6 a then unless b4 104 a then unless b5 7 a then v)
    ≡ ((unless b1 103 a then unless b2 103 a then unless b3 6 a then unless b4 104 a then unless b5 7 a) then v)
unfolding unless ◌then◌
spread false b2 b3 b4 b5 a v = refl
spread true false b3 b4 b5 a v = refl
spread true true false b4 b5 a v = refl
spread true true true false b5 a v = refl
spread true true true true false a v = refl
spread true true true true true a v = refl

linked_turn : (L : List Link) (q r : ℕ) → linked L q r ≡ linked L r q
linked_turn L q r = iff (linked L q r) (linked L r q) (linked_sym L q r) (linked_sym L r q)

pub linked_ends : (L : List Link) (q r : ℕ) → linked L (min q r) (max q r) ≡ linked L q r
linked_ends L q r = pick (lt_or_le q r)
  where
    pick : (q < r) ⊎ (r ≤ q) → linked L (min q r) (max q r) ≡ linked L q r
    pick (inl h) = ap₂ (linked L) (let e : min q r ≡ q = omega arith in e) (let e : max q r ≡ r = omega arith in e)
    pick (inr h) = ap₂ (linked L) (let e : min q r ≡ r = omega arith in e) (let e : max q r ≡ q = omega arith in e) ∙ linked_turn L r q

-- both parts of a link line that passes its own checks are known
fields_known : (N : List (List ℕ)) (a : ℕ) (x y w : List ℕ) → check_fields N a x y w ≡ accepted → (number_of N x < length N) × (number_of N y < length N)
unfolding check_fields known
fields_known N a x y w e = (
  ltb-true (number_of N x) (length N) (unless_passed (known N x) 103 a (then_left _ _ e)),
  ltb-true (number_of N y) (length N) (unless_passed (known N y) 103 a (then_left _ _ (then_right (unless (known N x) 103 a) _ e))),
)

module _ (N : List (List ℕ)) (L : List Link) (a : ℕ) (x y w : List ℕ) (t : LinkLists) (seen : List ℕ) (m : ℕ) (f : Result (Row ℕ) Fault)
    (few : length N ≤ 64) (near : Neighbours L seen) (count : length L ≡ m) (meets : FieldsMeet N x y w f) where
  abbrev given : Link
  given = link_given N x y w

  low_small : check_fields N a x y w ≡ accepted → given.low < width
  unfolding link_given
  low_small e = let k = fields_known N a x y w e in omega (arith, k.0, k.1)

  high_small : check_fields N a x y w ≡ accepted → given.high < width
  unfolding link_given
  high_small e = let k = fields_known N a x y w e in omega (arith, k.0, k.1)

  seen_linked : check_fields N a x y w ≡ accepted → has given.high (row seen given.low) ≡ linked L (number_of N x) (number_of N y)
  unfolding link_given
  seen_linked e = near.near given.low given.high (low_small e) (high_small e) ∙ linked_ends L (number_of N x) (number_of N y)

  -- the line's own words, then the link that they give
  line_check : check_link t N L a (link_said x y w) ≡ (check_fields N a x y w then check_take t seen m a given)
  unfolding check_link check_take check_fields
  line_check =
      spread (known N x) (known N y) (not (eqb (number_of N x) (number_of N y))) (is_weight w) (not (eqb (value w) 0)) a _
      ∙ then_same (check_fields N a x y w) _ _
      (λ e. ap₂ (λ (b : Bool) (n : ℕ). unless (not b) 9 a then unless (has_room t n) 16 0) (sym (seen_linked e)) count)

  -- a fault in its words
  pub link_stop : (s : Said) (k : Fault) (t2 : LinkLists) (seen2 : List ℕ) → link_said x y w ≡ s → f ≡ Err k → LinkMeets N L a s t (Err (refusal k a)) t2 seen2
  link_stop s k t2 seen2 e h = subst (λ (z : Said). LinkMeets N L a z t (Err (refusal k a)) t2 seen2) e
      (record { answer = sym (say_refused _ _ _ _ v); lists = λ g. accepted_not _ _ (sym v ∙ g); rows = λ g. accepted_not _ _ (sym v ∙ g) })
    where
      v : check_link t N L a (link_said x y w) ≡ refused (fault_no k) a
      v = line_check ∙ then_stop _ _ _ _ (sym (meets.checked a) ∙ ap (λ (z : Result (Row ℕ) Fault). fields_check z a) h)

  -- its words give the link l
  module _ (l : Row ℕ) (h : f ≡ Ok l) where
    fields_passed : check_fields N a x y w ≡ accepted
    fields_passed = sym (meets.checked a) ∙ ap (λ (z : Result (Row ℕ) Fault). fields_check z a) h

    is_given : as_link l ≡ given
    is_given = ap fields_link (sym h) ∙ meets.given a fields_passed

    take_check : check_link t N L a (link_said x y w) ≡ check_take t seen m a (as_link l)
    take_check = line_check ∙ then_go _ _ fields_passed ∙ ap (check_take t seen m a) (sym is_given)

    link_said_lem : (r : Answer) (t2 : LinkLists) (seen2 : List ℕ) → TakeMeets t seen m a (as_link l) r t2 seen2
        → LinkMeets N L a (link_said x y w) t r t2 seen2
    link_said_lem r t2 seen2 k = record {
      answer = k.answer ∙ ap₂ say_of (sym take_check) (let e : m + 1 ≡ length (L ++ (given ∷ [])) = omega (arith, length-append L (given ∷ [])) in e);
      lists = λ e. k.lists (sym take_check ∙ e) ∙ ap₂ (λ (z : Link) (n : ℕ). put_link z t n) is_given (sym count);
      rows = λ e. subst⁻¹ (Neighbours (L ++ (given ∷ [])))
          (k.rows (sym take_check ∙ e) ∙ ap (λ (z : Link). marked seen z.low z.high) is_given)
          (near_more L seen given near (low_small fields_passed) (high_small fields_passed));
    }

    pub link_line : (s : Said) (r : Answer) (t2 : LinkLists) (seen2 : List ℕ) → link_said x y w ≡ s → TakeMeets t seen m a (as_link l) r t2 seen2
        → LinkMeets N L a s t r t2 seen2
    link_line s r t2 seen2 e k = subst (λ (z : Said). LinkMeets N L a z t r t2 seen2) e (link_said_lem r t2 seen2 k)

-- other lines leave the links
module _ (N : List (List ℕ)) (L : List Link) (a : ℕ) (s : Said) (t : LinkLists) (seen : List ℕ) (m : ℕ) (near : Neighbours L seen) (count : length L ≡ m) where
  pub link_silent : silent ≡ s → LinkMeets N L a s t (Ok m) t seen
  unfolding check_link
  link_silent e = subst (λ (z : Said). LinkMeets N L a z t (Ok m) t seen) e
      (record { answer = ap counts (sym count) ∙ sym (say_accepted accepted _ refl); lists = λ g. refl; rows = λ g. near })

  pub link_part : (x : List ℕ) → part_said x ≡ s → LinkMeets N L a s t (Ok m) t seen
  unfolding check_link
  link_part x e = subst (λ (z : Said). LinkMeets N L a z t (Ok m) t seen) e
      (record { answer = ap counts (sym count) ∙ sym (say_accepted accepted _ refl); lists = λ g. refl; rows = λ g. near })

  pub link_neither : neither ≡ s → LinkMeets N L a s t (Ok m) t seen
  unfolding check_link
  link_neither e = subst (λ (z : Said). LinkMeets N L a z t (Ok m) t seen) e
      (record { answer = ap counts (sym count) ∙ sym (say_accepted accepted _ refl); lists = λ g. refl; rows = λ g. near })
