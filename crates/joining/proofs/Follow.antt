-- Where following entries ends, and that path halving changes no end. Assumes nothing.
use mathlib.Core.Path.{◌≡◌, refl, sym, ap, ◌∙◌, subst, subst⁻¹}
use mathlib.Core.Logic.{◌⊎◌, inl, inr, ◌↔◌}
use mathlib.Core.List.{List, []}
use Prim.Native.Nat.{ℕ, zero, suc, ◌≤◌, ◌<◌}
use native.Mathlib.Omega.{arith}
use lib.ListN.{length, get_or, set, length-set, get_or-eq_default}
use lib.Seq.{get_or-set_same, get_or-set_other, set_out}
use lib.Dec.{leb, eqb}
use borrow.Author.Tests.{lt-ltb, le-ltb, le-leb, lt-leb, eq-eqb, eqb-true, ne_eqb}
use Rattle.sets.proofs.Tests.{lt_or_le, same_or_not}
use Rattle.sets.proofs.ListLaws.{get_d_in}
use Rattle.joining.specs.Entries.{Ends, own, on, follow, root_of}
use Rattle.joining.specs.Model.{halved_from, halved}

-- ---- ends

module _ (es : List ℕ) where
  follow_go : (n i : ℕ) → get_or es i i < i → follow (suc n) es i ≡ follow n es (get_or es i i)
  unfolding follow
  follow_go n i h = rw (follow, lt-ltb (get_or es i i) i h)

  follow_stop : (n i : ℕ) → i ≤ get_or es i i → follow n es i ≡ i
  unfolding follow
  follow_stop zero i h = refl
  follow_stop (suc n) i h = rw (follow, le-ltb (get_or es i i) i h)

  -- as many steps as the slot's number are enough
  follow_enough : (n m i : ℕ) → i ≤ n → i ≤ m → follow n es i ≡ follow m es i
  follow_enough zero m i p q =
      let h : i ≤ get_or es i i = omega arith in
      follow_stop zero i h ∙ sym (follow_stop m i h)
  follow_enough (suc n) zero i p q =
      let h : i ≤ get_or es i i = omega arith in
      follow_stop (suc n) i h ∙ sym (follow_stop zero i h)
  follow_enough (suc n) (suc m) i p q = go (lt_or_le (get_or es i i) i) (follow_enough n m (get_or es i i))
    where
      go : (get_or es i i < i) ⊎ (i ≤ get_or es i i) → (get_or es i i ≤ n → get_or es i i ≤ m → follow n es (get_or es i i) ≡ follow m es (get_or es i i))
          → follow (suc n) es i ≡ follow (suc m) es i
      go (inl h) rest = follow_go n i h ∙ rest (omega arith) (omega arith) ∙ sym (follow_go m i h)
      go (inr h) rest = follow_stop (suc n) i h ∙ sym (follow_stop (suc m) i h)

  pub root_go : (i : ℕ) → get_or es i i < i → root_of es i ≡ root_of es (get_or es i i)
  unfolding root_of
  root_go zero h = absurd (omega arith)
  root_go (suc i) h = follow_go i (suc i) h ∙ follow_enough i (get_or es (suc i) (suc i)) (get_or es (suc i) (suc i)) (omega arith) (omega arith)

  pub root_stop : (i : ℕ) → i ≤ get_or es i i → root_of es i ≡ i
  unfolding root_of
  root_stop i h = follow_stop i i h

  -- what holds at each slot that ends, and goes up from an entry to its slot, holds of each slot and its end
  pub root_ind : (P : ℕ → ℕ → Type 0) → ((i : ℕ) → i ≤ get_or es i i → P i i) → ((i r : ℕ) → get_or es i i < i → P (get_or es i i) r → P i r) → (i : ℕ) → P i (root_of es i)
  root_ind P stop step i = down i i (omega arith)
    where
      ends : (i : ℕ) → i ≤ get_or es i i → P i (root_of es i)
      ends i h = subst (λ (r : ℕ). P i r) (sym (root_stop i h)) (stop i h)

      down : (n i : ℕ) → i ≤ n → P i (root_of es i)
      down zero i p = ends i (omega arith)
      down (suc n) i p = go (lt_or_le (get_or es i i) i) (down n (get_or es i i))
        where
          go : (get_or es i i < i) ⊎ (i ≤ get_or es i i) → (get_or es i i ≤ n → P (get_or es i i) (root_of es (get_or es i i))) → P i (root_of es i)
          go (inl h) rest = subst (λ (r : ℕ). P i r) (sym (root_go i h)) (step i (root_of es (get_or es i i)) h (rest (omega arith)))
          go (inr h) rest = ends i h

  pub root_le : (i : ℕ) → root_of es i ≤ i
  root_le = root_ind (λ i r. r ≤ i) (λ i h. omega arith) (λ i r h ih. omega arith)

  -- an end's entry is not below it
  pub root_ends : (i : ℕ) → root_of es i ≤ get_or es (root_of es i) (root_of es i)
  root_ends = root_ind (λ i r. r ≤ get_or es r r) (λ i h. h) (λ i r h ih. ih)

  pub root_twice : (i : ℕ) → root_of es (root_of es i) ≡ root_of es i
  root_twice i = root_stop (root_of es i) (root_ends i)

-- a slot is its own end exactly when its entry is not below it
pub root_test : (es : List ℕ) (i e : ℕ) → e ≡ get_or es i i → leb i e ≡ eqb (root_of es i) i
root_test es i e p = go (lt_or_le (get_or es i i) i)
  where
    go : (get_or es i i < i) ⊎ (i ≤ get_or es i i) → leb i e ≡ eqb (root_of es i) i
    go (inl h) =
        let lower : root_of es i ≡ i → ⊥ = λ s. omega (arith, root_go es i h, root_le es (get_or es i i)) in
        lt-leb i e (omega arith) ∙ sym (ne_eqb (root_of es i) i lower)
    go (inr h) = le-leb i e (omega arith) ∙ sym (eq-eqb (root_of es i) i (root_stop es i h))

-- with no entries each slot is its own end
pub root_none : (i : ℕ) → root_of [] i ≡ i
root_none i = eqb-true (root_of [] i) i (sym (root_test [] i i refl) ∙ le-leb i i (omega arith))

-- where a slot ends turns on the entries below and at it alone
pub root_below : (es fs : List ℕ) (n : ℕ) → ((i : ℕ) → i < n → get_or fs i i ≡ get_or es i i) → (x : ℕ) → x < n → root_of fs x ≡ root_of es x
root_below es fs n same = root_ind es (λ x r. x < n → root_of fs x ≡ r) stop step
  where
    stop : (x : ℕ) → x ≤ get_or es x x → x < n → root_of fs x ≡ x
    stop x h l = root_stop fs x (omega (arith, same x l))

    step : (x r : ℕ) → get_or es x x < x → (get_or es x x < n → root_of fs (get_or es x x) ≡ r) → x < n → root_of fs x ≡ r
    step x r h rest l = root_go fs x (omega (arith, same x l)) ∙ ap (root_of fs) (same x l) ∙ rest (omega arith)

-- ---- entries inside the table

-- no entry is above its own slot; past the table's end an entry is read as 0, so that this is said of every slot
abbrev pub Steady : List ℕ → Type 0
Steady es = (i : ℕ) → get_or es i 0 ≤ i

-- a slot is its own end exactly when its entry is its own number
pub root_own : (es : List ℕ) (i : ℕ) → Steady es → i < length es → (root_of es i ≡ i) ↔ (get_or es i 0 ≡ i)
root_own es i st h = (
  (λ e.
      let l : i ≤ get_or es i i = subst (λ (r : ℕ). r ≤ get_or es r r) e (root_ends es i) in
      omega (arith, st i, get_d_in es i 0 i h)),
  (λ e. root_stop es i (omega (arith, get_d_in es i 0 i h))),
)

-- following entries from a slot ends at its root
pub root_reached : (es : List ℕ) → Steady es → (i : ℕ) → i < length es → Ends es i (root_of es i)
root_reached es st =
    root_ind es (λ i r. i < length es → Ends es i r) (λ i h l. own (omega (arith, st i, get_d_in es i 0 i l)))
    (λ i r h rest l. on (subst⁻¹ (λ (e : ℕ). Ends es e r) (get_d_in es i 0 i l) (rest (omega arith))))

-- and nowhere else
pub reached_root : (es : List ℕ) → Steady es → {i r : ℕ} → i < length es → Ends es i r → r ≡ root_of es i
reached_root es st {i} l (own e) = sym ((root_own es i st l).1 e)
reached_root es st {i} {r} l (on d) = go (lt_or_le (get_or es i i) i) (reached_root es st (omega (arith, st i)) d)
  where
    go : (get_or es i i < i) ⊎ (i ≤ get_or es i i) → r ≡ root_of es (get_or es i 0) → r ≡ root_of es i
    go (inl h) e = e ∙ ap (root_of es) (get_d_in es i 0 i l) ∙ sym (root_go es i h)
    go (inr h) e = let s : get_or es i 0 ≡ i = omega (arith, st i, get_d_in es i 0 i l) in e ∙ ap (root_of es) s

pub set_steady : (es : List ℕ) (r g : ℕ) → g ≤ r → Steady es → Steady (set es r g)
set_steady es r g l st i = go (same_or_not i r) (lt_or_le i (length es))
  where
    go : (i ≡ r) ⊎ (i ≡ r → ⊥) → (i < length es) ⊎ (length es ≤ i) → get_or (set es r g) i 0 ≤ i
    go (inl e) (inl w) = subst (λ (x : ℕ). get_or (set es r g) x 0 ≤ x) (sym e) (omega (arith, get_or-set_same es r g 0 (omega arith)))
    go (inl e) (inr w) = omega (arith, get_or-eq_default (set es r g) 0 {n = i} (omega (arith, length-set es r g)))
    go (inr n) w = omega (arith, get_or-set_other es r i g 0 n, st i)

-- ---- path halving

-- an entry may be set to any lower slot of its class
pub shortcut : (es : List ℕ) (r g : ℕ) → g < r → root_of es g ≡ root_of es r → (x : ℕ) → root_of (set es r g) x ≡ root_of es x
shortcut es r g low same x = past (lt_or_le r (length es))
  where
    fs : List ℕ
    fs = set es r g

    down : r < length es → (n x : ℕ) → x ≤ n → root_of fs x ≡ root_of es x
    down w zero x p = root_stop fs x (omega arith) ∙ sym (root_stop es x (omega arith))
    down w (suc n) x p = go (same_or_not x r) (lt_or_le (get_or es x x) x) (down w n)
      where
        go : (x ≡ r) ⊎ (x ≡ r → ⊥) → (get_or es x x < x) ⊎ (x ≤ get_or es x x) → ((y : ℕ) → y ≤ n → root_of fs y ≡ root_of es y) → root_of fs x ≡ root_of es x
        go (inl e) h rest =
            let at : get_or fs x x ≡ g = ap (λ (y : ℕ). get_or fs y y) e ∙ get_or-set_same es r g r w in
            root_go fs x (omega arith) ∙ rest (get_or fs x x) (omega arith) ∙ ap (root_of es) at ∙ same ∙ ap (root_of es) (sym e)
        go (inr ne) (inl h) rest =
            let at : get_or fs x x ≡ get_or es x x = get_or-set_other es r x g x ne in
            root_go fs x (omega arith) ∙ rest (get_or fs x x) (omega arith) ∙ ap (root_of es) at ∙ sym (root_go es x h)
        go (inr ne) (inr h) rest =
            let at : get_or fs x x ≡ get_or es x x = get_or-set_other es r x g x ne in
            root_stop fs x (omega arith) ∙ sym (root_stop es x h)

    past : (r < length es) ⊎ (length es ≤ r) → root_of (set es r g) x ≡ root_of es x
    past (inl w) = down w x x (omega arith)
    past (inr w) = ap (λ (l : List ℕ). root_of l x) (set_out es r g w)

module _ (es : List ℕ) (r : ℕ) where
  pub halve_stop : (n : ℕ) → r ≤ get_or es r r → halved_from n es r ≡ es
  unfolding halved_from
  halve_stop zero h = refl
  halve_stop (suc n) h = rw (halved_from, le-ltb (get_or es r r) r h)

  pub halve_last : (n : ℕ) → get_or es r r < r → get_or es r r ≤ get_or es (get_or es r r) (get_or es r r) → halved_from n es r ≡ es
  unfolding halved_from
  halve_last zero a b = refl
  halve_last (suc n) a b = rw (halved_from, lt-ltb (get_or es r r) r a, le-ltb (get_or es (get_or es r r) (get_or es r r)) (get_or es r r) b)

  pub halve_go : (n : ℕ) → get_or es r r < r → get_or es (get_or es r r) (get_or es r r) < get_or es r r
      → halved_from (suc n) es r ≡ halved_from n (set es r (get_or es (get_or es r r) (get_or es r r))) (get_or es (get_or es r r) (get_or es r r))
  unfolding halved_from
  halve_go n a b = rw (halved_from, lt-ltb (get_or es r r) r a, lt-ltb (get_or es (get_or es r r) (get_or es r r)) (get_or es r r) b)

  -- two steps on stand where the slot ends too
  halve_same : get_or es r r < r → get_or es (get_or es r r) (get_or es r r) < get_or es r r
      → root_of es (get_or es (get_or es r r) (get_or es r r)) ≡ root_of es r
  halve_same a b = sym (root_go es r a ∙ root_go es (get_or es r r) b)

-- what a lower entry of the same class keeps, halving keeps
halved_keeps : (P : List ℕ → Type 0) (i : ℕ)
    → ((es : List ℕ) (r g : ℕ) → r ≤ i → g < r → root_of es g ≡ root_of es r → P es → P (set es r g))
    → (n : ℕ) (es : List ℕ) (r : ℕ) → r ≤ i → P es → P (halved_from n es r)
unfolding halved_from
halved_keeps P i step zero es r l p = p
halved_keeps P i step (suc n) es r l p =
    go (lt_or_le (get_or es r r) r) (lt_or_le (get_or es (get_or es r r) (get_or es r r)) (get_or es r r)) (halved_keeps P i step n)
  where
    go : (get_or es r r < r) ⊎ (r ≤ get_or es r r) → (get_or es (get_or es r r) (get_or es r r) < get_or es r r) ⊎ (get_or es r r ≤ get_or es (get_or es r r) (get_or es r r))
        → ((fs : List ℕ) (z : ℕ) → z ≤ i → P fs → P (halved_from n fs z)) → P (halved_from (suc n) es r)
    go (inl a) (inl b) rest =
        subst P (sym (halve_go es r n a b)) (rest (set es r (get_or es (get_or es r r) (get_or es r r))) (get_or es (get_or es r r) (get_or es r r)) (omega arith)
        (step es r (get_or es (get_or es r r) (get_or es r r)) l (omega arith) (halve_same es r a b) p))
    go (inl a) (inr b) rest = subst P (sym (halve_last es r (suc n) a b)) p
    go (inr a) b rest = subst P (sym (halve_stop es r (suc n) a)) p

module _ (es : List ℕ) (i : ℕ) where
  pub halved_root : (x : ℕ) → root_of (halved es i) x ≡ root_of es x
  unfolding halved
  halved_root x = halved_keeps (λ fs. root_of fs x ≡ root_of es x) i (λ fs r g l h s p. shortcut fs r g h s x ∙ p) i es i (omega arith) refl

  pub halved_steady : Steady es → Steady (halved es i)
  unfolding halved
  halved_steady st = halved_keeps Steady i (λ fs r g l h s p. set_steady fs r g (omega arith) p) i es i (omega arith) st

  pub halved_length : length (halved es i) ≡ length es
  unfolding halved
  halved_length = halved_keeps (λ fs. length fs ≡ length es) i (λ fs r g l h s p. length-set fs r g ∙ p) i es i (omega arith) refl

  -- no slot above i is written
  pub halved_above : (x d : ℕ) → i < x → get_or (halved es i) x d ≡ get_or es x d
  unfolding halved
  halved_above x d h =
      halved_keeps (λ fs. get_or fs x d ≡ get_or es x d) i (λ fs r g l b s p. get_or-set_other fs r x g d (λ e. omega arith) ∙ p) i es i (omega arith) refl
