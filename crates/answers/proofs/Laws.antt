-- Checks whose tests are known, checks in order, what is said, and what is written to lent space. Assumes nothing.
use mathlib.Core.Bool.{Bool, true, false, true≢false, false≢true}
use mathlib.Core.Path.{◌≡◌, refl, sym, ap, ap₂, ◌∙◌}
use mathlib.Core.Logic.{◌⊎◌, inl, inr}
use mathlib.Core.List.{List, [], ◌∷◌, ◌++◌}
use Prim.Native.Nat.{ℕ, zero, suc, ◌≤◌, ◌<◌}
use lib.ListN.{length, drop, length-append, length-drop}
use native.Mathlib.Decide.{dec_lt}
use native.Mathlib.Omega.{arith}
use Rattle.answers.specs.Verdict.{Verdict, accepted, refused, ◌then◌, unless, in_order, written}
use Rattle.answers.specs.Answers.{counts, refuses, say_of}

-- ---- one check, alone or before others

pub stop : (b : Bool) (n a : ℕ) (w : Verdict) → b ≡ false → (unless b n a then w) ≡ refused n a
unfolding unless ◌then◌
stop true n a w e = absurd (true≢false e)
stop false n a w e = refl

pub go : (b : Bool) (n a : ℕ) (w : Verdict) → b ≡ true → (unless b n a then w) ≡ w
unfolding unless ◌then◌
go true n a w e = refl
go false n a w e = absurd (false≢true e)

pub last_stop : (b : Bool) (n a : ℕ) → b ≡ false → unless b n a ≡ refused n a
unfolding unless
last_stop true n a e = absurd (true≢false e)
last_stop false n a e = refl

pub last_go : (b : Bool) (n a : ℕ) → b ≡ true → unless b n a ≡ accepted
unfolding unless
last_go true n a e = refl
last_go false n a e = absurd (false≢true e)

-- ---- what is accepted passed every check

pub accepted_not : {A : Type 0} (n a : ℕ) → refused n a ≡ accepted → A
accepted_not n a e = let z : ◌≡◌ {A = ℕ} 0 1 = cc in absurd (omega arith)

pub then_left : (v w : Verdict) → (v then w) ≡ accepted → v ≡ accepted
unfolding ◌then◌
then_left accepted w e = refl
then_left (refused n a) w e = e

pub then_right : (v w : Verdict) → (v then w) ≡ accepted → w ≡ accepted
unfolding ◌then◌
then_right accepted w e = e
then_right (refused n a) w e = accepted_not n a e

pub then_both : (v w : Verdict) → v ≡ accepted → w ≡ accepted → (v then w) ≡ accepted
unfolding ◌then◌
then_both accepted w e f = f
then_both (refused n a) w e f = e

pub then_stop : (v w : Verdict) (n a : ℕ) → v ≡ refused n a → (v then w) ≡ refused n a
unfolding ◌then◌
then_stop accepted w n a e = accepted_not n a (sym e)
then_stop (refused m b) w n a e = e

pub then_go : (v w : Verdict) → v ≡ accepted → (v then w) ≡ w
unfolding ◌then◌
then_go accepted w e = refl
then_go (refused n a) w e = accepted_not n a e

pub unless_passed : (b : Bool) (n a : ℕ) → unless b n a ≡ accepted → b ≡ true
unfolding unless
unless_passed true n a e = refl
unless_passed false n a e = accepted_not n a e

-- all of four checks
pub then_four : (u v w x : Verdict) → (u then v then w then x) ≡ accepted → (u ≡ accepted) × (v ≡ accepted) × (w ≡ accepted) × (x ≡ accepted)
then_four u v w x e =
    let past1 = then_right u (v then w then x) e in
    let past2 = then_right v (w then x) past1 in
    (then_left u (v then w then x) e, then_left v (w then x) past1, then_left w x past2, then_right w x past2)

-- the second and the third of three checks
pub then_second : (u v w : Verdict) (n a : ℕ) → u ≡ accepted → v ≡ refused n a → (u then v then w) ≡ refused n a
then_second u v w n a e f = then_go u (v then w) e ∙ then_stop v w n a f

pub then_third : (u v w x : Verdict) → u ≡ accepted → v ≡ accepted → w ≡ x → (u then v then w) ≡ x
then_third u v w x e f g = then_go u (v then w) e ∙ then_go v w f ∙ g

-- ---- checks in order: the first refusal stands

below_or_last : (i n : ℕ) → i < suc n → (i < n) ⊎ (i ≡ n)
below_or_last i n h = pick (dec_lt i n)
  where
    pick : Dec (i < n) → (i < n) ⊎ (i ≡ n)
    pick (yes l) = inl l
    pick (no l) = inr (omega arith)

pub order_each : (check : ℕ → Verdict) (n : ℕ) → in_order check n ≡ accepted → (i : ℕ) → i < n → check i ≡ accepted
unfolding in_order
order_each check zero e i h = absurd (omega arith)
order_each check (suc n) e i h = pick (order_each check n (then_left (in_order check n) (check n) e) i) (below_or_last i n h)
  where
    pick : (i < n → check i ≡ accepted) → (i < n) ⊎ (i ≡ n) → check i ≡ accepted
    pick rest (inl l) = rest l
    pick rest (inr s) = ap check s ∙ then_right (in_order check n) (check n) e

pub order_all : (check : ℕ → Verdict) (n : ℕ) → ((i : ℕ) → i < n → check i ≡ accepted) → in_order check n ≡ accepted
unfolding in_order
order_all check zero h = refl
order_all check (suc n) h = then_both (in_order check n) (check n) (order_all check n (λ i l. h i (omega arith))) (h n (omega arith))

pub order_stop : (check : ℕ → Verdict) (n i k a : ℕ) → i < n → in_order check i ≡ accepted → check i ≡ refused k a → in_order check n ≡ refused k a
unfolding in_order
order_stop check zero i k a l e f = absurd (omega arith)
order_stop check (suc n) i k a l e f = pick (λ h. order_stop check n i k a h e f) (below_or_last i n l)
  where
    pick : (i < n → in_order check n ≡ refused k a) → (i < n) ⊎ (i ≡ n) → in_order check (suc n) ≡ refused k a
    pick rest (inl h) = then_stop (in_order check n) (check n) k a (rest h)
    pick rest (inr s) = then_go (in_order check n) (check n) (ap (in_order check) (sym s) ∙ e) ∙ ap check (sym s) ∙ f

pub order_same : (f g : ℕ → Verdict) (n : ℕ) → ((i : ℕ) → i < n → f i ≡ g i) → in_order f n ≡ in_order g n
unfolding in_order
order_same f g zero h = refl
order_same f g (suc n) h = ap₂ ◌then◌ (order_same f g n (λ i l. h i (omega arith))) (h n (omega arith))

-- two checks that both refuse: the first stands
pub first_stands : in_order (λ i. refused (suc i) 0) 2 ≡ refused 1 0
unfolding in_order ◌then◌
first_stands = refl

-- ---- what is said

pub say_accepted : (v : Verdict) (n : ℕ) → v ≡ accepted → say_of v n ≡ counts n
unfolding say_of
say_accepted accepted n e = refl
say_accepted (refused k a) n e = accepted_not k a e

pub say_refused : (v : Verdict) (n k a : ℕ) → v ≡ refused k a → say_of v n ≡ refuses k a
unfolding say_of
say_refused v n k a e = ap (λ (w : Verdict). say_of w n) e

pub said_count : (v : Verdict) (k a : ℕ) → counts a ≡ say_of v k → (v ≡ accepted) × (a ≡ k)
unfolding say_of
said_count accepted k a e = (refl, cc)
said_count (refused n b) k a e = let z : ◌≡◌ {A = ℕ} 0 1 = cc in absurd (omega arith)

pub said_refused : (v : Verdict) (k n a : ℕ) → refuses n a ≡ say_of v k → v ≡ refused n a
unfolding say_of
said_refused accepted k n a e = let z : ◌≡◌ {A = ℕ} 0 1 = cc in absurd (omega arith)
said_refused (refused m b) k n a e = cc

-- ---- lent space: a refusal writes nothing, an answer its own bytes and no more

pub written_refused : (v : Verdict) (answer old : List ℕ) (n a : ℕ) → v ≡ refused n a → written v answer old ≡ old
unfolding written
written_refused v answer old n a e = ap (λ (w : Verdict). written w answer old) e

pub written_accepted : (v : Verdict) (answer old : List ℕ) → v ≡ accepted → written v answer old ≡ answer ++ drop (length answer) old
unfolding written
written_accepted v answer old e = ap (λ (w : Verdict). written w answer old) e

pub written_length : (v : Verdict) (answer old : List ℕ) → length answer ≤ length old → length (written v answer old) ≡ length old
unfolding written
written_length accepted answer old h = omega (arith, length-append answer (drop (length answer) old), length-drop (length answer) old)
written_length (refused n a) answer old h = refl

pub written_rest : (v : Verdict) (answer old : List ℕ) → drop (length answer) (written v answer old) ≡ drop (length answer) old
unfolding written
written_rest accepted answer old = past answer (drop (length answer) old)
  where
    past : (l m : List ℕ) → drop (length l) (l ++ m) ≡ m
    past [] m = refl
    past (x ∷ l) m = past l m
written_rest (refused n a) answer old = refl
