-- Lent space filled from its start on: parts of it are lent one after the other, and each is filled. Assumes nothing.
use mathlib.Core.Path.{◌≡◌, sym, ap, ◌∙◌}
use mathlib.Core.List.{List, [], ◌++◌, append-nil, append_assoc}
use Prim.Native.Nat.{ℕ, ◌+◌, ◌-◌, ◌≤◌}
use native.Mathlib.Omega.{arith}
use lib.ListN.{length, take, drop, length-append, length-drop}
use lib.Seq.{length-take-le, take_all, take-append-add, take_at}

-- xs with the part from a to e replaced by ys
abbrev pub replaced : List ℕ → ℕ → ℕ → List ℕ → List ℕ
replaced xs a e ys = take a xs ++ (ys ++ drop (e - a) (drop a xs))

module _ (xs ys : List ℕ) (a e : ℕ) (low : a ≤ e) (high : e ≤ length xs) (size : length ys ≡ e - a) where
  front : length (take a xs) ≡ a
  front = length-take-le a xs (omega arith)

  pub replaced_front : take e (replaced xs a e ys) ≡ take a xs ++ ys
  replaced_front =
      ap (λ (n : ℕ). take n (replaced xs a e ys)) (let z : e ≡ length (take a xs) + (e - a) = omega (arith, front) in z)
      ∙ take-append-add (take a xs) (ys ++ drop (e - a) (drop a xs)) (e - a)
      ∙ ap (λ (l : List ℕ). take a xs ++ l) (take_at ys (drop (e - a) (drop a xs)) (e - a) size)

  pub replaced_length : length (replaced xs a e ys) ≡ length xs
  replaced_length =
      omega (
        arith,
        front,
        size,
        length-append (take a xs) (ys ++ drop (e - a) (drop a xs)),
        length-append ys (drop (e - a) (drop a xs)),
        length-drop (e - a) (drop a xs),
        length-drop a xs,
      )

-- the part from a to e is filled with X: what is to go after it is T
pub fill_step : (goal xs ys X S T : List ℕ) (a e n : ℕ) → a ≤ e → e ≤ length xs → length X ≡ e - a → goal ≡ take a xs ++ S → S ≡ X ++ T → ys ≡ X → e ≡ n
    → goal ≡ take n (replaced xs a e ys) ++ T
fill_step goal xs ys X S T a e n low high size g s y z =
    g ∙ ap (λ (l : List ℕ). take a xs ++ l) s ∙ sym (append_assoc (take a xs) X T)
    ∙ ap (λ (l : List ℕ). l ++ T) (sym (replaced_front xs X a e low high size))
    ∙ ap (λ (l : List ℕ). take e (replaced xs a e l) ++ T) (sym y)
    ∙ ap (λ (k : ℕ). take k (replaced xs a e ys) ++ T) z

-- nothing is to go
pub fill_end : (goal xs S : List ℕ) (a : ℕ) → goal ≡ take a xs ++ S → S ≡ [] → length xs ≤ a → xs ≡ goal
fill_end goal xs S a g s h = sym (g ∙ ap (λ (l : List ℕ). take a xs ++ l) s ∙ append-nil (take a xs) ∙ take_all a xs h)

-- a part of k elements
pub part_length : (xs : List ℕ) (a e k : ℕ) → e ≡ a + k → e ≤ length xs → length (take (e - a) (drop a xs)) ≡ k
part_length xs a e k z h = length-take-le (e - a) (drop a xs) (omega (arith, length-drop a xs, z, h)) ∙ (let n : e - a ≡ k = omega (arith, z) in n)
