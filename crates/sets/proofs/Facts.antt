-- The definitions of specs/ compute at closed numbers, wide ones too. Assumes nothing.
use mathlib.Core.Bool.{true, false}
use mathlib.Core.List.{[], ◌∷◌}
use mathlib.Core.Path.{◌≡◌, refl}
use Prim.Native.Nat.{◌+◌, ◌-◌, ◌^◌}
use Rattle.sets.specs.Words.{number, words}
use Rattle.sets.specs.Value.{row, store, sized, number_at}
use Rattle.sets.specs.Sets.{has, one, meet, union, minus, into, out, size, sub, before, lowest, lows, members}

f1 : size (2 ^ 256 - 1) ≡ 256
unfolding size
f1 = refl

f2 : lowest (2 ^ 255) ≡ 255
unfolding lowest
f2 = refl

f3 : lows 3 (2 ^ 256 - 1) ≡ 7
unfolding lows
f3 = refl

f4 : members 256 (2 ^ 255 + 5) ≡ 0 ∷ 2 ∷ 255 ∷ []
unfolding members
f4 = refl

f5 : sub (2 ^ 200 + 8) (2 ^ 256 - 1) ≡ true
unfolding sub meet
f5 = refl

f6 : out 255 (2 ^ 255 + 9) ≡ 9
unfolding out minus one
f6 = refl

f7 : into 64 (2 ^ 200) ≡ 2 ^ 200 + 2 ^ 64
unfolding into union one
f7 = refl

f8 : has 199 (2 ^ 200 - 1) ≡ true
unfolding has
f8 = refl

f9 : before (2 ^ 199 + 7) (2 ^ 200) ≡ true
unfolding before
f9 = refl

f10 : words 3 (2 ^ 128 + 5) ≡ 1 ∷ 0 ∷ 5 ∷ []
unfolding words
f10 = refl

f11 : number (1 ∷ 0 ∷ 5 ∷ []) ≡ 2 ^ 128 + 5
unfolding number
f11 = refl

f12 : row (store (1 ∷ 2 ∷ 3 ∷ []) 1 28) 1 ≡ 28
unfolding row store
f12 = refl

f13 : sized (1 ∷ 2 ∷ 3 ∷ []) 2 ≡ false
unfolding sized
f13 = refl

f14 : number_at (1 ∷ 2 ∷ 3 ∷ []) 2 ≡ 3
unfolding number_at
f14 = refl
