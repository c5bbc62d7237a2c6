use mathlib.Core.Path.{◌≡◌, ap, ◌∙◌}
use mathlib.Core.List.{List}
use native.Mathlib.Omega.{arith}
use Prim.Native.Nat.{ℕ, ◌+◌, ◌*◌, ◌-◌, ◌<◌}
use lib.ListN.{take, drop}
use Rattle.part_names.specs.Names.{eight_at}
use Rattle.part_names.proofs.Form.{eight_inside, names_same}
use Rattle.sheet.specs.Sheet.{name_at, name_of}
use Rattle.sheet.proofs.names.Goals as goal

-- the names' part of a sheet has its names
inside : (s : List ℕ) (p a e : ℕ) → a ≡ name_at s 0 → e ≡ name_at s p → (q : ℕ) → q < p → eight_at (take (e - a) (drop a s)) (8 * q) ≡ name_of s q
inside s p a e first end q h =
    let at : a + 8 * q ≡ name_at s q = omega arith in
    eight_inside s a (e - a) (8 * q) (omega arith) ∙ ap (eight_at s) at

pub returns : goal.returns
returns c =
    let a = c.args in
    let first = c.name_at-first.ensures.0 in
    let end = c.name_at-end.ensures.0 in
    c.test.ensures
    ∙ names_same _ (name_of a.s.now) _ (name_at a.s.now) a.p (inside a.s.now a.p _ _ first end) (λ q h. ap (λ (x : ℕ). x + 8 * q) first)
