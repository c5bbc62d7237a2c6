use mathlib.Core.Path.{◌≡◌, ap, ◌∙◌}
use Prim.Native.Nat.{ℕ, ◌-◌, ◌*◌, ◌/◌, ◌≤◌}
use native.Mathlib.Omega.{arith}
use native.Mathlib.Nat.{mul-le-mul}
use lib.Count.{ones, ones-le}
use Rattle.sets.proofs.Laws.{size_ones}
use Rattle.dump_theory.specs.Rows.{pairs_in}
use Rattle.dump.proofs.pairs_in.Goals as goal

pairs_of : (s b : ℕ) → b ≡ ones s - 1 → ones s * b / 2 ≡ pairs_in s
unfolding pairs_in
pairs_of s b e = ap (λ (n : ℕ). ones s * n / 2) e ∙ ap (λ (n : ℕ). n * (n - 1) / 2) (size_ones s)

pub returns : goal.returns
returns c =
    let b = c.saturating_sub.ensures in
    let h : ones c.args.row ≤ 64 = ones-le 64 c.args.row c.ranges.row.fits in
    let k : c.saturating_sub.result ≤ 63 = omega arith in
    (pairs_of _ _ b, omega (arith, mul-le-mul h k))
