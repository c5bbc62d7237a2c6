use Rattle.std.proofs.Common.{rules, tests}
use Rattle.std.proofs.lemmas.Iterator.Consumers.{YieldsList-from_first}
use Rattle.std.proofs.lemmas.Iterator.Search.{all_from_yields_List}
use mathlib.Core.Path.{sym, ap, ◌∙◌, subst}
use Prim.Native.Nat.{ℕ, ◌<◌, ◌^◌}
use native.Mathlib.Omega.{arith}
use Rattle.sets.specs.Rest.{rest}
use Rattle.sets.specs.Sets.{sub, out, members}
use Rattle.sets.specs.Value.{width, num, row}
use Rattle.sets.proofs.Given.{left_lt}
use Rattle.checks.proofs.Cliques13.{not_sized, not_fitting, by_rows}
use Rattle.checks.proofs.is_clique.Goals as goal

pub returns-then-count-k : goal.returns-then-count-k
returns-then-count-k c = λ L n ok wide. not_sized L _ _ _ _ n wide (λ e. c.if-count-k.true (c.count.ensures ∙ e))

pub returns-then-not-subset : goal.returns-then-not-subset
returns-then-not-subset c =
    λ L n ok wide.
    not_fitting L _ _ _ _ n wide (ap (sub _) (sym c.upto.ensures) ∙ sym c.subset.ensures ∙ c.if-not-subset.true)

pub returns : goal.returns
returns c =
    λ L n ok wide.
    all_from_yields_List (λ q. sub (out q (num c.args.s)) (row c.args.rows.now q)) _ _ c.all.result c.all.ensures.ran
    (YieldsList-from_first (λ x. x) rest (members width (num c.args.s)) c.parts.ensures.gives)
    (λ q b f k. search (rules, tests))
    ∙ by_rows L _ _ _ _ n wide (omega (arith, c.if-count-k.false, c.count.ensures)) (subst (λ (s : ℕ). s < 2 ^ width) c.parts.ensures.left (left_lt c.parts.result))
    (ap (sub _) (sym c.upto.ensures) ∙ sym c.subset.ensures ∙ c.if-not-subset.false)
