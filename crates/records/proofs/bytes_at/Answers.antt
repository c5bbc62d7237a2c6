use Rattle.std.proofs.Common.{◌≡◌, ◌<◌, ◌≢◌, length, get_or, arith, below_more, length-set, get_or-set_other, get_or-set_same, ◌∙◌}
use borrow.Author.Rules.{rules}
use Rattle.records.proofs.Numbers.{byte_saturated}
use Rattle.records.proofs.bytes_at.Goals as goal

pub loop-j-preserved : goal.loop-j-preserved
loop-j-preserved g c =
    let l = c.loop-j in
    let s = c.args.s.now in
    let u : c.unwrap_or.result ≡ get_or s c.saturating_add.result 0 = search rules in (
      length-set _ _ _ ∙ l.invariant.0,
      below_more _ _
          (λ k h. let ne : k ≢ l.j = omega arith in rw get_or-set_other (l.invariant.1 k h))
          (let lt : l.j < length l.byte-items = omega arith in
          get_or-set_same _ _ _ _ lt ∙ byte_saturated s c.args.i l.j _ _ _ (omega arith) c.saturating_add.ensures u),
    )
