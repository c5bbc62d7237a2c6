use Rattle.text.specs.Walk.{rest}
use Rattle.text.proofs.Pass2.{links_none, links_stop, links_more, links_refused, links_fine}
use Rattle.std.proofs.lemmas.Result.{err_from_is_err_and}
use Rattle.link_order.specs.Lent.{link_lists_of, SameLinks}
use Rattle.link_order.specs.declared.Links.{Links}
use lib.ListN.{length}
use mathlib.Core.Path.{refl, ap, ◌∙◌}
use Rattle.text.proofs.read_links.Goals as goal

-- the same lists after two calls
same_links : (a b c : Links) → SameLinks a b → SameLinks b c → SameLinks a c
same_links a b c i k = record {
  lower = i.lower ∙ k.lower;
  higher = i.higher ∙ k.higher;
  weights = i.weights ∙ k.weights;
  lower_long = i.lower_long ∙ k.lower_long;
  higher_long = i.higher_long ∙ k.higher_long;
  weights_long = i.weights_long ∙ k.weights_long;
}

pub loop-place-init : goal.loop-place-init
loop-place-init c = record {
  rows = ap length c.no_rows-seen.ensures;
  same = record { lower = refl; higher = refl; weights = refl; lower_long = refl; higher_long = refl; weights_long = refl };
  links = λ N h l. links_none _ N _ _ _ c.no_rows-seen.ensures (ap rest c.into_iter-place-iterator.ensures.into_iter_gives ∙ c.new-place-items.ensures);
}

pub returns-in_err-m-clause-lent : goal.returns-in_err-m-clause-lent
returns-in_err-m-clause-lent c =
    let i = c.loop-place.invariant.same in
    let k = c.link_line.ensures.lent in
    same_links _ _ _ i k

pub returns-in_err-m-clause-links : goal.returns-in_err-m-clause-links
returns-in_err-m-clause-links c = λ N h l.
    let s = c.loop-place in
    let f = s.invariant.links N h l in
    let p = err_from_is_err_and c.from_residual.result c.from_residual.ensures.1 in
    rw (p.1, p.2)
    (links_refused _ N _ _ _
    (links_stop c.args.text.now N _ (link_lists_of s.links) _ s.seen _ s.m _ _ _ _ _ f c.in-Some.ensures.steps
    (c.in_err-m.ensures.line N f.L h l f.near f.count) _ refl))

pub loop-place-preserved : goal.loop-place-preserved
loop-place-preserved c =
    let s = c.loop-place in
    let i = s.invariant.same in
    let k = c.link_line.ensures.lent in
    record {
      rows = c.link_line.auto.seen ∙ s.invariant.rows;
      same = same_links _ _ _ i k;
      links = λ N h l.
          let f = s.invariant.links N h l in
          links_more c.args.text.now N _ (link_lists_of s.links) _ s.seen _ s.m _ _ _ _ _ f c.in-Some.ensures.steps
          (c.in_ok-m.ensures.line N f.L h l f.near f.count) _ refl;
    }

pub returns-clause-links : goal.returns-clause-links
returns-clause-links c = λ N h l. links_fine _ N _ _ _ _ _ (c.loop-place.invariant.links N h l) c.in-None.ensures.steps.0
