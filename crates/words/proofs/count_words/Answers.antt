use Rattle.std.proofs.Common.{◌≡◌, ◌==◌, rules, length, not, ap, ◌∙◌}
use Rattle.std.specs.List.{filter, slice_split}
use Rattle.std.proofs.lemmas.Iterator.Consumers.{count_from_yields_List, YieldsList-from_filter}
use Rattle.std.proofs.lemmas.Iterator.Splits.{YieldsList-from_slice_split}
use Rattle.words.specs.Lines.{blank}
use Rattle.words.proofs.WordLaws.{words_counted}
use Rattle.words.proofs.count_words.Goals as goal

pub returns : goal.returns
returns c =
    let s = c.split.ensures in
    let f = c.filter.ensures in
    let e : c.count.result ≡ length (filter (λ w. not (length w == 0)) (slice_split blank c.args.line.now)) =
    count_from_yields_List _ _ c.count.ensures.ran
    (YieldsList-from_filter _ (λ w. not (length w == 0))
    (YieldsList-from_slice_split _ blank _ (ap (λ i. i.rest.now) f.source ∙ s.rest) (ap (λ i. i.done) f.source ∙ s.done) (ap (λ i. i.pred) f.source ∙ s.closure)
    (λ x b q k. search rules))
    f.closure (λ x b q k. search rules)) in
    e ∙ ap length (words_counted _)
