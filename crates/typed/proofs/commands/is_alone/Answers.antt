use mathlib.Core.List.{[]}
use mathlib.Core.Path.{sym, ap, ◌∙◌}
use lib.ListN.{get_or}
use Rattle.std.proofs.lemmas.Slice.Eq.{bytes_eq-Decides}
use Rattle.typed.proofs.Alone.{alone}
use Rattle.typed.proofs.commands.is_alone.Goals as goal

pub returns-then-count_words-eq1 : goal.returns-then-count_words-eq1
returns-then-count_words-eq1 c =
    let same = bytes_eq-Decides c.word.result.now c.args.word.now in (
      λ e. alone _ _ (sym c.count_words.ensures ∙ c.if-count_words-eq1.true) (sym c.word.ensures.result_value ∙ same.0 (sym c.eq.ensures ∙ e)),
      λ e. c.eq.ensures ∙ same.1 (c.word.ensures.result_value ∙ ap (λ ws. get_or ws 0 []) e),
    )
