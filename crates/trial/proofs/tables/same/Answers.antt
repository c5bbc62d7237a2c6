-- Two lists of one length are equal where they hold the same at each place.
use Rattle.std.proofs.Common.{ℕ, List, slice_index, sym, ap, ◌∙◌, arith}
use Rattle.std.proofs.lemmas.Bool.Decides.{Decides-eqb}
use Rattle.std.proofs.lemmas.List.{ext_get_or}
use Rattle.std.proofs.lemmas.Slice.Eq.{slice_eq-Decides}
use Rattle.trial.proofs.tables.same.Goals as goal

pub returns : goal.returns
returns c =
    let d = slice_eq-Decides Decides-eqb c.args.a.now c.args.b.now c.eq.result c.eq.ensures in (
      λ e i _. ap (λ (l : List ℕ). slice_index l i) (d.0 e),
      λ alike. d.1 (ext_get_or 0 _ _ (c.told-a ∙ sym c.told-b) (λ i h. alike i (omega arith))),
    )
