use mathlib.Core.Path.{refl, sym, ap, ◌∙◌}
use lib.ListN.{length}
use Rattle.std.proofs.lemmas.Result.{err_from_is_err_and}
use Rattle.answers.specs.Answers.{counts}
use Rattle.listings.proofs.Listed.{listed_length}
use Rattle.listings.proofs.Outputs.{writes_refused, writes_all}
use Rattle.listings.proofs.Filling.{room_test, room_enough}
use Rattle.listings.proofs.list_roots.Goals as goal

pub returns-in_err-require : goal.returns-in_err-require
returns-in_err-require c =
    let n = c.roots-n.ensures ∙ sym (listed_length _ _ _ _) in
    let p = err_from_is_err_and c.from_residual.result c.from_residual.ensures.1 in
    rw (p.1, p.2) (writes_refused _ _ _ _ _ _ _ (sym (c.in_err-require.ensures ∙ room_test _ _ _ (length c.args.out.now) n c.community_length.ensures)) refl)

pub put_roots-requires : goal.put_roots-requires
put_roots-requires c =
    let n = c.roots-n.ensures ∙ sym (listed_length _ _ _ _) in
    room_enough _ _ _ (length c.args.out.now) n c.community_length.ensures (sym (c.in_ok-require.ensures))

pub returns : goal.returns
returns c =
    let n = c.roots-n.ensures ∙ sym (listed_length _ _ _ _) in
    writes_all _ _ _ c.args.out.now _ _ (sym (c.in_ok-require.ensures ∙ room_test _ _ _ (length c.args.out.now) n c.community_length.ensures)) (ap counts n)
    c.put_roots.ensures
