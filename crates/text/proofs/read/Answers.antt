use Rattle.text.proofs.Whole.{text_stop, text_held, text_count, text_room, text_stop_2, text_fine}
use Rattle.text.specs.Reading.{parts_of}
use Rattle.std.proofs.lemmas.Result.{err_from_is_err_and}
use mathlib.Core.Path.{refl}
use Rattle.text.proofs.read.Goals as goal

pub returns-in_err-parts-clause-read : goal.returns-in_err-parts-clause-read
returns-in_err-parts-clause-read c =
    let p = err_from_is_err_and c.from_residual.result c.from_residual.ensures.1 in
    rw (p.1, p.2) (text_stop c.args.text.now c.args.names.now _ _ c.in_err-parts.ensures _ _ _ refl)

pub read_links-requires : goal.read_links-requires
read_links-requires c = (text_room c.args.text.now c.args.names.now _ _ c.in_ok-parts.ensures _ refl c.read_parts.auto.names).1

pub invariant_of-list : goal.invariant_of-list
invariant_of-list c = record { within = (text_room c.args.text.now c.args.names.now _ _ c.in_ok-parts.ensures _ refl c.read_parts.auto.names).0 }

pub returns-in_err-links-clause-read : goal.returns-in_err-links-clause-read
returns-in_err-links-clause-read c = let a = c.args in
    let r = c.in_ok-parts.ensures in
    let p = err_from_is_err_and c.from_residual-in_err-links.result c.from_residual-in_err-links.ensures.1 in rw (p.1, p.2)
    (text_stop_2 a.text.now a.names.now _ _ r _ refl _ _ _
    (c.in_err-links.ensures.links (parts_of a.text.now) (text_held a.text.now a.names.now _ _ r _ refl) (text_count a.text.now a.names.now _ _ r _ refl)) _ refl)

pub returns-clause-read : goal.returns-clause-read
returns-clause-read c = let a = c.args in
    let r = c.in_ok-parts.ensures in
    text_fine a.text.now a.names.now _ _ r _ refl _ _ _
    (c.in_ok-links.ensures.links (parts_of a.text.now) (text_held a.text.now a.names.now _ _ r _ refl) (text_count a.text.now a.names.now _ _ r _ refl)) _ refl
