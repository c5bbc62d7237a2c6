use Rattle.std.proofs.Common.{refl, arith}
use Rattle.std.proofs.lemmas.Option.{same_Some}
use Rattle.tree_levels.proofs.LineNumbers.{numbered_one, stored_one}
use Rattle.tree_levels.proofs.number_line.Goals as goal

pub returns-in-Some-clause-numbers : goal.returns-in-Some-clause-numbers
returns-in-Some-clause-numbers c f u X rest e l =
    let a = c.args in
    let T = a.tables.now in
    let z = same_Some _ _ (c.in-Some.ensures.by_index f u X rest e l c.requires.0 c.requires.1) in (
      numbered_one _ T.smallest.now T.unions.now f u X rest a.before _ a.m z (c.put_into.ensures _ u X rest (c.end_line.ensures f u X rest e l) (omega (arith, l, c.end_line.auto.lines))),
      stored_one T.smallest.now _ f _ a.m _ _ z refl c.put_note.ensures,
      stored_one T.unions.now _ f _ a.m _ _ z refl c.put_note-in-Some.ensures,
    )
