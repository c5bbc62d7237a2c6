use mathlib.Core.Path.{◌∙◌}
use Rattle.words.specs.declared.Form.TheVariants.{Silent, Part, Link, Neither}
use Rattle.typed.proofs.Asked.{asks_formed}
use Rattle.typed.proofs.commands.command_of.Goals as goal

pub returns-in-Silent : goal.returns-in-Silent
returns-in-Silent c = asks_formed _ _ Silent c.form_of.ensures c.in-Silent.is

pub returns-in-Part : goal.returns-in-Part
returns-in-Part c = asks_formed _ _ Part c.form_of.ensures c.in-Part.is

pub returns-in-Link : goal.returns-in-Link
returns-in-Link c = asks_formed _ _ Link c.form_of.ensures c.in-Link.is

pub returns-in-Neither : goal.returns-in-Neither
returns-in-Neither c = c.one_word.ensures ∙ asks_formed _ _ Neither c.form_of.ensures c.in-Neither.is
