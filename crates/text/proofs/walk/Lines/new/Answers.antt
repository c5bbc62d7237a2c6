use Rattle.text.specs.Walk.{rest}
use Rattle.text.proofs.Rest.{rest_all}
use Rattle.text.proofs.walk.Lines.new.Goals as goal

pub returns : goal.returns
unfolding rest
returns c = rest_all c.args.text.now
