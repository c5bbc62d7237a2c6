use Rattle.text.proofs.LinkLaws.{link_line, link_stop, link_silent, link_part, link_neither}
use Rattle.text.proofs.PartLaws.{refusal}
use Rattle.answers.specs.declared.fault.Fault.{Fault}
use Rattle.std.specs.Prelude.{Ok, Err}
use mathlib.Core.Path.{◌≡◌}
use native.Mathlib.Omega.{arith}
use Rattle.text.proofs.link_line.Goals as goal

pub returns-in_err-link-in-Link-clause-line : goal.returns-in_err-link-in-Link-clause-line
returns-in_err-link-in-Link-clause-line c = λ N L h l n k.
    let err : (x : Fault) × (c.read_fields.result ≡ Err x) × (c.from_residual.result ≡ Err (refusal x c.args.place)) = grind arith in
    rw err.2 (link_stop N L _ _ _ _ _ _ _ _ (omega arith) n k (c.read_fields.ensures N h l) _ err.0 _ _ c.in-Link.ensures err.1)

pub returns-in_ok-link-in-Link-clause-line : goal.returns-in_ok-link-in-Link-clause-line
returns-in_ok-link-in-Link-clause-line c = λ N L h l n k.
    let ok : c.read_fields.result ≡ Ok c.in_ok-link-in-Link.link = grind arith in
    link_line N L _ _ _ _ _ _ _ _ (omega arith) n k (c.read_fields.ensures N h l) _ ok _ _ _ _ c.in-Link.ensures c.take_link.ensures.taken

pub returns-in-Part-clause-line : goal.returns-in-Part-clause-line
returns-in-Part-clause-line c = λ N L h l n k. link_part N L _ _ _ _ _ n k _ c.in-Part.ensures

pub returns-in-Silent-clause-line : goal.returns-in-Silent-clause-line
returns-in-Silent-clause-line c = λ N L h l n k. link_silent N L _ _ _ _ _ n k c.in-Silent.ensures

pub returns-in-Neither-clause-line : goal.returns-in-Neither-clause-line
returns-in-Neither-clause-line c = λ N L h l n k. link_neither N L _ _ _ _ _ n k c.in-Neither.ensures
