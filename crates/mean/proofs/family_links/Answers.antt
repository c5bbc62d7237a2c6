use mathlib.Core.Path.{sym, ap, ◌∙◌}
use native.Mathlib.Omega.{arith}
use Rattle.sets.specs.Sets.{out, lowest}
use Rattle.sets.specs.Value.{num}
use Rattle.percolation.proofs.Ranges.{good_k_lem}
use Rattle.slots.specs.Model.{find}
use Rattle.slots.specs.Tables.{Tables}
use Rattle.runs.proofs.Admitted.{call_k}
use Rattle.runs.proofs.FoundSlot.{found_some, found_at}
use Rattle.mean.proofs.Calls.{family_found, family_counted}
use Rattle.mean.proofs.family_links.Goals as goal

pub take_links-requires : goal.take_links-requires
take_links-requires c = let q = c.requires in (omega arith, q.1, (good_k_lem _ (call_k _ _ _ q.0)).0)

pub unwrap-i-requires : goal.unwrap-i-requires
unwrap-i-requires c =
    let q = c.requires in
    found_some _ _ _ _ c.slot_of.ensures
    (family_found _ _ _ q.0 c.args.n q.2 _ q.3 _ _ _ c.no_rows-rows.ensures c.clear.ensures.tables_after c.take_links.ensures.slots_after)

pub returns-clause-tally : goal.returns-clause-tally
returns-clause-tally c =
    let q = c.requires in
    let x = num c.args.clique in
    let u = c.take_links.new.slots.used in
    let v = c.view-view.ensures u in
    family_counted _ _ _ q.0 c.args.n q.2 _ q.3 _ _ _ c.no_rows-rows.ensures c.clear.ensures.tables_after (v ∙ c.take_links.ensures.slots_after) _ _
    (found_at _ _ _ _ c.slot_of.ensures _ c.unwrap-i.ensures ∙ sym (ap (λ (T : Tables). find T.sets u (out (lowest x) x)) v)) c.root-r.ensures.0 _
    c.cover-covered.ensures _ c.count_links.ensures
