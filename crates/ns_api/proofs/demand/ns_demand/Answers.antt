use Rattle.std.proofs.Common.{◌∙◌, sym}
use Rattle.api_wire.proofs.Demands.{asks_same}
use Rattle.ns_api.proofs.Paths.{other_path}
use Rattle.ns_api.proofs.demand.ns_demand.Goals as goal

pub returns : goal.returns
returns c =
    asks_same _ _ c.segment_demand.result
    (other_path c.args.head.now c.args.line.now c.args.body.now _ _ _ c.verb_of-verb.ensures
    c.path_in-path.ensures (sym c.is_path.ensures ∙ c.if-is_path.false)
    c.segment_behind.ensures)
    c.segment_demand.ensures
