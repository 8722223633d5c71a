use Rattle.std.proofs.Common.{◌∙◌, sym}
use Rattle.api_wire.proofs.Demands.{asks_same}
use Rattle.admin_api.proofs.Paths.{last_path}
use Rattle.admin_api.proofs.demand.path_demand.Goals as goal

pub returns : goal.returns
returns c =
    asks_same _ _ c.segment_demand.result
    (last_path c.args.ready c.args.head.now c.args.line.now c.args.body.now _ _ _
    c.verb_of-verb.ensures c.path_in-path.ensures (sym c.is_path.ensures ∙ c.if-is_path.false)
    (sym c.is_path-2.ensures ∙ c.if-is_path-2.false) (sym c.is_path-3.ensures
    ∙ c.if-is_path-3.false) (sym c.is_path-4.ensures ∙ c.if-is_path-4.false)
    (sym c.is_path-5.ensures ∙ c.if-is_path-5.false) c.segment_behind.ensures)
    c.segment_demand.ensures
