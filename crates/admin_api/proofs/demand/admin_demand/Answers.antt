use Rattle.std.proofs.Common.{ap, sym, ◌∙◌}
use Rattle.admin_api.specs.Demand.{other}
use Rattle.admin_api.proofs.Paths.{other_path}
use Rattle.admin_api.proofs.demand.admin_demand.Goals as goal

pub returns : goal.returns
returns c =
    ap other c.in_ok-demand.ensures
    ∙ other_path c.args.ready c.args.head.now c.args.line.now c.args.body.now c.path_in.result.now
    c.path_in.ensures (sym c.is_path.ensures ∙ c.if-is_path.false)
