use Rattle.std.proofs.Common.{[], ◌∷◌}
use Rattle.std.specs.Result.{is_ok}
use Rattle.line_base.proofs.Kept.{some_all, some_before}
use Rattle.net_edge.specs.Pools.{address_of, addresses}
use Rattle.net_edge.proofs.Pools.{puts_last}
use Rattle.net_edge.proofs.sockets.pool.put_last.Goals as goal

pub returns-in-Ok-clause-put : goal.returns-in-Ok-clause-put
returns-in-Ok-clause-put g c =
    puts_last address_of _ c.args.kept.now.items c.push.new.self.items (is_ok c.push.result)
    c.push.ensures.items

pub returns-in-Err-clause-put : goal.returns-in-Err-clause-put
returns-in-Err-clause-put g c =
    some_before (addresses c.args.kept.now.items) (addresses c.args.kept.now.items)
    ((c.args.upstream.ip, c.args.upstream.port) ∷ []) (some_all (addresses c.args.kept.now.items))
