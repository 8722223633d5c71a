use Rattle.ns_store.proofs.Lengths.{len_replaced}
use Rattle.ns_store.proofs.store.Store.prepare_put.Goals as goal

pub set-requires : goal.set-requires
set-requires c = len_replaced _ _ _ c.args.version c.in_ok-expect.ensures.ok c.args.self.now.few
