use Rattle.std.proofs.Common.{sym}
use Rattle.ns_store.proofs.Finding.{get_place, get_gap}
use Rattle.ns_store.proofs.spaces.Spaces.get.Goals as goal

pub returns-in-Ok : goal.returns-in-Ok
returns-in-Ok c = get_place c.args.self.now _ c.in-Ok.at c.in-Ok.ensures.found c.index.result.now
    c.index.ensures

pub returns-in-Err : goal.returns-in-Err
returns-in-Err c = sym (get_gap c.args.self.now _ _ c.in-Err.ensures.absent)
