use Rattle.std.proofs.Common.{arith}
use Rattle.ns_store.proofs.Lengths.{len_with_room}
use Rattle.ns_store.proofs.store.Store.prepare_create.Goals as goal

pub set-requires : goal.set-requires
set-requires c = len_with_room _ _ _
    (grind (arith, c.if-len-ge-MOST_NAMES.false, c.len.ensures, c.deref-2.ensures))
