use Rattle.router.proofs.Peeks.{leaf_short}
use Rattle.router.proofs.current.Current.peek_kept.Goals as goal

pub write-requires : goal.write-requires
write-requires c = leaf_short c.decide.result c.in-Taken.taken c.in-Taken.leaf c.in-Taken.first
    c.in-Taken.second c.in-Taken.is c.decide.ensures.decided
