use Rattle.std.proofs.Common.{◌≡◌, map, take}
use Rattle.forward.specs.Dropped.{named_in_connection}
use Rattle.forward.specs.Listed.{lowered}
use Rattle.forward.proofs.names.lowered_names.Given as goal

abbrev pub invariant-loop-field : goal.invariant-loop-field
invariant-loop-field l = map (λ n. n.items) l.names.items
    ≡ lowered (named_in_connection (take l.field-index l.fields))
