-- How a connection ends behind a request that is its last.
use Rattle.std.specs.Prelude.{Bool, true, false, Option, Some, None}
use Rattle.http_wire.specs.declared.ended.Ended.{Ended}
use Rattle.http_wire.specs.declared.ended.Ended.TheVariants as ended

-- how the connection ends behind a request, where it does: one that is its last since the listeners
-- are closing is told apart from the last that it may carry
abbrev pub drained : Bool → Option Ended → Option Ended
drained false end = end
drained true None = None
drained true (Some ended.PeerEnded) = Some ended.PeerEnded
drained true (Some ended.Cut) = Some ended.Cut
drained true (Some ended.Closed) = Some ended.Closed
drained true (Some ended.Spent) = Some ended.Drained
drained true (Some ended.Drained) = Some ended.Drained
drained true (Some ended.ReadFault) = Some ended.ReadFault
drained true (Some ended.WriteFault) = Some ended.WriteFault
drained true (Some ended.UpstreamCut) = Some ended.UpstreamCut
drained true (Some ended.OutOfMemory) = Some ended.OutOfMemory
