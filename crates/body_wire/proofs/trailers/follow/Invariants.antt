use Rattle.std.proofs.Common.{◌≡◌, take, Some}
use Rattle.body_wire.specs.Chunks.{line_behind}
use Rattle.body_wire.proofs.trailers.follow.Given as goal

abbrev pub invariant-loop-index : goal.invariant-loop-index
invariant-loop-index l = line_behind l.fn.at (take l.index l.bytes) ≡ Some l.line
