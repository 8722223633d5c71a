use Rattle.std.proofs.Common.{List, ℕ, ◌++◌, take}
use Rattle.http_wire.specs.Heads.{IsOpen}
use Rattle.http_wire.specs.Places.{Follows, StandsAt}
use Rattle.http_wire.proofs.watch.Watch.follow.Given as goal

abbrev pub invariant-loop-byte : goal.invariant-loop-byte
invariant-loop-byte l =
    (before : List ℕ) → StandsAt l.fn.self.progress before → IsOpen before
    → Follows before (before ++ take l.byte-index l.bytes) l.self
