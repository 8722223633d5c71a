use Rattle.std.proofs.Common.{◌≡◌, length}
use Rattle.identifier.specs.Naming.{pieces_of}
use Rattle.identifier.proofs.segments.behind_slashes.Given as goal

abbrev pub invariant-loop-first : goal.invariant-loop-first
invariant-loop-first l = pieces_of l.rest ≡ pieces_of l.path

abbrev pub decreases-loop-first : goal.decreases-loop-first
decreases-loop-first l = length l.rest
