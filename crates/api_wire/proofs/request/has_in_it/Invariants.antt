use Rattle.std.proofs.Common.{◌≡◌, length}
use Rattle.api_wire.specs.Request.{has_in_it}
use Rattle.api_wire.proofs.request.has_in_it.Given as goal

abbrev pub invariant-loop-others : goal.invariant-loop-others
invariant-loop-others l = has_in_it l.word l.rest ≡ has_in_it l.word l.text

abbrev pub decreases-loop-others : goal.decreases-loop-others
decreases-loop-others l = length l.rest
