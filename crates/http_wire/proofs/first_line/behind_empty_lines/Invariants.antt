use Rattle.std.proofs.Common.{◌≡◌, length}
use Rattle.http_wire.specs.FirstLine.{skip_empty_lines}
use Rattle.http_wire.proofs.first_line.behind_empty_lines.Given as goal

abbrev pub invariant-loop-rest : goal.invariant-loop-rest
invariant-loop-rest l = skip_empty_lines l.rest ≡ skip_empty_lines l.bytes

abbrev pub decreases-loop-rest : goal.decreases-loop-rest
decreases-loop-rest l = length l.rest
