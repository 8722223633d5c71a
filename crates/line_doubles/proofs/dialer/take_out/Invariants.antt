use Rattle.std.proofs.Common.{◌≡◌}
use Rattle.line_doubles.proofs.dialer.take_out.Given as goal

abbrev pub invariant-loop-place : goal.invariant-loop-place
invariant-loop-place l = l.kept.items ≡ l.fn.kept.items
