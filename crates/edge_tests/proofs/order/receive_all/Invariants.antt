use Rattle.std.specs.Prelude.{IsSome}
use Rattle.edge_tests.proofs.order.receive_all.Given as goal

abbrev pub invariant-pieces : goal.invariant-pieces
invariant-pieces g l = IsSome (g.D.Dialer.upstream l.dialer).open_to
