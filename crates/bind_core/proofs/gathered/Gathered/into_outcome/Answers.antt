use Rattle.std.proofs.Common.{arith}
use Rattle.std.proofs.lemmas.Bool.Decides.{nat_tests}
use Rattle.bind_core.proofs.Gathers.{bound_ones}
use Rattle.bind_core.proofs.gathered.Gathered.into_outcome.Goals as goal

pub returns-then-not-is_empty : goal.returns-then-not-is_empty
returns-then-not-is_empty c = bound_ones c.args.self.found.items c.args.self.failing
    c.args.self.empty _ c.of.ensures (grind (arith, nat_tests))
