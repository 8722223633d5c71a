use Rattle.std.proofs.Common.{ℕ, eqb}
use Rattle.http_wire.proofs.Lists.{before_at, before_none}
use Rattle.http_wire.proofs.list.before.Goals as goal

pub returns-in-Some : goal.returns-in-Some
returns-in-Some c = before_at (λ (b : ℕ). eqb b c.args.byte) _ _ c.in-Some.ensures

pub returns-in-None : goal.returns-in-None
returns-in-None c = before_none (λ (b : ℕ). eqb b c.args.byte) _ c.in-None.ensures
