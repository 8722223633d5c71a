-- Connections to replicas that were kept for too long.
use Rattle.std.specs.Prelude.{◌≡◌}
use Rattle.line_base.specs.Dials.{AreSomeOf, KeepsLog, Upstream}

-- some connections that were kept are ended, and nothing else moved
pub record EndsIdle (old new : Upstream) : Type 0 where
  pub kept : AreSomeOf new.kept old.kept
  pub open_to : new.open_to ≡ old.open_to
  pub log : KeepsLog old.log new.log
  pub pool : new.pool ≡ old.pool
  pub faults : new.faults ≡ old.faults
