-- What a source and a sink tell of themselves.
use Rattle.std.specs.Prelude.{ℕ, List, Option}

-- a source: the bytes that it has yet to give, where it tells them; how often a call failed, and
-- how many reads gave the end. A count never falls, and stands still at the last value of a `u64`
pub record Input : Type 0 where
  pub left : Option (List ℕ)
  pub faults : ℕ
  pub ends : ℕ

-- a sink: the bytes that it has taken, where it tells them, and how often a call failed
pub record Output : Type 0 where
  pub held : Option (List ℕ)
  pub faults : ℕ
