-- What the outside of a router tells of itself.
use Rattle.std.specs.Prelude.{ℕ, List, Option}
use Rattle.line_base.specs.Nets.{Networking}
use Rattle.line_log.specs.Logged.{Logged}

-- what the net tells: what came back to it, with its numbers, and its faults; and the logs that
-- were given back to what makes journals, in order, where it tells them
pub record Linked (P : Type 0) : Type 0 where
  pub state : Networking P
  pub faults : ℕ
  pub logs : Option (List Logged)

abbrev pub linked : {P : Type 0} → Networking P → ℕ → Option (List Logged) → Linked P
linked state faults logs = record { state = state; faults = faults; logs = logs }
