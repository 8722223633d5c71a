-- How a connection stands behind a stay.
use Rattle.std.specs.Prelude.{ℕ, Option, Some, None}
use Rattle.line_base.specs.Counts.{raised}
use Rattle.http_wire.specs.declared.ended.Ended.{Ended}
use Rattle.http_wire.specs.declared.paused.Paused.{Paused}
use Rattle.http_wire.specs.declared.paused.Paused.TheVariants as paused

-- how a connection stands behind a request that ended it so, if it did
abbrev pub paused_by : Option Ended → Option Paused
paused_by None = None
paused_by (Some end) = Some (paused.Ended end)

-- where the connection ended, it ended so
abbrev pub IfEnds : Paused → (Ended → Type 0) → Type 0
IfEnds paused.Quiet p = Unit {0}
IfEnds (paused.Ended end) p = p end

-- how often a connection has said that nothing came for a while, where it stands so behind a
-- request, a stay, or a wait for one: once more where it waits
abbrev pub quiets_behind : Option Paused → ℕ → ℕ
quiets_behind None count = count
quiets_behind (Some paused.Quiet) count = raised count
quiets_behind (Some (paused.Ended end)) count = count
