-- What one look found.
use Rattle.std.specs.Prelude.{Bool, if◌then◌else◌}
use Rattle.signal_watch.specs.declared.watching.Seen.{Seen}
use Rattle.signal_watch.specs.declared.watching.Seen.TheVariants.{Asked, Quiet}

-- a status file that asks for an end, or not
abbrev pub seen_of : Bool → Seen
seen_of asks = if asks then Asked else Quiet
