-- What a net tells whose listeners can also be closed from outside.
use Rattle.std.specs.Prelude.{ℕ}
use Rattle.line_base.specs.Nets.{Networking}

-- it tells what the net below tells, but that it counts only the stops which it hands out to jobs,
-- and not those which it leaves for a watch
abbrev pub counting : {P : Type 0} → ℕ → Networking P → Networking P
counting given n = record {
  told = n.told;
  clean = n.clean;
  accepted = n.accepted;
  finished = n.finished;
  stops_given = given;
  stops_returned = n.stops_returned;
}
