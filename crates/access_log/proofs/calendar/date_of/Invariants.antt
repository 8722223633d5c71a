use Rattle.std.proofs.Common.{◌+◌, ◌≤◌}
use Rattle.access_log.proofs.Days.{HasBegun}
use Rattle.access_log.proofs.calendar.date_of.Given as goal

abbrev pub decreases-years : goal.decreases-years
decreases-years l = l.rest

abbrev pub invariant-years : goal.invariant-years
invariant-years l = record {
  begun : HasBegun l.fn.days l.year l.rest;
  bound : l.year + l.rest ≤ 1970 + l.fn.days;
}
