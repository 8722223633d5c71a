use Rattle.std.proofs.Common.{◌-◌, ◌<◌, ◌≤◌}
use Rattle.access_log.proofs.Days.{InMonth, days_left}
use Rattle.access_log.proofs.calendar.date_in_year.Given as goal

abbrev pub decreases-months : goal.decreases-months
decreases-months l = l.rest

abbrev pub invariant-months : goal.invariant-months
invariant-months l = record {
  month : l.month ≤ 12;
  left : l.rest < days_left l.year (13 - l.month);
  begun : InMonth l.fn.days l.year l.month l.rest;
}
