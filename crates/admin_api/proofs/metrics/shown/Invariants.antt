use Rattle.std.proofs.Common.{◌≡◌, map, take}
use Rattle.admin_api.specs.Metrics.{shown_as, told_as}
use Rattle.admin_api.proofs.metrics.shown.Given as goal

abbrev pub invariant-loop-service : goal.invariant-loop-service
invariant-loop-service l =
    map shown_as l.shown.items ≡ map told_as (take l.service-index l.services)
