use Rattle.std.proofs.Common.{◌≡◌, ◌++◌, take}
use Rattle.metrics_text.specs.Metrics.{service_lines}
use Rattle.metrics_text.proofs.metrics.put_figures.Given as goal

abbrev pub invariant-loop-service : goal.invariant-loop-service
invariant-loop-service l =
    l.out.items ≡ l.fn.out.items ++ service_lines l.name l.figure (take l.service-index l.services)
