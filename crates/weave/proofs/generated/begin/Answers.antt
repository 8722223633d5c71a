use Rattle.machine.specs.Code.{settings_of, change_of}
use Rattle.weave.proofs.Weaving.{begun}
use Rattle.weave.proofs.generated.begin.Goals as goal

pub returns-clause-world : goal.returns-clause-world
returns-clause-world g c =
    begun (settings_of c.args.settings) c.in-Ok.world c.step.new.self c.in-Ok-step.told
    (change_of c.in_ok-change.change) c.in-Ok.ensures.settings c.in-Ok.ensures.world
    c.in_ok-change.ensures.change
    c.in-Ok-step.ensures.ok
