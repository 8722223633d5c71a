use Rattle.std.proofs.Common.{◌≡◌, ◌∙◌, sym, ap}
use Rattle.std.specs.Prelude.{is_some}
use Rattle.machine.specs.declared.change.Change.{Change}
use Rattle.machine.specs.Code.{settings_of, change_of}
use Rattle.router_log.specs.Call.{changing}
use Rattle.weave.specs.Code.{pass_of}
use Rattle.weave.specs.Held.{ops_of}
use Rattle.weave.specs.World.{publishes_now}
use Rattle.weave.proofs.Steps.{refused_none}
use Rattle.weave.proofs.world.World.change.Goals as goal

pub note-requires-clause-nothing : goal.note-requires-clause-nothing
note-requires-clause-nothing c = λ p here.
    let old = c.args.self.now in
    ap (λ (k : Change). publishes_now (settings_of old.settings) c.args.number (ops_of old)
    (pass_of p) (changing (change_of k))) c.of.ensures
    ∙ refused_none old c.args.number p (change_of c.args.change.now) c.requires.holds
    (sym c.requires.accepted ∙ ap is_some c.in-None.is)
