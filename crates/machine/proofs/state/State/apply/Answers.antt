use Rattle.std.proofs.Common.{IfSome, Option, subst, ◌∙◌}
use Rattle.machine.specs.declared.ready.Ready.{Ready}
use Rattle.machine.specs.Code.{settings_of, state_of, change_of, ready_of}
use Rattle.machine.specs.Ready.{IsReadyFor}
use Rattle.machine.proofs.Absorbing.{absorbing_is_changing}
use Rattle.machine.proofs.state.State.apply.Goals as goal

pub returns-in-Ok-clause-ok : goal.returns-in-Ok-clause-ok
returns-in-Ok-clause-ok c =
    let settings = settings_of c.args.settings.now in
    let old = state_of c.args.self.now in
    let change = change_of c.args.change.now in
    c.in-Ok.ensures.ok
    ∙ absorbing_is_changing settings old change (ready_of c.in-Some.ready)
    (subst (λ (r : Option Ready). IfSome r
    (λ ready. IsReadyFor settings old change (ready_of ready)))
    c.in-Some.is c.in_ok-reply.ensures.ready)
