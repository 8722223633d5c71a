use Rattle.std.proofs.Common.{ap, ap₂, ◌∙◌, nat_eq, not}
use Rattle.machine.specs.Values.{StateValue}
use Rattle.machine.specs.Code.{settings_of, state_of, change_of}
use Rattle.script.proofs.Turning.{longer}
use Rattle.script.proofs.run.is_accepted.Goals as goal

pub returns-clause-accepted : goal.returns-clause-accepted
returns-clause-accepted c =
    ap₂ (λ a b. not (nat_eq a b)) (c.place.ensures
    ∙ ap (λ (s : StateValue). s.place) c.in_ok-reply.ensures.ok) c.place-place.ensures
    ∙ longer (settings_of c.args.settings.now) (state_of c.args.state.now)
    (change_of c.args.change.now)
