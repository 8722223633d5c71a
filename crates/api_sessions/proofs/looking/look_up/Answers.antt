use Rattle.std.proofs.Common.{◌∙◌, inr, subst}
use Rattle.machine.specs.Code.{look_value}
use Rattle.router.specs.Asking.{Looks}
use Rattle.router.specs.declared.answer.Looked.{Looked}
use Rattle.api_sessions.specs.Answering.{at_once, again}
use Rattle.api_sessions.proofs.Carrying.{waited_number}
use Rattle.api_sessions.proofs.looking.look_up.Goals as goal

pub loop-turn-init : goal.loop-turn-init
loop-turn-init g c = at_once

pub loop-turn-preserved : goal.loop-turn-preserved
loop-turn-preserved g c =
    again c.loop-turn.invariant c.in-Ok-NoEntry.ensures.number
    (subst (λ (l : Looked). Looks c.loop-turn.pass c.look.new.pass (look_value c.args.look.now) l)
    c.in-Ok-NoEntry.field-0-is c.in-Ok-NoEntry.ensures.said)

pub returns-in-Ok-Said-clause-number : goal.returns-in-Ok-Said-clause-number
returns-in-Ok-Said-clause-number g c =
    c.in-Ok-Said.ensures.number ∙ waited_number c.loop-turn.invariant

pub returns-in-Ok-Said-clause-said : goal.returns-in-Ok-Said-clause-said
returns-in-Ok-Said-clause-said g c = record {
  mid = c.loop-turn.pass;
  waited = c.loop-turn.invariant;
  looked = subst (λ (l : Looked). Looks c.loop-turn.pass c.look.new.pass
      (look_value c.args.look.now) l) c.in-Ok-Said.field-0-is c.in-Ok-Said.ensures.said;
}

pub returns-in-Err-clause-number : goal.returns-in-Err-clause-number
returns-in-Err-clause-number g c = c.in-Err.ensures.number ∙ waited_number c.loop-turn.invariant

pub returns-in-Err-clause-want : goal.returns-in-Err-clause-want
returns-in-Err-clause-want g c = record {
  mid = c.loop-turn.pass;
  waited = c.loop-turn.invariant;
  made = inr c.in-Err.ensures.want;
}
