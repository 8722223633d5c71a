use Rattle.std.proofs.Common.{subst}
use Rattle.http_wire.specs.Target.{IsRefused, form_of}
use Rattle.api_sessions.proofs.Doing.{asked_in_each}
use Rattle.api_sessions.proofs.Forms.{not_refused}
use Rattle.api_sessions.proofs.answering.asked_by.Goals as goal

pub unreachable-requires : goal.unreachable-requires
unreachable-requires c =
    c.requires.other (subst (IsRefused c.args.head.now.method c.args.head.now.target)
    c.in-Err-Connect.field-0-is c.in-Err-Connect.ensures.refused)

pub unreachable-requires-in-Err-NoTarget : goal.unreachable-requires-in-Err-NoTarget
unreachable-requires-in-Err-NoTarget c =
    let refused = subst (IsRefused c.args.head.now.method c.args.head.now.target)
    c.in-Err-NoTarget.field-0-is c.in-Err-NoTarget.ensures.refused in
    not_refused c.args.head.now.method c.args.head.now.target c.requires.form c.requires.served
    refused.1

pub returns-in-Ok : goal.returns-in-Ok
returns-in-Ok c =
    asked_in_each c.asked_of.result c.args.which c.args.head.now c.as_slice-line.result.now
    c.args.body.now (form_of c.in-Ok.target) c.in-Ok.ensures.ok.1 c.as_slice-line.ensures.value
    c.asked_of.ensures
