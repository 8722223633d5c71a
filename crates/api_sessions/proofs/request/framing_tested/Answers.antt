use Rattle.std.proofs.Common.{Err, Some, subst}
use Rattle.body_wire.specs.Passing.{most_read}
use Rattle.http_wire.specs.Target.{form_of}
use Rattle.own_reply.specs.declared.request.Refusal.{Refusal}
use Rattle.own_reply.specs.Tests.{Answers}
use Rattle.api_sessions.proofs.request.framing_tested.Goals as goal

pub returns-in-Ok : goal.returns-in-Ok
returns-in-Ok c =
    let passes = c.in-Ok.ensures in
    record {
      other = passes.other;
      form = form_of c.in-Ok.tested.target;
      served = passes.served;
      framed = passes.framed;
      short = passes.short;
      host = c.in-Ok.tested.host.items;
      named = passes.named;
    }

pub returns-in-Err-Own : goal.returns-in-Err-Own
returns-in-Err-Own c = (
  subst (λ (r : Refusal). Answers (Some most_read) c.args.head.now (Err r))
      c.in-Err-Own.field-0-is c.in-Err-Own.ensures,
  c.has_body.ensures,
)
