use Rattle.std.proofs.Common.{sym, ◌∙◌}
use Rattle.http_wire.specs.Target.{form_of}
use Rattle.own_reply.specs.Tests.{long_length}
use Rattle.own_reply.proofs.Testing.{at_framing, at_host, at_target}
use Rattle.own_reply.proofs.request.test_request.Goals as goal

pub returns-in_err-target : goal.returns-in_err-target
returns-in_err-target c =
    at_target c.args.most c.args.head.now c.in_err-target.field-0.0 c.from_residual.result
    c.from_residual.ensures.1 c.in_err-target.ensures.refused

pub returns-in_err-framing : goal.returns-in_err-framing
returns-in_err-framing c =
    let ok = c.in_ok-target.ensures.ok in
    at_framing c.args.most c.args.head.now (form_of c.in_ok-target.target)
    c.in_err-framing.field-0.0 c.from_residual-in_err-framing.result
    c.from_residual-in_err-framing.ensures.1 ok.0 ok.1 (sym c.in_err-framing.ensures)

pub returns-then-names_longer : goal.returns-then-names_longer
returns-then-names_longer c =
    let ok = c.in_ok-target.ensures.ok in
    long_length (form_of c.in_ok-target.target) c.in_ok-framing.framing ok.0 ok.1
    (sym c.in_ok-framing.ensures) (sym c.names_longer.ensures ∙ c.if-names_longer.true)

pub returns-in_err-host : goal.returns-in_err-host
returns-in_err-host c =
    let ok = c.in_ok-target.ensures.ok in
    at_host c.args.most c.args.head.now (form_of c.in_ok-target.target) c.in_ok-framing.framing
    c.in_err-host.field-0.0 c.from_residual-in_err-host.result
    c.from_residual-in_err-host.ensures.1 ok.0 ok.1 (sym c.in_ok-framing.ensures)
    (sym c.names_longer.ensures ∙ c.if-names_longer.false) c.in_err-host.ensures.host
