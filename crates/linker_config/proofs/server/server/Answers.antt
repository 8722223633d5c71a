use Rattle.serde_json.specs.View.{view}
use Rattle.linker_config.specs.Server.{server_told}
use Rattle.linker_config.proofs.Chains.{told_on}
use Rattle.linker_config.proofs.server.server.Goals as goal

pub returns-in_err-check_keys : goal.returns-in_err-check_keys
unfolding server_told
returns-in_err-check_keys c =
    told_on (server_told (view c.args.value.now)) c.in_err-check_keys.field-0.0
    c.from_residual.result c.from_residual.ensures.1 c.in_err-check_keys.ensures.0
    (λ some. rw (c.in_err-check_keys.ensures.1 some))

pub returns-in_err-port : goal.returns-in_err-port
unfolding server_told
returns-in_err-port c =
    told_on (server_told (view c.args.value.now)) c.in_err-port.field-0.0
    c.from_residual-in_err-port.result c.from_residual-in_err-port.ensures.1
    c.in_err-port.ensures.0
    (λ some. rw (c.in_ok-check_keys.ensures, c.in_err-port.ensures.1 some))

pub returns-in_err-clear_context : goal.returns-in_err-clear_context
unfolding server_told
returns-in_err-clear_context c =
    told_on (server_told (view c.args.value.now)) c.in_err-clear_context.field-0.0
    c.from_residual-in_err-clear_context.result c.from_residual-in_err-clear_context.ensures.1
    c.in_err-clear_context.ensures.0
    (λ some. rw (
      c.in_ok-check_keys.ensures,
      c.in_ok-port.ensures,
      c.in_err-clear_context.ensures.1 some,
    ))

pub returns : goal.returns
unfolding server_told
returns c =
    rw (c.in_ok-check_keys.ensures, c.in_ok-port.ensures, c.in_ok-clear_context.ensures)
