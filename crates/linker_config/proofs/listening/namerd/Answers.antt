use Rattle.serde_json.specs.View.{view}
use Rattle.linker_config.specs.Listening.{named_of, namerd_told}
use Rattle.linker_config.proofs.Chains.{told_on_by}
use Rattle.linker_config.proofs.listening.namerd.Goals as goal

pub returns-in_err-check_keys : goal.returns-in_err-check_keys
unfolding namerd_told
returns-in_err-check_keys c =
    told_on_by named_of (namerd_told (view c.args.value.now)) c.in_err-check_keys.field-0.0
    c.from_residual.result c.from_residual.ensures.1 c.in_err-check_keys.ensures.0
    (λ some. rw (c.in_err-check_keys.ensures.1 some))

pub returns-in_err-port : goal.returns-in_err-port
unfolding namerd_told
returns-in_err-port c =
    told_on_by named_of (namerd_told (view c.args.value.now)) c.in_err-port.field-0.0
    c.from_residual-in_err-port.result c.from_residual-in_err-port.ensures.1 c.in_err-port.ensures.0
    (λ some. rw (c.in_ok-check_keys.ensures, c.in_err-port.ensures.1 some))

pub returns-in_err-space : goal.returns-in_err-space
unfolding namerd_told
returns-in_err-space c =
    told_on_by named_of (namerd_told (view c.args.value.now)) c.in_err-space.field-0.0
    c.from_residual-in_err-space.result c.from_residual-in_err-space.ensures.1
    c.in_err-space.ensures.0
    (λ some. rw (c.in_ok-check_keys.ensures, c.in_ok-port.ensures, c.in_err-space.ensures.1 some))

pub returns : goal.returns
unfolding namerd_told
returns c = rw (c.in_ok-check_keys.ensures, c.in_ok-port.ensures, c.in_ok-space.ensures)
