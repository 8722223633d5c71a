use Rattle.serde_json.specs.View.{view}
use Rattle.linker_config.specs.Identifier.{header_told}
use Rattle.linker_config.proofs.Chains.{told_on}
use Rattle.linker_config.proofs.naming.path_field.Goals as goal

pub returns-in_err-check_keys : goal.returns-in_err-check_keys
unfolding header_told
returns-in_err-check_keys c =
    told_on (header_told (view c.args.value.now)) c.in_err-check_keys.field-0.0
    c.from_residual.result c.from_residual.ensures.1 c.in_err-check_keys.ensures.0
    (λ some. rw (c.in_err-check_keys.ensures.1 some))

pub returns-in_err-header : goal.returns-in_err-header
unfolding header_told
returns-in_err-header c =
    told_on (header_told (view c.args.value.now)) c.in_err-header.field-0.0
    c.from_residual-in_err-header.result c.from_residual-in_err-header.ensures.1
    c.in_err-header.ensures.0
    (λ some. rw (c.in_ok-check_keys.ensures, c.in_err-header.ensures.1 some))

pub returns : goal.returns
unfolding header_told
returns c = rw (c.in_ok-check_keys.ensures, c.in_ok-header.ensures)
