use Rattle.serde_json.specs.View.{view}
use Rattle.linker_config.specs.Identifier.{static_told}
use Rattle.linker_config.proofs.Chains.{told_on}
use Rattle.linker_config.proofs.naming.static_path.Goals as goal

pub returns-in_err-check_keys : goal.returns-in_err-check_keys
unfolding static_told
returns-in_err-check_keys c =
    told_on (static_told (view c.args.value.now)) c.in_err-check_keys.field-0.0
    c.from_residual.result c.from_residual.ensures.1 c.in_err-check_keys.ensures.0
    (λ some. rw (c.in_err-check_keys.ensures.1 some))

pub returns-in_err-needed_path : goal.returns-in_err-needed_path
unfolding static_told
returns-in_err-needed_path c =
    told_on (static_told (view c.args.value.now)) c.in_err-needed_path.field-0.0
    c.from_residual-in_err-needed_path.result c.from_residual-in_err-needed_path.ensures.1
    c.in_err-needed_path.ensures.0
    (λ some. rw (c.in_ok-check_keys.ensures, c.in_err-needed_path.ensures.1 some))

pub returns : goal.returns
unfolding static_told
returns c = rw (c.in_ok-check_keys.ensures, c.in_ok-needed_path.ensures)
