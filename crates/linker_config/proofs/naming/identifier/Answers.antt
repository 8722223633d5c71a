use Rattle.serde_json.specs.View.{view}
use Rattle.linker_config.specs.Identifier.{identifier_told}
use Rattle.linker_config.proofs.Chains.{told_on}
use Rattle.linker_config.proofs.naming.identifier.Goals as goal

pub returns-in_err-check_keys : goal.returns-in_err-check_keys
unfolding identifier_told
returns-in_err-check_keys c =
    told_on (identifier_told (view c.args.value.now)) c.in_err-check_keys.field-0.0
    c.from_residual.result c.from_residual.ensures.1 c.in_err-check_keys.ensures.0
    (λ some. rw (c.in_err-check_keys.ensures.1 some))
