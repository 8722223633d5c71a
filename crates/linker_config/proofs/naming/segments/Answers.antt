use Rattle.serde_json.specs.View.{view}
use Rattle.linker_config.specs.Identifier.{segments_told}
use Rattle.linker_config.proofs.Chains.{told_on}
use Rattle.linker_config.proofs.naming.segments.Goals as goal

pub returns-in_err-check_keys : goal.returns-in_err-check_keys
unfolding segments_told
returns-in_err-check_keys c =
    told_on (segments_told (view c.args.value.now)) c.in_err-check_keys.field-0.0
    c.from_residual.result c.from_residual.ensures.1 c.in_err-check_keys.ensures.0
    (λ some. rw (c.in_err-check_keys.ensures.1 some))

pub returns-in_err-count : goal.returns-in_err-count
unfolding segments_told
returns-in_err-count c =
    told_on (segments_told (view c.args.value.now)) c.in_err-count.field-0.0
    c.from_residual-in_err-count.result c.from_residual-in_err-count.ensures.1
    c.in_err-count.ensures.number.0
    (λ some. rw (c.in_ok-check_keys.ensures, c.in_err-count.ensures.number.1 some))

pub returns : goal.returns
unfolding segments_told
returns c = rw (c.in_ok-check_keys.ensures, c.in_ok-count.ensures.number)
