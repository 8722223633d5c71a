use Rattle.serde_json.specs.View.{view}
use Rattle.linker_config.specs.Client.{backoff_told}
use Rattle.linker_config.proofs.Chains.{told_on}
use Rattle.linker_config.proofs.client.backoff.Goals as goal

pub returns-in_err-check_keys : goal.returns-in_err-check_keys
unfolding backoff_told
returns-in_err-check_keys c =
    told_on (backoff_told (view c.args.value.now)) c.in_err-check_keys.field-0.0
    c.from_residual.result c.from_residual.ensures.1 c.in_err-check_keys.ensures.0
    (λ some. rw (c.in_err-check_keys.ensures.1 some))

pub returns-in_err-needed_word : goal.returns-in_err-needed_word
unfolding backoff_told
returns-in_err-needed_word c =
    told_on (backoff_told (view c.args.value.now)) c.in_err-needed_word.field-0.0
    c.from_residual-in_err-needed_word.result c.from_residual-in_err-needed_word.ensures.1
    c.in_err-needed_word.ensures.0
    (λ some. rw (c.in_ok-check_keys.ensures, c.in_err-needed_word.ensures.1 some))

pub returns : goal.returns
unfolding backoff_told
returns c = rw (c.in_ok-check_keys.ensures, c.in_ok-needed_word.ensures) c.number_at.ensures.number
