use Rattle.serde_json.specs.View.{view}
use Rattle.linker_config.specs.Client.{accrual_told}
use Rattle.linker_config.proofs.Chains.{told_on}
use Rattle.linker_config.proofs.client.accrual.Goals as goal

pub returns-in_err-check_keys-clause-told : goal.returns-in_err-check_keys-clause-told
unfolding accrual_told
returns-in_err-check_keys-clause-told c =
    told_on (accrual_told (view c.args.value.now)) c.in_err-check_keys.field-0.0
    c.from_residual.result c.from_residual.ensures.1 c.in_err-check_keys.ensures.0
    (λ some. rw (c.in_err-check_keys.ensures.1 some))

pub returns-in_err-needed_word-clause-told : goal.returns-in_err-needed_word-clause-told
unfolding accrual_told
returns-in_err-needed_word-clause-told c =
    told_on (accrual_told (view c.args.value.now)) c.in_err-needed_word.field-0.0
    c.from_residual-in_err-needed_word.result c.from_residual-in_err-needed_word.ensures.1
    c.in_err-needed_word.ensures.0
    (λ some. rw (c.in_ok-check_keys.ensures, c.in_err-needed_word.ensures.1 some))

pub returns-in_err-failures-clause-told : goal.returns-in_err-failures-clause-told
unfolding accrual_told
returns-in_err-failures-clause-told c =
    told_on (accrual_told (view c.args.value.now)) c.in_err-failures.field-0.0
    c.from_residual-in_err-failures.result c.from_residual-in_err-failures.ensures.1
    c.in_err-failures.ensures.number.0
    (λ some. rw (
      c.in_ok-check_keys.ensures,
      c.in_ok-needed_word.ensures,
      c.in_err-failures.ensures.number.1 some,
    ))

pub returns-in_err-backoff-clause-told : goal.returns-in_err-backoff-clause-told
unfolding accrual_told
returns-in_err-backoff-clause-told c =
    told_on (accrual_told (view c.args.value.now)) c.in_err-backoff.field-0.0
    c.from_residual-in_err-backoff.result c.from_residual-in_err-backoff.ensures.1
    c.in_err-backoff.ensures.0
    (λ some. rw (
      c.in_ok-check_keys.ensures,
      c.in_ok-needed_word.ensures,
      c.in_ok-failures.ensures.number,
      c.in_err-backoff.ensures.1 some,
    ))

pub returns-clause-told : goal.returns-clause-told
unfolding accrual_told
returns-clause-told c =
    rw (
      c.in_ok-check_keys.ensures,
      c.in_ok-needed_word.ensures,
      c.in_ok-failures.ensures.number,
      c.in_ok-backoff.ensures,
    )
