use Rattle.serde_json.specs.View.{view}
use Rattle.linker_config.specs.Retries.{retries_told}
use Rattle.linker_config.proofs.Chains.{told_on}
use Rattle.linker_config.proofs.retries.retries.Goals as goal

pub returns-in_err-check_keys-clause-told : goal.returns-in_err-check_keys-clause-told
unfolding retries_told
returns-in_err-check_keys-clause-told c =
    told_on (retries_told (view c.args.value.now)) c.in_err-check_keys.field-0.0
    c.from_residual.result c.from_residual.ensures.1 c.in_err-check_keys.ensures.0
    (λ some. rw (c.in_err-check_keys.ensures.1 some))

pub returns-in_err-percent-clause-told : goal.returns-in_err-percent-clause-told
unfolding retries_told
returns-in_err-percent-clause-told c =
    told_on (retries_told (view c.args.value.now)) c.in_err-percent.field-0.0
    c.from_residual-in_err-percent.result c.from_residual-in_err-percent.ensures.1
    c.in_err-percent.ensures.number.0
    (λ some. rw (c.in_ok-check_keys.ensures, c.in_err-percent.ensures.number.1 some))

pub returns-in_err-reserve-clause-told : goal.returns-in_err-reserve-clause-told
unfolding retries_told
returns-in_err-reserve-clause-told c =
    told_on (retries_told (view c.args.value.now)) c.in_err-reserve.field-0.0
    c.from_residual-in_err-reserve.result c.from_residual-in_err-reserve.ensures.1
    c.in_err-reserve.ensures.number.0
    (λ some. rw (
      c.in_ok-check_keys.ensures,
      c.in_ok-percent.ensures.number,
      c.in_err-reserve.ensures.number.1 some,
    ))

pub returns-in_err-most-clause-told : goal.returns-in_err-most-clause-told
unfolding retries_told
returns-in_err-most-clause-told c =
    told_on (retries_told (view c.args.value.now)) c.in_err-most.field-0.0
    c.from_residual-in_err-most.result c.from_residual-in_err-most.ensures.1
    c.in_err-most.ensures.number.0
    (λ some. rw (
      c.in_ok-check_keys.ensures,
      c.in_ok-percent.ensures.number,
      c.in_ok-reserve.ensures.number,
      c.in_err-most.ensures.number.1 some,
    ))

pub returns-clause-told : goal.returns-clause-told
unfolding retries_told
returns-clause-told c =
    rw (
      c.in_ok-check_keys.ensures,
      c.in_ok-percent.ensures.number,
      c.in_ok-reserve.ensures.number,
      c.in_ok-most.ensures.number,
    )
