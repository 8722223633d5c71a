use Rattle.serde_json.specs.View.{view}
use Rattle.linker_config.specs.Pool.{pool_told}
use Rattle.linker_config.proofs.Chains.{told_on}
use Rattle.linker_config.proofs.pool.pool.Goals as goal

pub returns-in_err-check_keys : goal.returns-in_err-check_keys
unfolding pool_told
returns-in_err-check_keys c =
    told_on (pool_told (view c.args.value.now)) c.in_err-check_keys.field-0.0
    c.from_residual.result c.from_residual.ensures.1 c.in_err-check_keys.ensures.0
    (λ some. rw (c.in_err-check_keys.ensures.1 some))

pub returns-in_err-max_size : goal.returns-in_err-max_size
unfolding pool_told
returns-in_err-max_size c =
    told_on (pool_told (view c.args.value.now)) c.in_err-max_size.field-0.0
    c.from_residual-in_err-max_size.result c.from_residual-in_err-max_size.ensures.1
    c.in_err-max_size.ensures.number.0
    (λ some. rw (c.in_ok-check_keys.ensures, c.in_err-max_size.ensures.number.1 some))

pub returns-in_err-idle_ms : goal.returns-in_err-idle_ms
unfolding pool_told
returns-in_err-idle_ms c =
    told_on (pool_told (view c.args.value.now)) c.in_err-idle_ms.field-0.0
    c.from_residual-in_err-idle_ms.result c.from_residual-in_err-idle_ms.ensures.1
    c.in_err-idle_ms.ensures.number.0
    (λ some. rw (
      c.in_ok-check_keys.ensures,
      c.in_ok-max_size.ensures.number,
      c.in_err-idle_ms.ensures.number.1 some,
    ))

pub returns : goal.returns
unfolding pool_told
returns c =
    rw (
      c.in_ok-check_keys.ensures,
      c.in_ok-max_size.ensures.number,
      c.in_ok-idle_ms.ensures.number,
    )
