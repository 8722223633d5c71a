use Rattle.serde_json.specs.View.{view}
use Rattle.linker_config.specs.Client.{client_told}
use Rattle.linker_config.proofs.Chains.{told_on}
use Rattle.linker_config.proofs.client.client.Goals as goal

pub returns-in_err-check_keys-clause-told : goal.returns-in_err-check_keys-clause-told
unfolding client_told
returns-in_err-check_keys-clause-told c =
    told_on (client_told (view c.args.value.now)) c.in_err-check_keys.field-0.0
    c.from_residual.result c.from_residual.ensures.1 c.in_err-check_keys.ensures.0
    (λ some. rw (c.in_err-check_keys.ensures.1 some))

pub returns-in_err-limits-clause-told : goal.returns-in_err-limits-clause-told
unfolding client_told
returns-in_err-limits-clause-told c =
    told_on (client_told (view c.args.value.now)) c.in_err-limits.field-0.0
    c.from_residual-in_err-limits.result c.from_residual-in_err-limits.ensures.1
    c.in_err-limits.ensures.told.0
    (λ some. rw (c.in_ok-check_keys.ensures, c.in_err-limits.ensures.told.1 some))

pub returns-in_err-pool-clause-told : goal.returns-in_err-pool-clause-told
unfolding client_told
returns-in_err-pool-clause-told c =
    told_on (client_told (view c.args.value.now)) c.in_err-pool.field-0.0
    c.from_residual-in_err-pool.result c.from_residual-in_err-pool.ensures.1
    c.in_err-pool.ensures.0
    (λ some. rw (
      c.in_ok-check_keys.ensures,
      c.in_ok-limits.ensures.told,
      c.in_err-pool.ensures.1 some,
    ))

pub returns-clause-told : goal.returns-clause-told
unfolding client_told
returns-clause-told c =
    rw (c.in_ok-check_keys.ensures, c.in_ok-limits.ensures.told, c.in_ok-pool.ensures)
