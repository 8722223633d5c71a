use Rattle.serde_json.specs.View.{view}
use Rattle.linker_config.specs.Router.{router_settings_told}
use Rattle.linker_config.proofs.Chains.{told_on}
use Rattle.linker_config.proofs.router_settings.router_settings.Goals as goal

pub returns-in_err-server-clause-told : goal.returns-in_err-server-clause-told
unfolding router_settings_told
returns-in_err-server-clause-told c =
    told_on (router_settings_told (view c.args.value.now)) c.in_err-server.field-0.0
    c.from_residual.result c.from_residual.ensures.1 c.in_err-server.ensures.0
    (λ some. rw (c.in_err-server.ensures.1 some))

pub returns-in_err-client-clause-told : goal.returns-in_err-client-clause-told
unfolding router_settings_told
returns-in_err-client-clause-told c =
    told_on (router_settings_told (view c.args.value.now)) c.in_err-client.field-0.0
    c.from_residual-in_err-client.result c.from_residual-in_err-client.ensures.1
    c.in_err-client.ensures.told.0
    (λ some. rw (c.in_ok-server.ensures, c.in_err-client.ensures.told.1 some))

pub returns-in_err-retries-clause-told : goal.returns-in_err-retries-clause-told
unfolding router_settings_told
returns-in_err-retries-clause-told c =
    told_on (router_settings_told (view c.args.value.now)) c.in_err-retries.field-0.0
    c.from_residual-in_err-retries.result c.from_residual-in_err-retries.ensures.1
    c.in_err-retries.ensures.told.0
    (λ some. rw (
      c.in_ok-server.ensures,
      c.in_ok-client.ensures.told,
      c.in_err-retries.ensures.told.1 some,
    ))

pub returns-clause-told : goal.returns-clause-told
unfolding router_settings_told
returns-clause-told c =
    rw (
      c.in_ok-server.ensures,
      c.in_ok-client.ensures.told,
      c.in_ok-retries.ensures.told,
      c.in_ok-access_log.ensures,
    )
