use Rattle.serde_json.specs.View.{view}
use Rattle.linker_config.specs.Router.{routed_of, router_told}
use Rattle.linker_config.proofs.Chains.{told_on_by}
use Rattle.linker_config.proofs.Halves.{router_halves}
use Rattle.linker_config.proofs.router.router.Goals as goal

pub returns-in_err-check_router_keys : goal.returns-in_err-check_router_keys
unfolding router_told
returns-in_err-check_router_keys c =
    told_on_by routed_of (router_told (view c.args.value.now)) c.in_err-check_router_keys.field-0.0
    c.from_residual.result c.from_residual.ensures.1 c.in_err-check_router_keys.ensures.0
    (λ some. rw (c.in_err-check_router_keys.ensures.1 some))

pub returns-in_err-needed_word : goal.returns-in_err-needed_word
unfolding router_told
returns-in_err-needed_word c =
    told_on_by routed_of (router_told (view c.args.value.now)) c.in_err-needed_word.field-0.0
    c.from_residual-in_err-needed_word.result c.from_residual-in_err-needed_word.ensures.1
    c.in_err-needed_word.ensures.0
    (λ some. rw (c.in_ok-check_router_keys.ensures, c.in_err-needed_word.ensures.1 some))

pub returns-in_err-rules : goal.returns-in_err-rules
returns-in_err-rules c =
    told_on_by routed_of (router_told (view c.args.value.now)) c.in_err-rules.field-0.0
    c.from_residual-in_err-rules.result c.from_residual-in_err-rules.ensures.1
    c.in_err-rules.ensures.told.0
    (λ some. rw (
      router_halves (view c.args.value.now) c.in_ok-check_router_keys.ensures
          c.in_ok-needed_word.ensures,
      c.in_err-rules.ensures.told.1 some,
    ))

pub invariant_of-result : goal.invariant_of-result
invariant_of-result c =
    record {
      sound = c.in_ok-rules.ensures.sound;
      failures = c.in-Ok.ensures.failures;
      allowed = c.in-Ok.ensures.allowed;
    }

pub returns-in-Ok : goal.returns-in-Ok
returns-in-Ok c =
    rw (
      router_halves (view c.args.value.now) c.in_ok-check_router_keys.ensures
          c.in_ok-needed_word.ensures,
      c.in_ok-rules.ensures.told,
      c.in-Ok.ensures.told,
    )

pub returns-in-Err : goal.returns-in-Err
returns-in-Err c = (
  c.in-Err.ensures.told.0,
  λ some. rw (
    router_halves (view c.args.value.now) c.in_ok-check_router_keys.ensures
        c.in_ok-needed_word.ensures,
    c.in_ok-rules.ensures.told,
    c.in-Err.ensures.told.1 some,
  ),
)
