use Rattle.std.proofs.Common.{Ok}
use Rattle.serde_json.specs.View.{view}
use Rattle.linker_config.specs.Config.{config_of, said_of}
use Rattle.linker_config.specs.Listening.{named_of}
use Rattle.linker_config.specs.Router.{routed_of}
use Rattle.linker_config.proofs.Chains.{told_on_by}
use Rattle.linker_config.proofs.Halves.{config_by, run_last}
use Rattle.linker_config.proofs.reading.config.Goals as goal

pub returns-in_err-check_top_keys-clause-told : goal.returns-in_err-check_top_keys-clause-told
unfolding config_of
returns-in_err-check_top_keys-clause-told c =
    told_on_by said_of (config_of (view c.args.tree.now)) c.in_err-check_top_keys.field-0.0
    c.from_residual.result c.from_residual.ensures.1 c.in_err-check_top_keys.ensures.0
    (λ some. rw (c.in_err-check_top_keys.ensures.1 some))

pub returns-in_err-admin-clause-told : goal.returns-in_err-admin-clause-told
unfolding config_of
returns-in_err-admin-clause-told c =
    told_on_by said_of (config_of (view c.args.tree.now)) c.in_err-admin.field-0.0
    c.from_residual-in_err-admin.result c.from_residual-in_err-admin.ensures.1
    c.in_err-admin.ensures.0
    (λ some. rw (c.in_ok-check_top_keys.ensures, c.in_err-admin.ensures.1 some))

pub returns-in_err-named-clause-told : goal.returns-in_err-named-clause-told
unfolding config_of
returns-in_err-named-clause-told c =
    told_on_by said_of (config_of (view c.args.tree.now)) c.in_err-named.field-0.0
    c.from_residual-in_err-named.result c.from_residual-in_err-named.ensures.1
    c.in_err-named.ensures.0
    (λ some. rw (
      c.in_ok-check_top_keys.ensures,
      c.in_ok-admin.ensures,
      c.in_err-named.ensures.1 some,
    ))

pub returns-in_err-root-clause-told : goal.returns-in_err-root-clause-told
unfolding config_of
returns-in_err-root-clause-told c =
    told_on_by said_of (config_of (view c.args.tree.now)) c.in_err-root.field-0.0
    c.from_residual-in_err-root.result c.from_residual-in_err-root.ensures.1
    c.in_err-root.ensures.0
    (λ some. rw (
      c.in_ok-check_top_keys.ensures,
      c.in_ok-admin.ensures,
      c.in_ok-named.ensures,
      c.in_err-root.ensures.1 some,
    ))

pub returns-in_err-routed-clause-told : goal.returns-in_err-routed-clause-told
unfolding config_of
returns-in_err-routed-clause-told c =
    told_on_by said_of (config_of (view c.args.tree.now)) c.in_err-routed.field-0.0
    c.from_residual-in_err-routed.result c.from_residual-in_err-routed.ensures.1
    c.in_err-routed.ensures.0
    (λ some. rw (
      c.in_ok-check_top_keys.ensures,
      c.in_ok-admin.ensures,
      c.in_ok-named.ensures,
      c.in_ok-root.ensures,
      c.in_err-routed.ensures.1 some,
    ))

pub returns-in-Err-clause-told : goal.returns-in-Err-clause-told
unfolding config_of
returns-in-Err-clause-told c = (
  c.in-Err.ensures.told.0,
  λ some. rw (
    c.in_ok-check_top_keys.ensures,
    c.in_ok-admin.ensures,
    c.in_ok-named.ensures,
    c.in_ok-root.ensures,
    c.in_ok-routed.ensures,
    run_last (view c.args.tree.now) (λ run. Ok (config_by c.in_ok-admin.admin
        (named_of c.in_ok-named.named) c.in_ok-root.root (routed_of c.in_ok-routed.routed) run)),
    c.in-Err.ensures.told.1 some,
  ),
)

pub returns-clause-told : goal.returns-clause-told
unfolding config_of
returns-clause-told c =
    rw (
      c.in_ok-check_top_keys.ensures,
      c.in_ok-admin.ensures,
      c.in_ok-named.ensures,
      c.in_ok-root.ensures,
      c.in_ok-routed.ensures,
      run_last (view c.args.tree.now) (λ run. Ok (config_by c.in_ok-admin.admin
          (named_of c.in_ok-named.named) c.in_ok-root.root (routed_of c.in_ok-routed.routed) run)),
      c.in-Ok.ensures.told,
      c.unwrap_or-clears_context.ensures,
    )
