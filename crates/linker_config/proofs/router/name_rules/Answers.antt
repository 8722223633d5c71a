use Rattle.serde_json.specs.View.{view}
use Rattle.linker_config.specs.Router.{name_rules_of, name_rules_told}
use Rattle.linker_config.proofs.Chains.{told_on_by}
use Rattle.linker_config.proofs.router.name_rules.Goals as goal

pub returns-in_err-base-clause-told : goal.returns-in_err-base-clause-told
unfolding name_rules_told
returns-in_err-base-clause-told c =
    told_on_by name_rules_of (name_rules_told (view c.args.value.now)) c.in_err-base.field-0.0
    c.from_residual.result c.from_residual.ensures.1 c.in_err-base.ensures.told.0
    (λ some. rw (c.in_err-base.ensures.told.1 some))

pub returns-in_err-prefix-clause-told : goal.returns-in_err-prefix-clause-told
unfolding name_rules_told
returns-in_err-prefix-clause-told c =
    told_on_by name_rules_of (name_rules_told (view c.args.value.now)) c.in_err-prefix.field-0.0
    c.from_residual-in_err-prefix.result c.from_residual-in_err-prefix.ensures.1
    c.in_err-prefix.ensures.0
    (λ some. rw (c.in_ok-base.ensures.told, c.in_err-prefix.ensures.1 some))

pub returns-in_err-kind-clause-told : goal.returns-in_err-kind-clause-told
unfolding name_rules_told
returns-in_err-kind-clause-told c =
    told_on_by name_rules_of (name_rules_told (view c.args.value.now)) c.in_err-kind.field-0.0
    c.from_residual-in_err-kind.result c.from_residual-in_err-kind.ensures.1
    c.in_err-kind.ensures.0
    (λ some. rw (
      c.in_ok-base.ensures.told,
      c.in_ok-prefix.ensures,
      c.in_err-kind.ensures.1 some,
    ))

pub returns-clause-told : goal.returns-clause-told
unfolding name_rules_told
returns-clause-told c =
    rw (c.in_ok-base.ensures.told, c.in_ok-prefix.ensures, c.in_ok-kind.ensures)
