-- How a router handles requests, by the type that names it.
use Rattle.std.specs.Prelude.{◌≡◌, Option}
use Rattle.identifier.specs.declared.rule.Rule.{Rule}
use Rattle.retry_budget.specs.declared.tries.Tries.{Tries}
use Rattle.serving.specs.declared.policy.Policy.{Policy}

-- it names requests by this rule, and tries them again so often
pub record IsHandledBy (rule : Rule) (tries : Option Tries) (policy : Policy) : Type 0 where
  pub rule_is : policy.rule ≡ rule
  pub tries_are : policy.retries ≡ tries
