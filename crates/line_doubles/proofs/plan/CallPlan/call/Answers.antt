use Rattle.std.proofs.Common.{◌^◌, ◌-◌, max, get_or, ap, ◌∙◌, arith}
use Rattle.std.specs.Option.{unwrap_or}
use Rattle.line_doubles.proofs.plan.CallPlan.call.Goals as goal

pub returns-clause-size : goal.returns-clause-size
returns-clause-size c = rw (← c.self.view_is) (
  c.max.ensures ∙ ap (λ n. max n 1) (c.unwrap_or.ensures
      ∙ (ap (λ o. unwrap_or o (2 ^ 64 - 1)) c.copied-size.ensures
      ∙ (c.get.ensures.lookup.4 (omega arith) (2 ^ 64 - 1)
      ∙ ap (λ xs. get_or xs c.self.inside.calls (2 ^ 64 - 1)) c.deref-2.ensures.value))),
  omega (arith, c.max.ensures),
)
