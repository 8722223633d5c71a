use Rattle.std.proofs.Common.{◌∙◌}
use Rattle.waiting.proofs.Lines.{none_found, some_found, removed_is, below_removed}
use Rattle.waiting.proofs.waiters.Waiters.take.Goals as goal

pub returns-in_err-waiter-clause-found : goal.returns-in_err-waiter-clause-found
returns-in_err-waiter-clause-found g c =
    rw (← c.self.view_is) (c.from_residual.ensures
    ∙ none_found c.args.number c.self.inside.by_number.entries c.in_err-waiter.ensures.value)

pub returns-in_err-waiter-clause-waiting : goal.returns-in_err-waiter-clause-waiting
returns-in_err-waiter-clause-waiting g c =
    rw (← c.self.view_is) (c.remove.ensures.entries
    ∙ removed_is c.args.number c.self.inside.by_number.entries)

pub invariant_of-self-2 : goal.invariant_of-self-2
invariant_of-self-2 g c = rw c.remove.ensures.entries
    (below_removed c.self.inside.next c.args.number c.self.inside.by_number.entries
    c.self.invariant)

pub returns-clause-found : goal.returns-clause-found
returns-clause-found g c = rw (← c.self.view_is)
    (some_found c.args.number c.self.inside.by_number.entries c.in_ok-waiter.waiter
    c.in_ok-waiter.ensures.value)

pub returns-clause-waiting : goal.returns-clause-waiting
returns-clause-waiting g c = rw (← c.self.view_is)
    (c.remove.ensures.entries ∙ removed_is c.args.number c.self.inside.by_number.entries)
