use Rattle.std.proofs.Common.{◌+◌, ◌≤◌, min}
use Rattle.bind_core.specs.Delegation.{lookup}
use Rattle.bind_core.specs.Stack.{rules_at, names_at, LeadsTo, stack_work, task_work}
use Rattle.bind_core.specs.Depth.{greatest_depth}
use Rattle.bind_core.specs.Turns.{IsPaid}
use Rattle.bind_core.proofs.delegate.evaluate.Given as goal

abbrev pub invariant-loop-task : goal.invariant-loop-task
invariant-loop-task g l = record {
  leads : LeadsTo (rules_at l.scene) (names_at l.scene) l.fn.work.visits.most
      (lookup (rules_at l.scene) (names_at l.scene) l.left l.path) l.work.stack.items l.work l.task;
  counted : l.fn.steps + min l.work.count 10000 ≤ l.steps;
  paid : IsPaid (greatest_depth (rules_at l.scene)) l.fn.steps l.steps l.work.stack.items
      l.work.count l.task;
}

abbrev pub decreases-loop-task : goal.decreases-loop-task
decreases-loop-task g l = stack_work (rules_at l.scene) l.work.stack.items + task_work
    (rules_at l.scene) l.task
