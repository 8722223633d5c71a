use Rattle.std.proofs.Common.{◌≤◌, refl, sym, ◌∙◌, arith}
use Rattle.bind_core.specs.Delegation.{lookup, most_wide}
use Rattle.bind_core.specs.Stack.{rules_at, names_at, behind, path_work}
use Rattle.bind_core.specs.Depth.{greatest_depth}
use Rattle.bind_core.proofs.Paying.{can_begin, due_of, turned_later, told_later}
use Rattle.bind_core.proofs.Turns.{begins, tried, tried_fewer, turned, turned_fewer, few_tried}
use Rattle.bind_core.proofs.Turns.{finished}
use Rattle.bind_core.proofs.delegate.evaluate.Goals as goal

pub loop-task-init : goal.loop-task-init
loop-task-init g c = record {
  leads =
      begins (rules_at c.args.scene.now) (names_at c.args.scene.now) c.args.work.now.visits.most
      (lookup (rules_at c.args.scene.now) (names_at c.args.scene.now) c.args.left
      c.args.path.now) c.args.work.now
      c.look_up.new.work c.in_ok-task.task
      (λ vs. behind vs (lookup (rules_at c.args.scene.now) (names_at c.args.scene.now)
      c.args.left c.args.path.now))
      (path_work (rules_at c.args.scene.now) c.args.left c.args.path.now) c.requires.stack
      c.requires.fits refl c.in_ok-task.ensures.step;
  counted = omega (arith, c.requires.fits.count, c.in_ok-task.ensures.counted);
  paid = c.in_ok-task.ensures.paid (greatest_depth (rules_at c.args.scene.now)) _ (omega arith)
      (can_begin (greatest_depth (rules_at c.args.scene.now)) _ _ _ c.requires.stack
      c.requires.fits.count);
}

pub returns-then-ends_all-clause-answer : goal.returns-then-ends_all-clause-answer
returns-then-ends_all-clause-answer g c =
    finished (rules_at c.args.scene.now) (names_at c.args.scene.now) c.args.work.now.visits.most
    c.requires.most (lookup (rules_at c.args.scene.now) (names_at c.args.scene.now) c.args.left
    c.args.path.now)
    c.loop-task.work c.loop-task.task c.in-Tell.told c.in-Tell.is c.loop-task.work.stack.items
    c.loop-task.invariant.leads (sym c.ends_all.ensures ∙ c.if-ends_all.true)

pub loop-task-preserved-in_ok-task-in-Try : goal.loop-task-preserved-in_ok-task-in-Try
loop-task-preserved-in_ok-task-in-Try g c = record {
  leads =
      tried (rules_at c.args.scene.now) (names_at c.args.scene.now) c.args.work.now.visits.most
      (lookup (rules_at c.args.scene.now) (names_at c.args.scene.now) c.args.left
      c.args.path.now) c.loop-task.work
      c.step.new.work c.loop-task.task c.in_ok-task-in-Try.task c.in-Try.tree c.in-Try.left
      c.in-Try.is c.in_ok-task-in-Try.ensures.step c.loop-task.invariant.leads;
  counted =
      let few : c.loop-task.work.count ≤ most_wide =
      few_tried (rules_at c.args.scene.now) (names_at c.args.scene.now) c.args.work.now.visits.most
      (lookup (rules_at c.args.scene.now) (names_at c.args.scene.now) c.args.left
      c.args.path.now)
      c.loop-task.work.stack.items c.loop-task.work c.loop-task.task c.in-Try.tree c.in-Try.left
      c.in-Try.is c.loop-task.invariant.leads in
      omega (
        arith,
        few,
        c.loop-task.invariant.counted,
        c.tick.ensures,
        c.in_ok-task-in-Try.ensures.counted,
      );
  paid =
      c.in_ok-task-in-Try.ensures.paid (greatest_depth (rules_at c.args.scene.now)) _ (omega arith)
      (due_of (greatest_depth (rules_at c.args.scene.now)) _ _ _ _ _ c.loop-task.task _ c.in-Try.is
      c.tick.ensures c.loop-task.invariant.paid);
}

pub loop-task-smaller-in_ok-task-in-Try : goal.loop-task-smaller-in_ok-task-in-Try
loop-task-smaller-in_ok-task-in-Try g c =
    tried_fewer (rules_at c.args.scene.now) (names_at c.args.scene.now) _ c.loop-task.work
    c.step.new.work c.loop-task.task c.in_ok-task-in-Try.task c.in-Try.tree c.in-Try.left
    c.in-Try.is
    c.in_ok-task-in-Try.ensures.step

pub loop-task-preserved : goal.loop-task-preserved
loop-task-preserved g c = record {
  leads =
      turned (rules_at c.args.scene.now) (names_at c.args.scene.now) c.args.work.now.visits.most
      (lookup (rules_at c.args.scene.now) (names_at c.args.scene.now) c.args.left
      c.args.path.now) c.loop-task.work
      (record {
        stack = c.pop.new.self;
        count = c.loop-task.work.count;
        visits = c.loop-task.work.visits;
      }) c.turn.new.work c.in-Some.frame c.loop-task.task c.in-Tell.told
      c.in_ok-task-in-Tell.task c.in-Tell.is
      c.in-Some.ensures.items refl refl (c.in_ok-task-in-Tell.ensures.step
      (rules_at c.args.scene.now) (names_at c.args.scene.now)) c.loop-task.invariant.leads
      (sym c.ends_all.ensures ∙ c.if-ends_all.false);
  counted = omega (
    arith,
    c.loop-task.invariant.counted,
    c.tick.ensures,
    c.in_ok-task-in-Tell.ensures.count,
  );
  paid =
      turned_later (greatest_depth (rules_at c.args.scene.now)) _ _ _ _ _
      c.loop-task.work.stack.items c.pop.new.self.items c.turn.new.work.stack.items
      c.in-Some.frame c.loop-task.task c.in_ok-task-in-Tell.task c.in-Tell.told c.in-Tell.is
      c.in-Some.ensures.items (sym c.ends_all.ensures ∙ c.if-ends_all.false) c.tick.ensures
      c.in_ok-task-in-Tell.ensures.count c.loop-task.invariant.paid
      c.in_ok-task-in-Tell.ensures.moves;
}

pub loop-task-smaller : goal.loop-task-smaller
loop-task-smaller g c =
    turned_fewer (rules_at c.args.scene.now) (names_at c.args.scene.now) _ c.loop-task.work
    (record {
      stack = c.pop.new.self;
      count = c.loop-task.work.count;
      visits = c.loop-task.work.visits;
    }) c.turn.new.work c.in-Some.frame c.loop-task.task c.in-Tell.told
    c.in_ok-task-in-Tell.task c.in-Tell.is
    c.in-Some.ensures.items (c.in_ok-task-in-Tell.ensures.step (rules_at c.args.scene.now)
    (names_at c.args.scene.now))

pub returns-then-ends_all-clause-turns : goal.returns-then-ends_all-clause-turns
returns-then-ends_all-clause-turns g c =
    told_later (greatest_depth (rules_at c.args.scene.now)) _ _ _ _ _ c.loop-task.work.stack.items
    c.loop-task.task c.in-Tell.told c.in-Tell.is c.tick.ensures refl c.loop-task.invariant.paid

pub returns-in_default-clause-turns : goal.returns-in_default-clause-turns
returns-in_default-clause-turns g c =
    told_later (greatest_depth (rules_at c.args.scene.now)) _ _ _ _ _ c.loop-task.work.stack.items
    c.loop-task.task c.in-Tell.told c.in-Tell.is c.tick.ensures refl c.loop-task.invariant.paid
