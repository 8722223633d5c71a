use Rattle.std.proofs.Common.{◌∙◌, map}
use Rattle.machine.specs.Code.{settings_of}
use Rattle.weave.specs.Code.{step_of}
use Rattle.weave.specs.World.{opening_world}
use Rattle.weave.proofs.Steps.{starts_run, run_step, run_end, sound_at, one_history, comes_to}
use Rattle.weave.proofs.stepping.run.Goals as goal

pub loop-step-init : goal.loop-step-init
loop-step-init g c =
    starts_run (settings_of c.args.settings) c.args.passes c.args.steps.now c.in_ok-world.world
    c.new-told.result.items c.in_ok-world.ensures.holds c.in_ok-world.ensures.settings
    c.in_ok-world.ensures.world c.new-told.ensures.items

pub step-requires-clause-holds : goal.step-requires-clause-holds
step-requires-clause-holds g c = c.loop-step.invariant.holds

pub step-requires-clause-sound : goal.step-requires-clause-sound
step-requires-clause-sound g c = sound_at c.args.steps.now c.loop-step.step-index
    c.step-item.result c.loop-step-test.true c.step-item.is c.requires

pub loop-step-preserved : goal.loop-step-preserved
loop-step-preserved g c =
    run_step (settings_of c.args.settings) c.args.steps.now
    (opening_world c.args.passes) c.loop-step.world c.step.new.self c.loop-step.step-index
    c.step-item.result c.in-Ok.said c.loop-step.told.items c.push.new.self.items
    c.loop-step-test.true c.step-item.is c.loop-step.invariant c.in-Ok.ensures.ok
    c.in-Ok-push.ensures.items

pub returns-clause-settings : goal.returns-clause-settings
returns-clause-settings g c = c.loop-step.invariant.same

pub returns-clause-world : goal.returns-clause-world
returns-clause-world g c =
    (run_end (settings_of c.args.settings) c.args.steps.now
    (opening_world c.args.passes) c.loop-step.world c.loop-step.step-index c.loop-step.told.items
    c.loop-step-test.false c.loop-step.invariant).0

pub returns-clause-told : goal.returns-clause-told
returns-clause-told g c =
    c.of.ensures
    ∙ (run_end (settings_of c.args.settings) c.args.steps.now
    (opening_world c.args.passes) c.loop-step.world c.loop-step.step-index c.loop-step.told.items
    c.loop-step-test.false c.loop-step.invariant).1

pub returns-clause-history : goal.returns-clause-history
returns-clause-history g c =
    one_history (settings_of c.args.settings) c.args.passes
    (map step_of c.args.steps.now) c.loop-step.world
    (run_end (settings_of c.args.settings) c.args.steps.now
    (opening_world c.args.passes) c.loop-step.world c.loop-step.step-index c.loop-step.told.items
    c.loop-step-test.false c.loop-step.invariant).0

pub returns-clause-value : goal.returns-clause-value
returns-clause-value g c = comes_to (settings_of c.args.settings) c.loop-step.world
    c.loop-step.invariant.holds c.loop-step.invariant.same

pub returns-clause-holds : goal.returns-clause-holds
returns-clause-holds g c = c.loop-step.invariant.holds
