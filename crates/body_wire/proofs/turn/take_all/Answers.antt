use Rattle.std.proofs.Common.{Ok, subst}
use Rattle.body_wire.specs.declared.decoder.Step.{Step}
use Rattle.body_wire.specs.Stands.{Steps}
use Rattle.body_wire.proofs.Going.{none_taken, moved, smaller, taken_same, stopped}
use Rattle.body_wire.proofs.turn.take_all.Goals as goal

pub loop-count-init : goal.loop-count-init
loop-count-init c = none_taken c.args.decoder.now c.args.rest.now c.args.out.now.items

pub loop-count-smaller : goal.loop-count-smaller
loop-count-smaller c =
    let e =
    subst (λ (step : Step). Steps c.loop-count.decoder c.step.new.self c.kept.result.now
    c.loop-count.out.items c.step.new.out.items (Ok step)) c.in-Ok-Moved.field-0-is
    c.in-Ok-Moved.ensures in
    smaller c.loop-count.decoder c.step.new.self c.loop-count.rest c.skip.new.self c.kept.result.now
    c.loop-count.out.items c.step.new.out.items c.in-Ok-Moved.count
    c.kept.ensures e c.skip.ensures

pub loop-count-preserved : goal.loop-count-preserved
loop-count-preserved c =
    let e =
    subst (λ (step : Step). Steps c.loop-count.decoder c.step.new.self c.kept.result.now
    c.loop-count.out.items c.step.new.out.items (Ok step)) c.in-Ok-Moved.field-0-is
    c.in-Ok-Moved.ensures in
    moved c.args.decoder.now c.loop-count.decoder c.step.new.self c.args.rest.now c.loop-count.rest
    c.skip.new.self c.kept.result.now c.args.out.now.items
    c.loop-count.out.items c.step.new.out.items c.in-Ok-Moved.count c.loop-count.invariant
    c.kept.ensures e c.skip.ensures

pub returns-in-Ok-Stopped : goal.returns-in-Ok-Stopped
returns-in-Ok-Stopped c =
    let e =
    subst (λ (step : Step). Steps c.loop-count.decoder c.step.new.self c.kept.result.now
    c.loop-count.out.items c.step.new.out.items (Ok step)) c.in-Ok-Stopped.field-0-is
    c.in-Ok-Stopped.ensures in
    stopped c.args.decoder.now c.loop-count.decoder c.step.new.self c.args.rest.now
    c.loop-count.rest c.kept.result.now c.args.out.now.items c.loop-count.out.items
    c.step.new.out.items c.in-Ok-Stopped.stop c.loop-count.invariant c.kept.ensures e.0 e.1 e.2

pub returns-in-Err : goal.returns-in-Err
returns-in-Err c =
    let e = c.in-Err.ensures
    in taken_same _ _ _ _ c.loop-count.rest _ _ _ c.loop-count.invariant e.0 e.1
