use Rattle.std.proofs.Common.{refl, arith, subst, Option}
use Rattle.machine.specs.Values.{ChangeValue}
use Rattle.machine.specs.Code.{settings_of, change_of, reply_value}
use Rattle.router_log.specs.Call.{changing}
use Rattle.weave.specs.declared.step.Told.TheVariants as told
use Rattle.weave.specs.Code.{pass_of}
use Rattle.weave.specs.World.{PassValue, publish, published, called}
use Rattle.weave.specs.Held.{world_of, Becomes}
use Rattle.weave.proofs.Moving.{present_value}
use Rattle.weave.proofs.Picking.{change_told}
use Rattle.weave.proofs.Steps.{lacking, publishes_it}
use Rattle.weave.proofs.world.World.publish.Goals as goal

pub returns-then-number-len-clause-ok : goal.returns-then-number-len-clause-ok
returns-then-number-len-clause-ok c =
    let old = c.args.self.now in
    let change = change_of c.args.change.now in
    lacking old (publish c.args.number change) c.args.number
    (λ (r : Option PassValue). published (settings_of old.settings)
    (world_of old) c.args.number r change) c.requires.holds
    (omega (arith, c.if-number-len.true, c.len.ensures, old.passes.ok.0)) refl refl

pub returns-clause-ok : goal.returns-clause-ok
returns-clause-ok c =
    let old = c.args.self.now in
    let change = change_of c.args.change.now in
    let x = present_value old.passes.items c.args.number
    (omega (arith, c.if-number-len.false, c.len.ensures, old.passes.ok.0)) in
    publishes_it old c.change.new.self c.args.number x.0 change
    (told.Reply c.place-place.result c.in_ok-reply.reply) x.1
    (c.in-Ok.ensures.ok x.0 x.1)
    (change_told old c.requires.holds change c.place-place.result
    (reply_value c.in_ok-reply.reply) c.place-place.ensures c.in_ok-reply.ensures.reply)
