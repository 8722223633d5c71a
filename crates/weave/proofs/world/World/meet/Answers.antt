use Rattle.std.proofs.Common.{arith}
use Rattle.weave.proofs.Moving.{present_value}
use Rattle.weave.proofs.Steps.{first_lacks, second_lacks, sees_both}
use Rattle.weave.proofs.world.World.meet.Goals as goal

pub see-requires-2-clause-holds : goal.see-requires-2-clause-holds
see-requires-2-clause-holds c =
    let old = c.args.self.now in
    let x = present_value old.passes.items c.args.one
    (omega (arith, c.if-one-len.false, c.len.ensures, old.passes.ok.0)) in
    (c.see.ensures.sees x.0 x.1).holds

pub see-requires-2-clause-there : goal.see-requires-2-clause-there
see-requires-2-clause-there c =
    let old = c.args.self.now in
    omega (arith, c.see.ensures.passes, c.if-other-len.false, c.len-2.ensures, old.passes.ok.0)

pub returns-then-one-len : goal.returns-then-one-len
returns-then-one-len c = let old = c.args.self.now in
    first_lacks old c.args.one c.args.other c.requires
    (omega (arith, c.if-one-len.true, c.len.ensures, old.passes.ok.0))

pub returns-then-other-len : goal.returns-then-other-len
returns-then-other-len c = let old = c.args.self.now in
    second_lacks old c.args.one c.args.other c.requires
    (omega (arith, c.if-other-len.true, c.len-2.ensures, old.passes.ok.0))

pub returns : goal.returns
returns c =
    let old = c.args.self.now in
    let x = present_value old.passes.items c.args.one
    (omega (arith, c.if-one-len.false, c.len.ensures, old.passes.ok.0)) in
    sees_both old c.see.new.self c.see-2.new.self c.args.one c.args.other x.0 c.requires x.1
    (omega (arith, c.if-other-len.false, c.len-2.ensures, old.passes.ok.0)) c.see.ensures.passes
    (c.see.ensures.sees x.0 x.1)
    c.see-2.ensures.sees
