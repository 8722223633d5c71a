use Rattle.proxy_session.specs.Callers.{caller_of}
use Rattle.proxy_session.proofs.Holding.{holds_none, holds_one}
use Rattle.proxy_session.proofs.held_try.HeldTry.run.Goals as goal

pub returns-in_default-clause-holds : goal.returns-in_default-clause-holds
returns-in_default-clause-holds g c =
    holds_none (caller_of c.args.pass.now) c.args.self.now.slot c.in_default.is c.requires.free

pub returns-clause-holds : goal.returns-clause-holds
returns-clause-holds g c =
    holds_one c.args.pass.now c.hold.new.pass c.give.new.pass c.args.self.now.slot c.in-Some.word
    c.in-Some.is c.hold.ensures.same c.hold.ensures.taken c.hold.ensures.reads
    c.give.ensures.same
    c.give.ensures.taken c.give.ensures.reads c.give.ensures.slot
