use Rattle.std.proofs.Common.{ap, map}
use Rattle.line_doubles.specs.Memory.{address_of}
use Rattle.line_base.proofs.Kept.{some_same, some_taken, taken_to}
use Rattle.line_doubles.proofs.Links.{takes_out}
use Rattle.line_doubles.proofs.dialer.take_fit.Goals as goal

pub returns-in-None-clause-unfit : goal.returns-in-None-clause-unfit
returns-in-None-clause-unfit c =
    λ _. some_same (map address_of c.take_out.new.kept.items)
    (map address_of c.args.kept.now.items) (ap (map address_of) c.in-None.ensures.none)

pub returns-then-link-clause-fit : goal.returns-then-link-clause-fit
returns-then-link-clause-fit c =
    λ _. takes_out c.in-Some.link c.args.ip c.args.port c.args.kept.now.items
    c.reserve.new.self.items c.in-Some.ensures.there.0 c.in-Some.ensures.there.1
    (taken_to c.in-Some.link c.args.kept.now.items c.take_out.new.kept.items
    c.reserve.new.self.items c.reserve.ensures.items c.in-Some.ensures.taken)

pub returns-then-link-clause-unfit : goal.returns-then-link-clause-unfit
returns-then-link-clause-unfit c =
    λ _. some_taken address_of c.in-Some.link c.args.kept.now.items c.reserve.new.self.items
    (taken_to c.in-Some.link c.args.kept.now.items c.take_out.new.kept.items
    c.reserve.new.self.items c.reserve.ensures.items c.in-Some.ensures.taken)

pub returns-clause-unfit : goal.returns-clause-unfit
returns-clause-unfit c =
    λ _. some_taken address_of c.in-Some.link c.args.kept.now.items c.take_out.new.kept.items
    c.in-Some.ensures.taken
