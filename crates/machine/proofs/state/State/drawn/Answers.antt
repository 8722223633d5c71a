use Rattle.std.proofs.Common.{sym, refl}
use Rattle.machine.specs.Code.{state_of, ask_of}
use Rattle.machine.proofs.Choosing.{drawn_in}
use Rattle.machine.proofs.state.State.drawn.Goals as goal

pub returns : goal.returns
returns c =
    drawn_in (state_of c.args.self.now) c.args.limits
    (ask_of c.args.ask.now) c.args.service.now c.in-Some.list.now
    (sym c.in-Some.ensures.cluster) _ _ c.pair_addrs.result.0 c.pair_addrs.result.1
    refl c.pair_addrs.ensures.first c.pair_addrs.ensures.second
