use Rattle.machine.specs.Code.{state_of}
use Rattle.machine.proofs.Decides.{deleted_from}
use Rattle.machine.proofs.state.State.decide_delete.Goals as goal

pub returns-in-Ok : goal.returns-in-Ok
returns-in-Ok c = deleted_from (state_of c.args.self.now) c.args.name.now c.in-Ok.ready
    c.args.self.now.sound c.args.expected c.in-Ok.ensures.store c.in-Ok.ensures.taken
