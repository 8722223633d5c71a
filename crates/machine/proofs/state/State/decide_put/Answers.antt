use Rattle.dtab_table.specs.Dtab.{rules_of}
use Rattle.machine.specs.Code.{state_of}
use Rattle.machine.proofs.Decides.{replaced}
use Rattle.machine.proofs.state.State.decide_put.Goals as goal

pub returns-in-Ok : goal.returns-in-Ok
returns-in-Ok c =
    replaced (state_of c.args.self.now) c.args.name.now c.in-Ok.ready c.args.self.now.sound
    (rules_of c.args.dtab.now) c.next_version-version.result
    c.next_version-version.ensures c.in-Ok.ensures.store c.requires c.args.expected
    c.in-Ok.ensures.taken
