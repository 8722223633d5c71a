use Rattle.std.proofs.Common.{subst}
use Rattle.dtab_table.specs.Dtab.{rules_of}
use Rattle.addr_book.specs.Found.{IsFilled, IsBounded}
use Rattle.addr_book.specs.Namer.{named_in}
use Rattle.bind_core.specs.declared.outcome.Outcome.{Outcome}
use Rattle.bind_core.specs.Delegation.{IfBound}
use Rattle.bind_core.specs.Outcome.{ending_of}
use Rattle.bind_core.proofs.Filled.{filled_outcome}
use Rattle.bind_core.proofs.Bounded.{bounded_outcome}
use Rattle.machine.specs.Code.{settings_of, state_of}
use Rattle.machine.specs.Looking.{effective}
use Rattle.machine.proofs.Sounds.{sound_effective}
use Rattle.machine.proofs.state.State.candidates_of.Goals as goal

pub candidates-requires : goal.candidates-requires
candidates-requires c =
    let table = effective (settings_of c.args.settings.now) (state_of c.args.self.now)
    (rules_of c.args.ask.now.local) in
    let names = named_in c.args.self.now.book in
    let sound = sound_effective (settings_of c.args.settings.now) (state_of c.args.self.now)
    (rules_of c.args.ask.now.local) c.args.self.now.sound c.args.settings.now.sound
    c.args.ask.now.sound in
    record {
      filled = subst (λ (o : Outcome). IfBound IsFilled (ending_of o)) c.in-Bound.is
          (filled_outcome table names c.args.ask.now.path c.args.outcome.now c.requires);
      bounded = subst (λ (o : Outcome). IfBound IsBounded (ending_of o)) c.in-Bound.is
          (bounded_outcome table names c.args.ask.now.path c.args.outcome.now c.requires sound);
    }
