use Rattle.bind_core.specs.Outcome.{ending_of}
use Rattle.machine.specs.Code.{ask_of, chosen_value}
use Rattle.weave.proofs.Picking.{pick_told, nothing_fresh, cached_ending}
use Rattle.weave.proofs.world.World.pick.Goals as goal

pub returns-clause-told : goal.returns-clause-told
returns-clause-told g c = pick_told c.args.self.now c.requires
    (ask_of c.args.ask.now) c.place.result (chosen_value c.in_ok-chosen.chosen) c.place.ensures
    c.in_ok-chosen.ensures

pub returns-clause-fresh : goal.returns-clause-fresh
returns-clause-fresh g c = nothing_fresh c.args.self.now c.requires (ask_of c.args.ask.now)
    (ending_of c.in-Some.outcome.now) c.in-Some.ensures

pub choose_in-requires : goal.choose_in-requires
choose_in-requires g c = cached_ending c.args.self.now c.requires (ask_of c.args.ask.now)
    (ending_of c.in-Some.outcome.now) c.in-Some.ensures
