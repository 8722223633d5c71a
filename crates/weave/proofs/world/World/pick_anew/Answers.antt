use Rattle.std.proofs.Common.{ap, ◌∙◌}
use Rattle.dtab_table.specs.Dtab.{rules_of}
use Rattle.bind_cache.specs.Stored.{kept_of}
use Rattle.machine.specs.Code.{ask_of, chosen_value}
use Rattle.weave.specs.Code.{kept_in_arc}
use Rattle.weave.proofs.Picking.{pick_told, some_fresh, worked_out}
use Rattle.weave.proofs.world.World.pick_anew.Goals as goal

pub returns-clause-told : goal.returns-clause-told
returns-clause-told g c = pick_told c.args.self.now c.requires.holds
    (ask_of c.args.ask.now) c.place-place.result (chosen_value c.in-Ok.chosen)
    c.place-place.ensures c.in-Ok.ensures

pub returns-clause-fresh : goal.returns-clause-fresh
returns-clause-fresh g c =
    some_fresh c.args.self.now c.requires.holds (ask_of c.args.ask.now)
    (kept_in_arc c.in-Ok-new.fresh) c.requires.new
    (ap kept_of c.in-Ok-new.ensures.ok ∙ worked_out c.args.self.now c.requires.holds
    c.args.ask.now.path (rules_of c.args.ask.now.local) c.in_ok-found.found
    (kept_of c.in_ok-binding.binding) c.place-place.result c.in_ok-found.ensures.delegated
    c.in_ok-binding.ensures.kept c.place-place.ensures)
