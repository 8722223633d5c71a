use Rattle.std.proofs.Common.{sym, subst, ◌∙◌}
use Rattle.serving.specs.Passes.{AreFree}
use Rattle.serving.proofs.Chains.{free_end, free_push}
use Rattle.serving.proofs.Meeting.{free_front, numbers_met, room_for_last}
use Rattle.serving.proofs.Refusing.{stops_among}
use Rattle.serving.proofs.Services.{seen_where}
use Rattle.serving.proofs.loading.set_services.Goals as goal

pub returns-clause-free : goal.returns-clause-free
returns-clause-free g c =
    let last = free_end c.args.passes.items c.pop.new.self.items c.in-Some.last
    c.in-Some.ensures.items c.requires.free in
    subst AreFree (sym c.push_reserved.ensures.items)
    (free_push c.meet_each.new.met.items c.meet_each.new.pass c.meet_each.ensures.free
    (c.meet_each.ensures.slot ∙ (c.set_each-set.ensures.slot ∙ last)))

pub returns-clause-seen : goal.returns-clause-seen
returns-clause-seen g c = seen_where c.set_each-set.result c.args.items.items _ _ _ _
    c.set_each-set.ensures.set c.push_reserved.ensures.items c.meet_each.ensures.met
    c.meet_each.ensures.seen

pub returns-clause-refused : goal.returns-clause-refused
returns-clause-refused g c = λ is.
    stops_among _ _ c.pop.new.self.items c.meet_each.new.met.items _ c.in-Some.last
    c.set_each-set.new.pass c.meet_each.new.pass c.in-Some.ensures.items
    c.push_reserved.ensures.items (c.set_each-set.ensures.refused is)
    c.meet_each.ensures.made c.meet_each.ensures.met c.meet_each.ensures.seen

pub returns-clause-numbers : goal.returns-clause-numbers
returns-clause-numbers g c =
    numbers_met _ c.pop.new.self.items c.meet_each.new.met.items _ c.in-Some.last
    c.meet_each.new.pass
    c.in-Some.ensures.items c.push_reserved.ensures.items
    (c.meet_each.ensures.number ∙ c.set_each-set.ensures.number) c.meet_each.ensures.numbers

pub meet_each-requires-clause-free : goal.meet_each-requires-clause-free
meet_each-requires-clause-free g c =
    free_front _ c.pop.new.self.items c.in-Some.last c.in-Some.ensures.items c.requires.free

pub push_reserved-requires : goal.push_reserved-requires
push_reserved-requires g c =
    room_for_last c.pop.new.self.items c.meet_each.new.met.items _ _ _ _ _
    c.meet_each.ensures.numbers
    c.pop.new.self.ok.0 c.meet_each.new.met.ok.0 c.in-Some.ensures.cases c.requires.room.1
    c.meet_each.ensures.room
