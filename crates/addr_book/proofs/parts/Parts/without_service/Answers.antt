use Rattle.std.proofs.Common.{ap, ◌∙◌}
use Rattle.addr_book.specs.Uses.{list_of}
use Rattle.addr_book.proofs.Sound.{few_counts, used_once, drop_slots, drop_sound}
use Rattle.addr_book.proofs.parts.Parts.without_service.Goals as goal

pub moved-requires-clause-few : goal.moved-requires-clause-few
moved-requires-clause-few c = few_counts _ _ _ c.requires

pub moved-requires-clause-used : goal.moved-requires-clause-used
moved-requires-clause-used c =
    used_once c.args.self.now.services c.args.self.now.seats.slots c.args.self.now.seats.uses
    c.requires c.args.service.now c.items.result.now
    (c.items.ensures.items ∙ ap list_of c.in-Some.ensures)

pub returns-clause-sound : goal.returns-clause-sound
returns-clause-sound c =
    let name = c.args.service.now in
    let same = c.items.ensures.items ∙ ap list_of c.in-Some.ensures in
    let seats = c.in_ok-seats.ensures in
    rw c.in_ok-services.ensures
    (drop_sound c.args.self.now.services c.args.self.now.seats.slots c.args.self.now.seats.uses
    c.requires c.args.service.now c.items.result.now same c.in_ok-seats.seats.uses
    c.in_ok-seats.seats.slots c.in_ok-seats.ensures.slots c.in_ok-seats.ensures.uses)

pub returns-clause-book : goal.returns-clause-book
returns-clause-book c =
    let same = c.items.ensures.items ∙ ap list_of c.in-Some.ensures in
    let services = c.in_ok-services.ensures in
    let slots = drop_slots c.args.self.now.services c.args.self.now.seats.slots
    c.args.self.now.seats.uses c.requires c.args.service.now c.items.result.now same
    c.in_ok-seats.seats.uses c.in_ok-seats.seats.slots c.in_ok-seats.ensures.slots
    c.in_ok-seats.ensures.uses in
    λ i. record { services = services i; slots = slots i }
