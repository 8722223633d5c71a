use Rattle.std.proofs.Common.{sym, ap, ◌∙◌, subst, ◌+◌}
use Rattle.std.specs.FinMap.{get}
use Rattle.addr_book.specs.SlotMap.{IsSlotMap}
use Rattle.addr_book.proofs.SlotMaps.{slot_more}
use Rattle.addr_book.proofs.slot_map.SlotMap.with.Goals as goal

pub invariant_of-result : goal.invariant_of-result
invariant_of-result c =
    let at = ap (λ m. get m c.args.addr) c.self.view_is in
    subst (λ m. IsSlotMap m c.put.new.self (c.self.inside.count + 1)) (sym c.in_ok-slots.ensures)
    (slot_more c.self.inside.slots c.self.inside.taken c.self.inside.count c.self.invariant
    c.args.addr c.args.slot (at ∙ c.requires.new)
    (λ other is. c.requires.free other (ap (λ m. get m other) (sym c.self.view_is) ∙ is))
    c.requires.below c.put.new.self c.put.ensures)
