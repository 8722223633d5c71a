use Rattle.std.proofs.Common.{sym, ap, ◌∙◌, subst}
use Rattle.std.specs.FinMap.{get, remove, same_map}
use Rattle.addr_book.specs.SlotMap.{IsSlotMap}
use Rattle.addr_book.proofs.AddrLists.{addr_total}
use Rattle.addr_book.proofs.AddrMaps.{addr_only}
use Rattle.addr_book.proofs.SlotMaps.{slot_fewer, none_fewer}
use Rattle.addr_book.proofs.slot_map.SlotMap.without.Goals as goal

pub returns-in_default : goal.returns-in_default
returns-in_default c =
    same_map addr_total addr_only c.args.self (remove c.args.self c.args.addr)
    (none_fewer c.args.self c.args.addr (sym c.get.ensures ∙ c.in_default.is))

pub invariant_of-result : goal.invariant_of-result
invariant_of-result c =
    subst (λ m. IsSlotMap m c.take.new.self c.saturating_sub.result) (sym c.in_ok-slots.ensures)
    (subst (IsSlotMap (remove c.self.inside.slots c.args.addr) c.take.new.self)
    (sym c.saturating_sub.ensures)
    (slot_fewer c.self.inside.slots c.self.inside.taken c.self.inside.count c.self.invariant
    c.args.addr c.in-Some.slot
    (ap (λ m. get m c.args.addr) c.self.view_is ∙ (sym c.get.ensures ∙ c.in-Some.is))
    c.take.new.self c.take.ensures))
