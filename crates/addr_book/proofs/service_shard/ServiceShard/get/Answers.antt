use Rattle.std.proofs.Common.{sym, ap, ◌∙◌, Some}
use Rattle.std.specs.FinMap.{get}
use Rattle.std.specs.Cmp.Lexicographic.{nat_list_cmp_total}
use Rattle.addr_book.specs.ServiceShard.{served}
use Rattle.addr_book.proofs.AddrMaps.{name_only}
use Rattle.addr_book.proofs.Sorted.{get_place, get_gap}
use Rattle.addr_book.proofs.service_shard.ServiceShard.get.Goals as goal

pub returns-in-Ok : goal.returns-in-Ok
returns-in-Ok c =
    ap Some c.deref.ensures
    ∙ (sym (get_place nat_list_cmp_total name_only served c.self.inside.items.items
    c.self.invariant c.args.service.now c.in-Ok.at
    (rw (← c.as_slice.ensures.value, ← c.text.ensures.text) c.in-Ok.ensures.found)
    c.index.result.now c.index.ensures)
    ∙ ap (λ m. get m c.args.service.now) c.self.view_is)

pub returns-in-Err : goal.returns-in-Err
returns-in-Err c =
    sym (get_gap nat_list_cmp_total name_only served c.self.inside.items.items c.self.invariant
    c.args.service.now c.in-Err.field-0
    (rw (← c.as_slice.ensures.value, ← c.text.ensures.text) c.in-Err.ensures.absent))
    ∙ ap (λ m. get m c.args.service.now) c.self.view_is
