use Rattle.std.proofs.Common.{sym, ap, ◌∙◌, subst, nat_cmp}
use Rattle.std.specs.FinMap.{contains_key, remove}
use Rattle.std.specs.Cmp.Lexicographic.{slice_cmp}
use Rattle.addr_book.specs.Sorted.{map_of, IsInOrder}
use Rattle.std.specs.Cmp.Lexicographic.{nat_list_cmp_total}
use Rattle.addr_book.specs.ServiceShard.{served}
use Rattle.addr_book.proofs.AddrMaps.{name_only}
use Rattle.addr_book.proofs.Sorted.{sorted_gone, map_gone, there_place, map_gone_gap, there_gap}
use Rattle.addr_book.proofs.service_shard.ServiceShard.remove.Goals as goal

pub invariant_of-self : goal.invariant_of-self
invariant_of-self c =
    subst (IsInOrder (slice_cmp nat_cmp) served) (sym c.remove.ensures.items)
    (sorted_gone nat_list_cmp_total name_only served c.self.inside.items.items c.self.invariant
    c.args.service.now c.in-Ok.at
    (rw (← c.as_slice.ensures.value, ← c.text.ensures.text) c.in-Ok.ensures.found) c.remove.result)

pub returns-in-Ok-clause-services : goal.returns-in-Ok-clause-services
returns-in-Ok-clause-services c =
    ap (map_of served) c.remove.ensures.items
    ∙ (map_gone nat_list_cmp_total name_only served c.self.inside.items.items c.self.invariant
    c.args.service.now c.in-Ok.at
    (rw (← c.as_slice.ensures.value, ← c.text.ensures.text) c.in-Ok.ensures.found) c.remove.result
    ∙ ap (λ m. remove m c.args.service.now) c.self.view_is)

pub returns-in-Ok-clause-there : goal.returns-in-Ok-clause-there
returns-in-Ok-clause-there c =
    there_place nat_list_cmp_total name_only served c.self.inside.items.items c.self.invariant
    c.args.service.now c.in-Ok.at
    (rw (← c.as_slice.ensures.value, ← c.text.ensures.text) c.in-Ok.ensures.found) c.remove.result
    ∙ ap (λ m. contains_key m c.args.service.now) c.self.view_is

pub returns-in-Err-clause-services : goal.returns-in-Err-clause-services
returns-in-Err-clause-services c =
    sym c.self.view_is
    ∙ (map_gone_gap nat_list_cmp_total name_only served c.self.inside.items.items c.self.invariant
    c.args.service.now c.in-Err.field-0
    (rw (← c.as_slice.ensures.value, ← c.text.ensures.text) c.in-Err.ensures.absent)
    ∙ ap (λ m. remove m c.args.service.now) c.self.view_is)

pub returns-in-Err-clause-there : goal.returns-in-Err-clause-there
returns-in-Err-clause-there c =
    there_gap nat_list_cmp_total name_only served c.self.inside.items.items c.self.invariant
    c.args.service.now c.in-Err.field-0
    (rw (← c.as_slice.ensures.value, ← c.text.ensures.text) c.in-Err.ensures.absent)
    ∙ ap (λ m. contains_key m c.args.service.now) c.self.view_is
