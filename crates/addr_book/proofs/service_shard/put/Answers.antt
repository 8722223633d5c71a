use Rattle.std.proofs.Common.{sym, ap, ◌∙◌, refl, subst, nat_cmp}
use Rattle.std.specs.Arc.{arc_value}
use Rattle.std.specs.Cmp.Lexicographic.{slice_cmp}
use Rattle.addr_book.specs.Sorted.{map_of, IsInOrder}
use Rattle.std.specs.Cmp.Lexicographic.{nat_list_cmp_total}
use Rattle.addr_book.specs.ServiceShard.{served}
use Rattle.addr_book.proofs.AddrMaps.{name_only}
use Rattle.addr_book.proofs.Sorted.{sorted_place, map_place, there_place, sorted_gap, map_gap}
use Rattle.addr_book.proofs.Sorted.{there_gap}
use Rattle.addr_book.proofs.service_shard.put.Goals as goal

pub returns-in-Ok-clause-sorted : goal.returns-in-Ok-clause-sorted
returns-in-Ok-clause-sorted c =
    sorted_place nat_list_cmp_total name_only served c.args.items.now.items c.requires
    c.args.item.name c.in-Ok.at
    (rw (← c.as_slice.ensures.value, ← c.text.ensures.text) c.in-Ok.ensures.found)
    (record { name = c.args.item.name; list = c.args.item.list }) (arc_value c.args.item.list) refl

pub returns-in-Ok-clause-ok : goal.returns-in-Ok-clause-ok
returns-in-Ok-clause-ok c =
    map_place nat_list_cmp_total name_only served c.args.items.now.items c.requires
    c.args.item.name c.in-Ok.at
    (rw (← c.as_slice.ensures.value, ← c.text.ensures.text) c.in-Ok.ensures.found)
    (record { name = c.args.item.name; list = c.args.item.list }) (arc_value c.args.item.list) refl

pub returns-in_ok-insert-in-Err-clause-sorted : goal.returns-in_ok-insert-in-Err-clause-sorted
returns-in_ok-insert-in-Err-clause-sorted c =
    subst (IsInOrder (slice_cmp nat_cmp) served) (sym c.in_ok-insert-in-Err.ensures.items)
    (sorted_gap nat_list_cmp_total name_only served c.args.items.now.items c.requires
    c.args.item.name c.in-Err.at
    (rw (← c.as_slice.ensures.value, ← c.text.ensures.text) c.in-Err.ensures.absent)
    (record { name = c.args.item.name; list = c.args.item.list }) (arc_value c.args.item.list) refl)

pub returns-in_ok-insert-in-Err-clause-ok : goal.returns-in_ok-insert-in-Err-clause-ok
returns-in_ok-insert-in-Err-clause-ok c =
    ap (map_of served) c.in_ok-insert-in-Err.ensures.items
    ∙ map_gap nat_list_cmp_total name_only served c.args.items.now.items c.requires
    c.args.item.name c.in-Err.at
    (rw (← c.as_slice.ensures.value, ← c.text.ensures.text) c.in-Err.ensures.absent)
    (record { name = c.args.item.name; list = c.args.item.list }) (arc_value c.args.item.list) refl

pub returns-in-Ok-clause-there : goal.returns-in-Ok-clause-there
returns-in-Ok-clause-there c =
    there_place nat_list_cmp_total name_only served c.args.items.now.items c.requires
    c.args.item.name c.in-Ok.at
    (rw (← c.as_slice.ensures.value, ← c.text.ensures.text) c.in-Ok.ensures.found)
    (record { name = c.args.item.name; list = c.args.item.list })

pub returns-in_ok-insert-in-Err-clause-there : goal.returns-in_ok-insert-in-Err-clause-there
returns-in_ok-insert-in-Err-clause-there c =
    there_gap nat_list_cmp_total name_only served c.args.items.now.items c.requires
    c.args.item.name c.in-Err.at
    (rw (← c.as_slice.ensures.value, ← c.text.ensures.text) c.in-Err.ensures.absent)
