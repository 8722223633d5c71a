use Rattle.std.proofs.Common.{sym, ap, ◌∙◌}
use Rattle.std.specs.Prelude.{is_some}
use Rattle.std.specs.FinMap.{contains_key}
use Rattle.std.specs.Cmp.Lexicographic.{nat_list_cmp_total}
use Rattle.addr_book.specs.ServiceShard.{served}
use Rattle.addr_book.proofs.AddrMaps.{name_only}
use Rattle.addr_book.proofs.Sorted.{get_place, get_gap, key_place}
use Rattle.addr_book.proofs.service_shard.ServiceShard.find.Goals as goal

pub returns-in-Ok : goal.returns-in-Ok
returns-in-Ok c =
    let items = c.self.inside.items.items in
    let text = c.args.text.now in (
      key_place nat_list_cmp_total name_only served items c.self.invariant text c.in-Ok.at
          (rw (← c.as_slice.ensures.value) c.in-Ok.ensures.found) c.index.result.now
          c.index.ensures,
      ap (λ m. contains_key m text) (sym c.self.view_is)
          ∙ ap is_some (get_place nat_list_cmp_total name_only served items c.self.invariant text
          c.in-Ok.at (rw (← c.as_slice.ensures.value) c.in-Ok.ensures.found) c.index.result.now
          c.index.ensures),
    )

pub returns-in-Err : goal.returns-in-Err
returns-in-Err c =
    ap (λ m. contains_key m c.args.text.now) (sym c.self.view_is)
    ∙ ap is_some (get_gap nat_list_cmp_total name_only served c.self.inside.items.items
    c.self.invariant c.args.text.now c.in-Err.field-0
    (rw (← c.as_slice.ensures.value) c.in-Err.ensures.absent))
