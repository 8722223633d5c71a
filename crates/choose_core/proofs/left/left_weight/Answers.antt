use Rattle.std.proofs.Common.{sym, ◌∙◌, ap, refl, arith, length}
use Rattle.std.proofs.lemmas.Option.{slice_get_read}
use Rattle.choose_core.specs.Branch.{total_weight}
use Rattle.choose_core.proofs.Branches.{next_left, next_gone, bounded_at}
use Rattle.choose_core.proofs.left.left_weight.Goals as goal
use Rattle.choose_core.proofs.left.left_weight.Goals.{then-is_left, else-is_left}

pub overflow_add-total : goal.overflow_add-total
overflow_add-total c =
    let here = slice_get_read c.args.items.now (length c.args.items.now) c.loop-item.item-index
    c.item-item.result refl c.loop-item-test.true c.item-item.is in
    let weight = (bounded_at c.args.items.now c.loop-item.item-index c.item-item.result
    c.requires.bounded here).0 in
    let fits = c.loop-item.invariant.fits in
    let within = c.loop-item-test.true in
    let few = c.requires.few in
    grind (arith, weight, fits, within, few)

pub loop-item-preserved : goal.loop-item-preserved
loop-item-preserved c =
    let here = slice_get_read c.args.items.now (length c.args.items.now) c.loop-item.item-index
    c.item-item.result refl c.loop-item-test.true c.item-item.is in
    let weight = (bounded_at c.args.items.now c.loop-item.item-index c.item-item.result
    c.requires.bounded here).0 in
    let h = c.loop-item.invariant in
    elim c.if-is_left.branch [
      | then-is_left w ↦
          let next = next_left c.args.book.now.services c.args.items.now c.loop-item.item-index
          c.item-item.result c.loop-item-test.true c.item-item.is
          (sym c.is_left.ensures ∙ w.if-is_left.true) in
          let step = ap total_weight next.next in
          rw w.total-is (record {
            fits = omega (arith, weight, h.fits);
            total =
                omega (arith, h.total, step);
          })
      | else-is_left w ↦
          let step = ap total_weight
          (next_gone c.args.book.now.services c.args.items.now c.loop-item.item-index
          c.item-item.result c.loop-item-test.true c.item-item.is
          (sym c.is_left.ensures ∙ w.if-is_left.false)) in
          rw w.total-is (record {
            fits = omega (arith, h.fits);
            total =
                omega (arith, h.total, step);
          })
    ]
