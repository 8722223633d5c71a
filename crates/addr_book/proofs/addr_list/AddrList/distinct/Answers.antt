use Rattle.std.proofs.Common.{arith, ◌∙◌, sym, ap}
use Rattle.std.specs.BTreeSet.{contains}
use Rattle.addr_book.specs.AddrList.{addr_cmp}
use Rattle.addr_book.proofs.AddrLists.{kept_whole, seen_step, first_step, again_step, was_new}
use Rattle.addr_book.proofs.AddrLists.{was_there}
use Rattle.addr_book.proofs.addr_list.AddrList.distinct.Goals as goal
use Rattle.addr_book.proofs.addr_list.AddrList.distinct.Goals.{then-branch+in_ok-push, else-branch}

pub loop-item-preserved : goal.loop-item-preserved
loop-item-preserved c =
    let i = c.loop-item.item-index in
    let was = c.loop-item.invariant.seen _ in
    record {
      kept = elim c.if-branch.branch [
        | then-branch+in_ok-push w ↦ ap (λ v. v.items) w.items-is ∙ (w.in_ok-push.ensures.items
            ∙ first_step _ _ _ (omega arith) _ c.loop-item.invariant.kept
            (sym was ∙ was_new _ _ c.in_ok-insert.ensures.added w.if-branch.true))
        | else-branch w ↦ ap (λ v. v.items) w.items-is
            ∙ again_step _ _ _ (omega arith) _ c.loop-item.invariant.kept
            (sym was ∙ was_there _ _ c.in_ok-insert.ensures.added w.if-branch.false)
      ];
      seen = seen_step _ _ _ (omega arith) (contains addr_cmp c.loop-item.seen)
          (contains addr_cmp c.insert.new.self) c.loop-item.invariant.seen
          c.in_ok-insert.ensures.updates.0;
    }

pub invariant_of-result : goal.invariant_of-result
invariant_of-result c = kept_whole _ _ _ (omega arith) c.requires.few c.requires.weights
    c.loop-item.invariant.kept
