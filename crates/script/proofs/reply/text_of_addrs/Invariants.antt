use Rattle.std.proofs.Common.{◌≡◌, ◌∷◌, ◌++◌, take}
use Rattle.std.specs.Prelude.{codes}
use Rattle.std.specs.List.{flat_map}
use Rattle.addr_book.specs.Addr.{addr_text}
use Rattle.script.proofs.reply.text_of_addrs.Given as goal

abbrev pub invariant-loop-item : goal.invariant-loop-item
invariant-loop-item l = l.out.items ≡ codes "addrs"
    ++ flat_map (λ item. 32 ∷ addr_text item.addr) (take l.item-index l.list)
