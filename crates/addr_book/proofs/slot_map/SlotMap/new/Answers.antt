use Rattle.std.proofs.Common.{ap, ◌∙◌, ℕ}
use Rattle.std.specs.FinMap.{get, len, get-empty, len-empty}
use Rattle.addr_book.specs.AddrList.{addr_cmp}
use Rattle.addr_book.proofs.SlotMaps.{no_marks}
use Rattle.addr_book.proofs.slot_map.SlotMap.new.Goals as goal

pub invariant_of-result : goal.invariant_of-result
invariant_of-result c =
    no_marks _ _ (λ a. ap (λ m. get m a) c.in_ok-new.ensures ∙ get-empty addr_cmp a)
    (ap len c.in_ok-new.ensures ∙ len-empty addr_cmp ℕ) c.in_ok-new-2.ensures
