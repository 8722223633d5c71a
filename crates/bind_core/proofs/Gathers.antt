-- The bound branches that a union gathered.
use Rattle.std.proofs.Common.{◌≡◌, ◌<◌, List, [], ◌∷◌, length, map, Bool, refl, arith}
use Rattle.addr_book.specs.declared.bound.BoundItem.{BoundItem}
use Rattle.addr_book.specs.Found.{many, FoundList}
use Rattle.addr_book.specs.Bound.{item_found, listed_items}
use Rattle.bind_core.specs.Delegation.{bound, kept}
use Rattle.addr_book.proofs.Bounds.{listed-members}

-- where there are some, the union is bound to them
pub bound_ones : (items : List BoundItem) (fails lacks : Bool) (ms : FoundList)
    → ms ≡ listed_items items → 0 < length items → bound (many ms)
    ≡ kept (map item_found items) fails lacks
bound_ones [] fails lacks ms is some = absurd (omega arith)
bound_ones (i ∷ items) fails lacks ms is some = rw (is, listed-members (i ∷ items)) refl
