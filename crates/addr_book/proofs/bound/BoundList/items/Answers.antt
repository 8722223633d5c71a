use Rattle.std.proofs.Common.{sym, ap, ◌∙◌}
use Rattle.addr_book.specs.Bound.{listed_items}
use Rattle.addr_book.proofs.Bounds.{members_of-out}
use Rattle.addr_book.proofs.bound.BoundList.items.Goals as goal

pub returns : goal.returns
returns c = members_of-out c.args.self.now ∙ ap listed_items (sym c.as_slice.ensures.value)
