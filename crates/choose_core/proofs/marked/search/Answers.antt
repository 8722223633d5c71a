use Rattle.std.proofs.Common.{rules}
use Rattle.std.proofs.lemmas.Fn.{always_returns_same}
use Rattle.addr_book.specs.AddrList.{addr_cmp}
use Rattle.choose_core.proofs.Finding.{searched}
use Rattle.choose_core.proofs.marked.search.Goals as goal

pub returns : goal.returns
returns c =
    let facts = c.binary_search_by.ensures in
    let by_addr = facts.position (λ m. addr_cmp m.addr c.args.addr)
    (always_returns_same _ _ _ (λ a r g called. (search rules, search rules))) in
    let found = searched c.args.items.now c.requires c.args.addr c.binary_search_by.result
    facts.bound by_addr in
    record { found = found.0; absent = found.1 }
