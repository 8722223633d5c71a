use Rattle.std.proofs.Common.{rules, nat_cmp}
use Rattle.std.specs.Cmp.Lexicographic.{slice_cmp, nat_list_cmp_total}
use Rattle.std.proofs.lemmas.Fn.{always_returns_same}
use Rattle.addr_book.specs.ServiceShard.{served}
use Rattle.addr_book.proofs.AddrMaps.{name_only}
use Rattle.addr_book.proofs.Sorted.{searched}
use Rattle.addr_book.proofs.service_shard.search.Goals as goal

pub returns : goal.returns
returns c =
    let facts = c.binary_search_by.ensures in
    let by_name = facts.position (λ item. slice_cmp nat_cmp item.name c.args.text.now)
    (always_returns_same _ _ _ (λ a r g called. (search rules, search rules))) in
    let found = searched nat_list_cmp_total name_only served c.args.items.now c.requires
    c.args.text.now c.binary_search_by.result facts.bound by_name in
    record { found = found.0; absent = found.1 }
