use Rattle.std.proofs.Common.{ap, ◌∙◌, map, subst, IsPermutation}
use Rattle.std.specs.FinMap.{keys}
use Rattle.std.specs.Cmp.Lexicographic.{nat_list_cmp_total}
use Rattle.addr_book.specs.Services.{name_place, service_shard}
use Rattle.addr_book.specs.Shards.{joined_keys}
use Rattle.addr_book.proofs.AddrMaps.{name_only}
use Rattle.addr_book.proofs.InOrder.{sorted_keys}
use Rattle.addr_book.proofs.services.Services.names.Goals as goal

pub returns : goal.returns
returns c =
    let gathered = c.in_ok-names.ensures
    ∙ ap (λ shards. joined_keys (map service_shard shards)) c.as_slice.ensures.value in
    sorted_keys nat_list_cmp_total name_only name_place
    (map service_shard c.self.inside.shards.items) c.self.invariant.0.placed
    c.sort_unstable.new.self.items
    (subst (λ names. IsPermutation names c.sort_unstable.new.self.items) gathered
    c.sort_unstable.ensures.permutation) c.sort_unstable.ensures.sorted
    ∙ ap keys c.self.view_is
