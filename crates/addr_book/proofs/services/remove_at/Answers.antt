use Rattle.std.proofs.Common.{refl}
use Rattle.std.specs.Cmp.Lexicographic.{nat_list_cmp_total}
use Rattle.addr_book.specs.Services.{service_shard}
use Rattle.addr_book.proofs.AddrMaps.{name_only}
use Rattle.addr_book.proofs.Shards.{none_removed, none_there}
use Rattle.addr_book.proofs.services.remove_at.Goals as goal

pub returns-in-None-clause-changed : goal.returns-in-None-clause-changed
returns-in-None-clause-changed c =
    none_removed nat_list_cmp_total name_only service_shard refl c.args.shards.now.items
    c.args.place c.index_mut.result.now c.args.service.now c.requires c.index_mut.ensures.value
    c.in-None.is

pub returns-in-None-clause-there : goal.returns-in-None-clause-there
returns-in-None-clause-there c =
    none_there service_shard refl c.args.shards.now.items c.args.place c.index_mut.result.now
    c.args.service.now c.requires c.index_mut.ensures.value c.in-None.is
