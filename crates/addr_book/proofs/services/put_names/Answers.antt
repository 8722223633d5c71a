use Rattle.std.proofs.Common.{List, ap, ◌∙◌, ◌++◌, sym, append-nil, nat_cmp}
use Rattle.std.specs.FinMap.{keys}
use Rattle.std.specs.Cmp.Lexicographic.{slice_cmp}
use Rattle.addr_book.specs.declared.addr.Weighted.{Weighted}
use Rattle.addr_book.specs.Services.{service_shard}
use Rattle.addr_book.proofs.InOrder.{keys-empty}
use Rattle.addr_book.proofs.services.put_names.Goals as goal

pub returns-in-None : goal.returns-in-None
returns-in-None c =
    sym (append-nil c.args.names.now.items)
    ∙ ap (λ names. c.args.names.now.items ++ names)
    (sym (keys-empty (slice_cmp nat_cmp) (List Weighted))
    ∙ ap (λ shard. keys (service_shard shard)) (sym c.in-None.is))
