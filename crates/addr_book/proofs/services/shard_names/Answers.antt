use Rattle.std.proofs.Common.{None, arith, ap, ◌∙◌, ◌++◌, map, sym}
use Rattle.std.proofs.lemmas.List.{get_or_read, take_all}
use Rattle.std.specs.FinMap.{keys}
use Rattle.addr_book.specs.Services.{service_shard}
use Rattle.addr_book.specs.Shards.{joined_keys}
use Rattle.addr_book.proofs.InOrder.{joined_keys-more}
use Rattle.addr_book.proofs.services.shard_names.Goals as goal

pub loop-shard-preserved : goal.loop-shard-preserved
loop-shard-preserved c =
    let read = get_or_read _ _ _ c.loop-shard-test.true c.shard-item.is None in
    c.in_ok-put_names.ensures
    ∙ ((λ i. c.loop-shard.invariant i ++ keys (service_shard (read i)))
    ∙ sym (joined_keys-more service_shard c.args.shards.now c.loop-shard.shard-index None
    c.loop-shard-test.true))

pub returns : goal.returns
returns c = c.loop-shard.invariant ∙ ap (λ ss. joined_keys (map service_shard ss))
    (take_all c.loop-shard.shard-index c.args.shards.now (omega arith))
