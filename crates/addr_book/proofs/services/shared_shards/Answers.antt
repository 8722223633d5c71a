use Rattle.std.proofs.Common.{None, arith, ap, ◌∙◌}
use Rattle.std.proofs.lemmas.List.{get_or_read}
use Rattle.addr_book.specs.Services.{service_shard}
use Rattle.addr_book.proofs.Shards.{copied_more, copied_all}
use Rattle.addr_book.proofs.services.shared_shards.Goals as goal

pub loop-shard-preserved : goal.loop-shard-preserved
loop-shard-preserved c =
    copied_more service_shard c.args.shards.now _ _ c.loop-shard.shard-index None _
    c.loop-shard-test.true c.loop-shard.invariant c.in_ok-push.ensures.items
    (c.in_ok-shared_shard.ensures ∙ ap service_shard
    (get_or_read _ _ _ c.loop-shard-test.true c.shard-item.is None))

pub returns : goal.returns
returns c = copied_all service_shard c.args.shards.now _ c.loop-shard.shard-index
    (omega arith) c.loop-shard.invariant
