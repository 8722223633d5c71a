use Rattle.std.proofs.Common.{◌≡◌, ap, ◌∙◌, ◌++◌, map, nat_cmp, rules}
use Rattle.std.specs.Cmp.Lexicographic.{slice_cmp}
use Rattle.std.specs.FinMap.{keys}
use Rattle.addr_book.specs.ServiceShard.{served}
use Rattle.addr_book.proofs.InOrder.{put_more, put_all, map_keys}
use Rattle.addr_book.proofs.service_shard.ServiceShard.put_names.Goals as goal

pub loop-item-preserved : goal.loop-item-preserved
loop-item-preserved c =
    let same : c.in_ok-clone.field-0 ≡ c.item-item.result.name =
    search (rules, c.in_ok-clone.ensures.cases) in
    put_more (λ item. item.name) c.as_slice-item-items.result.now c.loop-item.item-index
    c.item-item.result c.args.names.now.items c.loop-item.names.items c.push.new.self.items
    c.in_ok-clone.field-0
    c.loop-item-test.true c.loop-item.invariant c.in_ok-push.ensures.items
    (same ∙ ap (λ item. item.name) c.item-item.is)

pub returns : goal.returns
returns c =
    c.loop-item.invariant
    ∙ ap (λ ns. c.args.names.now.items ++ ns)
    (put_all (λ item. item.name) c.as_slice-item-items.result.now c.loop-item.item-index
    c.loop-item-test.false
    ∙ (ap (map (λ item. item.name)) c.as_slice-item-items.ensures.value
    ∙ (map_keys (slice_cmp nat_cmp) served c.self.inside.items.items c.self.invariant
    ∙ ap keys c.self.view_is)))
