use Rattle.std.proofs.Common.{arith, refl, ap, ◌∙◌}
use Rattle.std.specs.FinMap.{from_entries}
use Rattle.std.proofs.lemmas.List.{length-map}
use Rattle.addr_book.specs.AddrMap.{addr_place, addr_shard}
use Rattle.addr_book.proofs.Shards.{none-push, none-joined, none-home}
use Rattle.addr_book.proofs.addr_map.AddrMap.new.Goals as goal

pub loop-place-preserved : goal.loop-place-preserved
loop-place-preserved c = record {
  long = c.in_ok-push.ensures.len ∙ omega (arith, c.loop-place.invariant.long);
  none = none-push _ _ c.loop-place.invariant.none c.in_ok-push.ensures.items;
}

pub invariant_of-result : goal.invariant_of-result
invariant_of-result c = record {
  long = length-map c.loop-place.shards.items addr_shard
      ∙ omega (arith, c.loop-place.invariant.long, c.loop-place.shards.ok.0);
  placed = none-home addr_place addr_shard refl c.loop-place.shards.items 0
      c.loop-place.invariant.none;
}

pub returns : goal.returns
returns c = ap from_entries
    (none-joined addr_place addr_shard refl c.loop-place.shards.items c.loop-place.invariant.none)
