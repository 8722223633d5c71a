use Rattle.std.proofs.Common.{arith, refl, ap, sym, ◌∙◌, nat_cmp, List}
use Rattle.std.specs.Cmp.Lexicographic.{slice_cmp}
use Rattle.std.specs.FinMap.{from_entries, len, len-empty}
use Rattle.std.proofs.lemmas.List.{length-map}
use Rattle.addr_book.specs.declared.addr.Weighted.{Weighted}
use Rattle.addr_book.specs.Services.{name_place, service_shard}
use Rattle.addr_book.proofs.Shards.{none-push, none-joined, none-home}
use Rattle.addr_book.proofs.services.Services.new.Goals as goal

pub loop-place-preserved : goal.loop-place-preserved
loop-place-preserved c = record {
  long = c.in_ok-push.ensures.len ∙ omega (arith, c.loop-place.invariant.long);
  none = none-push _ _ c.loop-place.invariant.none c.in_ok-push.ensures.items;
}

pub invariant_of-result : goal.invariant_of-result
invariant_of-result c = (
  record {
    long = length-map c.loop-place.shards.items service_shard
        ∙ omega (arith, c.loop-place.invariant.long, c.loop-place.shards.ok.0);
    placed = none-home name_place service_shard refl c.loop-place.shards.items 0
        c.loop-place.invariant.none;
  },
  sym (len-empty (slice_cmp nat_cmp) (List Weighted))
      ∙ ap len (ap from_entries
      (sym (none-joined name_place service_shard refl c.loop-place.shards.items
      c.loop-place.invariant.none))),
)

pub returns : goal.returns
returns c = ap from_entries
    (none-joined name_place service_shard refl c.loop-place.shards.items
    c.loop-place.invariant.none)
