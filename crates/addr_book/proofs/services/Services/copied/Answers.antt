use Rattle.std.proofs.Common.{sym, ap, ◌∙◌, subst, map}
use Rattle.std.specs.FinMap.{len}
use Rattle.addr_book.specs.Services.{name_place, service_shard}
use Rattle.addr_book.specs.Shards.{whole, IsSharded}
use Rattle.addr_book.proofs.services.Services.copied.Goals as goal

pub invariant_of-result : goal.invariant_of-result
invariant_of-result c =
    let same = c.in_ok-shared_shards.ensures ∙ ap (map service_shard) c.as_slice.ensures.value in (
      subst (IsSharded name_place 61) (sym same) c.self.invariant.0,
      c.self.invariant.1 ∙ ap (λ ms. len (whole ms)) (sym same),
    )

pub returns : goal.returns
returns c = ap whole (c.in_ok-shared_shards.ensures
    ∙ ap (map service_shard) c.as_slice.ensures.value) ∙ c.self.view_is
