use Rattle.std.proofs.Common.{sym, ap, ◌∙◌, cond, ◌-◌, map}
use Rattle.std.specs.FinMap.{contains_key, remove, len, len-remove}
use Rattle.std.specs.Prelude.{is_some}
use Rattle.std.specs.Cmp.Lexicographic.{nat_list_cmp_total}
use Rattle.addr_book.specs.Services.{name_place, service_shard}
use Rattle.addr_book.specs.Shards.{whole}
use Rattle.addr_book.proofs.AddrMaps.{name_only}
use Rattle.addr_book.proofs.Shards.{shard_gets, shards_remove, sharded_remove}
use Rattle.addr_book.proofs.services.Services.without.Goals as goal

pub invariant_of-result : goal.invariant_of-result
invariant_of-result c =
    let shards = c.self.inside.shards.items in
    let name = c.args.service.now in
    let place = c.place_of.ensures.place ∙ ap name_place c.text.ensures.text in
    let before = whole (map service_shard shards) in
    let there = c.in_ok-was_there.ensures.there
    ∙ ap is_some (shard_gets nat_list_cmp_total name_only name_place service_shard 61 shards
    c.self.invariant.0 name c.place_of.result place c.place_of.ensures.below) in (
      sharded_remove nat_list_cmp_total name_only name_place service_shard 61 shards
          c.self.invariant.0 name c.place_of.result place c.place_of.ensures.below
          c.remove_at.new.shards.items c.in_ok-was_there.ensures.changed,
      c.len_without.ensures
          ∙ (ap (λ b. cond b (c.self.inside.len - 1) c.self.inside.len) there
          ∙ (ap (λ n. cond (contains_key before name) (n - 1) n) c.self.invariant.1
          ∙ (sym (len-remove nat_list_cmp_total before name)
          ∙ ap len (sym (shards_remove nat_list_cmp_total name_only name_place service_shard 61
          shards c.self.invariant.0 name c.place_of.result place c.place_of.ensures.below
          c.remove_at.new.shards.items c.in_ok-was_there.ensures.changed))))),
    )

pub returns : goal.returns
returns c =
    shards_remove nat_list_cmp_total name_only name_place service_shard 61
    c.self.inside.shards.items c.self.invariant.0 c.args.service.now c.place_of.result
    (c.place_of.ensures.place ∙ ap name_place c.text.ensures.text) c.place_of.ensures.below
    c.remove_at.new.shards.items c.in_ok-was_there.ensures.changed
    ∙ ap (λ m. remove m c.args.service.now) c.self.view_is
