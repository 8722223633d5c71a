use Rattle.std.proofs.Common.{sym, ap, ◌∙◌, cond, ◌+◌, map}
use Rattle.std.specs.FinMap.{contains_key, insert, len, len-insert}
use Rattle.std.specs.Prelude.{is_some}
use Rattle.std.specs.Cmp.Lexicographic.{nat_list_cmp_total}
use Rattle.addr_book.specs.Services.{name_place, service_shard}
use Rattle.addr_book.specs.Shards.{whole}
use Rattle.addr_book.proofs.AddrMaps.{name_only}
use Rattle.addr_book.proofs.Shards.{shard_gets, shards_insert, sharded_insert}
use Rattle.addr_book.proofs.services.Services.with.Goals as goal

pub invariant_of-result : goal.invariant_of-result
invariant_of-result c =
    let shards = c.self.inside.shards.items in
    let name = c.args.service.now in
    let place = c.place_of.ensures.place ∙ ap name_place c.text.ensures.text in
    let before = whole (map service_shard shards) in
    let there = c.in_ok-was_there.ensures.there
    ∙ ap is_some (shard_gets nat_list_cmp_total name_only name_place service_shard 61 shards
    c.self.invariant.0 name c.place_of.result place c.place_of.ensures.below) in (
      sharded_insert nat_list_cmp_total name_only name_place service_shard 61 shards
          c.self.invariant.0 name c.place_of.result place c.place_of.ensures.below c.args.list.now
          c.insert_at.new.shards.items c.in_ok-was_there.ensures.changed,
      c.len_with.ensures
          ∙ (ap (λ b. cond b c.self.inside.len (c.self.inside.len + 1)) there
          ∙ (ap (λ n. cond (contains_key before name) n (n + 1)) c.self.invariant.1
          ∙ (sym (len-insert nat_list_cmp_total before name c.args.list.now)
          ∙ ap len (sym (shards_insert nat_list_cmp_total name_only name_place service_shard 61
          shards c.self.invariant.0 name c.place_of.result place c.place_of.ensures.below
          c.args.list.now
          c.insert_at.new.shards.items c.in_ok-was_there.ensures.changed))))),
    )

pub returns : goal.returns
returns c =
    shards_insert nat_list_cmp_total name_only name_place service_shard 61
    c.self.inside.shards.items c.self.invariant.0 c.args.service.now c.place_of.result
    (c.place_of.ensures.place ∙ ap name_place c.text.ensures.text) c.place_of.ensures.below
    c.args.list.now c.insert_at.new.shards.items c.in_ok-was_there.ensures.changed
    ∙ ap (λ m. insert m c.args.service.now c.args.list.now) c.self.view_is
