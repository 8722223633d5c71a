use Rattle.std.proofs.Common.{sym, ap, ◌∙◌, nat_cmp}
use Rattle.std.specs.FinMap.{get, get-empty}
use Rattle.std.specs.Cmp.Lexicographic.{slice_cmp, nat_list_cmp_total}
use Rattle.addr_book.specs.Services.{name_place, service_shard}
use Rattle.addr_book.proofs.AddrMaps.{name_only}
use Rattle.addr_book.proofs.Shards.{read_gets}
use Rattle.addr_book.proofs.services.Services.get.Goals as goal

pub returns-in-Some : goal.returns-in-Some
returns-in-Some c =
    let name = c.args.service.now in
    c.get.ensures
    ∙ (ap (λ m. get m name) (c.deref.ensures ∙ ap service_shard (sym c.in-Some.is))
    ∙ (read_gets nat_list_cmp_total name_only name_place service_shard 61
    c.self.inside.shards.items c.self.invariant.0 name c.place_of.result
    (c.place_of.ensures.place ∙ ap name_place c.text.ensures.text) c.place_of.ensures.below
    c.index.result.now c.index.ensures ∙ ap (λ m. get m name) c.self.view_is))

pub returns-in-None : goal.returns-in-None
returns-in-None c =
    let name = c.args.service.now in
    sym (get-empty (slice_cmp nat_cmp) name)
    ∙ (ap (λ s. get (service_shard s) name) (sym c.in-None.is)
    ∙ (read_gets nat_list_cmp_total name_only name_place service_shard 61
    c.self.inside.shards.items c.self.invariant.0 name c.place_of.result
    (c.place_of.ensures.place ∙ ap name_place c.text.ensures.text) c.place_of.ensures.below
    c.index.result.now c.index.ensures ∙ ap (λ m. get m name) c.self.view_is))
