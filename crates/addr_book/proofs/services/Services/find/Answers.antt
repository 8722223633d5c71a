use Rattle.std.proofs.Common.{◌≡◌, Bool, true, false, sym, ap, ◌∙◌, subst, nat_cmp}
use Rattle.std.specs.Prelude.{is_some, MatchOption}
use Rattle.std.specs.FinMap.{get, get-empty}
use Rattle.std.specs.Cmp.Lexicographic.{slice_cmp, nat_list_cmp_total}
use Rattle.addr_book.specs.Services.{name_place, service_shard}
use Rattle.addr_book.proofs.AddrMaps.{name_only}
use Rattle.addr_book.proofs.Shards.{read_gets}
use Rattle.addr_book.proofs.services.Services.find.Goals as goal

pub returns-in-Some : goal.returns-in-Some
returns-in-Some c =
    let text = c.args.text.now in
    let same =
    ap (λ m. is_some (get m text)) (c.deref.ensures ∙ ap service_shard (sym c.in-Some.is))
    ∙ ap is_some
    (read_gets nat_list_cmp_total name_only name_place service_shard 61 c.self.inside.shards.items
    c.self.invariant.0 text c.place_of.result c.place_of.ensures.place
    c.place_of.ensures.below c.index.result.now c.index.ensures
    ∙ ap (λ m. get m text) c.self.view_is) in
    subst (λ (b : Bool). MatchOption c.find.result (b ≡ false)
    (λ name. (name.now ≡ text) × (b ≡ true))) same c.find.ensures

pub returns-in-None : goal.returns-in-None
returns-in-None c =
    let text = c.args.text.now in
    ap is_some
    (sym
    (sym (get-empty (slice_cmp nat_cmp) text)
    ∙ (ap (λ s. get (service_shard s) text) (sym c.in-None.is)
    ∙ (read_gets nat_list_cmp_total name_only name_place service_shard 61
    c.self.inside.shards.items c.self.invariant.0 text c.place_of.result c.place_of.ensures.place
    c.place_of.ensures.below c.index.result.now c.index.ensures
    ∙ ap (λ m. get m text) c.self.view_is))))
