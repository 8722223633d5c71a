use Rattle.std.proofs.Common.{List, arith, subst}
use Rattle.linker_config.specs.declared.loaded.LoadedItem.{LoadedItem}
use Rattle.serving.specs.Services.{BookRefuses, HaveSeen}
use Rattle.serving.proofs.Chains.{met_apart, new_apart, new_free, same_length}
use Rattle.serving.proofs.Refusing.{holds_if_ok, refused_at_end}
use Rattle.serving.proofs.running.start.Goals as goal

pub close-requires-clause-apart : goal.close-requires-clause-apart
close-requires-clause-apart g c = new_apart c.in-Ok.passes.items c.in-Ok.ensures.passes

pub set_services-set-requires-clause-free : goal.set_services-set-requires-clause-free
set_services-set-requires-clause-free g c =
    new_free c.in-Ok.passes.items (λ i p is. let n = c.in-Ok.ensures.passes i p is in n.slot)

pub close-requires-in-Err-clause-apart : goal.close-requires-in-Err-clause-apart
close-requires-in-Err-clause-apart g c =
    met_apart c.in-Ok.passes.items c.set_services-set.new.met.items c.in-Ok.ensures.passes
    c.set_services-set.ensures.numbers

pub close-requires-in-Err-clause-all : goal.close-requires-in-Err-clause-all
close-requires-in-Err-clause-all g c =
    let same = same_length c.set_services-set.new.met.items c.in-Ok.passes.items
    c.set_services-set.ensures.numbers in omega (arith, same, c.in-Ok.ensures.count)

pub returns-in-Ok-listen_behind-clause-ready : goal.returns-in-Ok-listen_behind-clause-ready
returns-in-Ok-listen_behind-clause-ready g c =
    let same = same_length c.set_services-set.new.met.items c.in-Ok.passes.items
    c.set_services-set.ensures.numbers in
    record {
      apart = met_apart c.in-Ok.passes.items c.set_services-set.new.met.items
          c.in-Ok.ensures.passes c.set_services-set.ensures.numbers;
      all = omega (arith, same, c.in-Ok.ensures.count);
      free = c.set_services-set.ensures.free;
    }

pub returns-in-Ok-listen_behind-clause-seats : goal.returns-in-Ok-listen_behind-clause-seats
returns-in-Ok-listen_behind-clause-seats g c =
    let same = same_length c.set_services-set.new.met.items c.in-Ok.passes.items
    c.set_services-set.ensures.numbers in
    omega (arith, same, c.in-Ok.ensures.count, c.requires.seats)

pub returns-in-Ok-listen_behind-clause-seen : goal.returns-in-Ok-listen_behind-clause-seen
returns-in-Ok-listen_behind-clause-seen g c =
    subst (λ (items : List LoadedItem). HaveSeen items c.set_services-set.new.met.items)
    c.into_items.ensures
    (holds_if_ok c.set_services-set.result
    (HaveSeen c.into_items.result.items c.set_services-set.new.met.items)
    c.in-Ok-listen_behind.ensures.set c.set_services-set.ensures.seen)

pub returns-in-Err-clause-refused : goal.returns-in-Err-clause-refused
returns-in-Err-clause-refused g c = λ is.
    let same = same_length c.set_services-set.new.met.items c.in-Ok.passes.items
    c.set_services-set.ensures.numbers in
    let behind = c.in-Err.ensures.refused (cc is) in
    let refuses =
    refused_at_end _ c.in-Ok.passes.items c.set_services-set.new.met.items _ c.in-Ok.ensures.passes
    (omega (arith, same, c.in-Ok.ensures.count, c.requires.seats))
    (c.set_services-set.ensures.refused behind.0) c.close-in-Err.ensures in (
      subst (λ (items : List LoadedItem). BookRefuses g.J.Naming.settings items)
          c.into_items.ensures refuses,
      behind.1,
    )

pub returns-in-Err-clause-broken : goal.returns-in-Err-clause-broken
returns-in-Err-clause-broken g c = λ is. c.in-Err.ensures.broken (cc is)

pub returns-in-Err-clause-kept : goal.returns-in-Err-clause-kept
returns-in-Err-clause-kept g c = λ other. c.in-Err.ensures.kept (λ is. other (cc is))

pub returns-in-Ok-listen_behind-clause-kept : goal.returns-in-Ok-listen_behind-clause-kept
returns-in-Ok-listen_behind-clause-kept g c =
    λ other. c.in-Ok-listen_behind.ensures.kept (λ is. cc is)
