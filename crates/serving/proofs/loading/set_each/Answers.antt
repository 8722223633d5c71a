use Rattle.std.proofs.Common.{◌≡◌, [], List, append-nil, length, refl, sym, subst, ◌∙◌}
use Rattle.std.specs.Vec.Iter.{into_iter_items}
use Rattle.linker_config.specs.declared.loaded.LoadedItem.{LoadedItem}
use Rattle.router.specs.Passes.{made_in, seen_in}
use Rattle.serving.proofs.Handing.{none_here}
use Rattle.serving.proofs.Refusing.{stops_at}
use Rattle.serving.proofs.Services.{AreSet, all_set, none_set, one_set, prefix_trans}
use Rattle.serving.proofs.Sharing.{few_of}
use Rattle.serving.proofs.loading.set_each.Goals as goal

pub loop-item-preserved : goal.loop-item-preserved
loop-item-preserved g c =
    let inv = c.loop-item.invariant in
    let set = c.in-Ok.ensures in
    record {
      number = set.number ∙ inv.number;
      slot = set.slot ∙ inv.slot;
      seen = prefix_trans _ _ _ inv.seen set.seen;
      set = one_set _ _ _ c.in-Some.item _ _ _ _ _ c.in-Some.ensures.steps.0 inv.set set.set
          set.made;
      few = inv.few;
    }

pub returns-in-Err-clause-refused : goal.returns-in-Err-clause-refused
returns-in-Err-clause-refused g c = λ is.
    let inv = c.loop-item.invariant in
    let set = c.in-Err.ensures in
    stops_at _ _ _ _ c.in-Some.item _ _ _ _ _ inv.few c.in-Some.ensures.steps.0 inv.set set.seen
    (set.refused is)

pub loop-item-init : goal.loop-item-init
loop-item-init g c =
    let gives = c.into_iter-item-iterator.ensures.into_iter_gives in
    let pass = c.args.pass.now in
    record {
      number = refl;
      slot = refl;
      seen = ([], append-nil (seen_in pass));
      set = subst (λ (items : List LoadedItem). AreSet c.args.items.items items (seen_in pass)
          (made_in pass) (made_in pass))
          (sym gives.0) (none_set c.args.items.items (seen_in pass) (made_in pass));
      few = few_of _ _ _ (sym c.args.items.ok.0 ∙ sym gives.1) gives.2;
    }

pub returns-clause-set : goal.returns-clause-set
returns-clause-set g c =
    let none : length (into_iter_items c.loop-item.item-iterator) ≡ 0 =
    sym c.loop-item.item-iterator.rest.ok.0 ∙ c.in-None.ensures.steps.0 in
    all_set c.args.items.items _ _ _ _ (none_here _ none) c.loop-item.invariant.set
