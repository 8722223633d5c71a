use Rattle.std.proofs.Common.{◌≡◌, ◌<◌, ◌^◌, length}
use Rattle.std.specs.Vec.Iter.{into_iter_items}
use mathlib.Core.List.{IsPrefix}
use Rattle.router.specs.Passes.{made_in, number_in, seen_in, slot_in}
use Rattle.serving.proofs.Services.{AreSet}
use Rattle.serving.proofs.loading.set_each.Given as goal

abbrev pub invariant-loop-item : goal.invariant-loop-item
invariant-loop-item g l = record {
  number : number_in l.pass ≡ number_in l.fn.pass;
  slot : slot_in l.pass ≡ slot_in l.fn.pass;
  seen : IsPrefix (seen_in l.fn.pass) (seen_in l.pass);
  set : AreSet l.fn.items.items (into_iter_items l.item-iterator) (seen_in l.pass)
      (made_in l.fn.pass) (made_in l.pass);
  few : length l.fn.items.items < 2 ^ 64;
}
