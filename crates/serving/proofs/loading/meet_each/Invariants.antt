use Rattle.std.proofs.Common.{◌≡◌, ◌+◌, ◌≤◌, ◌++◌, length, vec_capacity}
use Rattle.std.specs.Prelude.{sum_by}
use Rattle.std.specs.List.{AllByRecursion}
use Rattle.std.specs.Vec.Iter.{into_iter_items}
use mathlib.Core.List.{IsPrefix}
use Rattle.router.specs.Closing.{numbers_of}
use Rattle.router.specs.Passes.{made_in, number_in, seen_in, slot_in}
use Rattle.serving.specs.Passes.{AreFree}
use Rattle.serving.proofs.loading.meet_each.Given as goal

abbrev pub invariant-loop-other : goal.invariant-loop-other
invariant-loop-other g l = record {
  numbers : numbers_of l.met.items ++ numbers_of (into_iter_items l.other-iterator)
      ≡ numbers_of l.fn.others.items;
  met : AreFree l.met.items;
  rest : AreFree (into_iter_items l.other-iterator);
  room : length l.met.items + length (into_iter_items l.other-iterator) ≤ vec_capacity l.met;
  capacity : vec_capacity l.met ≡ vec_capacity l.fn.met;
  made : made_in l.pass ≡ made_in l.fn.pass;
  sums : sum_by made_in l.met.items + sum_by made_in (into_iter_items l.other-iterator)
      ≡ sum_by made_in l.fn.others.items;
  number : number_in l.pass ≡ number_in l.fn.pass;
  slot : slot_in l.pass ≡ slot_in l.fn.pass;
  seen : IsPrefix (seen_in l.fn.pass) (seen_in l.pass);
  all : AllByRecursion (λ p. IsPrefix (seen_in l.fn.pass) (seen_in p)) l.met.items;
}
