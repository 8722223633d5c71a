use Rattle.std.proofs.Common.{◌≡◌, ◌+◌, ◌≤◌, ◌++◌, length, vec_len, vec_capacity}
use Rattle.std.specs.Vec.Iter.{into_iter_items}
use Rattle.serving.proofs.running.add_rest.Given as goal

abbrev pub invariant-loop-pass : goal.invariant-loop-pass
invariant-loop-pass g l = record {
  passes : l.passes.items ++ into_iter_items l.pass-iterator
      ≡ l.fn.passes.items ++ into_iter_items l.fn.rest;
  room : vec_len l.passes + length (into_iter_items l.pass-iterator) ≤ vec_capacity l.passes;
}
