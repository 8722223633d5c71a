use Rattle.std.proofs.Common.{◌≡◌, ◌+◌, ◌≤◌, ◌++◌, length, map}
use Rattle.std.specs.Prelude.{sum_by}
use Rattle.std.specs.Prelude.{vec_len, vec_capacity}
use Rattle.std.specs.Vec.Iter.{into_iter_items, into_iter_len}
use Rattle.router.proofs.ending.gather.Given as goal

abbrev pub invariant-loop-pass : goal.invariant-loop-pass
invariant-loop-pass g l =
    (l.yielded ++ into_iter_items l.pass-iterator ≡ into_iter_items l.initial.pass-iterator)
    × (l.readers.items ≡ map (λ p. p.reader) l.yielded)
    × (vec_len l.readers ≡ length l.yielded)
    × (g.J.Ledger.parts ≤ vec_capacity l.readers)
    × (into_iter_len l.pass-iterator ≡ length (into_iter_items l.pass-iterator))
    × (l.all.parts ≡ length l.yielded)
    × (l.all.parts ≤ g.J.Ledger.parts)
    × (l.all.amount ≡ sum_by (λ p. p.made + p.kept) l.yielded)
