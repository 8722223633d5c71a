use Rattle.std.proofs.Common.{◌≡◌, ◌≤◌, ◌*◌, ◌++◌}
use Rattle.dtab_index.specs.Bits.{has}
use Rattle.dtab_index.specs.Listed.{listed}
use Rattle.dtab_index.specs.Part.{positions_at}
use Rattle.dtab_index.proofs.part.put_words.Given as goal

abbrev pub invariant-loop-at : goal.invariant-loop-at
invariant-loop-at l =
    (l.at ≤ 16) × (l.found.items ≡ l.fn.found.items ++ listed (has l.words)
    (positions_at l.entries) (l.at * 64) 0)
