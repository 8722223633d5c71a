use Rattle.std.proofs.Common.{◌≡◌, ◌≤◌, ◌-◌, ◌++◌}
use Rattle.dtab_index.specs.Listed.{listed, in_word}
use Rattle.dtab_index.specs.Part.{positions_at}
use Rattle.dtab_index.proofs.part.put_word.Given as goal

abbrev pub invariant-loop-next : goal.invariant-loop-next
invariant-loop-next l = (l.bit ≤ 64)
    × (l.found.items ≡ l.fn.found.items ++ listed (in_word l.word l.first)
    (positions_at l.entries) l.bit l.first)

abbrev pub decreases-loop-next : goal.decreases-loop-next
decreases-loop-next l = 64 - l.bit
