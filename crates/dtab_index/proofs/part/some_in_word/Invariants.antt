use Rattle.std.proofs.Common.{◌≡◌, ◌≤◌, ◌-◌, false}
use Rattle.std.specs.List.{list_any}
use Rattle.dtab_index.specs.Listed.{listed, in_word}
use Rattle.dtab_index.specs.Part.{positions_at, is_between}
use Rattle.dtab_index.proofs.part.some_in_word.Given as goal

abbrev pub invariant-loop-next : goal.invariant-loop-next
invariant-loop-next l = (l.bit ≤ 64)
    × (list_any (is_between l.from l.to)
    (listed (in_word l.word l.first) (positions_at l.entries) l.bit l.first) ≡ false)

abbrev pub decreases-loop-next : goal.decreases-loop-next
decreases-loop-next l = 64 - l.bit
