use Rattle.std.proofs.Common.{◌≡◌, ◌≤◌, ◌*◌, false}
use Rattle.std.specs.List.{list_any}
use Rattle.dtab_index.specs.Bits.{has}
use Rattle.dtab_index.specs.Listed.{listed}
use Rattle.dtab_index.specs.Part.{positions_at, is_between}
use Rattle.dtab_index.proofs.part.some_in_words.Given as goal

abbrev pub invariant-loop-at : goal.invariant-loop-at
invariant-loop-at l =
    (l.at ≤ 16) × (list_any (is_between l.from l.to)
    (listed (has l.words) (positions_at l.entries) (l.at * 64) 0) ≡ false)
