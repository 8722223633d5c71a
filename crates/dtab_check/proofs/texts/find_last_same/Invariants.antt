use Rattle.std.proofs.Common.{◌≡◌, ◌+◌, ◌≤◌, length, drop, None}
use Rattle.dtab_check.specs.Notes.{last_same}
use Rattle.dtab_check.specs.Texts.{texts_in}
use Rattle.dtab_check.proofs.texts.find_last_same.Given as goal

abbrev pub invariant-loop-at : goal.invariant-loop-at
invariant-loop-at l = record {
  none : last_same (l.first + l.at) (texts_in (drop l.at l.texts)) l.own.bytes.items ≡ None;
  within : l.at ≤ length l.texts;
}

abbrev pub decreases-loop-at : goal.decreases-loop-at
decreases-loop-at l = l.at
