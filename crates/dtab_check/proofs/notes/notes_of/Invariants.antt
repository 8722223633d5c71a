use Rattle.std.proofs.Common.{◌≡◌, ◌++◌, map, drop}
use Rattle.dtab_table.specs.Rules.{rule_of}
use Rattle.dtab_check.specs.Notes.{notes_from, notes_in}
use Rattle.dtab_check.proofs.notes.notes_of.Given as goal

abbrev pub invariant-loop-at : goal.invariant-loop-at
invariant-loop-at l = l.items.items ++ notes_from l.at (drop l.at (map rule_of l.entries))
    ≡ notes_in (map rule_of l.entries)
