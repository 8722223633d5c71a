use Rattle.std.proofs.Common.{◌≡◌, ◌++◌, map, take}
use Rattle.dtab_table.specs.Rules.{rule_of}
use Rattle.dtab_table.proofs.joining.put_copies.Given as goal

abbrev pub invariant-loop-entry : goal.invariant-loop-entry
invariant-loop-entry l = map rule_of l.out.items ≡ map rule_of l.fn.out.items
    ++ map rule_of (take l.entry-index l.entries)
