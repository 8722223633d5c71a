use Rattle.std.proofs.Common.{◌≡◌, ◌++◌, map, take}
use Rattle.dtab_table.specs.Rules.{rule_of}
use Rattle.api_wire.specs.Texts.{more_rules}
use Rattle.api_wire.proofs.texts.put_more_rules.Given as goal

abbrev pub invariant-loop-entry : goal.invariant-loop-entry
invariant-loop-entry l =
    l.out.items ≡ l.fn.out.items ++ more_rules (map rule_of (take l.entry-index l.entries))
