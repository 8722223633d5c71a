use Rattle.std.proofs.Common.{◌≡◌, ◌++◌, map, take}
use Rattle.dtab_table.specs.Rules.{rule_of}
use Rattle.dtab_table.specs.TableCanon.{canon_more}
use Rattle.dtab_table.proofs.write.put_rest.Given as goal

abbrev pub invariant-loop-entry : goal.invariant-loop-entry
invariant-loop-entry l = l.out.items ≡ l.fn.out.items
    ++ canon_more (map rule_of (take l.entry-index l.entries))
