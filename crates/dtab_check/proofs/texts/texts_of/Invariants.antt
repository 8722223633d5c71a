use Rattle.std.proofs.Common.{◌≡◌, map, take}
use Rattle.dtab_table.specs.Rules.{rule_of}
use Rattle.dtab_table.specs.TableCanon.{canon_rule}
use Rattle.dtab_check.specs.Texts.{texts_in}
use Rattle.dtab_check.proofs.texts.texts_of.Given as goal

abbrev pub invariant-loop-entry : goal.invariant-loop-entry
invariant-loop-entry l = texts_in l.texts.items
    ≡ map canon_rule (map rule_of (take l.entry-index l.entries))
