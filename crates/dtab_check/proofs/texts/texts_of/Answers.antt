use Rattle.std.proofs.Common.{List, map, ap, ◌∙◌}
use Rattle.std.proofs.lemmas.List.{take_all}
use Rattle.dtab_table.specs.declared.entry.Entry.{Entry}
use Rattle.dtab_table.specs.Rules.{rule_of}
use Rattle.dtab_table.specs.TableCanon.{canon_rule}
use Rattle.dtab_check.proofs.Noting.{texts-long}
use Rattle.dtab_check.proofs.texts.texts_of.Goals as goal

pub returns-clause-many : goal.returns-clause-many
returns-clause-many c =
    texts-long c.loop-entry.texts.items c.args.entries.now
    (c.loop-entry.invariant
    ∙ ap (λ (entries : List Entry). map canon_rule (map rule_of entries))
    (take_all c.loop-entry.entry-index c.args.entries.now c.loop-entry-test.false))
