use Rattle.std.proofs.Common.{List, map}
use Rattle.dtab_table.specs.Rules.{rule_of}
use Rattle.dtab_table.specs.declared.entry.Entry.{Entry}
use Rattle.dtab_table.proofs.TableComputing.{computed}
use Rattle.dtab_table.proofs.TableSounds.{sound_table}
use Rattle.dtab_table.proofs.read.read_entries.Goals as goal

pub returns-clause-sound : goal.returns-clause-sound
returns-clause-sound c = let rules = λ (es : List Entry). map rule_of es in
    sound_table rules c.args.text.now _ c.entries_in.ensures

pub returns-clause-computed : goal.returns-clause-computed
returns-clause-computed c = let rules = λ (es : List Entry). map rule_of es in
    computed rules c.args.text.now _ c.entries_in.ensures
