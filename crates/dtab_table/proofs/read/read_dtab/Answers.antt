use Rattle.dtab_table.specs.Dtab.{rules_of}
use Rattle.dtab_table.proofs.TableComputing.{computed}
use Rattle.dtab_table.proofs.TableSounds.{only, sound_table}
use Rattle.dtab_table.proofs.read.read_dtab.Goals as goal

pub returns-clause-only : goal.returns-clause-only
returns-clause-only c rules is = only rules_of c.args.text.now _ c.dtab_in.ensures rules is

pub returns-clause-sound : goal.returns-clause-sound
returns-clause-sound c = sound_table rules_of c.args.text.now _ c.dtab_in.ensures

pub returns-clause-computed : goal.returns-clause-computed
returns-clause-computed c = computed rules_of c.args.text.now _ c.dtab_in.ensures
