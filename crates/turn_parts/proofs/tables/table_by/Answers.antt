use Rattle.std.proofs.Common.{rules, ◌≡◌, sym, subst}
use Rattle.std.proofs.lemmas.Result.{IfOk-weaker}
use Rattle.dtab_table.specs.Dtab.{rules_of}
use Rattle.dtab_table.specs.TableCanon.{AreSoundRules}
use Rattle.turn_parts.specs.Parts.{table_by}
use Rattle.turn_parts.proofs.Counting.{AreSoundRules-table_by}
use Rattle.turn_parts.proofs.tables.table_by.Goals as goal

pub returns-clause-sound : goal.returns-clause-sound
returns-clause-sound c =
    IfOk-weaker c.of-2.result (λ dtab. rules_of dtab ≡ table_by c.args.service)
    (λ dtab. AreSoundRules (rules_of dtab))
    (λ dtab is. subst AreSoundRules (sym is) (AreSoundRules-table_by c.args.service c.requires))
    (search rules)
