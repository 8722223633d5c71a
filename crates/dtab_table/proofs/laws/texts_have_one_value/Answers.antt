use Rattle.name_tree.proofs.Recognisers.{one_value}
use Rattle.dtab_table.specs.TableGrammar.{PrefixText}
use Rattle.dtab_table.specs.PrefixReading.{before, next_prefix, end_prefix}
use Rattle.dtab_table.proofs.PrefixLaws.{prefix_laws}
use Rattle.dtab_table.proofs.TableLaws.{one_table}
use Rattle.dtab_table.proofs.laws.texts_have_one_value.Goals as goal

pub returns : goal.returns
returns c = record {
  prefixes = λ text v w p q. one_value next_prefix end_prefix before PrefixText prefix_laws text v
      w p q;
  tables = λ text v w p q. one_table text v w p q;
}
