use Rattle.dtab_table.proofs.TableComputing.{computes_tables}
use Rattle.dtab_table.proofs.laws.computed_values_are_exact.Goals as goal

pub returns : goal.returns
returns c = computes_tables
