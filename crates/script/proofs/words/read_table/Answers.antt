use Rattle.script.proofs.Tables.{empty_table}
use Rattle.script.proofs.words.read_table.Goals as goal

pub returns-then-is_empty-clause-table : goal.returns-then-is_empty-clause-table
returns-then-is_empty-clause-table c = empty_table _ _ c.if-is_empty.ensures c.empty.ensures
