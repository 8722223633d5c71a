use Rattle.identifier.proofs.Clearing.{no_context_is_left, no_table_is_left}
use Rattle.identifier.proofs.laws.cleared_requests_bring_nothing.Goals as goal

pub returns-clause-fields : goal.returns-clause-fields
returns-clause-fields c = no_context_is_left

pub returns-clause-table : goal.returns-clause-table
returns-clause-table c = no_table_is_left
