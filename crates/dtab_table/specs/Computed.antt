-- The value of a table's text within the limits, computed byte by byte. A law says that it is that
-- of the grammar.
use Rattle.std.specs.Prelude.{◌≡◌, ◌↔◌, ℕ, nat_le, if◌then◌else◌, List, length, Option, Some, None}
use Rattle.std.specs.Option.{option_and_then}
use Rattle.name_tree.specs.Recogniser.{value_from}
use Rattle.name_tree.specs.Computed.{in_limits}
use Rattle.dtab_table.specs.Rules.{Rule}
use Rattle.dtab_table.specs.Answers.{most_entries, IsTable}
use Rattle.dtab_table.specs.TableReading.{table_start, next_state, ended_state}

abbrev pub few_enough : List Rule → Option (List Rule)
few_enough rules = if nat_le (length rules) most_entries then Some rules else None

-- the rules that a text stands for
unfoldable pub table_of : List ℕ → Option (List Rule)
table_of text =
    option_and_then few_enough (in_limits (value_from next_state ended_state table_start) text)

-- a function gives the rules of the tables' texts within the limits, and nothing else
abbrev pub ComputesTables : (List ℕ → Option (List Rule)) → Type 0
ComputesTables value =
    (text : List ℕ) (rules : List Rule) → (value text ≡ Some rules) ↔ IsTable text rules
