use Rattle.std.proofs.Common.{◌≡◌, take}
use Rattle.dtab_table.specs.Dtab.{rules_of}
use Rattle.command_lines.specs.Lint.{hidden_lines}
use Rattle.command_lines.proofs.linting.table_report.Given as goal

abbrev pub invariant-loop-item : goal.invariant-loop-item
invariant-loop-item l =
    l.text.items ≡ hidden_lines (rules_of l.dtab) (take l.item-index l.item-items)
