use Rattle.std.proofs.Common.{◌≡◌, drop}
use Rattle.http_wire.specs.Fields.{values_of}
use Rattle.identifier.proofs.Tables.{behind}
use Rattle.identifier.proofs.local.add_tables.Given as goal

abbrev pub invariant-loop-field : goal.invariant-loop-field
invariant-loop-field l =
    behind l.entries.items (values_of l.name (drop l.field-index l.fields))
    ≡ behind l.fn.entries.items (values_of l.name l.fields)
