-- The three tables of a delegation, as one.
use Rattle.std.specs.Prelude.{List, ◌++◌}
use Rattle.dtab_table.specs.Dtab.{rules_of}
use Rattle.dtab_table.specs.Rules.{Rule}
use Rattle.bind_core.specs.declared.tables.Tables.{Tables}

-- the namespace's rules, then the configured ones, then the request's own
abbrev pub rules_in : Tables → List Rule
rules_in tables = rules_of tables.space.now ++ rules_of tables.base.now ++ rules_of tables.local.now
