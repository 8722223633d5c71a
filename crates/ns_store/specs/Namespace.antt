-- What a namespace of the code says.
use Rattle.std.specs.Prelude.{ℕ, List}
use Rattle.std.specs.Arc.{arc_value}
use Rattle.dtab_table.specs.Dtab.{rules_of}
use Rattle.ns_store.specs.declared.namespace.Namespace.{Namespace}
use Rattle.ns_store.specs.Contents.{Space}

abbrev pub space_of : Namespace → Space
space_of space = record { version = space.version; rules = rules_of (arc_value space.dtab) }

-- its name, and what stands there
abbrev pub entry_of : Namespace → List ℕ × Space
entry_of space = (space.name, space_of space)
