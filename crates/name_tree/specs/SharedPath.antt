-- Labels that several paths share.
use Rattle.std.specs.Prelude.{[], Option, Some, None}
use Rattle.std.specs.Arc.{arc_value}
use Rattle.std.specs.declared.alloc.Global.{Global}
use Rattle.std.specs.declared.sync.Arc.{Arc}
use Rattle.name_tree.specs.Path.{Labels}
use Rattle.name_tree.specs.declared.flat_labels.FlatLabels.{FlatLabels}

-- labels that are shared, if there are any
abbrev pub shared_labels : Option (Arc FlatLabels Global) → Labels
shared_labels None = []
shared_labels (Some labels) = arc_value labels
