-- What the code's bindings and caches say.
use Rattle.std.specs.Prelude.{ℕ, List, map}
use Rattle.std.specs.declared.sync.Arc.{Arc}
use Rattle.std.specs.declared.alloc.Global.{Global}
use Rattle.std.specs.Arc.{arc_value}
use Rattle.name_tree.specs.Path.{Labels}
use Rattle.dtab_table.specs.Dtab.{rules_of}
use Rattle.bind_core.specs.Outcome.{ending_of}
use Rattle.bind_cache.specs.declared.binding.Binding.{Binding}
use Rattle.bind_cache.specs.Kept.{Kept}

-- what a binding of the code says
abbrev pub kept_of : Binding → Kept
kept_of b =
    record {
      path = b.path;
      local = rules_of b.local;
      ending = ending_of b.outcome;
      cost = b.cost;
      asked = b.asked;
      bytes = b.bytes;
      place = b.place;
    }

-- the number by which a shared binding is filed, and the paths that were looked up for it
abbrev pub hash_in : Arc Binding Global → ℕ
hash_in b = (arc_value b).hash

abbrev pub asked_in : Arc Binding Global → List Labels
asked_in b = (arc_value b).asked

-- what shared bindings say, in order
abbrev pub all_kept : List (Arc Binding Global) → List Kept
all_kept bs = map (λ b. kept_of (arc_value b)) bs
