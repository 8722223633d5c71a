-- What the code's types say.
use Rattle.std.specs.Prelude.{ℕ, List, Option, Vec, map, option_map}
use Rattle.std.specs.declared.alloc.Global.{Global}
use Rattle.dtab_index.specs.Index.{Pattern}

abbrev pub pattern_of : Option (Vec ℕ Global) → Pattern
pattern_of p = option_map (λ l. l.items) p

abbrev pub patterns_of : List (Option (Vec ℕ Global)) → List Pattern
patterns_of prefix = map pattern_of prefix
