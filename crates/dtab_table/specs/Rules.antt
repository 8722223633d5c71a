-- The rules of a table, and what the code's types say.
use Rattle.std.specs.Prelude.{ℕ, ◌+◌, List, [], ◌∷◌}
use Rattle.name_tree.specs.Value.{TreeValue}
use Rattle.name_tree.specs.Tree.{value_of}
use Rattle.dtab_index.specs.Index.{Placed}
use Rattle.dtab_table.specs.declared.entry.Entry.{Entry}
use Rattle.dtab_table.specs.Pattern.{Pattern}

-- a rule of a table: a path that the prefix matches is rewritten to the tree
pub record Rule : Type 0 where
  pub prefix : List Pattern
  pub tree : TreeValue

-- what an entry of the code says
abbrev pub rule_of : Entry → Rule
rule_of entry = record { prefix = entry.prefix; tree = value_of entry.tree }

-- the prefixes of some entries, with positions that count up
abbrev pub placed_from : ℕ → List Entry → List Placed
placed_from at [] = []
placed_from at (e ∷ es) = (e.prefix, at) ∷ placed_from (at + 1) es
