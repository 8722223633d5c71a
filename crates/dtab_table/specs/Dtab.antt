-- Delegation tables as values, and what they rewrite a path to.
use Rattle.std.specs.Prelude.{Bool, false, ◌||◌, if◌then◌else◌, List, [], ◌∷◌, ◌++◌, length, map}
use Rattle.std.specs.Prelude.{drop, Option, Some, None, option_map}
use Rattle.std.specs.Arc.{arc_value}
use Rattle.std.specs.Borrow.{Bor}
use Rattle.std.specs.declared.alloc.Global.{Global}
use Rattle.std.specs.declared.sync.Arc.{Arc}
use Rattle.std.specs.Option.{option_to_list}
use Rattle.std.specs.Str.{bytes_eq}
use Rattle.name_tree.specs.Path.{Labels}
use Rattle.name_tree.specs.Value.{TreeValue, append_rest}
use Rattle.name_tree.specs.Tree.{value_of}
use Rattle.dtab_index.specs.Index.{matches}
use Rattle.dtab_table.specs.Pattern.{Pattern}
use Rattle.dtab_table.specs.Rules.{Rule, rule_of}
use Rattle.dtab_table.specs.declared.dtab.Dtab.{Dtab}
use Rattle.dtab_table.specs.declared.entry.Entry.{Entry}
use Rattle.dtab_table.specs.declared.parts.Parts.{Parts}

-- the entries that a table shares with its copies, if it has any
abbrev pub entries_in : Option (Arc Parts Global) → List Entry
entries_in None = []
entries_in (Some parts) = arc_value parts

-- the rules of a table, in their order
abbrev pub rules_of : Dtab → List Rule
rules_of dtab = map rule_of (entries_in dtab.parts)

-- what follows a prefix in a path that it matches: the path has a label for each of the prefix, the
-- same unless that is `*`
abbrev pub rest_behind : List Pattern → Labels → Option Labels
rest_behind [] path = Some path
rest_behind (p ∷ ps) [] = None
rest_behind (None ∷ ps) (l ∷ ls) = rest_behind ps ls
rest_behind (Some m ∷ ps) (l ∷ ls) = if bytes_eq m l then rest_behind ps ls else None

-- the tree of a rule that matches, with the rest of the path behind every leaf
abbrev pub rewrite : Rule → Labels → Option TreeValue
rewrite rule path = option_map (append_rest rule.tree) (rest_behind rule.prefix path)

-- what a table rewrites a path to: the trees of all rules that match, the last rule first
abbrev pub rewrites : List Rule → Labels → List TreeValue
rewrites [] path = []
rewrites (r ∷ rs) path = rewrites rs path ++ option_to_list (rewrite r path)

-- what an entry whose prefix matches a path rewrites it to: its tree, with the labels of the path
-- behind as many as the prefix has behind every leaf
abbrev pub rewritten_by : Labels → Entry → TreeValue
rewritten_by path entry = append_rest (value_of entry.tree) (drop (length entry.prefix) path)

-- what some entries whose prefixes match a path rewrite it to, in their order
abbrev pub rewritten_by_each : Labels → List (Bor Entry) → List TreeValue
rewritten_by_each path entries = map (λ entry. rewritten_by path entry.now) entries

-- whether the prefix of some rule matches a path
abbrev pub some_matches : List Rule → Labels → Bool
some_matches [] path = false
some_matches (r ∷ rs) path = matches r.prefix path || some_matches rs path
