-- By which number a delegation is filed: a hash of its path, and of the request's own rules as far
-- as prefixes and single paths go.
use Rattle.std.specs.Prelude.{ℕ, List, fold, Some, None}
use Rattle.text_parts.specs.Hash.{basis, mixed, with_bytes}
use Rattle.name_tree.specs.Path.{Label, Labels}
use Rattle.name_tree.specs.Value.{TreeValue, leaf}
use Rattle.dtab_table.specs.Pattern.{Pattern}
use Rattle.dtab_table.specs.Rules.{Rule}

-- a label, and a mark that no byte is
unfoldable pub with_label : ℕ → Label → ℕ
with_label hash label = mixed (with_bytes hash label) 256

abbrev pub with_labels : ℕ → Labels → ℕ
with_labels hash labels = fold with_label hash labels

unfoldable pub with_pattern : ℕ → Pattern → ℕ
with_pattern hash None = mixed hash 257
with_pattern hash (Some l) = with_label hash l

abbrev pub with_patterns : ℕ → List Pattern → ℕ
with_patterns hash patterns = fold with_pattern hash patterns

-- a tree, of which only a single path is looked at
unfoldable pub with_tree : ℕ → TreeValue → ℕ
with_tree hash (leaf path) = with_labels hash path
with_tree hash _ = mixed hash 258

unfoldable pub with_rule : ℕ → Rule → ℕ
with_rule hash rule = with_tree (mixed (with_patterns hash rule.prefix) 259) rule.tree

abbrev pub with_rules : ℕ → List Rule → ℕ
with_rules hash rules = fold with_rule hash rules

-- the number by which a delegation is filed
unfoldable pub key_hash : Labels → List Rule → ℕ
key_hash path local = with_rules (mixed (with_labels basis path) 260) local
