-- The canonical texts of prefixes and tables, and which tables have one.
use Rattle.std.specs.Prelude.{ℕ, List, [], ◌∷◌, ◌++◌, codes, Some, None}
use Rattle.std.specs.List.{flat_map}
use Rattle.name_tree.specs.Path.{canon_label}
use Rattle.name_tree.specs.Canon.{canon, IsSound, HasLabels, IsByteLabel}
use Rattle.dtab_table.specs.Pattern.{Pattern}
use Rattle.dtab_table.specs.Rules.{Rule}

-- a label of a prefix behind its `/`
abbrev pub canon_pattern : Pattern → List ℕ
canon_pattern None = codes "/*"
canon_pattern (Some l) = canon_label l

-- a prefix: `/`, or its labels
abbrev pub canon_prefix : List Pattern → List ℕ
canon_prefix [] = codes "/"
canon_prefix (p ∷ ps) = flat_map canon_pattern (p ∷ ps)

-- an entry: the prefix, `=>` and the tree
abbrev pub canon_rule : Rule → List ℕ
canon_rule r = canon_prefix r.prefix ++ codes "=>" ++ canon r.tree

-- entries behind the first, each behind a `;`
abbrev pub canon_more : List Rule → List ℕ
canon_more [] = []
canon_more (r ∷ rs) = codes ";" ++ canon_rule r ++ canon_more rs

-- a table: its entries with `;` between them
abbrev pub canon_table : List Rule → List ℕ
canon_table [] = []
canon_table (r ∷ rs) = canon_rule r ++ canon_more rs

-- a label of a prefix is `*`, or one or more bytes
abbrev pub IsPattern : Pattern → Type 0
IsPattern None = Unit {0}
IsPattern (Some l) = IsByteLabel l

abbrev pub ArePatterns : List Pattern → Type 0
ArePatterns [] = Unit {0}
ArePatterns (p ∷ ps) = IsPattern p × ArePatterns ps

-- the entry's tree is sound, and the labels of both are labels
pub record IsSoundRule (r : Rule) : Type 0 where
  pub patterns : ArePatterns r.prefix
  pub sound : IsSound r.tree
  pub labels : HasLabels r.tree

abbrev pub AreSoundRules : List Rule → Type 0
AreSoundRules [] = Unit {0}
AreSoundRules (r ∷ rs) = IsSoundRule r × AreSoundRules rs
