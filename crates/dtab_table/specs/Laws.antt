-- What holds of all texts and values.
use Rattle.std.specs.Prelude.{◌≡◌, false, List, [], ◌++◌}
use Rattle.name_tree.specs.Path.{Labels}
use Rattle.dtab_table.specs.Pattern.{Pattern}
use Rattle.dtab_table.specs.Rules.{Rule}
use Rattle.dtab_table.specs.Dtab.{rewrites, some_matches}
use Rattle.dtab_table.specs.TableGrammar.{PrefixText, DtabText}
use Rattle.dtab_table.specs.TableCanon.{canon_prefix, canon_table, ArePatterns, AreSoundRules}

-- the canonical text of a prefix stands for it, where its labels are labels
abbrev pub PrefixesReadBack : Type 0
PrefixesReadBack =
    (prefix : List Pattern) → ArePatterns prefix → PrefixText (canon_prefix prefix) prefix

-- the canonical text of a sound table stands for it
abbrev pub TablesReadBack : Type 0
TablesReadBack = (rules : List Rule) → AreSoundRules rules → DtabText (canon_table rules) rules

-- a table of two tables' rules is looked up in the second, and then in the first
abbrev pub AreLookedUpInTurn : Type 0
AreLookedUpInTurn =
    (first second : List Rule) (path : Labels)
    → rewrites (first ++ second) path ≡ rewrites second path ++ rewrites first path

-- rules of which none matches a path rewrite it to nothing
abbrev pub OnlyMatchesRewrite : Type 0
OnlyMatchesRewrite =
    (rules : List Rule) (path : Labels) → some_matches rules path ≡ false → rewrites rules path ≡ []

-- where rules are put in place of others and none of either matches a path, it is rewritten to the
-- same
abbrev pub OnlyMatchesChange : Type 0
OnlyMatchesChange =
    (front old new back : List Rule) (path : Labels) → some_matches old path ≡ false
    → some_matches new path ≡ false
    → rewrites (front ++ (old ++ back)) path ≡ rewrites (front ++ (new ++ back)) path
