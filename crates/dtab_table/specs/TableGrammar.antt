-- The texts that stand for prefixes and tables: a rule for each line of the grammar.
use Rattle.std.specs.Prelude.{ℕ, List, [], ◌∷◌, ◌++◌, codes, Some, None}
use Rattle.name_tree.specs.Value.{one_or_alt, TreeValue}
use Rattle.name_tree.specs.Path.{Label}
use Rattle.name_tree.specs.Grammar.{AreBlanks, SpellsLabel, SpellsTree}
use Rattle.dtab_table.specs.Pattern.{Pattern}
use Rattle.dtab_table.specs.Rules.{Rule}

-- a label or `*`
pub data SpellsPattern : List ℕ → Pattern → Type 0 where
  star : SpellsPattern (codes "*") None
  named : {s : List ℕ} {l : Label} → SpellsLabel s l → SpellsPattern s (Some l)

-- one or more times `/` and a label or `*`
pub data SpellsPatterns : List ℕ → List Pattern → Type 0 where
  pattern : {s : List ℕ} {p : Pattern} → SpellsPattern s p
      → SpellsPatterns (codes "/" ++ s) (p ∷ [])
  patterns : {s t : List ℕ} {p : Pattern} {ps : List Pattern} → SpellsPattern s p
      → SpellsPatterns t ps → SpellsPatterns (codes "/" ++ s ++ t) (p ∷ ps)

-- a prefix: `/`, or one or more times `/` and a label or `*`
pub data SpellsPrefix : List ℕ → List Pattern → Type 0 where
  root : SpellsPrefix (codes "/") []
  under : {s : List ℕ} {ps : List Pattern} → SpellsPatterns s ps → SpellsPrefix s ps

-- the text of a prefix: blanks, a prefix, blanks
pub data PrefixText : List ℕ → List Pattern → Type 0 where
  prefix : {a s b : List ℕ} {ps : List Pattern} → AreBlanks a → SpellsPrefix s ps → AreBlanks b
      → PrefixText (a ++ s ++ b) ps

-- an entry: a prefix, `=>` and a tree
pub data SpellsEntry : List ℕ → Rule → Type 0 where
  entry : {p a b t : List ℕ} {ps : List Pattern} {vs : List TreeValue} → SpellsPrefix p ps
      → AreBlanks a → AreBlanks b → SpellsTree t vs
      → SpellsEntry (p ++ a ++ codes "=>" ++ b ++ t) (record { prefix = ps; tree = one_or_alt vs })

-- a place of a table: an entry or nothing
pub data SpellsPlace : List ℕ → List Rule → Type 0 where
  nothing : SpellsPlace [] []
  filled : {s : List ℕ} {r : Rule} → SpellsEntry s r → SpellsPlace s (r ∷ [])

-- one or more places with `;` between them. A table with no place has the text of one with nothing
-- in its place
pub data SpellsTable : List ℕ → List Rule → Type 0 where
  place : {s : List ℕ} {rs : List Rule} → SpellsPlace s rs → SpellsTable s rs
  places : {s a b t : List ℕ} {rs qs : List Rule} → SpellsPlace s rs → AreBlanks a → AreBlanks b
      → SpellsTable t qs
      → SpellsTable (s ++ a ++ codes ";" ++ b ++ t) (rs ++ qs)

-- the text of a table: blanks, a table, blanks
pub data DtabText : List ℕ → List Rule → Type 0 where
  table : {a s b : List ℕ} {rs : List Rule} → AreBlanks a → SpellsTable s rs → AreBlanks b
      → DtabText (a ++ s ++ b) rs
