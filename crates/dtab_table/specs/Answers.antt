-- What the readers of prefixes and tables answer.
use Rattle.std.specs.Prelude.{◌≡◌, ℕ, ◌<◌, ◌≤◌, List, length}
use Rattle.name_tree.specs.Faults.{IsTooLong, IsTooNested, IsSyntax, IsValue}
use Rattle.dtab_table.specs.declared.read.PrefixFault.{PrefixFault}
use Rattle.dtab_table.specs.declared.read.PrefixFault.TheVariants.{NotPrefix}
use Rattle.dtab_table.specs.declared.read.PrefixFault.TheVariants.{OutOfMemory as NoMemory}
use Rattle.dtab_table.specs.declared.read.DtabFault.{DtabFault}
use Rattle.dtab_table.specs.declared.read.DtabFault.TheVariants.{TooLong, TooNested, Syntax}
use Rattle.dtab_table.specs.declared.read.DtabFault.TheVariants.{TooMany, OutOfMemory}
use Rattle.dtab_table.specs.Pattern.{Pattern}
use Rattle.dtab_table.specs.Rules.{Rule}
use Rattle.dtab_table.specs.TableGrammar.{PrefixText, DtabText}

abbrev pub PrefixFaultFits : List ℕ → PrefixFault → Type 0
PrefixFaultFits text NotPrefix = (ps : List Pattern) → PrefixText text ps → ⊥
PrefixFaultFits text NoMemory = Unit {0}

-- the most entries of a table
abbrev pub most_entries : ℕ
most_entries = 1024

-- the text is the table's, and keeps the limits
pub record IsTable (text : List ℕ) (rules : List Rule) : Type 0 where
  pub value : IsValue DtabText text rules
  pub few : length rules ≤ most_entries

-- the text is that of a table with so many entries, which are too many
pub record IsTooMany (text : List ℕ) (count : ℕ) : Type 0 where
  pub rules : List Rule
  pub value : IsValue DtabText text rules
  pub same : count ≡ length rules
  pub many : most_entries < length rules

abbrev pub DtabFaultFits : List ℕ → DtabFault → Type 0
DtabFaultFits text (TooLong limit) = IsTooLong text limit
DtabFaultFits text (TooNested at) = IsTooNested DtabText text at
DtabFaultFits text (Syntax at) = IsSyntax DtabText text at
DtabFaultFits text (TooMany count) = IsTooMany text count
DtabFaultFits text OutOfMemory = Unit {0}
