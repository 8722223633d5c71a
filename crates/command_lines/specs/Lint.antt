-- What `lint` tells of a table.
use Rattle.std.specs.Prelude.{◌≡◌, ℕ, ◌+◌, Bool, true, false, List, [], ◌∷◌, ◌++◌, length, codes}
use Rattle.std.specs.Prelude.{Option, Some, None, slice_get}
use Rattle.std.specs.Fmt.{decimal}
use Rattle.std.specs.List.{flat_map}
use Rattle.line_base.specs.declared.folder.Found.{Found}
use Rattle.line_base.specs.declared.folder.Found.TheVariants.{Bytes, Absent, Longer}
use Rattle.line_base.specs.Files.{File, FindsAt}
use Rattle.dtab_table.specs.Answers.{IsTable, DtabFaultFits}
use Rattle.dtab_table.specs.Rules.{Rule}
use Rattle.dtab_table.specs.TableCanon.{canon_prefix, canon_table}
use Rattle.dtab_table.specs.declared.read.DtabFault.{DtabFault}
use Rattle.dtab_table.specs.declared.read.DtabFault.TheVariants.{TooLong, TooNested, Syntax}
use Rattle.dtab_table.specs.declared.read.DtabFault.TheVariants.{TooMany, OutOfMemory}
use Rattle.dtab_check.specs.declared.hidden_list.Hidden.{Hidden}
use Rattle.dtab_check.specs.Hidden.{hidden_in, without}

-- the most bytes of a table
abbrev pub most_table : ℕ
most_table = 65536

-- the text of an entry's prefix
abbrev pub prefix_text : Option Rule → List ℕ
prefix_text None = []
prefix_text (Some r) = canon_prefix r.prefix

-- the line of an entry that is never asked; entries are counted from 1
abbrev pub hidden_line : List Rule → Hidden → List ℕ
hidden_line rules h =
    codes "hidden " ++ decimal (h.entry + 1) ++ codes " by " ++ decimal (h.by + 1) ++ codes " " ++
    prefix_text (slice_get rules h.entry) ++ 10 ∷ []

abbrev pub hidden_lines : List Rule → List Hidden → List ℕ
hidden_lines rules hs = flat_map (hidden_line rules) hs

-- the line that counts the entries, and those that are never asked
abbrev pub count_line : ℕ → ℕ → List ℕ
count_line entries hidden =
    codes "entries " ++ decimal entries ++ codes " hidden " ++ decimal hidden ++ 10 ∷ []

-- the line of the table that is left
abbrev pub table_line : List Rule → List ℕ
table_line [] = codes "table\n"
table_line (r ∷ rs) = codes "table " ++ canon_table (r ∷ rs) ++ 10 ∷ []

-- what is told of a table
abbrev pub lint_of : List Rule → List ℕ
lint_of rules =
    hidden_lines rules (hidden_in rules) ++ count_line (length rules) (length (hidden_in rules)) ++
    table_line (without (hidden_in rules) rules)

-- the line that tells why a text is no table. Want of memory is no fault of it and has no line
abbrev pub table_fault_line : DtabFault → Option (List ℕ)
table_fault_line (TooLong most) = Some (codes "error table long\n")
table_fault_line (Syntax at) = Some (codes "error table syntax " ++ decimal at ++ 10 ∷ [])
table_fault_line (TooNested at) = Some (codes "error table nested " ++ decimal at ++ 10 ∷ [])
table_fault_line (TooMany count) = Some (codes "error table many " ++ decimal count ++ 10 ∷ [])
table_fault_line OutOfMemory = None

-- what is told of a text, and whether it is a table's
abbrev pub TellsTable : List ℕ → Bool → List ℕ → Type 0
TellsTable text true told = (rules : List Rule) × IsTable text rules × (told ≡ lint_of rules)
TellsTable text false told =
    (fault : DtabFault) × DtabFaultFits text fault × (table_fault_line fault ≡ Some told)

-- what is told of what is found at the path of a table
abbrev pub TellsFoundTable : Found → Bool → List ℕ → Type 0
TellsFoundTable Absent good told = (good ≡ false) × (told ≡ codes "error table absent\n")
TellsFoundTable Longer good told = (good ≡ false) × (told ≡ codes "error table long\n")
TellsFoundTable (Bytes text) good told = TellsTable text.items good told

-- the same at a path, of these files where they are known
abbrev pub TellsTablePath : Option (List File) → List ℕ → Bool → List ℕ → Type 0
TellsTablePath files path good told =
    (found : Found) × FindsAt files path most_table found × TellsFoundTable found good told
