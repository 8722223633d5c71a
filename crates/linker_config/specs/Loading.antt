-- What the steps of loading leave, and why a load fails.
use Rattle.std.specs.Prelude.{◌≡◌, ⊤, ℕ, ◌≤◌, List, [], ◌∷◌, ◌++◌, Result, Ok, Err}
use Rattle.std.specs.declared.vec.Vec.{Vec}
use Rattle.std.specs.declared.alloc.Global.{Global}
use Rattle.line_base.specs.Counts.{raised}
use Rattle.line_base.specs.Files.{File}
use Rattle.linker_config.specs.declared.loaded.LoadedItem.{LoadedItem}
use Rattle.linker_config.specs.declared.loaded.LoadFault.{LoadFault}
use Rattle.linker_config.specs.declared.loaded.LoadFault.TheVariants.{BadFile, FolderFault}
use Rattle.linker_config.specs.declared.loaded.LoadFault.TheVariants.{LongFile, OutOfMemory}
use Rattle.linker_config.specs.Folder.{Services, with_name}

-- some services before others
abbrev pub behind : List LoadedItem → Services → Services
behind done (Ok items) = Ok (done ++ items)
behind done (Err fault) = Err fault

-- a name of a folder was looked at: what the folder came to is what comes behind the services so
-- far, or it is this refusal
abbrev pub Steps : List File → List ℕ → List ℕ → List LoadedItem → List LoadedItem
    → Result ⊤ LoadFault → Type 0
Steps files root name old new (Ok done) =
    (others : Services) → behind old (with_name files root name others) ≡ behind new others
Steps files root name old new (Err (LongFile n)) =
    (others : Services) → with_name files root name others ≡ Err (LongFile n)
Steps files root name old new (Err (BadFile n line)) =
    (others : Services) → with_name files root name others ≡ Err (BadFile n line)
Steps files root name old new (Err FolderFault) = Unit {0}
Steps files root name old new (Err OutOfMemory) = Unit {0}

-- the count of a folder's faults behind an answer: one more where the folder could not be read
abbrev pub count_after : {T : Type 0} → ℕ → Result T LoadFault → ℕ
count_after before (Ok v) = before
count_after before (Err FolderFault) = raised before
count_after before (Err (LongFile n)) = before
count_after before (Err (BadFile n line)) = before
count_after before (Err OutOfMemory) = before

-- the count of a folder's faults does not fall, and is that behind the answer
pub record HasLoadCause {T : Type 0} (before now : ℕ) (result : Result T LoadFault) : Type 0 where
  pub later : before ≤ now
  pub count : now ≡ count_after before result

-- an answer on the file of a service
abbrev pub FileSays : Result LoadedItem LoadFault → Result LoadedItem LoadFault → Type 0
FileSays told (Ok item) = told ≡ Ok item
FileSays told (Err (LongFile n)) = told ≡ Err (LongFile n)
FileSays told (Err (BadFile n line)) = told ≡ Err (BadFile n line)
FileSays told (Err FolderFault) = ⊥
FileSays told (Err OutOfMemory) = Unit {0}

-- the service of a file is put behind others, or its file is refused
abbrev pub Adds : Result LoadedItem LoadFault → List LoadedItem → List LoadedItem
    → Result ⊤ LoadFault → Type 0
Adds told old new (Ok done) = (item : LoadedItem) × (told ≡ Ok item) × (new ≡ old ++ item ∷ [])
Adds told old new (Err (LongFile n)) = told ≡ Err (LongFile n)
Adds told old new (Err (BadFile n line)) = told ≡ Err (BadFile n line)
Adds told old new (Err FolderFault) = ⊥
Adds told old new (Err OutOfMemory) = Unit {0}

-- what the names of a folder come to
abbrev pub Comes : Services → Result (Vec LoadedItem Global) LoadFault → Type 0
Comes told (Ok items) = told ≡ Ok items.items
Comes told (Err (LongFile n)) = told ≡ Err (LongFile n)
Comes told (Err (BadFile n line)) = told ≡ Err (BadFile n line)
Comes told (Err FolderFault) = Unit {0}
Comes told (Err OutOfMemory) = Unit {0}
