-- The services of a folder, each with the addresses in its file.
use Rattle.std.specs.Prelude.{◌≡◌, ℕ, min, nat_le, if◌then◌else◌, List, [], ◌∷◌, ◌++◌, length}
use Rattle.std.specs.Prelude.{Option, Some, None, Result, Ok, Err}
use Rattle.line_base.specs.Files.{File, AreNames, file_at}
use Rattle.addr_book.specs.AddrFile.{File as AddrFile, addrs, bad_at, file_value}
use Rattle.addr_book.specs.AddrList.{first_places}
use Rattle.linker_config.specs.declared.loaded.LoadedItem.{LoadedItem}
use Rattle.linker_config.specs.declared.loaded.LoadFault.{LoadFault}
use Rattle.linker_config.specs.declared.loaded.LoadFault.TheVariants.{BadFile, FolderFault}
use Rattle.linker_config.specs.declared.loaded.LoadFault.TheVariants.{LongFile, OutOfMemory}
use Rattle.linker_config.specs.Listening.{is_name}

-- the services of some files, or the first refusal
abbrev pub Services : Type 0
Services = Result (List LoadedItem) LoadFault

-- the path of a file in a folder
abbrev pub path_in : List ℕ → List ℕ → List ℕ
path_in root name = root ++ 47 ∷ name

-- what the lines of a service's file say: its first bad line, or its addresses, each once, if the
-- lines are not too many
abbrev pub lines_told : List ℕ → AddrFile → Result LoadedItem LoadFault
lines_told name (bad_at line) = Err (BadFile name (min line 4294967295))
lines_told name (addrs list) =
    if nat_le (length list) 1024 then Ok (record { service = name; list = first_places list })
    else Err (LongFile name)

-- what a service's file says, if it is not too long
unfoldable pub file_told : List ℕ → List ℕ → Result LoadedItem LoadFault
file_told name bytes =
    if nat_le (length bytes) 1048576 then lines_told name (file_value bytes)
    else Err (LongFile name)

-- one service more, before the others
abbrev pub with_item : LoadedItem → Services → Services
with_item item (Ok items) = Ok (item ∷ items)
with_item item (Err fault) = Err fault

-- a file's refusal comes before those behind it
abbrev pub before_others : Result LoadedItem LoadFault → Services → Services
before_others (Ok item) others = with_item item others
before_others (Err fault) others = Err fault

-- a file that is not there counts as not listed
abbrev pub with_file : List ℕ → Option (List ℕ) → Services → Services
with_file name None others = others
with_file name (Some bytes) others = before_others (file_told name bytes) others

-- a file whose name is no service's is passed over
unfoldable pub with_name : List File → List ℕ → List ℕ → Services → Services
with_name files root name others =
    if is_name name then with_file name (file_at files (path_in root name)) others else others

-- the services of these names in a folder, in the names' order, or the first refusal
abbrev pub services_told : List File → List ℕ → List (List ℕ) → Services
services_told files root [] = Ok []
services_told files root (name ∷ names) = with_name files root name (services_told files root names)

-- this is what the names in a folder come to
pub record IsTold (files : List File) (root : List ℕ) (told : Services) : Type 0 where
  pub names : List (List ℕ)
  pub are_names : AreNames files root names
  pub services : services_told files root names ≡ told

abbrev pub Tells : List File → List ℕ → Services → Type 0
Tells files root (Ok items) = IsTold files root (Ok items)
Tells files root (Err (LongFile name)) = IsTold files root (Err (LongFile name))
Tells files root (Err (BadFile name line)) = IsTold files root (Err (BadFile name line))
Tells files root (Err FolderFault) = Unit {0}
Tells files root (Err OutOfMemory) = Unit {0}

-- an answer on a folder, where the files are told
abbrev pub Loads : Option (List File) → List ℕ → Services → Type 0
Loads None root told = Unit {0}
Loads (Some files) root told = Tells files root told
