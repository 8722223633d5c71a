-- What a folder answers, where it tells its files.
use Rattle.std.specs.Prelude.{◌≡◌, ℕ, ◌<◌, ◌≤◌, if◌then◌else◌, List, [], ◌∷◌, ◌++◌, length}
use Rattle.std.specs.Prelude.{Contains, Option, Some, None, Result, Err}
use Rattle.std.specs.Cmp.Lexicographic.{slice_cmp}
use Rattle.std.specs.Ordering.{nat_cmp}
use Rattle.std.specs.List.Sorted.{IsStrictlySortedBy}
use Rattle.std.specs.Str.{bytes_eq}
use Rattle.line_base.specs.Counts.{raised}
use Rattle.line_base.specs.declared.folder.Found.{Found}
use Rattle.line_base.specs.declared.folder.Found.TheVariants.{Bytes, Absent, Longer}
use Rattle.line_base.specs.declared.folder.FolderFault.{FolderFault}
use Rattle.line_base.specs.declared.folder.FolderFault.TheVariants.{Failed}

-- a plain file: the folder that it is in, its name there, and its bytes
pub record File : Type 0 where
  pub folder : List ℕ
  pub name : List ℕ
  pub bytes : List ℕ

-- folders: the files, where they are told, and how often a call failed. The count never falls, and
-- stands still at the last value of a `u64`
pub record Filed : Type 0 where
  pub files : Option (List File)
  pub faults : ℕ

-- the path of a file: its folder, a slash, and its name
abbrev pub path_of : File → List ℕ
path_of file = file.folder ++ 47 ∷ file.name

-- the bytes of the file at a path, and the first where there are several
abbrev pub file_at : List File → List ℕ → Option (List ℕ)
file_at [] path = None
file_at (f ∷ fs) path = if bytes_eq (path_of f) path then Some f.bytes else file_at fs path

-- the names of a folder's files, in the order of the files
abbrev pub names_in : List File → List ℕ → List (List ℕ)
names_in [] folder = []
names_in (f ∷ fs) folder =
    if bytes_eq f.folder folder then f.name ∷ names_in fs folder else names_in fs folder

-- these are a folder's names, each once, in the order of their bytes
pub record AreNames (files : List File) (folder : List ℕ) (names : List (List ℕ)) : Type 0 where
  pub ordered : IsStrictlySortedBy (slice_cmp nat_cmp) names
  pub there : (name : List ℕ) → Contains names name → Contains (names_in files folder) name
  pub all : (name : List ℕ) → Contains (names_in files folder) name → Contains names name

abbrev pub Names : Option (List File) → List ℕ → List (List ℕ) → Type 0
Names None folder names = Unit {0}
Names (Some files) folder names = AreNames files folder names

-- what is found of the bytes at a path, if there are some
abbrev pub Finds : Option (List ℕ) → ℕ → Found → Type 0
Finds None most Absent = Unit {0}
Finds None most other = ⊥
Finds (Some bytes) most Absent = ⊥
Finds (Some bytes) most Longer = most < length bytes
Finds (Some bytes) most (Bytes found) = (found.items ≡ bytes) × (length bytes ≤ most)

abbrev pub FindsAt : Option (List File) → List ℕ → ℕ → Found → Type 0
FindsAt None path most found = Unit {0}
FindsAt (Some files) path most found = Finds (file_at files path) most found

-- what is found has at most so many bytes
abbrev pub IsWithin : Found → ℕ → Type 0
IsWithin (Bytes found) most = length found.items ≤ most
IsWithin other most = Unit {0}

-- a folder's count of faults never falls: a call that fails raises it by one, and any other, want
-- of memory too, leaves it as it was
pub record HasFolderCause {T : Type 0} (before now : ℕ) (result : Result T FolderFault) : Type 0
  where
    pub later : before ≤ now
    pub failed : result ≡ Err Failed → now ≡ raised before
    pub kept : (result ≡ Err Failed → ⊥) → now ≡ before
