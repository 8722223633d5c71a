-- What the names of a folder come to, name by name.
use Rattle.std.proofs.Common.{◌≡◌, ℕ, ◌+◌, ◌<◌, ◌≤◌, nat_le, Bool, true, false, if◌then◌else◌, List}
use Rattle.std.proofs.Common.{[], ◌∷◌, ◌++◌, length, map, drop, get_or, Option, Some, None, Result}
use Rattle.std.proofs.Common.{Ok, Err, Vec, Global}
use Rattle.std.proofs.Common.{refl, sym, ap, ◌∙◌, subst, arith, append_assoc, add-one, drop-cons}
use Rattle.std.specs.Bool.{⊤}
use Rattle.std.proofs.lemmas.Bool.Decides.{nat_tests}
use Rattle.std.proofs.lemmas.List.{append-nil, drop_all}
use Rattle.line_base.specs.Counts.{raised}
use Rattle.line_base.specs.Files.{File, Finds, FindsAt, file_at}
use Rattle.line_base.specs.declared.folder.Found.{Found}
use Rattle.line_base.specs.declared.folder.Found.TheVariants.{Bytes, Absent, Longer}
use Rattle.addr_book.specs.Name.{IsName}
use Rattle.linker_config.specs.declared.loaded.LoadedItem.{LoadedItem}
use Rattle.linker_config.specs.declared.loaded.LoadFault.{LoadFault}
use Rattle.linker_config.specs.declared.loaded.LoadFault.TheVariants.{BadFile, FolderFault}
use Rattle.linker_config.specs.declared.loaded.LoadFault.TheVariants.{LongFile, OutOfMemory}
use Rattle.linker_config.specs.Listening.{is_name}
use Rattle.linker_config.specs.Folder.{Services, before_others, file_told, path_in, services_told}
use Rattle.linker_config.specs.Folder.{with_file, with_item, with_name}
use Rattle.linker_config.specs.Loading.{Adds, Comes, HasLoadCause, Steps, behind}
use Rattle.linker_config.proofs.Names.{is_name-IsName, IsName-is_name}

chosen : (b : Bool) (first second : Services) → b ≡ true → (if b then first else second) ≡ first
chosen b first second e = rw e

passed : (b : Bool) (first second : Services) → (b ≡ true → ⊥)
    → (if b then first else second) ≡ second
passed true first second e = absurd (e refl)
passed false first second e = refl

-- a name that is no service's is passed over
pub with_name-other : (files : List File) (root name : List ℕ) (others : Services)
    → ¬ (IsName name) → with_name files root name others ≡ others
unfolding with_name
with_name-other files root name others h =
    passed (is_name name) (with_file name (file_at files (path_in root name)) others) others
    (λ e. h (IsName-is_name name e))

-- a service's name stands for its file
with_name-file : (files : List File) (root name : List ℕ) (others : Services)
    (found : Option (List ℕ)) → IsName name → file_at files (path_in root name) ≡ found
    → with_name files root name others ≡ with_file name found others
unfolding with_name
with_name-file files root name others found h e =
    chosen (is_name name) (with_file name (file_at files (path_in root name)) others) others
    (is_name-IsName name h)
    ∙ ap (λ (bytes : Option (List ℕ)). with_file name bytes others) e

-- the answer of a folder that tells its files
pub found_at : (told : Option (List File)) (files : List File) (path root name : List ℕ) (most : ℕ)
    (found : Found)
    → told ≡ Some files → path ≡ path_in root name → FindsAt told path most found
    → Finds (file_at files (path_in root name)) most found
found_at told files path root name most found e q h =
    let P : Option (List File) → Type 0 = λ o. FindsAt o (path_in root name) most found in
    let Q : List ℕ → Type 0 = λ p. FindsAt told p most found in
    subst P e (subst Q q h)

none_at : (bytes : Option (List ℕ)) (most : ℕ) → Finds bytes most Absent → bytes ≡ None
none_at None most h = refl
none_at (Some bytes) most h = absurd h

-- a file that is gone is passed over
pub with_name-absent : (files : List File) (root name : List ℕ) (others : Services) (most : ℕ)
    → IsName name → Finds (file_at files (path_in root name)) most Absent
    → with_name files root name others ≡ others
with_name-absent files root name others most h found =
    with_name-file files root name others None h
    (none_at (file_at files (path_in root name)) most found)

long_told : (name bytes : List ℕ) → 1048576 < length bytes
    → file_told name bytes ≡ Err (LongFile name)
unfolding file_told
long_told name bytes h =
    let test : nat_le (length bytes) 1048576 ≡ false = grind (arith, nat_tests) in
    rw test

long_before : (name : List ℕ) (bytes : Option (List ℕ)) (others : Services)
    → Finds bytes 1048576 Longer → with_file name bytes others ≡ Err (LongFile name)
long_before name None others h = absurd h
long_before name (Some bytes) others h =
    ap (λ (told : Result LoadedItem LoadFault). before_others told others) (long_told name bytes h)

-- a file that is too long is told
pub with_name-longer : (files : List File) (root name : List ℕ) (others : Services) → IsName name
    → Finds (file_at files (path_in root name)) 1048576 Longer
    → with_name files root name others ≡ Err (LongFile name)
with_name-longer files root name others h found =
    with_name-file files root name others (file_at files (path_in root name)) h refl
    ∙ long_before name (file_at files (path_in root name)) others found

bytes_before : (name : List ℕ) (bytes : Option (List ℕ)) (most : ℕ) (v : Vec ℕ Global)
    (others : Services) → Finds bytes most (Bytes v) → with_file name bytes others
    ≡ before_others (file_told name v.items) others
bytes_before name None most v others h = absurd h
bytes_before name (Some bytes) most v others h =
    ap (λ (bs : List ℕ). before_others (file_told name bs) others) (sym h.0)

behind-item : (done : List LoadedItem) (item : LoadedItem) (others : Services)
    → behind done (with_item item others) ≡ behind (done ++ item ∷ []) others
behind-item done item (Ok items) = ap Ok (sym (append_assoc done (item ∷ []) items))
behind-item done item (Err fault) = refl

-- a file that was read is the service, or its refusal
pub steps_bytes : (files : List File) (root name : List ℕ) (v : Vec ℕ Global)
    (old new : List LoadedItem) (result : Result ⊤ LoadFault)
    → IsName name → Finds (file_at files (path_in root name)) 1048576 (Bytes v)
    → Adds (file_told name v.items) old new result → Steps files root name old new result
steps_bytes files root name v old new (Ok done) h found (item, told, added) = λ others.
    ap (behind old) (with_name-file files root name others
    (file_at files (path_in root name)) h refl
    ∙ bytes_before name (file_at files (path_in root name)) 1048576 v others found
    ∙ ap (λ (t : Result LoadedItem LoadFault). before_others t others) told)
    ∙ behind-item old item others ∙ ap (λ (items : List LoadedItem). behind items others)
    (sym added)
steps_bytes files root name v old new (Err (LongFile n)) h found told = λ others.
    with_name-file files root name others (file_at files (path_in root name)) h refl
    ∙ bytes_before name (file_at files (path_in root name)) 1048576 v others found
    ∙ ap (λ (t : Result LoadedItem LoadFault). before_others t others) told
steps_bytes files root name v old new (Err (BadFile n line)) h found told = λ others.
    with_name-file files root name others (file_at files (path_in root name)) h refl
    ∙ bytes_before name (file_at files (path_in root name)) 1048576 v others found
    ∙ ap (λ (t : Result LoadedItem LoadFault). before_others t others) told
steps_bytes files root name v old new (Err FolderFault) h found told = tt
steps_bytes files root name v old new (Err OutOfMemory) h found told = tt

names_cut : {A : Type 0} (names : List A) (at : ℕ) (name : A) → at < length names
    → name ≡ get_or names at name → drop at names ≡ name ∷ drop (at + 1) names
names_cut names at name within is = rw (drop-cons names at name, ← is, add-one) refl

-- the services so far, and what the names from a place on come to, are what all names come to
module _ {A : Type 0} (bytes_of : A → List ℕ) (files : List File) (root : List ℕ) (names : List A)
    (at : ℕ) (total : Services) where
  abbrev rest_from : ℕ → Services
  rest_from from = services_told files root (map bytes_of (drop from names))

  module _ (name : A) (text : List ℕ) (old : List LoadedItem) (within : at < length names)
      (is : name ≡ get_or names at name) (same : text ≡ bytes_of name)
      (told : behind old (rest_from at) ≡ total) where
    one_told : behind old (with_name files root text (rest_from (at + 1))) ≡ total
    one_told =
        ap (λ (t : List ℕ). behind old (with_name files root t (rest_from (at + 1)))) same
        ∙ (sym (ap (λ (ns : List A). behind old (services_told files root (map bytes_of ns)))
        (names_cut names at name within is)) ∙ told)

    -- one name more is looked at
    pub told_next : (new : List LoadedItem)
        → ((others : Services) → behind old (with_name files root text others) ≡ behind new others)
        → behind new (rest_from (at + 1)) ≡ total
    told_next new step = sym (step (rest_from (at + 1))) ∙ one_told

    -- a name is refused
    pub told_refused : (new : List LoadedItem) (fault : LoadFault)
        → Steps files root text old new (Err fault) → Comes total (Err fault)
    told_refused new (LongFile n) step = sym one_told ∙ ap (behind old) (step (rest_from (at + 1)))
    told_refused new (BadFile n line) step = sym one_told
        ∙ ap (behind old) (step (rest_from (at + 1)))
    told_refused new FolderFault step = tt
    told_refused new OutOfMemory step = tt

  -- all names were looked at
  pub told_end : (all : List LoadedItem) → length names ≤ at → behind all (rest_from at) ≡ total
      → total ≡ Ok all
  told_end all past told =
      sym told ∙ (ap (λ (ns : List A). behind all (services_told files root (map bytes_of ns)))
      (drop_all at names past) ∙ ap Ok (append-nil all))

-- a refusal has its cause, whatever it was that was to be loaded
pub refused_cause : {S T : Type 0} (start before now : ℕ) (fault : LoadFault) → before ≡ start
    → HasLoadCause {T = S} before now (Err fault) → HasLoadCause {T = T} start now (Err fault)
refused_cause start before now (LongFile n) same cause =
    record { later = omega (arith, same, cause.later); count = cause.count ∙ same }
refused_cause start before now (BadFile n line) same cause =
    record { later = omega (arith, same, cause.later); count = cause.count ∙ same }
refused_cause start before now FolderFault same cause =
    record { later = omega (arith, same, cause.later); count = cause.count ∙ ap raised same }
refused_cause start before now OutOfMemory same cause =
    record { later = omega (arith, same, cause.later); count = cause.count ∙ same }
