-- The versions that a list of changes is given.
use Rattle.std.specs.Prelude.{ℕ, List, [], ◌∷◌, ◌++◌, Option, Some, None}
use Rattle.std.specs.List.Sorted.{IsStrictlyIncreasing}
use Rattle.dtab_table.specs.Rules.{Rule}
use Rattle.ns_store.specs.declared.fault.StoreFault.{StoreFault}
use Rattle.ns_store.specs.Contents.{Contents, no_contents, after_set, after_delete}
use Rattle.ns_store.specs.Refusal.{create_refusal, put_refusal, delete_refusal}

-- a change of a namespace of some name: a new one with these rules, other rules, or none any more;
-- the last two may expect a version
pub data Change : Type 0 where
  create : List ℕ → List Rule → Change
  put : List ℕ → Option ℕ → List Rule → Change
  delete : List ℕ → Option ℕ → Change

abbrev pub refusal : Contents → Change → Option StoreFault
refusal store (create name rules) = create_refusal store name
refusal store (put name expected rules) = put_refusal store name expected
refusal store (delete name expected) = delete_refusal store name expected

-- the first where a change is accepted, the other where it is refused
abbrev pub if_taken : {A : Type 0} → Option StoreFault → A → A → A
if_taken None taken refused = taken
if_taken (Some fault) taken refused = refused

-- what an accepted change leaves
abbrev pub changed : Contents → Change → Contents
changed store (create name rules) = after_set store name rules
changed store (put name expected rules) = after_set store name rules
changed store (delete name expected) = after_delete store name

-- what a change leaves: the store as it is where it is refused
abbrev pub after : Contents → Change → Contents
after store change = if_taken (refusal store change) (changed store change) store

-- the version that an accepted change gives, none for a delete
abbrev pub versions_in : Contents → Change → List ℕ
versions_in store (create name rules) = store.next ∷ []
versions_in store (put name expected rules) = store.next ∷ []
versions_in store (delete name expected) = []

-- the versions that some changes give, in their order, from a store on; a refused change gives none
abbrev pub versions_from : Contents → List Change → List ℕ
versions_from store [] = []
versions_from store (c ∷ cs) =
    if_taken (refusal store c) (versions_in store c) [] ++ versions_from (after store c) cs

-- no version is given twice: over every list of changes, each that is given is above those before
-- it
abbrev pub VersionsRise : Type 0
VersionsRise = (changes : List Change) → IsStrictlyIncreasing (versions_from no_contents changes)
