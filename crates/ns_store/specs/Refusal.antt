-- Why a change of a store is refused.
use Rattle.std.specs.Prelude.{ℕ, ◌-◌, ◌^◌, ◌==◌, nat_le, if◌then◌else◌, List, Option, Some, None}
use Rattle.std.specs.FinMap.{get, len}
use Rattle.ns_store.specs.declared.fault.StoreFault.{StoreFault}
use Rattle.ns_store.specs.declared.fault.StoreFault.TheVariants.{Exists, TooManyNames}
use Rattle.ns_store.specs.declared.fault.StoreFault.TheVariants.{VersionsSpent, Missing, Stale}
use Rattle.ns_store.specs.Contents.{Contents, Space}

-- the first refusal, or else the other
abbrev pub or_else : Option StoreFault → Option StoreFault → Option StoreFault
or_else None other = other
or_else (Some fault) other = Some fault

-- no version is left to give
abbrev pub spent_refusal : Contents → Option StoreFault
spent_refusal store = if store.next == 2 ^ 64 - 1 then Some VersionsSpent else None

-- a namespace of the name is there
abbrev pub exists_refusal : Option Space → Option StoreFault
exists_refusal None = None
exists_refusal (Some space) = Some (Exists space.version)

-- no more namespaces may come
abbrev pub room_refusal : Contents → Option StoreFault
room_refusal store = if nat_le 256 (len store.spaces) then Some TooManyNames else None

-- another version was expected
abbrev pub stale_refusal : ℕ → Option ℕ → Option StoreFault
stale_refusal version None = None
stale_refusal version (Some expected) = if expected == version then None else Some (Stale version)

-- there is no namespace of the name, or it has another version than is expected
abbrev pub expected_refusal : Option Space → Option ℕ → Option StoreFault
expected_refusal None expected = Some Missing
expected_refusal (Some space) expected = stale_refusal space.version expected

-- why the namespace may not be created, if it may not
abbrev pub create_refusal : Contents → List ℕ → Option StoreFault
create_refusal store name =
    or_else (exists_refusal (get store.spaces name))
    (or_else (room_refusal store) (spent_refusal store))

-- why its table may not be replaced, if it may not
abbrev pub put_refusal : Contents → List ℕ → Option ℕ → Option StoreFault
put_refusal store name expected =
    or_else (expected_refusal (get store.spaces name) expected) (spent_refusal store)

-- why it may not be deleted, if it may not
abbrev pub delete_refusal : Contents → List ℕ → Option ℕ → Option StoreFault
delete_refusal store name expected = expected_refusal (get store.spaces name) expected
