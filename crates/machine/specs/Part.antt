-- What the prepared parts of the code say.
use Rattle.std.specs.Prelude.{◌≤◌}
use Rattle.std.specs.Coded.{Unit-prop, le_prop}
use Rattle.ns_store.specs.Store.{prepared_of}
use Rattle.machine.specs.declared.part.Part.{Part}
use Rattle.machine.specs.declared.part.Part.TheVariants as part
use Rattle.machine.specs.Sound.{AreSoundSpaces, AreSoundSpaces-prop}
use Rattle.machine.specs.Ready.{PartValue, store_then, book_then, reported}

abbrev pub part_value : Part → PartValue
part_value (part.Store ready) = store_then (prepared_of ready)
part_value (part.Book ready) = book_then ready
part_value (part.Report r) = reported r.addr r.good r.moment r.limits

-- the tables of namespaces are sound, and limits count at least one failure
abbrev pub IsSoundPart : PartValue → Type 0
IsSoundPart (store_then store) = AreSoundSpaces store.spaces
IsSoundPart (book_then book) = Unit {0}
IsSoundPart (reported addr good moment limits) = 1 ≤ limits.failures

pub IsSoundPart-prop : (p : PartValue) → IsProp (IsSoundPart p)
IsSoundPart-prop (store_then store) = AreSoundSpaces-prop store.spaces
IsSoundPart-prop (book_then book) = Unit-prop
IsSoundPart-prop (reported addr good moment limits) = le_prop
