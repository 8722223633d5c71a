-- What a store of the code has.
use Rattle.std.specs.Arc.{arc_value}
use Rattle.ns_store.specs.declared.store.Store.{Store}
use Rattle.ns_store.specs.declared.store.ReadyStore.{ReadyStore}
use Rattle.ns_store.specs.Contents.{Contents}
use Rattle.ns_store.specs.Spaces.{spaces_of}

abbrev pub contents_of : Store → Contents
contents_of store = record { spaces = spaces_of (arc_value store.spaces); next = store.next }

abbrev pub prepared_of : ReadyStore → Contents
prepared_of ready = contents_of ready.next
