-- Changes that are prepared, and what a state is that absorbs one.
use Rattle.std.specs.Prelude.{◌≡◌, ℕ, ◌+◌, Bool, true, if◌then◌else◌}
use Rattle.addr_book.specs.declared.addr.Addr.{Addr}
use Rattle.addr_book.specs.Book.{Contents as Book, is_used, after_drop}
use Rattle.addr_book.specs.Book.{after_set as services_after_set}
use Rattle.ns_store.specs.Contents.{Contents as Store, after_delete}
use Rattle.ns_store.specs.Contents.{after_set as spaces_after_set}
use Rattle.choose_core.specs.declared.mark.Limits.{Limits}
use Rattle.choose_core.specs.Marks.{MarkMap, with_mark}
use Rattle.machine.specs.Values.{SettingsValue, StateValue, ChangeValue, create, put, delete}
use Rattle.machine.specs.Values.{set_addrs, drop_service, report}
use Rattle.machine.specs.State.{kept_marks, mark_after, is_accepted, after}

-- what is prepared of a change: the namespaces or the services that stand after it, or the report
-- with the limits that it is judged by
pub data PartValue : Type 0 where
  store_then : Store → PartValue
  book_then : Book → PartValue
  reported : Addr → Bool → ℕ → Limits → PartValue

-- a prepared change, with the place after it
pub record ReadyValue : Type 0 where
  pub part : PartValue
  pub place : ℕ

abbrev pub part_of : SettingsValue → StateValue → ChangeValue → PartValue
part_of settings state (create name rules) = store_then (spaces_after_set state.store name rules)
part_of settings state (put name expected rules) =
    store_then (spaces_after_set state.store name rules)
part_of settings state (delete name expected) = store_then (after_delete state.store name)
part_of settings state (set_addrs service list) =
    book_then (services_after_set state.book service list)
part_of settings state (drop_service service) = book_then (after_drop state.book service)
part_of settings state (report addr good moment) = reported addr good moment settings.limits

-- what is prepared of a change that a state accepts
abbrev pub prepared_of : SettingsValue → StateValue → ChangeValue → ReadyValue
prepared_of settings state change =
    record { part = part_of settings state change; place = state.place + 1 }

-- the marks with a report, which is made where some service has the address
abbrev pub marks_with : StateValue → Addr → Bool → ℕ → Limits → MarkMap
marks_with state addr good moment limits =
    if is_used state.book.services addr
    then with_mark state.marks addr (mark_after limits state.marks addr good moment)
    else state.marks

-- a state that absorbs a part: the namespaces or the services are the prepared ones, and marks of
-- addresses that are in no service then are gone; a report is made on the state's own mark
abbrev pub with_part : StateValue → PartValue → ℕ → StateValue
with_part state (store_then store) place =
    record { store = store; book = state.book; marks = state.marks; place = place }
with_part state (book_then book) place =
    record { store = state.store; book = book; marks = kept_marks state.marks book; place = place }
with_part state (reported addr good moment limits) place =
    record {
      store = state.store;
      book = state.book;
      marks = marks_with state addr good moment limits;
      place = place;
    }

abbrev pub absorbed : StateValue → ReadyValue → StateValue
absorbed state ready = with_part state ready.part ready.place

-- the change is accepted, and this is what is prepared of it
pub record IsReadyFor (settings : SettingsValue) (state : StateValue) (change : ChangeValue)
    (ready : ReadyValue) : Type 0 where
  pub accepted : is_accepted state change ≡ true
  pub prepared : ready ≡ prepared_of settings state change

-- on the state that it was prepared for, a change that is absorbed leaves what the change leaves
abbrev pub AbsorbingIsChanging : Type 0
AbsorbingIsChanging =
    (settings : SettingsValue) (state : StateValue) (change : ChangeValue) (ready : ReadyValue)
    → IsReadyFor settings state change ready → absorbed state ready ≡ after settings state change
