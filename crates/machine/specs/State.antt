-- How changes move a state, and what it answers.
use Rattle.std.specs.Prelude.{ℕ, ◌+◌, ◌-◌, ◌^◌, ◌==◌, ◌&&◌, Bool, not, if◌then◌else◌, length}
use Rattle.std.specs.Prelude.{Option, Some, None, option_map, is_none}
use Rattle.std.specs.FinMap.{retain_keys}
use Rattle.dtab_table.specs.TableCanon.{AreSoundRules}
use Rattle.addr_book.specs.declared.addr.Addr.{Addr}
use Rattle.addr_book.specs.declared.fault.BookFault.{BookFault}
use Rattle.addr_book.specs.declared.fault.BookFault.TheVariants as fault
use Rattle.addr_book.specs.Book.{Contents as Book, is_used, after_drop}
use Rattle.addr_book.specs.Book.{no_contents as no_services, after_set as services_after_set}
use Rattle.addr_book.specs.BookFault.{set_refusal, drop_refusal}
use Rattle.ns_store.specs.declared.fault.StoreFault.{StoreFault}
use Rattle.ns_store.specs.declared.fault.StoreFault.TheVariants as spaces
use Rattle.ns_store.specs.Contents.{Contents as Store, after_delete}
use Rattle.ns_store.specs.Contents.{no_contents as no_spaces, after_set as spaces_after_set}
use Rattle.ns_store.specs.Refusal.{create_refusal, put_refusal, delete_refusal}
use Rattle.choose_core.specs.declared.mark.Limits.{Limits}
use Rattle.choose_core.specs.declared.mark.Mark.{Mark}
use Rattle.choose_core.specs.Mark.{no_mark, marked}
use Rattle.choose_core.specs.Marks.{MarkMap, no_marks, mark_at, with_mark}
use Rattle.machine.specs.Values.{SettingsValue, StateValue, ChangeValue, create, put, delete}
use Rattle.machine.specs.Values.{set_addrs, drop_service, report, ReplyValue, version, exists_at}
use Rattle.machine.specs.Values.{too_many_names, versions_spent, missing, stale_at, deleted, set_to}
use Rattle.machine.specs.Values.{book_full, too_many_services, dropped, marked_as, not_kept}
use Rattle.machine.specs.Values.{history_spent}

-- the tables that a change brings in are sound
abbrev pub IsSoundChange : ChangeValue → Type 0
IsSoundChange (create name rules) = AreSoundRules rules
IsSoundChange (put name expected rules) = AreSoundRules rules
IsSoundChange _ = Unit {0}

-- nothing is there, and nothing was changed
abbrev pub opening : StateValue
opening = record { store = no_spaces; book = no_services; marks = no_marks; place = 0 }

-- how a store's refusal is answered. Want of memory is none
abbrev pub store_reply : StoreFault → ReplyValue
store_reply (spaces.Exists n) = exists_at n
store_reply spaces.TooManyNames = too_many_names
store_reply spaces.VersionsSpent = versions_spent
store_reply spaces.Missing = missing
store_reply (spaces.Stale n) = stale_at n
store_reply spaces.OutOfMemory = missing

-- how a book's refusal is answered. Want of memory is none
abbrev pub book_reply : BookFault → ReplyValue
book_reply (fault.BookFull n) = book_full n
book_reply fault.TooManyServices = too_many_services
book_reply fault.Missing = missing
book_reply fault.OutOfMemory = missing

-- an address without failures that answered well leaves all as it is
abbrev pub good_refusal : Mark → Bool → Option ReplyValue
good_refusal mark good = if good && (mark.count == 0) then Some (marked_as no_mark) else None

-- why a report is not taken in, if it is not: no service has the address, or it changes nothing
abbrev pub report_refusal : StateValue → Addr → Bool → Option ReplyValue
report_refusal state addr good =
    if is_used state.book.services addr then good_refusal (mark_at state.marks addr) good
    else Some not_kept

-- how a change is refused, if it is, the length of the history apart
abbrev pub refusal : StateValue → ChangeValue → Option ReplyValue
refusal state (create name rules) = option_map store_reply (create_refusal state.store name)
refusal state (put name expected rules) =
    option_map store_reply (put_refusal state.store name expected)
refusal state (delete name expected) =
    option_map store_reply (delete_refusal state.store name expected)
refusal state (set_addrs service list) = option_map book_reply (set_refusal state.book service list)
refusal state (drop_service service) = option_map book_reply (drop_refusal state.book service)
refusal state (report addr good moment) = report_refusal state addr good

-- the mark that a report leaves
abbrev pub mark_after : Limits → MarkMap → Addr → Bool → ℕ → Mark
mark_after limits marks addr good moment = marked (mark_at marks addr) good moment limits

-- how an accepted change is answered
abbrev pub acceptance : SettingsValue → StateValue → ChangeValue → ReplyValue
acceptance settings state (create name rules) = version state.store.next
acceptance settings state (put name expected rules) = version state.store.next
acceptance settings state (delete name expected) = deleted
acceptance settings state (set_addrs service list) = set_to (length list)
acceptance settings state (drop_service service) = dropped
acceptance settings state (report addr good moment) =
    marked_as (mark_after settings.limits state.marks addr good moment)

-- the marks of the addresses that a book has
abbrev pub kept_marks : MarkMap → Book → MarkMap
kept_marks marks book = retain_keys marks (is_used book.services)

-- a state one place on, with other namespaces
abbrev pub with_store : StateValue → Store → StateValue
with_store state store =
    record { store = store; book = state.book; marks = state.marks; place = state.place + 1 }

-- a state one place on, with another book: the marks of addresses that left it are gone
abbrev pub with_book : StateValue → Book → StateValue
with_book state book =
    record {
      store = state.store;
      book = book;
      marks = kept_marks state.marks book;
      place = state.place + 1;
    }

-- a state one place on, with other marks
abbrev pub with_marks : StateValue → MarkMap → StateValue
with_marks state marks =
    record { store = state.store; book = state.book; marks = marks; place = state.place + 1 }

-- what an accepted change leaves
abbrev pub changed : SettingsValue → StateValue → ChangeValue → StateValue
changed settings state (create name rules) =
    with_store state (spaces_after_set state.store name rules)
changed settings state (put name expected rules) =
    with_store state (spaces_after_set state.store name rules)
changed settings state (delete name expected) = with_store state (after_delete state.store name)
changed settings state (set_addrs service list) =
    with_book state (services_after_set state.book service list)
changed settings state (drop_service service) = with_book state (after_drop state.book service)
changed settings state (report addr good moment) =
    with_marks state (with_mark state.marks addr
    (mark_after settings.limits state.marks addr good moment))

-- the last place of a history
abbrev pub last_place : ℕ
last_place = 2 ^ 64 - 1

-- a change that is refused is answered so, and any other as it is accepted; but none is accepted at
-- the last place
abbrev pub decided : StateValue → Option ReplyValue → ReplyValue → ReplyValue
decided state (Some refused) accepted = refused
decided state None accepted = if state.place == last_place then history_spent else accepted

-- the answer to a change
abbrev pub reply_of : SettingsValue → StateValue → ChangeValue → ReplyValue
reply_of settings state change =
    decided state (refusal state change) (acceptance settings state change)

-- whether a change is accepted
abbrev pub is_accepted : StateValue → ChangeValue → Bool
is_accepted state change = is_none (refusal state change) && not (state.place == last_place)

-- what a change leaves: the state itself where it is refused
abbrev pub after : SettingsValue → StateValue → ChangeValue → StateValue
after settings state change =
    if is_accepted state change then changed settings state change else state
