-- What there is of each service at a moment, and how many tables were written.
use Rattle.std.specs.Prelude.{ℕ, ◌-◌, List, length, filter, map}
use Rattle.std.specs.FinMap.{get, len, keys}
use Rattle.addr_book.specs.declared.addr.Weighted.{Weighted}
use Rattle.addr_book.specs.Uses.{list_of}
use Rattle.choose_core.specs.declared.mark.Limits.{Limits}
use Rattle.choose_core.specs.Live.{is_alive}
use Rattle.machine.specs.declared.reply.ServiceState.{ServiceState}
use Rattle.machine.specs.Values.{StateValue, ReplyValue, services}

-- the addresses of a list that are alive at a moment, as a choice at that moment takes them
abbrev pub alive_in : Limits → StateValue → ℕ → List Weighted → List Weighted
alive_in limits state moment list = filter (is_alive state.marks moment limits) list

-- how many addresses a service has, and how many of them are alive
abbrev pub service_state : Limits → StateValue → ℕ → List ℕ → ServiceState
service_state limits state moment name =
    let list = list_of (get state.book.services name) in
    record {
      name = name;
      addresses = length list;
      alive = length (alive_in limits state moment list);
    }

-- how many tables were created or put. The first version is 1, and each such change takes the next
-- one; no other change takes any
abbrev pub tables_written : StateValue → ℕ
tables_written state = state.store.next - 1

-- what a state has, and of each service, in the order of the names, how many addresses are alive
abbrev pub services_reply : Limits → StateValue → ℕ → ReplyValue
services_reply limits state moment =
    services state.place (len state.marks) (len state.store.spaces) (tables_written state)
    (map (service_state limits state moment) (keys state.book.services))
