-- What a state answers to looks.
use Rattle.std.specs.Prelude.{List, ◌++◌, [], map, Option, Some, None}
use Rattle.std.specs.FinMap.{get, len, keys}
use Rattle.name_tree.specs.Path.{Labels}
use Rattle.dtab_table.specs.Rules.{Rule}
use Rattle.addr_book.specs.declared.addr.Weighted.{Weighted}
use Rattle.addr_book.specs.Namer.{named_in}
use Rattle.ns_store.specs.Contents.{Space}
use Rattle.bind_core.specs.Delegation.{outcome_of, trace_of}
use Rattle.bind_core.specs.Outcome.{traced}
use Rattle.machine.specs.Values.{SettingsValue, StateValue, LookValue, get_table, list_names}
use Rattle.machine.specs.Values.{get_addrs, count_all, services_at, view, ReplyValue, missing}
use Rattle.machine.specs.Values.{table, namespaces, addrs, counts, viewed}
use Rattle.machine.specs.Services.{services_reply}

-- the rules of a namespace, none where it is not there
abbrev pub space_rules : Option Space → List Rule
space_rules None = []
space_rules (Some space) = space.rules

-- the table of a request: that of the namespace, then the configured one, then the request's own
abbrev pub effective : SettingsValue → StateValue → List Rule → List Rule
effective settings state own =
    space_rules (get state.store.spaces settings.space) ++ settings.base ++ own

abbrev pub table_reply : Option Space → ReplyValue
table_reply None = missing
table_reply (Some space) = table space.version space.rules

-- the namespace that a reply tells, if it tells one
abbrev pub space_told : ReplyValue → Option Space
space_told (table n rules) = Some (record { version = n; rules = rules })
space_told _ = None

abbrev pub addrs_reply : Option (List Weighted) → ReplyValue
addrs_reply None = missing
addrs_reply (Some list) = addrs list

abbrev pub counts_reply : StateValue → ReplyValue
counts_reply state =
    counts state.place (len state.marks) (len state.store.spaces) (len state.book.services)

-- how a path is delegated in a table
abbrev pub view_reply : StateValue → List Rule → Labels → ReplyValue
view_reply state rules path =
    viewed (outcome_of rules (named_in state.book) path)
    (map traced (trace_of rules (named_in state.book) path))

-- the answer to a look
abbrev pub look_of : SettingsValue → StateValue → LookValue → ReplyValue
look_of settings state (get_table name) = table_reply (get state.store.spaces name)
look_of settings state list_names = namespaces (keys state.store.spaces)
look_of settings state (get_addrs service) = addrs_reply (get state.book.services service)
look_of settings state count_all = counts_reply state
look_of settings state (services_at moment) = services_reply settings.limits state moment
look_of settings state (view path own) = view_reply state (effective settings state own) path
