-- What a request of the admin interface asks for.
use Rattle.std.specs.Prelude.{ℕ, Bool, true, false, nat_le, if◌then◌else◌, List, length, codes}
use Rattle.std.specs.Prelude.{bytes_eq, Option, Some, None}
use Rattle.name_tree.specs.Path.{Labels}
use Rattle.dtab_table.specs.Rules.{Rule}
use Rattle.addr_book.specs.declared.addr.Weighted.{Weighted}
use Rattle.addr_book.specs.AddrFile.{File, addrs, bad_at, file_value}
use Rattle.addr_book.specs.AddrList.{first_places}
use Rattle.addr_book.specs.Name.{name_of}
use Rattle.delegate_view.specs.Query.{view_asked}
use Rattle.http_wire.specs.declared.head.Head.{Head}
use Rattle.machine.specs.Values.{set_addrs, drop_service, get_addrs, count_all, view}
use Rattle.api_wire.specs.declared.verb.Methods.TheVariants.{Reads, Services, Posts}
use Rattle.api_wire.specs.declared.verb.Verb.{Verb}
use Rattle.api_wire.specs.declared.verb.Verb.TheVariants as verbs
use Rattle.api_wire.specs.Demand.{DemandValue, IsSoundDemand, answer, stop, alter, ask}
use Rattle.api_wire.specs.Demand.{demand_value}
use Rattle.api_wire.specs.Request.{path_in, query_in, segment_behind}
use Rattle.api_wire.specs.Response.{ResponseValue, bad_name, no_path, not_allowed, plain}
use Rattle.api_wire.specs.Verbs.{verb_of}
use Rattle.admin_api.specs.declared.demand.AdminDemand.{AdminDemand}
use Rattle.admin_api.specs.declared.demand.AdminDemand.TheVariants as demand

-- the addresses of a file, each once, at its first place; nothing where a line is bad or they are
-- too many
abbrev pub few_addrs : File → Option (List Weighted)
few_addrs (bad_at line) = None
few_addrs (addrs list) = if nat_le (length list) 1024 then Some (first_places list) else None

unfoldable pub addrs_of : List ℕ → Option (List Weighted)
addrs_of text = few_addrs (file_value text)

-- the body is no list of addresses
abbrev pub bad_addrs : ResponseValue
bad_addrs = plain 400 None (codes "addrs")

-- the query asks for no view
abbrev pub bad_view : ResponseValue
bad_view = plain 400 None (codes "view")

abbrev pub pong : ResponseValue
pong = plain 200 None (codes "pong")

abbrev pub bye : ResponseValue
bye = plain 200 None (codes "bye")

-- whether more connections are to be sent here
abbrev pub readiness : Bool → ResponseValue
readiness true = plain 200 None (codes "ready")
readiness false = plain 503 None (codes "not-ready")

-- a method that shows something
abbrev pub is_read : Option Verb → Bool
is_read (Some verbs.Get) = true
is_read (Some verbs.Head) = true
is_read _ = false

-- what can only be shown
abbrev pub shown : DemandValue → Option Verb → DemandValue
shown d verb = if is_read verb then d else answer (not_allowed Reads)

-- what can only be done
abbrev pub posted : DemandValue → Option Verb → DemandValue
posted d (Some verbs.Post) = d
posted d _ = answer (not_allowed Posts)

-- how the path of a query is delegated
abbrev pub view_demand : Option (Labels × List Rule) → DemandValue
view_demand None = answer bad_view
view_demand (Some asked) = ask (view asked.0 asked.1)

-- these addresses for a service
abbrev pub set_demand : List ℕ → Option (List Weighted) → DemandValue
set_demand name None = answer bad_addrs
set_demand name (Some list) = alter (set_addrs name list)

-- what the addresses of a service are asked for
abbrev pub addrs_asked : Verb → List ℕ → List ℕ → DemandValue
addrs_asked verbs.Get name body = ask (get_addrs name)
addrs_asked verbs.Head name body = ask (get_addrs name)
addrs_asked verbs.Put name body = set_demand name (addrs_of body)
addrs_asked verbs.Delete name body = alter (drop_service name)
addrs_asked verbs.Post name body = answer (not_allowed Services)

abbrev pub named_asked : Verb → Option (List ℕ) → List ℕ → DemandValue
named_asked verb None body = answer bad_name
named_asked verb (Some name) body = addrs_asked verb name body

-- the method is tested before the name
abbrev pub service_demand : Option Verb → List ℕ → List ℕ → DemandValue
service_demand None segment body = answer (not_allowed Services)
service_demand (Some verbs.Post) segment body = answer (not_allowed Services)
service_demand (Some verbs.Get) segment body = named_asked verbs.Get (name_of segment) body
service_demand (Some verbs.Head) segment body = named_asked verbs.Head (name_of segment) body
service_demand (Some verbs.Put) segment body = named_asked verbs.Put (name_of segment) body
service_demand (Some verbs.Delete) segment body = named_asked verbs.Delete (name_of segment) body

abbrev pub segment_demand : Option Verb → Option (List ℕ) → List ℕ → DemandValue
segment_demand verb None body = answer no_path
segment_demand verb (Some segment) body = service_demand verb segment body

-- What a request for another path than that of the metrics asks for, by whether the admin
-- interface is ready, the request's head, the target that goes on, and its body. The tests come in
-- the order path, method, name, body, and then the state
unfoldable pub path_demand : Bool → Head → List ℕ → List ℕ → DemandValue
path_demand ready head line body =
    if bytes_eq (path_in line) (codes "/admin/ping") then shown (answer pong) (verb_of head.method)
    else if bytes_eq (path_in line) (codes "/admin/metrics.json")
    then shown (ask count_all) (verb_of head.method)
    else if bytes_eq (path_in line) (codes "/delegator.json")
    then shown (view_demand (view_asked (query_in line))) (verb_of head.method)
    else if bytes_eq (path_in line) (codes "/admin/shutdown")
    then posted (stop bye) (verb_of head.method)
    else if bytes_eq (path_in line) (codes "/admin/ready")
    then shown (answer (readiness ready)) (verb_of head.method)
    else segment_demand (verb_of head.method)
    (segment_behind (codes "/api/1/addrs/") (path_in line)) body

-- what a request of the admin interface asks for
pub data AdminValue : Type 0 where
  -- the text of all metrics
  metrics : AdminValue
  -- what the router alone answers
  other : DemandValue → AdminValue

-- what the code's demands say
abbrev pub admin_value : AdminDemand → AdminValue
admin_value demand.Metrics = metrics
admin_value (demand.Other d) = other (demand_value d)

-- the tables that it brings in are sound
abbrev pub IsSoundAdmin : AdminValue → Type 0
IsSoundAdmin metrics = Unit {0}
IsSoundAdmin (other d) = IsSoundDemand d

-- what the metrics are asked for
abbrev pub metrics_demand : Option Verb → AdminValue
metrics_demand verb = if is_read verb then metrics else other (answer (not_allowed Reads))

-- What a request of the admin interface asks for, by the same
unfoldable pub admin_demand : Bool → Head → List ℕ → List ℕ → AdminValue
admin_demand ready head line body =
    if bytes_eq (path_in line) (codes "/admin/metrics/prometheus")
    then metrics_demand (verb_of head.method)
    else other (path_demand ready head line body)
