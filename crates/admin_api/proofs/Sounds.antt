-- No request of the admin interface brings a table in but for a view.
use Rattle.std.proofs.Common.{ℕ, Bool, true, false, List, Option, Some, None}
use Rattle.std.specs.Prelude.{bytes_eq, codes, if◌then◌else◌}
use Rattle.name_tree.specs.Path.{Labels}
use Rattle.dtab_table.specs.Rules.{Rule}
use Rattle.addr_book.specs.declared.addr.Weighted.{Weighted}
use Rattle.delegate_view.specs.Query.{view_asked}
use Rattle.http_wire.specs.declared.head.Head.{Head}
use Rattle.machine.specs.Values.{count_all}
use Rattle.api_wire.specs.declared.verb.Methods.TheVariants.{Reads}
use Rattle.api_wire.specs.declared.verb.Verb.{Verb}
use Rattle.api_wire.specs.declared.verb.Verb.TheVariants.{Get, Head as HeadVerb, Post, Put, Delete}
use Rattle.api_wire.specs.Demand.{DemandValue, IsSoundDemand, answer, ask, stop}
use Rattle.addr_book.specs.Name.{name_of}
use Rattle.api_wire.specs.Request.{path_in, query_in, segment_behind}
use Rattle.api_wire.specs.Response.{not_allowed}
use Rattle.api_wire.specs.Verbs.{verb_of}
use Rattle.admin_api.specs.Demand.{AdminValue, IsSoundAdmin, addrs_asked, addrs_of, admin_demand}
use Rattle.admin_api.specs.Demand.{bye, is_read, metrics, named_asked, other, path_demand, pong}
use Rattle.admin_api.specs.Demand.{posted, readiness, segment_demand, service_demand, set_demand}
use Rattle.admin_api.specs.Demand.{shown, view_demand}

one_of : (b : Bool) (d e : DemandValue) → IsSoundDemand d → IsSoundDemand e
    → IsSoundDemand (if b then d else e)
one_of true d e h k = h
one_of false d e h k = k

shown_sound : (d : DemandValue) (verb : Option Verb) → IsSoundDemand d
    → IsSoundDemand (shown d verb)
shown_sound d verb h = one_of (is_read verb) d (answer (not_allowed Reads)) h tt

posted_sound : (verb : Option Verb) → IsSoundDemand (posted (stop bye) verb)
posted_sound (Some Get) = tt
posted_sound (Some HeadVerb) = tt
posted_sound (Some Post) = tt
posted_sound (Some Put) = tt
posted_sound (Some Delete) = tt
posted_sound None = tt

view_sound : (asked : Option (Labels × List Rule)) → IsSoundDemand (view_demand asked)
view_sound None = tt
view_sound (Some asked) = tt

set_sound : (name : List ℕ) (list : Option (List Weighted)) → IsSoundDemand (set_demand name list)
set_sound name None = tt
set_sound name (Some list) = tt

asked_sound : (verb : Verb) (name body : List ℕ) → IsSoundDemand (addrs_asked verb name body)
asked_sound Get name body = tt
asked_sound HeadVerb name body = tt
asked_sound Post name body = tt
asked_sound Put name body = set_sound name (addrs_of body)
asked_sound Delete name body = tt

named_sound : (verb : Verb) (name : Option (List ℕ)) (body : List ℕ)
    → IsSoundDemand (named_asked verb name body)
named_sound verb None body = tt
named_sound verb (Some name) body = asked_sound verb name body

service_sound : (verb : Option Verb) (segment body : List ℕ)
    → IsSoundDemand (service_demand verb segment body)
service_sound None segment body = tt
service_sound (Some Post) segment body = tt
service_sound (Some Get) segment body = named_sound Get (name_of segment) body
service_sound (Some HeadVerb) segment body = named_sound HeadVerb (name_of segment) body
service_sound (Some Put) segment body = named_sound Put (name_of segment) body
service_sound (Some Delete) segment body = named_sound Delete (name_of segment) body

segment_sound : (verb : Option Verb) (segment : Option (List ℕ)) (body : List ℕ)
    → IsSoundDemand (segment_demand verb segment body)
segment_sound verb None body = tt
segment_sound verb (Some segment) body = service_sound verb segment body

path_sound : (ready : Bool) (head : Head) (line body : List ℕ)
    → IsSoundDemand (path_demand ready head line body)
unfolding path_demand
path_sound ready head line body =
    let verb = verb_of head.method in
    one_of (bytes_eq (path_in line) (codes "/admin/ping")) _ _ (shown_sound (answer pong) verb tt)
    (one_of (bytes_eq (path_in line) (codes "/admin/metrics.json")) _ _
    (shown_sound (ask count_all) verb tt)
    (one_of (bytes_eq (path_in line) (codes "/delegator.json")) _ _
    (shown_sound (view_demand (view_asked (query_in line))) verb
    (view_sound (view_asked (query_in line))))
    (one_of (bytes_eq (path_in line) (codes "/admin/shutdown")) _ _ (posted_sound verb)
    (one_of (bytes_eq (path_in line) (codes "/admin/ready")) _ _
    (shown_sound (answer (readiness ready)) verb tt)
    (segment_sound verb (segment_behind (codes "/api/1/addrs/") (path_in line)) body)))))

one_demand : (b : Bool) (x y : AdminValue) → IsSoundAdmin x → IsSoundAdmin y
    → IsSoundAdmin (if b then x else y)
one_demand true x y h k = h
one_demand false x y h k = k

-- whatever is asked for, the tables that it brings in are sound
pub admin_sound : (ready : Bool) (head : Head) (line body : List ℕ)
    → IsSoundAdmin (admin_demand ready head line body)
unfolding admin_demand
admin_sound ready head line body =
    one_demand (bytes_eq (path_in line) (codes "/admin/metrics/prometheus")) _ _
    (one_demand (is_read (verb_of head.method)) metrics (other (answer (not_allowed Reads))) tt tt)
    (path_sound ready head line body)
