-- What a request of namerd's interface asks for.
use Rattle.std.specs.Prelude.{ℕ, if◌then◌else◌, List, codes, bytes_eq, Option, Some, None}
use Rattle.addr_book.specs.Name.{name_of}
use Rattle.dtab_table.specs.Rules.{Rule}
use Rattle.http_wire.specs.declared.head.Field.{Field}
use Rattle.http_wire.specs.declared.head.Head.{Head}
use Rattle.machine.specs.Values.{ChangeValue, create, put, delete, get_table, list_names}
use Rattle.api_wire.specs.declared.verb.Methods.TheVariants.{Reads, Tables}
use Rattle.api_wire.specs.declared.verb.Verb.{Verb}
use Rattle.api_wire.specs.declared.verb.Verb.TheVariants as verbs
use Rattle.api_wire.specs.Demand.{DemandValue, answer, alter, ask}
use Rattle.api_wire.specs.Request.{path_in, segment_behind, version_asked}
use Rattle.api_wire.specs.Response.{ResponseValue, bad_name, no_path, not_allowed, plain}
use Rattle.api_wire.specs.Verbs.{verb_of}
use Rattle.ns_api.specs.JsonTable.{body_rules}

-- the body is no table
abbrev pub bad_table : ResponseValue
bad_table = plain 400 None (codes "dtab")

-- what a list of names is asked for
abbrev pub names_demand : Option Verb → DemandValue
names_demand (Some verbs.Get) = ask list_names
names_demand (Some verbs.Head) = ask list_names
names_demand _ = answer (not_allowed Reads)

-- a change with the table of a body
abbrev pub with_table : (List Rule → ChangeValue) → Option (List Rule) → DemandValue
with_table change None = answer bad_table
with_table change (Some rules) = alter (change rules)

-- what a table is asked for. The body is looked at where a table is to be put, and there before the
-- state is
abbrev pub table_asked : Verb → List ℕ → List Field → List ℕ → DemandValue
table_asked verbs.Get name fields body = ask (get_table name)
table_asked verbs.Head name fields body = ask (get_table name)
table_asked verbs.Post name fields body = with_table (create name) (body_rules fields body)
table_asked verbs.Put name fields body =
    with_table (put name (version_asked fields)) (body_rules fields body)
table_asked verbs.Delete name fields body = alter (delete name (version_asked fields))

abbrev pub named_asked : Verb → Option (List ℕ) → List Field → List ℕ → DemandValue
named_asked verb None fields body = answer bad_name
named_asked verb (Some name) fields body = table_asked verb name fields body

-- the method is tested before the name
abbrev pub table_demand : Option Verb → List ℕ → List Field → List ℕ → DemandValue
table_demand None segment fields body = answer (not_allowed Tables)
table_demand (Some verb) segment fields body = named_asked verb (name_of segment) fields body

abbrev pub segment_demand : Option Verb → Option (List ℕ) → List Field → List ℕ → DemandValue
segment_demand verb None fields body = answer no_path
segment_demand verb (Some segment) fields body = table_demand verb segment fields body

-- What a request of namerd's interface asks for, by its head, the target that goes on, and its
-- body: the names of all namespaces, or something of the table of one. The tests come in the order
-- path, method, name, body, and then the state
unfoldable pub ns_demand : Head → List ℕ → List ℕ → DemandValue
ns_demand head line body =
    if bytes_eq (path_in line) (codes "/api/1/dtabs") then names_demand (verb_of head.method)
    else segment_demand (verb_of head.method)
    (segment_behind (codes "/api/1/dtabs/") (path_in line)) head.fields body
