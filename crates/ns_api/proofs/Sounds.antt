-- The tables that requests bring in are sound.
use Rattle.std.proofs.Common.{◌≡◌, ℕ, Bool, true, false, List, Option, Some, None, Ok, refl}
use Rattle.std.specs.Prelude.{bytes_eq, codes, if◌then◌else◌, option_and_then}
use Rattle.serde_json.specs.Data.{Data, Items}
use Rattle.serde_json.specs.Find.{as_array}
use Rattle.http_wire.specs.declared.head.Field.{Field}
use Rattle.http_wire.specs.declared.head.Head.{Head}
use Rattle.dtab_table.specs.Computed.{table_of}
use Rattle.dtab_table.specs.Rules.{Rule}
use Rattle.dtab_table.specs.TableCanon.{AreSoundRules}
use Rattle.dtab_table.proofs.TableComputing.{computes_tables}
use Rattle.dtab_table.proofs.TableSounds.{sound_table}
use Rattle.machine.specs.State.{IsSoundChange}
use Rattle.machine.specs.Values.{ChangeValue, create, put}
use Rattle.api_wire.specs.declared.verb.Verb.{Verb}
use Rattle.api_wire.specs.declared.verb.Verb.TheVariants.{Get, Head as HeadVerb, Post, Put, Delete}
use Rattle.api_wire.specs.Demand.{DemandValue, IsSoundDemand}
use Rattle.ns_api.specs.Demand.{names_demand, named_asked, ns_demand, segment_demand, table_asked}
use Rattle.ns_api.specs.Demand.{table_demand, with_table}
use Rattle.api_wire.specs.Json.{json_of}
use Rattle.ns_api.specs.JsonTable.{are_few, body_rules, few_rules, json_rules, list_of, row_rules}
use Rattle.addr_book.specs.Name.{name_of}
use Rattle.api_wire.specs.Request.{is_json, path_in, segment_behind, version_asked}
use Rattle.api_wire.specs.Verbs.{verb_of}
use Rattle.ns_api.proofs.Rows.{rows_sound}

few_sound : (b : Bool) (ds : List Data) (rules : List Rule)
    → (if b then row_rules ds else None) ≡ Some rules → AreSoundRules rules
few_sound true ds rules e = (rows_sound ds rules e).sound
few_sound false ds rules e = absurd (cc)

items_sound : (o : Option Items) (rules : List Rule)
    → option_and_then (λ items. few_rules (list_of items)) o ≡ Some rules → AreSoundRules rules
items_sound (Some items) rules e = few_sound (are_few (list_of items)) (list_of items) rules e
items_sound None rules e = absurd (cc)

tree_sound : (d : Data) (rules : List Rule) → json_rules d ≡ Some rules → AreSoundRules rules
unfolding json_rules
tree_sound d rules e = items_sound (as_array d) rules e

json_sound : (o : Option Data) (rules : List Rule) → option_and_then json_rules o ≡ Some rules
    → AreSoundRules rules
json_sound (Some d) rules e = tree_sound d rules e
json_sound None rules e = absurd (cc)

text_sound : (text : List ℕ) (rules : List Rule) → table_of text ≡ Some rules → AreSoundRules rules
text_sound text rules e =
    sound_table (λ (r : List Rule). r) text (Ok rules) ((computes_tables text rules).0 e)

either_sound : (b : Bool) (body : List ℕ) (rules : List Rule)
    → (if b then option_and_then json_rules (json_of body) else table_of body) ≡ Some rules
    → AreSoundRules rules
either_sound true body rules e = json_sound (json_of body) rules e
either_sound false body rules e = text_sound body rules e

pub body_sound : (fields : List Field) (body : List ℕ) (rules : List Rule)
    → body_rules fields body ≡ Some rules → AreSoundRules rules
unfolding body_rules
body_sound fields body rules e = either_sound (is_json fields) body rules e

with_sound : (change : List Rule → ChangeValue) (o : Option (List Rule))
    → ((rules : List Rule) → o ≡ Some rules → IsSoundChange (change rules))
    → IsSoundDemand (with_table change o)
with_sound change None h = tt
with_sound change (Some rules) h = h rules refl

asked_sound : (verb : Verb) (name : List ℕ) (fields : List Field) (body : List ℕ)
    → IsSoundDemand (table_asked verb name fields body)
asked_sound Get name fields body = tt
asked_sound HeadVerb name fields body = tt
asked_sound Post name fields body =
    with_sound (create name) (body_rules fields body) (λ rules e. body_sound fields body rules e)
asked_sound Put name fields body =
    with_sound (put name (version_asked fields)) (body_rules fields body)
    (λ rules e. body_sound fields body rules e)
asked_sound Delete name fields body = tt

named_sound : (verb : Verb) (name : Option (List ℕ)) (fields : List Field) (body : List ℕ)
    → IsSoundDemand (named_asked verb name fields body)
named_sound verb None fields body = tt
named_sound verb (Some name) fields body = asked_sound verb name fields body

table_sound : (verb : Option Verb) (segment : List ℕ) (fields : List Field) (body : List ℕ)
    → IsSoundDemand (table_demand verb segment fields body)
table_sound None segment fields body = tt
table_sound (Some verb) segment fields body = named_sound verb (name_of segment) fields body

segment_sound : (verb : Option Verb) (segment : Option (List ℕ)) (fields : List Field)
    (body : List ℕ) → IsSoundDemand (segment_demand verb segment fields body)
segment_sound verb None fields body = tt
segment_sound verb (Some segment) fields body = table_sound verb segment fields body

names_sound : (verb : Option Verb) → IsSoundDemand (names_demand verb)
names_sound (Some Get) = tt
names_sound (Some HeadVerb) = tt
names_sound (Some Post) = tt
names_sound (Some Put) = tt
names_sound (Some Delete) = tt
names_sound None = tt

one_sound : (b : Bool) (d e : DemandValue) → IsSoundDemand d → IsSoundDemand e
    → IsSoundDemand (if b then d else e)
one_sound true d e h k = h
one_sound false d e h k = k

-- whatever is asked for, the tables that it brings in are sound
pub ns_sound : (head : Head) (line body : List ℕ) → IsSoundDemand (ns_demand head line body)
unfolding ns_demand
ns_sound head line body =
    one_sound (bytes_eq (path_in line) (codes "/api/1/dtabs")) _ _
    (names_sound (verb_of head.method))
    (segment_sound (verb_of head.method) (segment_behind (codes "/api/1/dtabs/") (path_in line))
    head.fields body)
