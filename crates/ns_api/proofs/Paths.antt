-- Demands by their paths.
use Rattle.std.proofs.Common.{◌≡◌, ℕ, false, List, Option, ap, sym, ◌∙◌}
use Rattle.std.specs.Prelude.{bytes_eq, codes}
use Rattle.http_wire.specs.declared.head.Head.{Head}
use Rattle.api_wire.specs.declared.verb.Verb.{Verb}
use Rattle.ns_api.specs.Demand.{ns_demand, segment_demand}
use Rattle.api_wire.specs.Request.{path_in, segment_behind}
use Rattle.api_wire.specs.Verbs.{verb_of}

-- a path that is not that of the list of names
pub other_path : (head : Head) (line body : List ℕ) (verb : Option Verb) (path : List ℕ)
    (segment : Option (List ℕ)) → verb ≡ verb_of head.method → path ≡ path_in line
    → bytes_eq path (codes "/api/1/dtabs") ≡ false
    → segment ≡ segment_behind (codes "/api/1/dtabs/") path
    → segment_demand verb segment head.fields body ≡ ns_demand head line body
unfolding ns_demand
other_path head line body verb path segment v p other s =
    let test : bytes_eq (path_in line) (codes "/api/1/dtabs")
    ≡ false = ap (λ (x : List ℕ). bytes_eq x (codes "/api/1/dtabs")) (sym p) ∙ other in
    let found : segment ≡ segment_behind (codes "/api/1/dtabs/") (path_in line) = s
    ∙ ap (segment_behind (codes "/api/1/dtabs/")) p in
    rw test (λ k. segment_demand (v k) (found k) head.fields body)
