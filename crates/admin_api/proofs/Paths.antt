-- Demands of the admin interface by their paths.
use Rattle.std.proofs.Common.{◌≡◌, ℕ, Bool, false, List, Option, ap, refl, sym, ◌∙◌}
use Rattle.std.specs.Prelude.{bytes_eq, codes}
use Rattle.http_wire.specs.declared.head.Head.{Head}
use Rattle.api_wire.specs.declared.verb.Verb.{Verb}
use Rattle.api_wire.specs.Request.{path_in, segment_behind}
use Rattle.api_wire.specs.Verbs.{verb_of}
use Rattle.admin_api.specs.Demand.{admin_demand, other, path_demand, segment_demand}

pub last_path : (ready : Bool) (head : Head) (line body : List ℕ) (verb : Option Verb)
    (path : List ℕ) (segment : Option (List ℕ)) → verb ≡ verb_of head.method → path ≡ path_in line
    → bytes_eq path (codes "/admin/ping") ≡ false → bytes_eq path (codes "/admin/metrics.json")
    ≡ false → bytes_eq path (codes "/delegator.json") ≡ false
    → bytes_eq path (codes "/admin/shutdown") ≡ false → bytes_eq path (codes "/admin/ready") ≡ false
    → segment ≡ segment_behind (codes "/api/1/addrs/") path
    → segment_demand verb segment body ≡ path_demand ready head line body
unfolding path_demand
last_path ready head line body verb path segment v p t1 t2 t3 t4 t5 s =
    let e1 : bytes_eq (path_in line) (codes "/admin/ping") ≡ false =
    ap (λ (x : List ℕ). bytes_eq x (codes "/admin/ping")) (sym p) ∙ t1 in
    let e2 : bytes_eq (path_in line) (codes "/admin/metrics.json") ≡ false =
    ap (λ (x : List ℕ). bytes_eq x (codes "/admin/metrics.json")) (sym p) ∙ t2 in
    let e3 : bytes_eq (path_in line) (codes "/delegator.json") ≡ false =
    ap (λ (x : List ℕ). bytes_eq x (codes "/delegator.json")) (sym p) ∙ t3 in
    let e4 : bytes_eq (path_in line) (codes "/admin/shutdown") ≡ false =
    ap (λ (x : List ℕ). bytes_eq x (codes "/admin/shutdown")) (sym p) ∙ t4 in
    let e5 : bytes_eq (path_in line) (codes "/admin/ready") ≡ false =
    ap (λ (x : List ℕ). bytes_eq x (codes "/admin/ready")) (sym p) ∙ t5 in
    let found : segment ≡ segment_behind (codes "/api/1/addrs/") (path_in line) = s
    ∙ ap (segment_behind (codes "/api/1/addrs/")) p in
    rw (e1, e2, e3, e4, e5) (λ k. segment_demand (v k) (found k) body)

pub other_path : (ready : Bool) (head : Head) (line body path : List ℕ) → path ≡ path_in line
    → bytes_eq path (codes "/admin/metrics/prometheus") ≡ false
    → other (path_demand ready head line body) ≡ admin_demand ready head line body
unfolding admin_demand
other_path ready head line body path p test =
    let t : bytes_eq (path_in line) (codes "/admin/metrics/prometheus") ≡ false =
    ap (λ (x : List ℕ). bytes_eq x (codes "/admin/metrics/prometheus")) (sym p) ∙ test in
    rw t refl
