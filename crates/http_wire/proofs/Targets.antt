-- What a target that spells a URI is read as.
use Rattle.std.proofs.Common.{◌≡◌, ◌≢◌, ℕ, Bool, true, false, List, sym, ◌∙◌, subst, codes, Result}
use Rattle.std.proofs.Common.{Ok, Err, IfOk, IfErr, inr}
use Rattle.std.specs.Str.{bytes_eq}
use Rattle.std.proofs.lemmas.Slice.Eq.{bytes_eq-Decides}
use Rattle.http_uri.specs.declared.uri.Uri.{Uri}
use Rattle.http_uri.specs.Uri.{Spells, uri_scheme, uri_authority}
use Rattle.http_wire.specs.declared.target.Target.{Target}
use Rattle.http_wire.specs.declared.target.TargetFault.{TargetFault}
use Rattle.http_wire.specs.declared.target.TargetFault.TheVariants.{Connect, NoTarget, OutOfMemory}
use Rattle.http_wire.specs.Target.{form_of, served, Gives, IsRefused, IsServed}

-- a test that failed shows that the method is another one
pub other_method : (method m : List ℕ) (r : Bool) → m ≡ method → r ≡ bytes_eq m (codes "CONNECT")
    → r ≡ false → method ≢ codes "CONNECT"
other_method method m r same test failed is =
    let passed : bytes_eq m (codes "CONNECT") ≡ true =
    (bytes_eq-Decides m (codes "CONNECT")).1 (same ∙ is) in
    cc

-- the form that was given is that of the target
pub given : (method text m t : List ℕ) (uri : Uri) (result : Result Target TargetFault)
    → m ≡ method → t ≡ text
    → method ≢ codes "CONNECT" → Spells t uri
    → Gives (served m t (uri_scheme uri) (uri_authority uri)) result
    → IfOk result (λ (target : Target). (method ≢ codes "CONNECT")
    × IsServed method text (form_of target))
given method text m t uri (Ok target) same_method same_text other spells form = (
  other,
  (
    uri,
    subst (λ (x : List ℕ). Spells x uri) same_text spells,
    (λ i. served (sym same_method i) (sym same_text i) (uri_scheme uri) (uri_authority uri)) ∙ form,
  ),
)
given method text m t uri (Err e) same_method same_text other spells form = tt

-- and where none was, the target is none that is served
pub not_given : (method text m t : List ℕ) (uri : Uri) (result : Result Target TargetFault)
    → m ≡ method → t ≡ text
    → method ≢ codes "CONNECT" → Spells t uri
    → Gives (served m t (uri_scheme uri) (uri_authority uri)) result
    → IfErr result (IsRefused method text)
not_given method text m t uri (Ok target) same_method same_text other spells form = tt
not_given method text m t uri (Err NoTarget) same_method same_text other spells form = (
  other,
  inr (
    uri,
    subst (λ (x : List ℕ). Spells x uri) same_text spells,
    (λ i. served (sym same_method i) (sym same_text i) (uri_scheme uri) (uri_authority uri)) ∙ form,
  ),
)
not_given method text m t uri (Err Connect) same_method same_text other spells form = absurd form
not_given method text m t uri (Err OutOfMemory) same_method same_text other spells form = tt
