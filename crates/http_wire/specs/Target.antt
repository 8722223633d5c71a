-- The request target (RFC 9112 section 3.2).
use Rattle.std.specs.Prelude.{◌≡◌, ◌≢◌, ℕ, ◌+◌, ◌&&◌, not, List, ◌∷◌, length, drop, codes, bytes_eq}
use Rattle.std.specs.Prelude.{slice_index, ◌==◌, Option, Some, None, option_map, Result, Ok, Err, ⊤}
use Rattle.std.specs.Prelude.{◌⊎◌, if◌then◌else◌}
use Rattle.std.specs.List.{list_any}
use Rattle.http_uri.specs.declared.uri.Uri.{Uri}
use Rattle.http_uri.specs.Uri.{Spells, SpellsNone, uri_scheme, uri_authority}
use Rattle.http_uri.specs.Grammar.{without_fragment}
use Rattle.http_uri.specs.ByteClasses.{at_sign, question_mark, slash}
use Rattle.http_wire.specs.declared.target.Target.{Target}
use Rattle.http_wire.specs.declared.target.TargetFault.{TargetFault}
use Rattle.http_wire.specs.declared.target.TargetFault.TheVariants.{Connect, NoTarget, OutOfMemory}

-- what an absolute target goes on as, by what stands behind its authority: without the fragment,
-- and with the path that an empty one stands for, which is `*` where the server as a whole is asked
-- (RFC 9112 sections 3.2.1 and 3.2.4)
abbrev pub line_behind : List ℕ → List ℕ → List ℕ
line_behind method behind =
    let kept = without_fragment behind in
    if length kept == 0 then (if bytes_eq method (codes "OPTIONS") then codes "*" else codes "/")
    else (if slice_index kept 0 == question_mark then slash ∷ kept else kept)

-- a target that is served: its authority, if it has one, and what it goes on as
pub record Form : Type 0 where
  pub authority : Option (List ℕ)
  pub line : List ℕ

-- the form of a target of this method and text that has this scheme and authority: the origin form,
-- `*` with OPTIONS, and the absolute form with the scheme `http` and no user information; nothing
-- else is served
abbrev pub served : List ℕ → List ℕ → Option (List ℕ) → Option (List ℕ) → Option Form
served method text None None =
    if bytes_eq text (codes "*") && not (bytes_eq method (codes "OPTIONS")) then None
    else Some (record { authority = None; line = without_fragment text })
served method text None (Some authority) = None
served method text (Some scheme) None = None
served method text (Some scheme) (Some authority) =
    if bytes_eq scheme (codes "http") && not (list_any (λ b. b == at_sign) authority)
    then Some (record {
      authority = Some authority;
      line = line_behind method (drop (length authority + 7) text);
    }) else None

-- the text spells a target that is served in this form
abbrev pub IsServed : List ℕ → List ℕ → Form → Type 0
IsServed method text form =
    (uri : Uri) × Spells text uri
    × (served method text (uri_scheme uri) (uri_authority uri) ≡ Some form)

-- the text spells no target, or one that is not served
abbrev pub IsNotServed : List ℕ → List ℕ → Type 0
IsNotServed method text =
    SpellsNone text
    ⊎ ((uri : Uri) × Spells text uri
    × (served method text (uri_scheme uri) (uri_authority uri) ≡ None))

-- the form that a target was read as
abbrev pub form_of : Target → Form
form_of target =
    record { authority = option_map (λ v. v.items) target.authority; line = target.line.items }

-- an answer that gives this form, or nothing
abbrev pub Gives : Option Form → Result Target TargetFault → Type 0
Gives form (Ok target) = form ≡ Some (form_of target)
Gives form (Err NoTarget) = form ≡ None
Gives form (Err Connect) = ⊥
Gives form (Err OutOfMemory) = ⊤

-- why a target is refused
abbrev pub IsRefused : List ℕ → List ℕ → TargetFault → Type 0
IsRefused method text Connect = method ≡ codes "CONNECT"
IsRefused method text NoTarget = (method ≢ codes "CONNECT") × IsNotServed method text
IsRefused method text OutOfMemory = ⊤
