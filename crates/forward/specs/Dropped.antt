-- The received fields that go no further.
use Rattle.std.specs.Prelude.{ℕ, Bool, ◌&&◌, not, List, [], ◌∷◌, filter, codes}
use Rattle.std.specs.List.{list_any}
use Rattle.http_wire.specs.declared.head.Field.{Field}
use Rattle.http_wire.specs.Fields.{is_named, values_of}
use Rattle.http_wire.specs.Framing.{pieces_of}

-- the fields that never go on: those that are written anew, those of one connection (RFC 9110
-- section 7.6.1), Expect, since no interim reply comes back, and the router's own
abbrev pub never_kept : List (List ℕ)
never_kept =
    codes "Host"
    ∷ codes "Content-Length"
    ∷ codes "Transfer-Encoding"
    ∷ codes "Connection"
    ∷ codes "Keep-Alive"
    ∷ codes "Proxy-Connection"
    ∷ codes "TE"
    ∷ codes "Trailer"
    ∷ codes "Upgrade"
    ∷ codes "Expect"
    ∷ codes "l5d-dtab"
    ∷ codes "l5d-ctx-dtab"
    ∷ codes "l5d-dst-service"
    ∷ codes "l5d-dst-client"
    ∷ codes "l5d-dst-residual"
    ∷ []

-- the names that the values of the Connection fields list (RFC 9110 section 7.6.1): the pieces
-- between commas, without the blanks around each
abbrev pub named_in_connection : List Field → List (List ℕ)
named_in_connection fields = pieces_of (values_of (codes "Connection") fields)

-- the field has one of these names, in any case
abbrev pub has_name_of : List (List ℕ) → Field → Bool
has_name_of names field = list_any (λ name. is_named name field) names

-- the fields of a reply that never go back: those that are written anew, and those of one
-- connection
abbrev pub never_back : List (List ℕ)
never_back =
    codes "Content-Length"
    ∷ codes "Transfer-Encoding"
    ∷ codes "Connection"
    ∷ codes "Keep-Alive"
    ∷ codes "Proxy-Connection"
    ∷ codes "TE"
    ∷ codes "Trailer"
    ∷ codes "Upgrade"
    ∷ []

-- the field has none of the names that never go on, and none of those that the Connection fields
-- list
abbrev pub goes_on : List (List ℕ) → List (List ℕ) → Field → Bool
goes_on never listed field = not (has_name_of never field) && not (has_name_of listed field)

-- the fields that go on, in their order
unfoldable pub kept_but : List (List ℕ) → List Field → List Field
kept_but never fields = filter (goes_on never (named_in_connection fields)) fields

-- those of a request, and those of a reply
abbrev pub kept : List Field → List Field
kept fields = kept_but never_kept fields

abbrev pub kept_back : List Field → List Field
kept_back fields = kept_but never_back fields
