-- The parts of a request that the interfaces look at.
use Rattle.std.specs.Prelude.{ℕ, ◌-◌, ◌==◌, ◌&&◌, ◌||◌, Bool, not, nat_le, if◌then◌else◌}
use Rattle.std.specs.Prelude.{List, [], ◌∷◌, length, take, drop, codes, slice_index, slice_range}
use Rattle.std.specs.Prelude.{bytes_eq, Option, Some, None}
use Rattle.std.specs.Option.{unwrap_or}
use Rattle.std.specs.List.{before_first, after_first, list_any}
use Rattle.http_uri.specs.ByteClasses.{question_mark, slash}
use Rattle.http_wire.specs.declared.head.Field.{Field}
use Rattle.http_wire.specs.declared.head.Head.{Head}
use Rattle.http_wire.specs.Fields.{first_value, is_named, same_ignoring_case}
use Rattle.own_reply.specs.Closing.{asks_to_close}
use Rattle.text_parts.specs.Numbers.{number_of}

-- the path of a target: what stands before its query
abbrev pub path_in : List ℕ → List ℕ
path_in line = before_first (λ b. b == question_mark) line

-- the query: what stands behind the first `?`
abbrev pub query_in : List ℕ → List ℕ
query_in line = after_first (λ b. b == question_mark) line

-- some bytes, where they have no `/`
abbrev pub one_segment : List ℕ → Option (List ℕ)
one_segment rest = if list_any (λ b. b == slash) rest then None else Some rest

-- what a path has behind a front, where that is one segment, be it empty
unfoldable pub segment_behind : List ℕ → List ℕ → Option (List ℕ)
segment_behind front path =
    if bytes_eq (take (length front) path) front then one_segment (drop (length front) path)
    else None

-- a text without the quotation marks that it stands between
abbrev pub unquoted : List ℕ → List ℕ
unquoted text =
    if nat_le 2 (length text)
    && ((slice_index text 0 == 34) && (slice_index text (length text - 1) == 34))
    then slice_range text 1 (length text - 1) else text

-- the version that a table must have, by the value of If-Match (RFC 9110 section 13.1.1): a version
-- in quotes or not; any, where there is no such field or it is `*`; and by any other value 0, which
-- no table has
abbrev pub version_for : Option (List ℕ) → Option ℕ
version_for None = None
version_for (Some value) =
    if bytes_eq value (codes "*") then None else Some (unwrap_or (number_of (unquoted value)) 0)

abbrev pub version_asked : List Field → Option ℕ
version_asked fields = version_for (first_value (codes "if-match") fields)

-- a text begins with a media type, which is compared without case (RFC 9110 section 8.3.1)
unfoldable pub begins_with : List ℕ → List ℕ → Bool
begins_with word text = same_ignoring_case (take (length word) text) word

-- a text has a media type in it
abbrev pub has_in_it : List ℕ → List ℕ → Bool
has_in_it word [] = begins_with word []
has_in_it word (b ∷ bs) = begins_with word (b ∷ bs) || has_in_it word bs

-- the client takes the text of a table
abbrev pub accepts_dtab : List Field → Bool
accepts_dtab fields =
    list_any (λ field. is_named (codes "accept") field
    && has_in_it (codes "application/dtab") field.value) fields

abbrev pub value_begins : List ℕ → Option (List ℕ) → Bool
value_begins word value = begins_with word (unwrap_or value [])

-- the body is JSON
abbrev pub is_json : List Field → Bool
is_json fields = value_begins (codes "application/json") (first_value (codes "content-type") fields)

-- the connection closes behind the response: the request asks for that, or is the last that its
-- connection carries
abbrev pub closes : Head → Bool → Bool
closes head last = asks_to_close head || last

-- a response to HEAD has no body
abbrev pub has_body : Head → Bool
has_body head = not (bytes_eq head.method (codes "HEAD"))
