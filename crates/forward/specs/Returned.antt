-- The head of a reply that goes back to the client.
use Rattle.std.specs.Prelude.{ℕ, ◌+◌, ◌/◌, ◌%◌, Bool, ◌==◌, if◌then◌else◌, List, [], ◌∷◌, ◌++◌, map}
use Rattle.std.specs.Prelude.{codes, Option, Some, None}
use Rattle.std.specs.Fmt.{decimal}
use Rattle.http_wire.specs.declared.head.ReplyHead.{ReplyHead}
use Rattle.http_wire.specs.declared.frames.Framing.{Framing}
use Rattle.http_wire.specs.Fields.{values_of}
use Rattle.http_wire.specs.Framing.{agreed, pieces_of}
use Rattle.httparse.specs.Ascii.{crlf_bytes}
use Rattle.http_wire.specs.Lines.{ended, field_line, line_of}
use Rattle.forward.specs.Dropped.{kept_back}
use Rattle.forward.specs.Forwarded.{closing_lines, via}

-- the three digits of a status code
abbrev pub three_digits : ℕ → List ℕ
three_digits status = (48 + status / 100 % 10) ∷ (48 + status / 10 % 10) ∷ (48 + status % 10) ∷ []

-- the status line (RFC 9112 section 4): the code and the reason phrase as received
abbrev pub status_line : ℕ → List ℕ → List ℕ
status_line status reason = codes "HTTP/1.1 " ++ three_digits status ++ codes " " ++ reason

-- the length that the reply says of a body that is not sent (RFC 9110 section 8.6)
abbrev pub length_lines : Option ℕ → List (List ℕ)
length_lines None = []
length_lines (Some n) = line_of (codes "Content-Length") (decimal n) ∷ []

-- the length that a reply without a body says, but for the status 204. It is then one of status
-- 304, or one to HEAD
abbrev pub own_length_lines : ReplyHead → List (List ℕ)
own_length_lines head =
    if head.status == 204
    then []
    else length_lines (agreed (pieces_of (values_of (codes "content-length") head.fields)))

-- chunks stay chunks for an HTTP/1.1 client, and are taken apart for an HTTP/1.0 one
abbrev pub chunked_lines : Bool → List (List ℕ)
chunked_lines chunked =
    if chunked then line_of (codes "Transfer-Encoding") (codes "chunked") ∷ [] else []

-- how the body is framed (RFC 9112 section 6)
abbrev pub back_framing_lines : ReplyHead → Framing → Bool → List (List ℕ)
back_framing_lines head Framing.Nothing chunked = own_length_lines head
back_framing_lines head (Framing.Length n) chunked = length_lines (Some n)
back_framing_lines head Framing.Chunked chunked = chunked_lines chunked
back_framing_lines head Framing.ToEnd chunked = []

-- the bytes of the head: each line ends in CR LF, and an empty line ends the head
unfoldable pub returned : ReplyHead → Framing → Bool → Bool → List ℕ
returned head framing chunked closing =
    ended (
    status_line head.status head.reason
    ∷ map field_line (kept_back head.fields)
    ++ back_framing_lines head framing chunked
    ++ line_of (codes "Via") (via head.version)
    ∷ closing_lines closing
    )
    ++ crlf_bytes
