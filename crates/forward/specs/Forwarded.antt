-- The head that goes on to a replica.
use Rattle.std.specs.Prelude.{ℕ, Bool, ◌==◌, if◌then◌else◌, List, [], ◌∷◌, ◌++◌, map, codes}
use Rattle.std.specs.Prelude.{bytes_eq}
use Rattle.std.specs.Fmt.{decimal}
use Rattle.name_tree.specs.Path.{canon_path}
use Rattle.dtab_table.specs.Rules.{Rule}
use Rattle.dtab_table.specs.Dtab.{rules_of}
use Rattle.dtab_table.specs.TableCanon.{canon_table}
use Rattle.http_wire.specs.declared.head.Head.{Head}
use Rattle.http_wire.specs.declared.frames.Framing.{Framing}
use Rattle.forward.specs.declared.going.Going.{Going}
use Rattle.httparse.specs.Ascii.{crlf_bytes}
use Rattle.http_wire.specs.Lines.{ended, field_line, line_of}
use Rattle.forward.specs.Dropped.{kept}

-- the request line (RFC 9112 section 3): the target is read already
abbrev pub request_line : List ℕ → List ℕ → List ℕ
request_line method target = method ++ codes " " ++ target ++ codes " HTTP/1.1"

-- how the body is framed (RFC 9112 section 6); no request is framed by the end of the connection
abbrev pub framing_lines : Framing → List (List ℕ)
framing_lines Framing.Nothing = []
framing_lines (Framing.Length n) = line_of (codes "Content-Length") (decimal n) ∷ []
framing_lines Framing.Chunked = line_of (codes "Transfer-Encoding") (codes "chunked") ∷ []
framing_lines Framing.ToEnd = []

-- the version in which the request was received (RFC 9110 section 7.6.3)
abbrev pub via : ℕ → List ℕ
via minor = if minor == 0 then codes "1.0 linkerd" else codes "1.1 linkerd"

-- the request's own table, unless it has no entry
abbrev pub table_lines : List Rule → List (List ℕ)
table_lines [] = []
table_lines (rule ∷ rules) = line_of (codes "l5d-ctx-dtab") (canon_table (rule ∷ rules)) ∷ []

-- the residual path, unless it has no label: its text is then `/`, or left out
abbrev pub residual_lines : List ℕ → List (List ℕ)
residual_lines [] = []
residual_lines (b ∷ bytes) =
    if bytes_eq (b ∷ bytes) (codes "/")
    then []
    else line_of (codes "l5d-dst-residual") (b ∷ bytes) ∷ []

-- whether the connection closes behind it (RFC 9112 section 9.6)
abbrev pub closing_lines : Bool → List (List ℕ)
closing_lines closing = if closing then line_of (codes "Connection") (codes "close") ∷ [] else []

-- the lines of the head, without the empty one at its end
abbrev pub lines : Head → Going → List (List ℕ)
lines head to =
    request_line head.method to.target.now
    ∷ line_of (codes "Host") to.host.now
    ∷ map field_line (kept head.fields)
    ++ framing_lines to.framing
    ++ line_of (codes "Via") (via head.version)
    ∷ table_lines (rules_of to.local.now)
    ++ line_of (codes "l5d-dst-service") (canon_path to.service.now)
    ∷ line_of (codes "l5d-dst-client") to.client.now
    ∷ residual_lines to.residual.now
    ++ closing_lines to.closes

-- the bytes of the head: each line ends in CR LF, and an empty line ends the head
unfoldable pub forwarded : Head → Going → List ℕ
forwarded head to = ended (lines head to) ++ crlf_bytes
