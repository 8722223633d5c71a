-- The line of an exchange.
use Rattle.std.specs.Prelude.{ℕ, ◌==◌, if◌then◌else◌, List, ◌++◌, codes, Option, Some, None}
use Rattle.std.specs.Borrow.{Bor}
use Rattle.std.specs.Fmt.{decimal}
use Rattle.line_base.specs.declared.socket_address.SocketAddress.{SocketAddress}
use Rattle.name_tree.specs.Path.{Labels, canon_path}
use Rattle.addr_book.specs.declared.addr.Addr.{Addr}
use Rattle.addr_book.specs.Addr.{addr_text}
use Rattle.access_log.specs.declared.entry.Entry.{Entry}
use Rattle.access_log.specs.declared.entry.RequestLine.{RequestLine}
use Rattle.access_log.specs.Ending.{ending_text, status_in}
use Rattle.access_log.specs.Moments.{moment_text, three_digits}
use Rattle.access_log.specs.Shown.{shown}

-- an address; `-` where none is known
abbrev pub addr_or_dash : Option Addr → List ℕ
addr_or_dash None = codes "-"
addr_or_dash (Some addr) = addr_text addr

abbrev pub client_text : Option SocketAddress → List ℕ
client_text None = codes "-"
client_text (Some client) = addr_text (record { ip = client.ip; port = client.port })

abbrev pub version_text : ℕ → List ℕ
version_text minor = if minor == 0 then codes " HTTP/1.0\"" else codes " HTTP/1.1\""

-- a request line in quotation marks
abbrev pub quoted : RequestLine → List ℕ
quoted line =
    codes "\"" ++ shown line.method.now ++ codes " " ++ shown line.target.now
    ++ version_text line.version

abbrev pub request_text : Option RequestLine → List ℕ
request_text None = codes "\"-\""
request_text (Some line) = quoted line

abbrev pub status_text : Option ℕ → List ℕ
status_text None = codes "-"
status_text (Some status) = three_digits status

abbrev pub name_text : Option (Bor Labels) → List ℕ
name_text None = codes "-"
name_text (Some path) = canon_path path.now

-- when who asked for what
unfoldable pub asked_text : Entry → List ℕ
asked_text e =
    moment_text e.moment ++ codes " " ++ client_text e.client ++ codes " "
    ++ request_text e.request

-- what was answered
unfoldable pub answered_text : Entry → List ℕ
answered_text e =
    status_text (status_in e.answer) ++ codes " " ++ decimal e.bytes ++ codes " "
    ++ decimal e.milliseconds

-- where the request went, and how it ended
unfoldable pub routed_text : Entry → List ℕ
routed_text e =
    name_text e.name ++ codes " " ++ addr_or_dash e.replica ++ codes " "
    ++ ending_text e.answer e.broken

-- the words of the line, with one space between them, and its line feed
abbrev pub line_text : Entry → List ℕ
line_text e =
    asked_text e ++ codes " " ++ answered_text e ++ codes " " ++ routed_text e ++ codes "\n"
