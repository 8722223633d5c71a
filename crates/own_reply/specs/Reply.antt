-- The router's own replies: what each refusal says, and the bytes of its reply.
use Rattle.std.specs.Prelude.{ℕ, Bool, List, [], ◌∷◌, ◌++◌, length, codes, if◌then◌else◌}
use Rattle.std.specs.Fmt.{decimal}
use Rattle.httparse.specs.Ascii.{crlf_bytes}
use Rattle.http_wire.specs.Lines.{ended, line_of}
use Rattle.own_reply.specs.declared.error.OwnError.{OwnError}
use Rattle.own_reply.specs.declared.error.OwnError.TheVariants.{Version, BadHead, HeadTooLarge}
use Rattle.own_reply.specs.declared.error.OwnError.TheVariants.{Connect, Target, Length, Coding}
use Rattle.own_reply.specs.declared.error.OwnError.TheVariants.{TooLong, Host, Unidentified, Dtab}
use Rattle.own_reply.specs.declared.error.OwnError.TheVariants.{Body, Negative, Failing, Empty}
use Rattle.own_reply.specs.declared.error.OwnError.TheVariants.{TooDeep, TooWide, Dial, Upstream}

-- the word that names the refusal, in the field `l5d-err` and in the body
abbrev pub text_of : OwnError → List ℕ
text_of Version = codes "version"
text_of BadHead = codes "bad-head"
text_of HeadTooLarge = codes "head-too-large"
text_of Connect = codes "connect"
text_of Target = codes "target"
text_of Length = codes "length"
text_of Coding = codes "coding"
text_of TooLong = codes "too-long"
text_of Host = codes "host"
text_of Unidentified = codes "unidentified"
text_of Dtab = codes "dtab"
text_of Body = codes "body"
text_of Negative = codes "negative"
text_of Failing = codes "failing"
text_of Empty = codes "empty"
text_of TooDeep = codes "too-deep"
text_of TooWide = codes "too-wide"
text_of Dial = codes "dial"
text_of Upstream = codes "upstream"

-- the status code (RFC 9110 section 15, and RFC 6585 section 5 for 431)
abbrev pub status_of : OwnError → ℕ
status_of Version = 505
status_of BadHead = 400
status_of HeadTooLarge = 431
status_of Connect = 501
status_of Target = 400
status_of Length = 400
status_of Coding = 501
status_of TooLong = 413
status_of Host = 400
status_of Unidentified = 400
status_of Dtab = 400
status_of Body = 400
status_of Negative = 502
status_of Failing = 502
status_of Empty = 502
status_of TooDeep = 502
status_of TooWide = 502
status_of Dial = 502
status_of Upstream = 502

-- the reason phrase of the status code
abbrev pub reason_of : OwnError → List ℕ
reason_of Version = codes "HTTP Version Not Supported"
reason_of BadHead = codes "Bad Request"
reason_of HeadTooLarge = codes "Request Header Fields Too Large"
reason_of Connect = codes "Not Implemented"
reason_of Target = codes "Bad Request"
reason_of Length = codes "Bad Request"
reason_of Coding = codes "Not Implemented"
reason_of TooLong = codes "Content Too Large"
reason_of Host = codes "Bad Request"
reason_of Unidentified = codes "Bad Request"
reason_of Dtab = codes "Bad Request"
reason_of Body = codes "Bad Request"
reason_of Negative = codes "Bad Gateway"
reason_of Failing = codes "Bad Gateway"
reason_of Empty = codes "Bad Gateway"
reason_of TooDeep = codes "Bad Gateway"
reason_of TooWide = codes "Bad Gateway"
reason_of Dial = codes "Bad Gateway"
reason_of Upstream = codes "Bad Gateway"

-- the body: the word and a line feed
abbrev pub body_of : OwnError → List ℕ
body_of err = text_of err ++ 10 ∷ []

-- the status line (RFC 9112 section 4)
abbrev pub status_line : OwnError → List ℕ
status_line err = codes "HTTP/1.1 " ++ decimal (status_of err) ++ codes " " ++ reason_of err

-- the field that tells the length of the body
abbrev pub length_line : OwnError → List ℕ
length_line err = line_of (codes "Content-Length") (decimal (length (body_of err)))

-- the field that says that the connection closes
abbrev pub connection_of : Bool → List (List ℕ)
connection_of closing = if closing then line_of (codes "Connection") (codes "close") ∷ [] else []

-- the status line and the fields
abbrev pub lines_of : OwnError → Bool → List (List ℕ)
lines_of err closing =
    status_line err ∷ line_of (codes "Content-Type") (codes "text/plain")
    ∷ line_of (codes "l5d-err") (text_of err) ∷ length_line err ∷ connection_of closing

-- the head: each line ends in CR LF, and an empty line ends the head
unfoldable pub head_of : OwnError → Bool → List ℕ
head_of err closing = ended (lines_of err closing) ++ crlf_bytes

-- the whole reply: the head, and the body where it is written
abbrev pub reply_of : OwnError → Bool → Bool → List ℕ
reply_of err closing with_body = head_of err closing ++ (if with_body then body_of err else [])
