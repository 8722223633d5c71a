-- Responses of the interfaces, and their bytes.
use Rattle.std.specs.Prelude.{ℕ, Bool, if◌then◌else◌, List, [], ◌∷◌, ◌++◌, length, codes, Option}
use Rattle.std.specs.Prelude.{Some, None, option_map}
use Rattle.std.specs.Fmt.{decimal}
use Rattle.httparse.specs.Ascii.{crlf_bytes}
use Rattle.http.specs.StatusCode.{status_text}
use Rattle.http_wire.specs.Lines.{ended, line_of}
use Rattle.api_wire.specs.declared.verb.Methods.{Methods}
use Rattle.api_wire.specs.declared.response.Media.{Media}
use Rattle.api_wire.specs.declared.response.Media.TheVariants as media
use Rattle.api_wire.specs.declared.response.Response.{Response}
use Rattle.api_wire.specs.Verbs.{methods_text}

-- a response: its status code (RFC 9110 section 15, and RFC 4918 section 11.5 for 507), the version
-- of a table, the methods of the path, and the body with its media type. Those that are not there
-- are left out
pub record ResponseValue : Type 0 where
  pub status : ℕ
  pub version : Option ℕ
  pub allow : Option Methods
  pub content : Option (Media × List ℕ)

-- what the code's responses say
abbrev pub response_value : Response → ResponseValue
response_value r = record {
  status = r.status;
  version = r.version;
  allow = r.allow;
  content = option_map (λ c. (c.media, c.body.items)) r.content;
}

-- without a body
abbrev pub empty : ℕ → Option ℕ → ResponseValue
empty s version = record { status = s; version = version; allow = None; content = None }

-- with a body
abbrev pub filled : ℕ → Option ℕ → Media → List ℕ → ResponseValue
filled s version m body =
    record { status = s; version = version; allow = None; content = Some (m, body) }

-- a word and a line feed
abbrev pub plain : ℕ → Option ℕ → List ℕ → ResponseValue
plain s version word = filled s version media.Plain (word ++ 10 ∷ [])

-- the path is none of the interface
abbrev pub no_path : ResponseValue
no_path = plain 404 None (codes "path")

-- the path does not answer the method: it answers these
abbrev pub not_allowed : Methods → ResponseValue
not_allowed methods = record (plain 405 None (codes "method")) { allow = Some methods }

-- a name in the path is none
abbrev pub bad_name : ResponseValue
bad_name = plain 400 None (codes "name")

abbrev pub media_text : Media → List ℕ
media_text media.Plain = codes "text/plain"
media_text media.Json = codes "application/json"
media_text media.Dtab = codes "application/dtab"
media_text media.Metrics = codes "text/plain; version=0.0.4; charset=utf-8"

-- the status line (RFC 9112 section 4), with the reason phrase of the code
abbrev pub status_line : ℕ → List ℕ
status_line s = codes "HTTP/1.1 " ++ status_text s

-- the version of a table is an entity tag (RFC 9110 section 8.8.3)
abbrev pub version_lines : Option ℕ → List (List ℕ)
version_lines None = []
version_lines (Some version) = line_of (codes "ETag") (codes "\"" ++ decimal version ++ codes "\"")
    ∷ []

abbrev pub allow_lines : Option Methods → List (List ℕ)
allow_lines None = []
allow_lines (Some methods) = line_of (codes "Allow") (methods_text methods) ∷ []

abbrev pub content_lines : Option (Media × List ℕ) → List (List ℕ)
content_lines None = []
content_lines (Some content) = line_of (codes "Content-Type") (media_text content.0) ∷ line_of
    (codes "Content-Length") (decimal (length content.1)) ∷ []

abbrev pub connection_lines : Bool → List (List ℕ)
connection_lines closing = if closing then line_of (codes "Connection") (codes "close") ∷ [] else []

abbrev pub content_bytes : Option (Media × List ℕ) → List ℕ
content_bytes None = []
content_bytes (Some content) = content.1

-- the status line, the fields that are there, an empty line, and the body where it is written
abbrev pub bytes_of : ResponseValue → Bool → Bool → List ℕ
bytes_of r closing with_body =
    ended (status_line r.status ∷ []) ++ ended (version_lines r.version)
    ++ ended (allow_lines r.allow) ++ ended (content_lines r.content)
    ++ ended (connection_lines closing) ++ crlf_bytes ++ (if with_body then content_bytes r.content
    else [])
