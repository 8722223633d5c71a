-- What the parser of heads finds, as the parts of a head.
use Rattle.std.specs.Prelude.{◌≡◌, ℕ, List, length, drop, map}
use Rattle.httparse.specs.declared.spans.HeaderSpan.{HeaderSpan}
use Rattle.httparse.specs.declared.spans.RequestSpans.{RequestSpans}
use Rattle.httparse.specs.Grammar.{RequestHead, print_request, ReadsRequest, HasNoRequest}
use Rattle.httparse.specs.Grammar.{NeverHasRequest, MayBecomeRequest}
use Rattle.httparse.specs.Spans.{span_bytes, header_bytes}
use Rattle.http_wire.specs.declared.head.Field.{Field}
use Rattle.http_wire.specs.declared.head.Head.{Head}
use Rattle.http_wire.specs.declared.parse.Parsed.{Parsed}
use Rattle.http_wire.specs.declared.parse.Parsed.TheVariants.{Whole, Bad, Partial}
use Rattle.http_wire.specs.Heads.{IsHeadOf}

-- the name and the value of a field
abbrev pub pair_of : Field → List ℕ × List ℕ
pair_of field = (field.name, field.value)

-- the parts of the head are what the spans cover
pub record IsHeadAt (bytes : List ℕ) (parts : RequestSpans) (spans : List HeaderSpan)
    (head : Head) : Type 0 where
  pub method : head.method ≡ span_bytes bytes parts.method
  pub target : head.target ≡ span_bytes bytes parts.path
  pub version : head.version ≡ parts.version
  pub fields : map pair_of head.fields ≡ map (header_bytes bytes) spans

-- a whole head of the bytes
pub record IsWhole (bytes : List ℕ) (head : Head) (len : ℕ) : Type 0 where
  pub parts : RequestHead
  pub reads : ReadsRequest bytes parts (drop len bytes)
  pub long : len ≡ length (print_request parts)
  pub is : IsHeadOf head parts

-- what was parsed of the bytes
abbrev pub Parses : List ℕ → Parsed → Type 0
Parses bytes (Whole head len) = IsWhole bytes head len
Parses bytes Bad = NeverHasRequest bytes
Parses bytes Partial = HasNoRequest bytes × MayBecomeRequest bytes
