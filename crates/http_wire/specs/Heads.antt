-- What some bytes begin with, as the head of a request (RFC 9112 sections 2 to 5). Only the first
-- 65,536 bytes count.
use Rattle.std.specs.Prelude.{◌≡◌, ℕ, ◌<◌, ◌≤◌, List, [], ◌++◌, length, take, drop, map, true}
use Rattle.std.specs.Prelude.{false, IsSomeAnd, MatchOption, ⊤}
use Rattle.httparse.specs.Grammar.{AllPass, IsToken, is_value_byte, RequestHead, print_request}
use Rattle.httparse.specs.Grammar.{ReadsRequest, HasNoRequest, NeverHasRequest}
use Rattle.httparse.specs.Spans.{name_and_value}
use Rattle.http_wire.specs.declared.head.Field.{Field}
use Rattle.http_wire.specs.declared.head.Head.{Head}
use Rattle.http_wire.specs.FirstLine.{first_line, ends_in_other_version}

-- the longest head, with the empty lines before it
abbrev pub most : ℕ
most = 65536

-- the most bytes that are read at once for a head
abbrev pub most_piece : ℕ
most_piece = 16384

-- the bytes that count
unfoldable pub window : List ℕ → List ℕ
window bytes = take most bytes

-- the first line has ended, and names HTTP/1.0, HTTP/1.1 or no version at all
abbrev pub HasServedLine : List ℕ → Type 0
HasServedLine bytes = IsSomeAnd (first_line bytes) (λ line. ends_in_other_version line ≡ false)

-- the head has the parts of this one: names and values as received, the values without the blanks
-- around them
pub record IsHeadOf (head : Head) (parts : RequestHead) : Type 0 where
  pub method : head.method ≡ parts.method
  pub target : head.target ≡ parts.target
  pub version : head.version ≡ parts.minor
  pub fields : map (λ (f : Field). (f.name, f.value)) head.fields ≡ map name_and_value parts.fields

-- what holds of each field that was read: its name is a token, and its value has the bytes that a
-- value may have
abbrev pub IsSoundField : Field → Type 0
IsSoundField field = IsToken field.name × AllPass is_value_byte field.value

-- the bytes begin with this head, which is so long, the empty lines before it included
pub record BeginsWith (bytes : List ℕ) (head : Head) (len : ℕ) : Type 0 where
  pub parts : RequestHead
  pub line : HasServedLine (window bytes)
  pub reads : ReadsRequest (window bytes) parts (drop len (window bytes))
  pub long : len ≡ length (print_request parts)
  pub is : IsHeadOf head parts

-- the first line names another version
abbrev pub NamesOtherVersion : List ℕ → Type 0
NamesOtherVersion bytes =
    IsSomeAnd (first_line (window bytes)) (λ line. ends_in_other_version line ≡ true)

-- the first line has ended, and no continuation of the bytes is a head
pub record IsBad (bytes : List ℕ) : Type 0 where
  pub line : HasServedLine (window bytes)
  pub never : NeverHasRequest (window bytes)

-- some continuation of the bytes is a head
abbrev pub MayBecomeHead : List ℕ → Type 0
MayBecomeHead bytes =
    (more : List ℕ) × (parts : RequestHead) × ReadsRequest (bytes ++ more) parts []

-- no whole head, and nothing that is refused: the first line has not ended, or a head has begun and
-- not ended
abbrev pub IsOpen : List ℕ → Type 0
IsOpen bytes =
    MatchOption (first_line bytes) ⊤
    (λ line. (ends_in_other_version line ≡ false) × HasNoRequest bytes × MayBecomeHead bytes)

-- as many bytes as a head may have, and no whole head and no refusal among them
pub record IsTooLarge (bytes : List ℕ) : Type 0 where
  pub many : most ≤ length bytes
  pub open_ : IsOpen (window bytes)

-- fewer bytes, and no whole head and no refusal yet
pub record IsUnfinished (bytes : List ℕ) : Type 0 where
  pub few : length bytes < most
  pub open_ : IsOpen (window bytes)
