-- The head of a reply (RFC 9112 sections 2, 4 and 5): what some bytes begin with, and how far they
-- have come. Only the first 65,536 bytes count.
use Rattle.std.specs.Prelude.{◌≡◌, ◌↔◌, ◌⊎◌, ℕ, ◌+◌, ◌<◌, ◌≤◌, List, [], ◌∷◌, ◌++◌, length, drop}
use Rattle.std.specs.Prelude.{map, Bool, ◌||◌, false, IsTrue, ◌==◌, nat_lt, Option, codes}
use Rattle.std.specs.Prelude.{slice_index, if◌then◌else◌}
use Rattle.std.specs.Char.{is_ascii_digit}
use Rattle.httparse.specs.Ascii.{line_feed}
use Rattle.httparse.specs.Grammar.{LineEnd, print_end, AllPass, is_value_byte, ResponseHead}
use Rattle.httparse.specs.Grammar.{print_reason, print_response, reason_phrase, status_code}
use Rattle.httparse.specs.Grammar.{ReadsResponse, HasNoResponse, MayBecomeResponse}
use Rattle.httparse.specs.Grammar.{NeverHasResponse}
use Rattle.httparse.specs.Spans.{name_and_value}
use Rattle.http_wire.specs.declared.head.Field.{Field}
use Rattle.http_wire.specs.declared.head.ReplyHead.{ReplyHead}
use Rattle.http_wire.specs.declared.reply_watch.StatusPlace.{StatusPlace}
use Rattle.http_wire.specs.declared.reply_watch.StatusPlace.TheVariants.{Before, BeforeReturn, Code}
use Rattle.http_wire.specs.declared.reply_watch.StatusPlace.TheVariants.{Fields}
use Rattle.http_wire.specs.Heads.{most, window}
use Rattle.http_wire.specs.Places.{IsSection, Completes as CompletesFields, is_over}

-- ---- what some bytes begin with

-- the head has the parts of this one: the status is the number of the three digits, and an absent
-- reason phrase is an empty one
pub record IsReplyOf (head : ReplyHead) (parts : ResponseHead) : Type 0 where
  pub version : head.version ≡ parts.minor
  pub status : head.status ≡ status_code parts
  pub reason : head.reason ≡ reason_phrase parts.reason
  pub fields : map (λ (f : Field). (f.name, f.value)) head.fields ≡ map name_and_value parts.fields

-- the bytes begin with this head, which is so long, the empty lines before it included
pub record BeginsWithReply (bytes : List ℕ) (head : ReplyHead) (len : ℕ) : Type 0 where
  pub parts : ResponseHead
  pub reads : ReadsResponse (window bytes) parts (drop len (window bytes))
  pub long : len ≡ length (print_response parts)
  pub is : IsReplyOf head parts

-- no continuation of the bytes is a head
abbrev pub IsBadReply : List ℕ → Type 0
IsBadReply bytes = NeverHasResponse (window bytes)

-- no whole head, and some continuation of the bytes is one
abbrev pub IsOpenReply : List ℕ → Type 0
IsOpenReply bytes = HasNoResponse bytes × MayBecomeResponse bytes

-- as many bytes as a head may have, and no whole head and no refusal among them
pub record IsTooLargeReply (bytes : List ℕ) : Type 0 where
  pub many : most ≤ length bytes
  pub open_ : IsOpenReply (window bytes)

-- fewer bytes, and no whole head and no refusal yet
pub record IsUnfinishedReply (bytes : List ℕ) : Type 0 where
  pub few : length bytes < most
  pub open_ : IsOpenReply (window bytes)

-- ---- how far they have come

-- the byte may stand at this place of `HTTP/1.`, 0 or 1, a blank and three digits
unfoldable pub fits : ℕ → ℕ → Bool
fits place byte =
    if nat_lt place 7 then byte == slice_index (codes "HTTP/1.") place
    else (if place == 7 then (byte == 48) || (byte == 49)
    else (if place == 8 then byte == 32
    else is_ascii_digit byte))

-- the bytes may stand there from this place on
abbrev pub AllFit : ℕ → List ℕ → Type 0
AllFit place [] = Unit {0}
AllFit place (byte ∷ bytes) = IsTrue (fits place byte) × AllFit (place + 1) bytes

-- the bytes are the head of a reply, and nothing more
abbrev pub IsReply : List ℕ → Type 0
IsReply bytes = (head : ResponseHead) × ReadsResponse bytes head []

-- what may follow the status code: a blank and the reason phrase, or neither, and the rest of the
-- head
abbrev pub EndsLine : List ℕ → Type 0
EndsLine bytes =
    (reason : Option (List ℕ)) × (end : LineEnd) × (rest : List ℕ)
    × AllPass is_value_byte (reason_phrase reason) × IsSection rest
    × (bytes ≡ print_reason reason ++ (print_end end ++ rest))

-- the bytes that may follow at a place, up to the head's end
abbrev pub Completes : StatusPlace → List ℕ → Type 0
Completes Before bytes = IsReply bytes
Completes BeforeReturn bytes = (rest : List ℕ) × IsReply rest × (bytes ≡ line_feed ∷ rest)
Completes (Code count) bytes =
    (front : List ℕ) × (rest : List ℕ) × AllFit count front × (count + length front ≡ 12)
    × EndsLine rest × (bytes ≡ front ++ rest)
Completes (Fields place) bytes = CompletesFields place bytes

-- the byte leads from the one place to the other: what may follow it there is what may follow at
-- the other
abbrev pub Leads : StatusPlace → ℕ → StatusPlace → Type 0
Leads from byte to = (more : List ℕ) → Completes from (byte ∷ more) ↔ Completes to more

-- the head has ended, or there is none: more than twelve bytes of a version and a code never come
abbrev pub is_at_end : StatusPlace → Bool
is_at_end Before = false
is_at_end BeforeReturn = false
is_at_end (Code count) = nat_lt 12 count
is_at_end (Fields place) = is_over place

-- the bytes begin with what may follow at the place
abbrev pub Begins : StatusPlace → List ℕ → Type 0
Begins place bytes =
    (front : List ℕ) × (rest : List ℕ) × Completes place front × (bytes ≡ front ++ rest)

-- bytes that have come to this place: a head ends exactly where what follows ends there; at the end
-- any bytes stand behind them
pub record Tracks (bytes : List ℕ) (place : StatusPlace) : Type 0 where
  pub followed : List ℕ
  pub behind : List ℕ
  pub joins : (more : List ℕ) → Completes place more → IsReply (followed ++ more)
  pub splits : (more : List ℕ) → Begins Before (followed ++ more) → Begins place more
  pub all : bytes ≡ followed ++ behind
  pub none_behind : is_at_end place ≡ false → behind ≡ []

-- the bytes begin with a head, or no continuation of them does
abbrev pub IsDecidedReply : List ℕ → Type 0
IsDecidedReply bytes =
    ((head : ResponseHead) × (rest : List ℕ) × ReadsResponse bytes head rest)
    ⊎ NeverHasResponse bytes
