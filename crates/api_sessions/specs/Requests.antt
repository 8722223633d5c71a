-- The requests that the bytes of a connection begin with, and those that are refused before they
-- are answered.
use Rattle.std.specs.Prelude.{◌≡◌, ◌≢◌, ◌⊎◌, ℕ, ◌≤◌, Bool, true, false, List, [], ◌++◌, drop}
use Rattle.std.specs.Prelude.{codes, Some, Ok}
use Rattle.http_wire.specs.declared.frames.Framing.{Framing}
use Rattle.http_wire.specs.declared.head.Head.{Head}
use Rattle.http_wire.specs.FirstLine.{skip_empty_lines}
use Rattle.http_wire.specs.Framing.{framing_of}
use Rattle.http_wire.specs.Heads.{BeginsWith, NamesOtherVersion, IsBad, IsTooLarge, IsUnfinished}
use Rattle.http_wire.specs.Host.{host_of}
use Rattle.http_wire.specs.Target.{Form, IsServed}
use Rattle.body_wire.specs.Bodies as bodies
use Rattle.body_wire.specs.Passing.{form_of, most_read}
use Rattle.own_reply.specs.declared.error.OwnError.{OwnError}
use Rattle.own_reply.specs.declared.error.OwnError.TheVariants as own
use Rattle.own_reply.specs.Tests as tests
use Rattle.own_reply.specs.Tests.{names_longer}
use Rattle.api_wire.specs.Request.{has_body}

-- the head passes the tests of its target, its framing, its length and its host, and its body is
-- framed so
pub record IsTested (head : Head) (framing : Framing) : Type 0 where
  pub other : head.method ≢ codes "CONNECT"
  pub form : Form
  pub served : IsServed head.method head.target form
  pub framed : framing_of head.version head.fields ≡ Ok framing
  pub short : names_longer (Some most_read) framing ≡ false
  pub host : List ℕ
  pub named : host_of head.version head.fields form.authority ≡ Some host

-- the first test that refuses a head, whose body is not to be longer than is served
abbrev pub Refuses : Head → OwnError → Type 0
Refuses head err = tests.Refuses (Some most_read) head err

-- the bytes begin with a head that passes the tests, and behind it these were taken of its body
pub record BeginsRequest (bytes : List ℕ) (head : Head) (framing : Framing)
    (taken behind : List ℕ) : Type 0 where
  pub len : ℕ
  pub begins : BeginsWith bytes head len
  pub tested : IsTested head framing
  pub cut : drop len bytes ≡ taken ++ behind

-- the bytes begin with a whole request with this body, which is no longer than is served, and these
-- follow it
pub record IsRequest (bytes : List ℕ) (head : Head) (body behind : List ℕ) : Type 0 where
  pub framing : Framing
  pub taken : List ℕ
  pub count : ℕ
  pub within : count ≤ most_read
  pub front : BeginsRequest bytes head framing taken behind
  pub whole : bodies.IsWholeBody framing (form_of false) taken body count behind

-- the bytes begin with a request whose body is badly chunked, behind no more content than is served
pub record HasBadBody (bytes : List ℕ) (head : Head) : Type 0 where
  pub framing : Framing
  pub taken : List ℕ
  pub passed : List ℕ
  pub count : ℕ
  pub behind : List ℕ
  pub within : count ≤ most_read
  pub front : BeginsRequest bytes head framing taken behind
  pub bad : bodies.IsBadBody framing (form_of false) taken passed count behind

-- or whose body is longer than is served
pub record HasLongBody (bytes : List ℕ) (head : Head) : Type 0 where
  pub framing : Framing
  pub taken : List ℕ
  pub passed : List ℕ
  pub count : ℕ
  pub behind : List ℕ
  pub front : BeginsRequest bytes head framing taken behind
  pub long : bodies.IsTooLong framing (form_of false) most_read taken passed count behind

-- or whose body has not ended, and has no more content yet than is served
pub record HasOpenBody (bytes : List ℕ) : Type 0 where
  pub head : Head
  pub framing : Framing
  pub taken : List ℕ
  pub passed : List ℕ
  pub count : ℕ
  pub behind : List ℕ
  pub within : count ≤ most_read
  pub front : BeginsRequest bytes head framing taken behind
  pub open_ : bodies.IsUnfinished framing (form_of false) most_read taken passed count behind

-- the bytes show that their first request is refused, with this reply, which has its body or not
pub data IsRefusedAs (bytes : List ℕ) : OwnError → Bool → Type 0 where
  bad_head : IsBad bytes → IsRefusedAs bytes own.BadHead true
  other_version : NamesOtherVersion bytes → IsRefusedAs bytes own.Version true
  large_head : IsTooLarge bytes → IsRefusedAs bytes own.HeadTooLarge true
  tested : (head : Head) (len : ℕ) (err : OwnError) → BeginsWith bytes head len → Refuses head err
      → IsRefusedAs bytes err (has_body head)
  bad_body : (head : Head) → HasBadBody bytes head → IsRefusedAs bytes own.Body (has_body head)
  long_body : (head : Head) → HasLongBody bytes head → IsRefusedAs bytes own.TooLong (has_body head)

-- only empty lines came, and no request
abbrev pub IsBetween : List ℕ → Type 0
IsBetween bytes = IsUnfinished bytes × (skip_empty_lines bytes ≡ [])

-- a request has begun and not ended: its head, or its body
abbrev pub IsInside : List ℕ → Type 0
IsInside bytes = (IsUnfinished bytes × (skip_empty_lines bytes ≢ [])) ⊎ HasOpenBody bytes
