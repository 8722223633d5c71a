-- What a call that reads a request answers, and why.
use Rattle.std.specs.Prelude.{◌≡◌, ◌⊎◌, ℕ, Bool, true, false, if◌then◌else◌, List, [], ◌++◌}
use Rattle.std.specs.Prelude.{Option, Some, None, Result, Ok, Err}
use Rattle.std.specs.Io.KnownBytes.{IsAtEnd}
use Rattle.line_base.specs.Counts.{raised}
use Rattle.http_wire.specs.declared.ended.Ended.{Ended}
use Rattle.http_wire.specs.declared.ended.Ended.TheVariants as ended
use Rattle.http_wire.specs.declared.frames.Framing.{Framing}
use Rattle.http_wire.specs.declared.head.Head.{Head}
use Rattle.http_wire.specs.declared.reading.HeadEnd.{HeadEnd}
use Rattle.http_wire.specs.Heads.{IsUnfinished}
use Rattle.body_wire.specs.declared.end.BodyEnd.{BodyEnd}
use Rattle.body_wire.specs.Passing.{IsFrontOf}
use Rattle.own_reply.specs.declared.error.OwnError.{OwnError}
use Rattle.own_reply.specs.declared.error.OwnError.TheVariants as own
use Rattle.own_reply.specs.Reply.{reply_of}
use Rattle.api_wire.specs.Request.{has_body}
use Rattle.api_sessions.specs.declared.request.NoRequest.{NoRequest}
use Rattle.api_sessions.specs.declared.request.NoRequest.TheVariants.{Own, Ends, Waits}
use Rattle.api_sessions.specs.declared.request.WholeRequest.{WholeRequest}
use Rattle.api_sessions.specs.Requests.{IsTested, Refuses, IsRequest, HasOpenBody, IsRefusedAs}
use Rattle.api_sessions.specs.Requests.{IsBetween, IsInside}

-- why there is no head
abbrev pub of_head : HeadEnd → NoRequest
of_head HeadEnd.Ended = Ends ended.PeerEnded
of_head HeadEnd.Cut = Ends ended.Cut
of_head HeadEnd.Bad = Own own.BadHead true
of_head HeadEnd.Version = Own own.Version true
of_head HeadEnd.TooLarge = Own own.HeadTooLarge true
of_head HeadEnd.ReadFault = Ends ended.ReadFault
of_head HeadEnd.OutOfMemory = Ends ended.OutOfMemory

-- why there is no body. A body that is read ends in none of the last three ways
abbrev pub of_body : BodyEnd → Bool → NoRequest
of_body (BodyEnd.BadChunk count) with_body = Own own.Body with_body
of_body BodyEnd.TooLong with_body = Own own.TooLong with_body
of_body BodyEnd.Cut with_body = Ends ended.Cut
of_body BodyEnd.ReadFault with_body = Ends ended.ReadFault
of_body BodyEnd.OutOfMemory with_body = Ends ended.OutOfMemory
of_body BodyEnd.WriteFault with_body = Ends ended.WriteFault
of_body BodyEnd.SendFault with_body = Ends ended.UpstreamCut
of_body BodyEnd.RecvFault with_body = Ends ended.UpstreamCut

-- what the tests of a head tell
abbrev pub TellsTests : Head → Result Framing NoRequest → Type 0
TellsTests head (Ok framing) = IsTested head framing
TellsTests head (Err (Own err with_body)) = Refuses head err × (with_body ≡ has_body head)
TellsTests head (Err (Ends end)) = end ≡ ended.OutOfMemory
TellsTests head (Err Waits) = ⊥

-- the bytes show that there is no request, or none yet, or memory was wanting
abbrev pub ShowsNone : List ℕ → NoRequest → Type 0
ShowsNone bytes (Own err with_body) = IsRefusedAs bytes err with_body
ShowsNone bytes (Ends ended.PeerEnded) = IsBetween bytes
ShowsNone bytes (Ends ended.Cut) = IsInside bytes
ShowsNone bytes (Ends ended.ReadFault) = IsUnfinished bytes ⊎ HasOpenBody bytes
ShowsNone bytes (Ends ended.OutOfMemory) = Unit {0}
ShowsNone bytes (Ends ended.Closed) = ⊥
ShowsNone bytes (Ends ended.Spent) = ⊥
ShowsNone bytes (Ends ended.Drained) = bytes ≡ []
ShowsNone bytes (Ends ended.WriteFault) = ⊥
ShowsNone bytes (Ends ended.UpstreamCut) = ⊥
ShowsNone bytes Waits = bytes ≡ []

-- the bytes that were kept and those that came begin with the request, whatever follows them, or
-- show that there is none
abbrev pub ShowsRequest : List ℕ → List ℕ → Result WholeRequest NoRequest → Type 0
ShowsRequest bytes kept (Ok request) =
    (more : List ℕ)
    → IsRequest (bytes ++ more) request.head request.body.items (kept ++ more)
ShowsRequest bytes kept (Err refused) = ShowsNone bytes refused

-- how the connection ends where there is no request, if no reply is due
abbrev pub quiet_end : {T : Type 0} → Result T NoRequest → Option Ended
quiet_end (Ok x) = None
quiet_end (Err (Own err with_body)) = None
quiet_end (Err (Ends end)) = Some end
quiet_end (Err Waits) = None

-- the connection ends since the listeners are closing, and no byte of a next request has come
abbrev pub is_drained : Option Ended → Bool
is_drained None = false
is_drained (Some ended.PeerEnded) = false
is_drained (Some ended.Cut) = false
is_drained (Some ended.Closed) = false
is_drained (Some ended.Spent) = false
is_drained (Some ended.Drained) = true
is_drained (Some ended.ReadFault) = false
is_drained (Some ended.WriteFault) = false
is_drained (Some ended.UpstreamCut) = false
is_drained (Some ended.OutOfMemory) = false

-- no byte of a next request has come for a while
abbrev pub is_waiting : {T : Type 0} → Result T NoRequest → Bool
is_waiting (Ok x) = false
is_waiting (Err (Own err with_body)) = false
is_waiting (Err (Ends end)) = false
is_waiting (Err Waits) = true

-- a count that rises exactly where such a thing is so
abbrev pub raised_where : Bool → ℕ → ℕ
raised_where is_so count = if is_so then raised count else count

-- the connection ends since its bytes have ended
abbrev pub is_at_end : Option Ended → Bool
is_at_end (Some ended.PeerEnded) = true
is_at_end (Some ended.Cut) = true
is_at_end _ = false

-- where it ends since its bytes have ended, nothing of them is left, if those that are to come are
-- known
abbrev pub LeavesNone : Option (List ℕ) → Option Ended → Type 0
LeavesNone left result = is_at_end result ≡ true → IsAtEnd left

-- since a read failed
abbrev pub is_read_fault : Option Ended → Bool
is_read_fault (Some ended.ReadFault) = true
is_read_fault _ = false

-- since a write failed
abbrev pub is_write_fault : Option Ended → Bool
is_write_fault (Some ended.WriteFault) = true
is_write_fault _ = false

-- A connection is read no further than the request that is due: one more read gave the end exactly
-- where the connection ended there, and one more failed exactly where it ended by that. Between the
-- last byte of a request and its reply there is no read: one there might give the end or fail, and
-- the write of the reply might fail behind it
pub record HasReadCauses
    (ends_before ends_now faults_before faults_now : ℕ) (result : Option Ended)
    : Type 0 where
  pub ends : ends_now ≡ raised_where (is_at_end result) ends_before
  pub faults : faults_now ≡ raised_where (is_read_fault result) faults_before

-- a refusal is written, behind which the connection closes
abbrev pub IsRefusal : OwnError → Bool → List ℕ → Ended → Type 0
IsRefusal err with_body written ended.Closed = written ≡ reply_of err true with_body
IsRefusal err with_body written ended.WriteFault = IsFrontOf (reply_of err true with_body) written
IsRefusal err with_body written ended.OutOfMemory = written ≡ []
IsRefusal err with_body written ended.PeerEnded = ⊥
IsRefusal err with_body written ended.Cut = ⊥
IsRefusal err with_body written ended.Spent = ⊥
IsRefusal err with_body written ended.Drained = ⊥
IsRefusal err with_body written ended.ReadFault = ⊥
IsRefusal err with_body written ended.UpstreamCut = ⊥
