-- What the client is answered, and how an exchange ends.
use Rattle.std.specs.Prelude.{◌≡◌, ℕ, ◌||◌, nat_lt, Bool, true, false, not, List, bytes_eq, codes}
use Rattle.std.specs.Prelude.{Option, Some, None, Result, Ok, Err}
use Rattle.line_base.specs.Counts.{raised}
use Rattle.body_wire.specs.Passing.{IsFrontOf}
use Rattle.http_wire.specs.declared.ended.Ended.{Ended}
use Rattle.http_wire.specs.declared.ended.Ended.TheVariants as ended
use Rattle.http_wire.specs.declared.frames.Framing.{Framing}
use Rattle.http_wire.specs.declared.frames.FramingFault.{FramingFault}
use Rattle.http_wire.specs.declared.head.Head.{Head}
use Rattle.http_wire.specs.Framing.{framing_of}
use Rattle.machine.specs.declared.chosen.Why.{Why}
use Rattle.machine.specs.declared.chosen.Why.TheVariants as why
use Rattle.own_reply.specs.declared.error.OwnError.{OwnError}
use Rattle.own_reply.specs.declared.error.OwnError.TheVariants as own
use Rattle.own_reply.specs.Reply.{reply_of}
use Rattle.replica_try.specs.declared.tried.Tried.{Tried}
use Rattle.replica_try.specs.declared.tried.Tried.TheVariants as tried
use Rattle.line_base.specs.Lines.{Line, Gives, Rests}
use Rattle.own_reply.specs.Closing.{asks_to_close, end_of}

-- ---- which replies close

-- a refusal behind which the connection can't go on: where its next request begins is in doubt, or
-- nobody knows
abbrev pub is_early : OwnError → Bool
is_early own.Version = true
is_early own.BadHead = true
is_early own.HeadTooLarge = true
is_early own.Connect = true
is_early own.Target = true
is_early own.Length = true
is_early own.Coding = true
is_early own.TooLong = true
is_early own.Host = true
is_early own.Body = true
is_early own.Unidentified = false
is_early own.Dtab = false
is_early own.Negative = false
is_early own.Failing = false
is_early own.Empty = false
is_early own.TooDeep = false
is_early own.TooWide = false
is_early own.Dial = false
is_early own.Upstream = false

-- a request with this framing has a body
abbrev pub has_body : Result Framing FramingFault → Bool
has_body (Ok Framing.Nothing) = false
has_body (Ok (Framing.Length n)) = nat_lt 0 n
has_body (Ok Framing.Chunked) = true
has_body (Ok Framing.ToEnd) = false
has_body (Err fault) = false

-- an own reply closes where it is early, where the request asks for it, and where the request has a
-- body, which may not have been read
abbrev pub own_closes : OwnError → Head → Bool
own_closes err head =
    is_early err || (asks_to_close head || has_body (framing_of head.version head.fields))

-- a reply to HEAD has no body
abbrev pub has_reply_body : Head → Bool
has_reply_body head = not (bytes_eq head.method (codes "HEAD"))

-- ---- the replies that the router makes

-- a reply was written whole, or a prefix of it, which the count of failed writes shows; or there
-- was no memory for it
abbrev pub Writes : Line → Line → List ℕ → Result (Unit {0}) Ended → Type 0
Writes old new reply (Ok x) = Gives old new reply × (new.write_faults ≡ old.write_faults)
Writes old new reply (Err ended.WriteFault) =
    (sent : List ℕ) × Gives old new sent × IsFrontOf reply sent
    × (new.write_faults ≡ raised old.write_faults)
Writes old new reply (Err ended.OutOfMemory) = Rests old new
Writes old new reply (Err ended.PeerEnded) = ⊥
Writes old new reply (Err ended.Cut) = ⊥
Writes old new reply (Err ended.Closed) = ⊥
Writes old new reply (Err ended.Spent) = ⊥
Writes old new reply (Err ended.Drained) = ⊥
Writes old new reply (Err ended.ReadFault) = ⊥
Writes old new reply (Err ended.UpstreamCut) = ⊥

-- how an exchange ends that was answered so
abbrev pub end_behind : Option Ended → Result (Unit {0}) Ended → Option Ended
end_behind end (Ok x) = end
end_behind end (Err e) = Some e

-- the router answered a request with a refusal
abbrev pub Refuses : OwnError → Head → Bool → Line → Line → Option Ended → Type 0
Refuses err head last old new result =
    (told : Result (Unit {0}) Ended) × Writes old new (reply_of err (own_closes err head || last)
    (has_reply_body head)) told
    × (result ≡ end_behind (end_of (own_closes err head) last) told)

-- the refusal where there is no replica
abbrev pub own_of_why : Why → OwnError
own_of_why why.Neg = own.Negative
own_of_why why.Fail = own.Failing
own_of_why why.Empty = own.Empty
own_of_why why.TooDeep = own.TooDeep
own_of_why why.TooWide = own.TooWide

-- ---- the ways of a try

-- the report that each way of a try makes of its replica
abbrev pub report_of : Tried → Option Bool
report_of tried.NotDialed = Some false
report_of (tried.NotSent moved) = Some false
report_of (tried.Silent moved) = Some false
report_of (tried.NoReply moved) = Some false
report_of (tried.ReplyCut moved status) = Some false
report_of (tried.Whole moved status closes reusable) = Some (nat_lt status 500)
report_of (tried.BadBody moved) = None
report_of (tried.LongBody moved) = None
report_of (tried.BodyCut moved) = None
report_of (tried.BodyFault moved) = None
report_of (tried.WrittenShort moved status) = None
report_of (tried.OutOfMemory moved status) = None

-- what each way is answered behind the report: a refusal, an end, or nothing more, where the reply
-- went back
abbrev pub Ends : Tried → Head → Bool → Line → Line → Option Ended → Type 0
Ends tried.NotDialed head last old new result = Refuses own.Dial head last old new result
Ends (tried.NotSent moved) head last old new result = Refuses own.Upstream head last old new result
Ends (tried.Silent moved) head last old new result = Refuses own.Upstream head last old new result
Ends (tried.NoReply moved) head last old new result = Refuses own.Upstream head last old new result
Ends (tried.BadBody moved) head last old new result = Refuses own.Body head last old new result
Ends (tried.LongBody moved) head last old new result = Refuses own.TooLong head last old new result
Ends (tried.BodyCut moved) head last old new result = Rests old new × (result ≡ Some ended.Cut)
Ends (tried.BodyFault moved) head last old new result =
    Rests old new × (result ≡ Some ended.ReadFault)
Ends (tried.ReplyCut moved status) head last old new result =
    Rests old new × (result ≡ Some ended.UpstreamCut)
Ends (tried.WrittenShort moved status) head last old new result =
    Rests old new × (result ≡ Some ended.WriteFault)
Ends (tried.OutOfMemory moved status) head last old new result =
    Rests old new × (result ≡ Some ended.OutOfMemory)
Ends (tried.Whole moved status closes reusable) head last old new result =
    Rests old new × (result ≡ end_of closes last)
