-- A try of a replica: the request goes on, and the reply goes back.
use Rattle.std.specs.Prelude.{◌≡◌, ◌≢◌, ◌⊎◌, ℕ, ◌==◌, ◌&&◌, ◌||◌, Bool, true, false, not}
use Rattle.std.specs.Prelude.{if◌then◌else◌, List, [], ◌∷◌, ◌++◌, length, map, Option, Some, None}
use Rattle.std.specs.Prelude.{Result, Ok, Err}
use Rattle.std.specs.List.{concat}
use Rattle.std.specs.Option.{IsSome}
use Rattle.std.specs.Io.KnownBytes.{Appends, Consumes, Keeps}
use Rattle.line_base.specs.Counts.{raised}
use Rattle.line_base.specs.declared.dialer.DialEvent.{DialEvent}
use Rattle.line_base.specs.declared.dialer.DialEvent.TheVariants.{Dialed, Resumed, Sent, Got}
use Rattle.line_base.specs.declared.dialer.DialEvent.TheVariants.{Hung, Kept}
use Rattle.addr_book.specs.declared.addr.Addr.{Addr}
use Rattle.http_wire.specs.declared.frames.Framing.{Framing}
use Rattle.http_wire.specs.declared.head.Head.{Head}
use Rattle.http_wire.specs.declared.head.ReplyHead.{ReplyHead}
use Rattle.http.specs.Method.{idempotent_methods, is_among}
use Rattle.http_wire.specs.Fields.{names_close}
use Rattle.body_wire.specs.declared.end.BodyEnd.{BodyEnd}
use Rattle.body_wire.specs.declared.end.BodyEnd.TheVariants.{BadChunk, Cut, TooLong, ReadFault}
use Rattle.body_wire.specs.declared.end.BodyEnd.TheVariants.{WriteFault, SendFault, RecvFault}
use Rattle.body_wire.specs.declared.end.BodyEnd.TheVariants.{OutOfMemory}
use Rattle.body_wire.specs.Passing.{CountsEnd, EndsPieces, HasNoneBehind, PassesOn, RaisedAt}
use Rattle.body_wire.specs.Passing.{form_of, most_passed, runs_to_end}
use Rattle.forward.specs.Returned.{returned}
use Rattle.own_reply.specs.Closing.{asks_to_close}
use Rattle.replica_try.specs.declared.final_head.HeadFault.{HeadFault}
use Rattle.replica_try.specs.declared.moved.Moved.{Moved}
use Rattle.replica_try.specs.declared.tried.Tried.{Tried}
use Rattle.replica_try.specs.declared.tried.Tried.TheVariants as tried
use Rattle.replica_try.specs.Heads.{Hears}
use Rattle.line_base.specs.Dials.{Upstream, Grows, Logs, has_room}
use Rattle.line_base.specs.Lines.{Line, Rests}

-- ---- the request goes on

-- of the request so many content bytes were taken to go on, and none of a reply
abbrev pub only_sent : ℕ → Moved
only_sent n = record { sent = n; given = 0 }

-- its head and its body were sent to a connection, behind one another, or a front of them. `count`
-- is the number of the content bytes
pub record GoesOn
    (head : List ℕ) (framing : Framing) (old new : Line) (kept kept_after : List ℕ)
    (faults faults_now : ℕ) (sent : List ℕ) (result : Result ℕ BodyEnd)
    : Type 0 where
  pub came : List (List ℕ)
  pub count : ℕ
  pub taken : Consumes old.left new.left (concat came)
  pub passes :
      PassesOn framing (form_of true) most_passed head kept came sent kept_after count result
  pub ends : CountsEnd framing old.ends new.ends result
  pub none_left : HasNoneBehind framing new.left result
  pub reads : RaisedAt (Err ReadFault) old.read_faults new.read_faults result
  pub sends : RaisedAt (Err SendFault) faults faults_now result
  pub never : (result ≢ Err WriteFault) × (result ≢ Err RecvFault)
  pub given : Keeps old.given new.given
  pub writes : new.write_faults ≡ old.write_faults
  pub closings : new.closings ≡ old.closings
  pub quiets : new.quiets ≡ old.quiets

-- how a try ends whose body did not go on whole
abbrev pub tried_of_body : ℕ → BodyEnd → Tried
tried_of_body sent (BadChunk n) = tried.BadBody (only_sent sent)
tried_of_body sent Cut = tried.BodyCut (only_sent sent)
tried_of_body sent TooLong = tried.LongBody (only_sent sent)
tried_of_body sent ReadFault = tried.BodyFault (only_sent sent)
tried_of_body sent WriteFault = tried.OutOfMemory (only_sent sent) None
tried_of_body sent SendFault = tried.NotSent (only_sent sent)
tried_of_body sent RecvFault = tried.OutOfMemory (only_sent sent) None
tried_of_body sent OutOfMemory = tried.OutOfMemory (only_sent sent) None

-- ---- the reply goes back

-- its head and its body were written to the client, or a front of them, while these pieces were
-- got. `count` is the number of the content bytes
pub record GoesBack
    (head : List ℕ) (framing : Framing) (chunked : Bool) (old new : Line) (kept kept_after : List ℕ)
    (faults faults_now : ℕ) (got : List (List ℕ)) (result : Result ℕ BodyEnd)
    : Type 0 where
  pub written : List ℕ
  pub count : ℕ
  pub given : Appends old.given new.given written
  pub passes :
      PassesOn framing (form_of chunked) most_passed head kept got written kept_after count result
  pub ended : EndsPieces framing got result
  pub receives : RaisedAt (Err RecvFault) faults faults_now result
  pub writes : RaisedAt (Err WriteFault) old.write_faults new.write_faults result
  pub never : (result ≢ Err ReadFault) × (result ≢ Err SendFault)
  pub left : Keeps old.left new.left
  pub reads : new.read_faults ≡ old.read_faults
  pub ends : new.ends ≡ old.ends
  pub closings : new.closings ≡ old.closings
  pub quiets : new.quiets ≡ old.quiets

-- how a try ends whose reply went back whole, or not. `closes` says whether the client's connection
-- closes behind it, and `reusable` whether the replica's may carry another request
abbrev pub tried_of_back : Moved → ℕ → Bool → Bool → Result ℕ BodyEnd → Tried
tried_of_back moved status closes reusable (Ok n) = tried.Whole moved status closes reusable
tried_of_back moved status closes reusable (Err (BadChunk n)) = tried.ReplyCut moved status
tried_of_back moved status closes reusable (Err Cut) = tried.ReplyCut moved status
tried_of_back moved status closes reusable (Err TooLong) = tried.ReplyCut moved status
tried_of_back moved status closes reusable (Err ReadFault) = tried.OutOfMemory moved (Some status)
tried_of_back moved status closes reusable (Err WriteFault) = tried.WrittenShort moved status
tried_of_back moved status closes reusable (Err SendFault) = tried.OutOfMemory moved (Some status)
tried_of_back moved status closes reusable (Err RecvFault) = tried.ReplyCut moved status
tried_of_back moved status closes reusable (Err OutOfMemory) =
    tried.OutOfMemory moved (Some status)

-- a connection closes behind a request that asks for that, and behind a reply whose body runs to
-- its end
abbrev pub closes_behind : Head → Framing → Bool
closes_behind head framing = asks_to_close head || runs_to_end framing

-- a connection to a replica may carry another request behind a reply that it gave whole (RFC 9112,
-- section 9.3): the reply is of HTTP/1.1, does not say that the connection closes, and does not run
-- to its end, and of what was received `left` is left behind the reply, which is nothing
abbrev pub is_reusable : ReplyHead → Framing → List ℕ → Bool
is_reusable reply framing left =
    (reply.version == 1) && (not (names_close reply.fields) && (not (runs_to_end framing)
    && (length left == 0)))

-- the client knows chunks
abbrev pub knows_chunks : Head → Bool
knows_chunks head = not (head.version == 0)

-- the reply to a request goes back behind its own head, unless there was no memory for that. Of the
-- request `sent` content bytes went on
abbrev pub Backs : Head → Bool → ℕ → ReplyHead → Framing → Line → Line → List ℕ → ℕ → ℕ
    → List (List ℕ) → Tried → Type 0
Backs head last sent reply framing old new kept faults faults_now got how =
    (Rests old new × (faults_now ≡ faults) × (got ≡ [])
    × (how ≡ tried.OutOfMemory (only_sent sent) None))
    ⊎ ((kept_after : List ℕ) × (result : Result ℕ BodyEnd)
    × (back : GoesBack
    (returned reply framing (knows_chunks head) (closes_behind head framing || last))
    framing (knows_chunks head) old new kept kept_after faults faults_now got result)
    × (how ≡ tried_of_back (record { sent = sent; given = back.count }) reply.status
    (closes_behind head framing) (is_reusable reply framing kept_after) result))

-- how a try ends whose reply has no final head
abbrev pub tried_of_head : ℕ → HeadFault → Tried
tried_of_head sent HeadFault.Silent = tried.Silent (only_sent sent)
tried_of_head sent HeadFault.NoReply = tried.NoReply (only_sent sent)
tried_of_head sent HeadFault.OutOfMemory = tried.OutOfMemory (only_sent sent) None

-- a final head was got, and the reply goes back; or none was
abbrev pub Replies : Head → Bool → ℕ → Line → Line → ℕ → ℕ → List (List ℕ) → Tried → Type 0
Replies head last sent old new faults faults_now got how =
    ((fault : HeadFault) × (kept : List ℕ)
    × Hears head.method [] kept got faults faults_now (Err fault) × Rests old new
    × (how ≡ tried_of_head sent fault))
    ⊎ ((reply : ReplyHead) × (framing : Framing) × (kept : List ℕ) × (between : ℕ)
    × (before : List (List ℕ)) × (behind : List (List ℕ))
    × Hears head.method [] kept before faults between (Ok (reply, framing))
    × Backs head last sent reply framing old new kept between faults_now behind how
    × (got ≡ before ++ behind))

-- ---- over an open connection

-- the request went on, and then the reply came; or the request did not go on whole
abbrev pub Converses : Head → List ℕ → Framing → Bool → Line → Line → List ℕ → List ℕ → ℕ → ℕ
    → List ℕ → List (List ℕ) → Tried → Type 0
Converses head onward framing last old new kept kept_after faults faults_now sent got how =
    ((end : BodyEnd) × (goes : GoesOn onward framing old new kept kept_after faults faults_now sent
    (Err end)) × (got ≡ []) × (how ≡ tried_of_body goes.count end))
    ⊎ ((n : ℕ) × (mid : Line) × (between : ℕ)
    × GoesOn onward framing old mid kept kept_after faults between sent (Ok n)
    × Replies head last n mid new between faults_now got how)

-- ---- what becomes of the connection

-- the connection may carry another request behind a try that went so
abbrev pub leaves_reusable : Tried → Bool
leaves_reusable (tried.Whole moved status closes reusable) = reusable
leaves_reusable tried.NotDialed = false
leaves_reusable (tried.NotSent moved) = false
leaves_reusable (tried.BadBody moved) = false
leaves_reusable (tried.LongBody moved) = false
leaves_reusable (tried.BodyCut moved) = false
leaves_reusable (tried.BodyFault moved) = false
leaves_reusable (tried.Silent moved) = false
leaves_reusable (tried.NoReply moved) = false
leaves_reusable (tried.ReplyCut moved status) = false
leaves_reusable (tried.WrittenShort moved status) = false
leaves_reusable (tried.OutOfMemory moved status) = false

-- so it is kept, where the dialer keeps any, and else ended
abbrev pub stop_of : Bool → Tried → DialEvent
stop_of keeps how = if keeps && leaves_reusable how then Kept else Hung

-- no byte of a reply came: the request could not be sent, or what was received is nothing
abbrev pub is_silent : Tried → Bool
is_silent (tried.NotSent moved) = true
is_silent (tried.Silent moved) = true
is_silent tried.NotDialed = false
is_silent (tried.BadBody moved) = false
is_silent (tried.LongBody moved) = false
is_silent (tried.BodyCut moved) = false
is_silent (tried.BodyFault moved) = false
is_silent (tried.NoReply moved) = false
is_silent (tried.ReplyCut moved status) = false
is_silent (tried.WrittenShort moved status) = false
is_silent (tried.Whole moved status closes reusable) = false
is_silent (tried.OutOfMemory moved status) = false

-- how much of both bodies moved
abbrev pub moved_in : Tried → Moved
moved_in tried.NotDialed = only_sent 0
moved_in (tried.NotSent moved) = moved
moved_in (tried.BadBody moved) = moved
moved_in (tried.LongBody moved) = moved
moved_in (tried.BodyCut moved) = moved
moved_in (tried.BodyFault moved) = moved
moved_in (tried.Silent moved) = moved
moved_in (tried.NoReply moved) = moved
moved_in (tried.ReplyCut moved status) = moved
moved_in (tried.WrittenShort moved status) = moved
moved_in (tried.Whole moved status closes reusable) = moved
moved_in (tried.OutOfMemory moved status) = moved

-- the status of the reply that went back, whole or in part
abbrev pub status_in : Tried → Option ℕ
status_in tried.NotDialed = None
status_in (tried.NotSent moved) = None
status_in (tried.BadBody moved) = None
status_in (tried.LongBody moved) = None
status_in (tried.BodyCut moved) = None
status_in (tried.BodyFault moved) = None
status_in (tried.Silent moved) = None
status_in (tried.NoReply moved) = None
status_in (tried.ReplyCut moved status) = Some status
status_in (tried.WrittenShort moved status) = Some status
status_in (tried.Whole moved status closes reusable) = Some status
status_in (tried.OutOfMemory moved status) = status

-- no byte of the client's connection is read for a body that is framed so
abbrev pub is_without_body : Framing → Bool
is_without_body Framing.Nothing = true
is_without_body (Framing.Length n) = n == 0
is_without_body Framing.Chunked = false
is_without_body Framing.ToEnd = false

-- a request that a replica may be sent again, though one may have carried it out already
abbrev pub is_repeatable : Head → Framing → Bool
is_repeatable head framing = is_without_body framing && is_among idempotent_methods head.method

-- ---- the whole try

-- no connection was opened, which the dialer's count shows
pub record NotDialed
    (old new : Line) (kept kept_after : List ℕ) (before now : Upstream) (how : Tried)
    : Type 0 where
  pub line : Rests old new
  pub kept_is : kept_after ≡ kept
  pub log : Grows before.log now.log []
  pub fault : now.faults ≡ raised before.faults
  pub how_is : how ≡ tried.NotDialed
  pub closed : now.open_to ≡ None
  pub pool : now.pool ≡ before.pool

-- Over an open connection the two spoke, and then it was kept or ended. None is open behind that
pub record Speaks
    (head : Head) (onward : List ℕ) (framing : Framing) (last : Bool) (old new : Line)
    (kept kept_after : List ℕ) (before now : Upstream) (how : Tried)
    : Type 0 where
  pub sent : List (List ℕ)
  pub got : List (List ℕ)
  pub log :
      Grows before.log now.log
      (map Sent sent ++ (map Got got ++ stop_of (has_room before.pool) how ∷ []))
  pub spoke :
      Converses head onward framing last old new kept kept_after before.faults now.faults
      (concat sent) got how
  pub closed : now.open_to ≡ None
  pub pool : now.pool ≡ before.pool

-- a visit: a connection was opened or taken up again first, which `start` says
pub record Visits
    (start : DialEvent) (head : Head) (onward : List ℕ) (framing : Framing) (last : Bool)
    (old new : Line) (kept kept_after : List ℕ) (before now : Upstream) (how : Tried)
    : Type 0 where
  pub sent : List (List ℕ)
  pub got : List (List ℕ)
  pub log :
      Grows before.log now.log (start ∷
      (map Sent sent ++ (map Got got ++ stop_of (has_room before.pool) how ∷ [])))
  pub spoke :
      Converses head onward framing last old new kept kept_after before.faults now.faults
      (concat sent) got how
  pub closed : now.open_to ≡ None
  pub pool : now.pool ≡ before.pool

-- over a new connection, unless none was opened
abbrev pub TriesAnew : Head → List ℕ → Framing → Bool → Addr → Line → Line → List ℕ → List ℕ
    → Upstream → Upstream → Tried → Type 0
TriesAnew head onward framing last addr old new kept kept_after before now how =
    NotDialed old new kept kept_after before now how
    ⊎ Visits (Dialed addr.ip addr.port) head onward framing last old new kept kept_after before now
    how

-- a visit over a kept connection that is not made again over a new one: a byte of a reply came, or
-- the request itself ended it, or the wait was too long
pub record IsAnswered
    (head : Head) (onward : List ℕ) (framing : Framing) (last : Bool) (addr : Addr) (old new : Line)
    (kept kept_after : List ℕ) (before now : Upstream) (how : Tried)
    : Type 0 where
  pub visit :
      Visits (Resumed addr.ip addr.port) head onward framing last old new kept kept_after before now
      how
  pub heard : (is_silent how && not now.late) ≡ false

-- a silent visit over a kept connection, which the other end may have ended at any moment, and the
-- try behind it, over a new connection to the same address. The silence is not reported, and no
-- other replica is picked for it
pub record IsTriedTwice
    (head : Head) (onward : List ℕ) (framing : Framing) (last : Bool) (addr : Addr) (old new : Line)
    (kept kept_after : List ℕ) (before now : Upstream) (how : Tried)
    : Type 0 where
  pub line : Line
  pub left : List ℕ
  pub mid : Upstream
  pub first : Tried
  pub visit :
      Visits (Resumed addr.ip addr.port) head onward framing last old line kept left before mid
      first
  pub silent : (is_silent first && not mid.late) ≡ true
  pub anew : TriesAnew head onward framing last addr line new left kept_after mid now how

-- a connection was taken up again that was kept to the address: the dialer keeps some, and the
-- request may be sent again
pub record TakesUp (head : Head) (framing : Framing) (addr : Addr) (before now : Upstream)
    : Type 0 where
  pub any : has_room before.pool ≡ true
  pub again : is_repeatable head framing ≡ true
  pub log : Logs before.log now.log (Resumed addr.ip addr.port)
  pub faults : now.faults ≡ before.faults
  pub pool : now.pool ≡ before.pool
  pub open_ : IsSome now.open_to

-- none was
pub record TakesNone (before now : Upstream) : Type 0 where
  pub log : Grows before.log now.log []
  pub faults : now.faults ≡ before.faults
  pub pool : now.pool ≡ before.pool

-- the same, once the kept connection was taken up
abbrev pub GoesOnKept : Head → List ℕ → Framing → Bool → Addr → Line → Line → List ℕ → List ℕ
    → Upstream → Upstream → Tried → Type 0
GoesOnKept head onward framing last addr old new kept kept_after before now how =
    (Speaks head onward framing last old new kept kept_after before now how
    × ((is_silent how && not now.late) ≡ false))
    ⊎ ((line : Line) × (left : List ℕ) × (mid : Upstream) × (first : Tried)
    × Speaks head onward framing last old line kept left before mid first
    × ((is_silent first && not mid.late) ≡ true)
    × TriesAnew head onward framing last addr line new left kept_after mid now how)

-- A try. It may begin over a connection that was kept to the same address, where the dialer keeps
-- any and the request may be sent again; and where that connection was silent, the same bytes go
-- over a new one
abbrev pub Tries : Head → List ℕ → Framing → Bool → Addr → Line → Line → List ℕ → List ℕ → Upstream
    → Upstream → Tried → Type 0
Tries head onward framing last addr old new kept kept_after before now how =
    TriesAnew head onward framing last addr old new kept kept_after before now how
    ⊎ ((has_room before.pool ≡ true) × (is_repeatable head framing ≡ true)
    × (IsAnswered head onward framing last addr old new kept kept_after before now how
    ⊎ IsTriedTwice head onward framing last addr old new kept kept_after before now how))
