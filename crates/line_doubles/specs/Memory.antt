-- What the objects in memory hold.
use Rattle.std.specs.Prelude.{◌≡◌, ℕ, ◌-◌, ◌^◌, ◌==◌, nat_le, max, Bool, false, List}
use Rattle.std.specs.Prelude.{[], ◌∷◌, if◌then◌else◌, map, drop, Option, Some, None, Contains}
use Rattle.std.specs.Prelude.{slice_index_or, Result, Ok, Err}
use Rattle.line_base.specs.Accepts.{Listening}
use Rattle.line_base.specs.Counts.{raised}
use Rattle.line_base.specs.Dials.{Upstream}
use Rattle.line_base.specs.Files.{File, Filed}
use Rattle.line_base.specs.Lines.{Line}
use Rattle.line_base.specs.Nets.{Networking}
use Rattle.line_base.specs.Streams.{Input, Output}
use Rattle.line_base.specs.declared.dialer.ConnectionPool.{ConnectionPool}
use Rattle.line_base.specs.declared.dialer.DialEvent.{DialEvent}
use Rattle.line_base.specs.declared.event.Event.{Event}
use Rattle.line_base.specs.declared.event.Event.TheVariants.{Closed}
use Rattle.line_doubles.specs.declared.link.MemLink.{MemLink}
use Rattle.line_base.specs.declared.outside.Failed.{Failed}
use Rattle.line_base.specs.declared.outside.Next.{Next}
use Rattle.line_base.specs.declared.socket_address.SocketAddress.{SocketAddress}
use Rattle.line_base.specs.declared.outside.Next.TheVariants as next

-- when calls are to fail, and how many bytes each may move: calls are numbered from 0, and `calls`
-- is the number of the next one
pub record Plan : Type 0 where
  pub sizes : List ℕ
  pub failing : List ℕ
  pub calls : ℕ

-- the next call is one of those that are to fail
abbrev pub FailsNext : Plan → Type 0
FailsNext plan = Contains plan.failing plan.calls

-- the most bytes that the next call moves: its size, and at least 1. Past the last size there is no
-- bound
abbrev pub piece_of : Plan → ℕ
piece_of plan = max (slice_index_or plan.sizes plan.calls (2 ^ 64 - 1)) 1

-- the plan behind one call more
abbrev pub called : Plan → Plan
called plan = record { sizes = plan.sizes; failing = plan.failing; calls = raised plan.calls }

-- a call that asks for so many bytes is counted, unless they are none
abbrev pub behind_call : ℕ → Plan → Plan
behind_call asked plan = if asked == 0 then plan else called plan

-- a source: the bytes that it has yet to give, its plan, its faults, and its reads that gave the
-- end
pub record Giving : Type 0 where
  pub left : List ℕ
  pub plan : Plan
  pub faults : ℕ
  pub ends : ℕ

-- a sink: the bytes that it holds, for how many it has room before it asks for memory, its plan,
-- and its faults
pub record Taking : Type 0 where
  pub held : List ℕ
  pub room : ℕ
  pub plan : Plan
  pub faults : ℕ

-- when a connection says that its listeners are closing, from the question of this number on, if
-- they close at all; and the questions at which it says that nothing came, where they are open.
-- Questions are numbered from 0, `asked` is the number of the next one, `told` says how often it
-- said that they are closing, and `quiets` how often that nothing came
pub record Noticing : Type 0 where
  pub from : Option ℕ
  pub quiet : List ℕ
  pub asked : ℕ
  pub told : ℕ
  pub quiets : ℕ

-- the listeners stay open, and something comes at each question
abbrev pub no_notice : Noticing
no_notice = record { from = None; quiet = []; asked = 0; told = 0; quiets = 0 }

-- nothing comes at the next question
abbrev pub IsQuiet : Noticing → Type 0
IsQuiet n = Contains n.quiet n.asked

-- the question of this number is answered by that the listeners are closing
abbrev pub is_late : Option ℕ → ℕ → Bool
is_late None number = false
is_late (Some from) number = nat_le from number

abbrev pub is_due : Noticing → Bool
is_due n = is_late n.from n.asked

-- one question more was asked
abbrev pub questioned : Noticing → Noticing
questioned n = record {
  from = n.from;
  quiet = n.quiet;
  asked = raised n.asked;
  told = if is_due n then raised n.told else n.told;
  quiets = n.quiets;
}

-- it said that nothing came
abbrev pub quieted : Noticing → Noticing
quieted n = record {
  from = n.from;
  quiet = n.quiet;
  asked = n.asked;
  told = n.told;
  quiets = raised n.quiets;
}

-- one wait for the next request more, of this result
abbrev pub awaited : Result Next Failed → Noticing → Noticing
awaited (Ok (next.Bytes count)) n = questioned n
awaited (Ok next.End) n = questioned n
awaited (Ok next.Closing) n = questioned n
awaited (Ok next.Quiet) n = quieted (questioned n)
awaited (Err e) n = questioned n

-- a peer: the source that it gives from, the sink that it takes into, when it says that its
-- listeners are closing, and where its other end is, where it tells that
pub record Meeting : Type 0 where
  pub source : Giving
  pub sink : Taking
  pub notice : Noticing
  pub address : Option SocketAddress

-- a dialer: its log, where the open connection leads, the bytes that its other end has yet to give,
-- the connections that are kept, the pool that it was made with, the replies of those to come, its
-- plan, the calls that are to fail by waiting, whether the last one did, and its faults
pub record Dialing : Type 0 where
  pub log : List DialEvent
  pub open_to : Option (ℕ × ℕ)
  pub left : List ℕ
  pub kept : List MemLink
  pub pool : ConnectionPool
  pub replies : List (List ℕ)
  pub plan : Plan
  pub waiting : List ℕ
  pub late : Bool
  pub faults : ℕ

-- where a kept connection leads
abbrev pub address_of : MemLink → ℕ × ℕ
address_of link = (link.ip, link.port)

-- what a source, a sink, a peer, a dialer and folders in memory tell of themselves, which is all
abbrev pub input_of : Giving → Input
input_of s = record { left = Some s.left; faults = s.faults; ends = s.ends }

abbrev pub output_of : Taking → Output
output_of s = record { held = Some s.held; faults = s.faults }

abbrev pub line_of : Meeting → Line
line_of p = record {
  left = Some p.source.left;
  given = Some p.sink.held;
  read_faults = p.source.faults;
  write_faults = p.sink.faults;
  ends = p.source.ends;
  closings = p.notice.told;
  quiets = p.notice.quiets;
}

abbrev pub upstream_of : Dialing → Upstream
upstream_of d = record {
  log = Some d.log;
  left = Some d.left;
  open_to = d.open_to;
  kept = map address_of d.kept;
  pool = d.pool;
  late = d.late;
  faults = d.faults;
}

-- the reply that the next dial or resume is given, and none past the last
abbrev pub next_reply : List (List ℕ) → List ℕ
next_reply [] = []
next_reply (r ∷ rs) = r

-- a dial that was answered, or a resume, has its reply ahead, and those behind it are left
abbrev pub Answered : Dialing → Dialing → Type 0
Answered old new = (new.left ≡ next_reply old.replies) × (new.replies ≡ drop 1 old.replies)

-- a clock: the moments of a fork, and those to come
pub record Timing : Type 0 where
  pub all : Option (List ℕ)
  pub to_come : Option (List ℕ)

-- folders: their files, a plan of their calls, and their faults
pub record Filing : Type 0 where
  pub files : List File
  pub plan : Plan
  pub faults : ℕ

abbrev pub filed_of : Filing → Filed
filed_of d = record { files = Some d.files; faults = d.faults }

-- a listener: what it tells, the events that are to come, a plan of its waits, and its faults
pub record Hosting (P : Type 0) : Type 0 where
  pub state : Listening P
  pub coming : List (Event P)
  pub plan : Plan
  pub faults : ℕ

-- a net: what it tells, a plan of its calls that listen, and its faults
pub record Linking (P : Type 0) : Type 0 where
  pub state : Networking P
  pub plan : Plan
  pub faults : ℕ

-- an open listener tells the next of its events, and behind the last that it is closed
abbrev pub TellsNext : {P : Type 0} → List (Event P) → List (Event P) → Event P → Type 0
TellsNext [] new event = (event ≡ Closed) × (new ≡ [])
TellsNext (e ∷ es) new event = (event ≡ e) × (new ≡ es)
