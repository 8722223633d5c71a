-- What sockets tell: numbers, and no content.
use Rattle.std.specs.Prelude.{◌≡◌, ℕ, ◌<◌, List, length, slice_index_or, None, Result, Ok, Err}
use Rattle.std.specs.Io.{ReadsAtMost}
use Rattle.line_base.specs.Accepts.{Listening}
use Rattle.line_base.specs.Nets.{Networking}
use Rattle.line_base.specs.declared.outside.Next.{Next}
use Rattle.line_base.specs.declared.outside.Next.TheVariants.{Bytes, End, Closing, Quiet}
use Rattle.net_edge.specs.declared.sockets.listener.SocketListener.{SocketListener}
use Rattle.net_edge.specs.declared.sockets.peer.SocketPeer.{SocketPeer}

-- a listener
abbrev pub listening : {R : Type 0} → SocketListener R → Listening SocketPeer
listening l = record {
  endpoint = None;
  visits = None;
  closes = l.closes;
  accepted = l.accepted;
  finished = l.finished;
  run = l.run;
}

-- a net, by the listeners that came back clean, the peers that those had handed out and taken back,
-- the stops that it handed out, and those that came back
abbrev pub networking : ℕ → ℕ → ℕ → ℕ → ℕ → Networking SocketPeer
networking clean accepted finished given returned = record {
  told = None;
  clean = clean;
  accepted = accepted;
  finished = finished;
  stops_given = given;
  stops_returned = returned;
}

-- a listener before its first call
pub record IsFresh {R : Type 0} (l : SocketListener R) : Type 0 where
  pub closes : l.closes ≡ 0
  pub accepted : l.accepted ≡ 0
  pub finished : l.finished ≡ 0
  pub run : l.run ≡ 0
  pub faults : l.faults ≡ 0

-- each of these is
abbrev pub AllFresh : {R : Type 0} → List (SocketListener R) → Type 0
AllFresh {R} ls =
    (at : ℕ) (d : SocketListener R) → at < length ls → IsFresh (slice_index_or ls at d)

-- what came of a wait for a next request fits the buffer, and is at least one byte, where bytes
-- came
abbrev pub NextAtMost : {E : Type 0} → Result Next E → List ℕ → Type 0
NextAtMost {E} (Ok (Bytes count)) buffer = (0 < count) × ReadsAtMost {E = E} (Ok count) buffer
NextAtMost {E} (Ok End) buffer = Unit {0}
NextAtMost {E} (Ok Closing) buffer = Unit {0}
NextAtMost {E} (Ok Quiet) buffer = Unit {0}
NextAtMost {E} (Err error) buffer = Unit {0}
