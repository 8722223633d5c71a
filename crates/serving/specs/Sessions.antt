-- What a worker does with the connections of clients, a turn at a time.
use Rattle.std.specs.Prelude.{◌≡◌, ◌⊎◌, Bool, true, ℕ, List, Option}
use Rattle.exchange_record.specs.declared.recorder.ConnectionStep.{ConnectionStep}
use Rattle.exchange_record.specs.declared.recorder.ConnectionStep.TheVariants as connection
use Rattle.exchange_record.specs.declared.recorder.Recorder.{Ghosts as Recording}
use Rattle.exchange_record.specs.Told.{Records}
use Rattle.http_wire.specs.declared.ended.Ended.{Ended}
use Rattle.http_wire.specs.declared.ended.Ended.TheVariants as ended
use Rattle.http_wire.specs.declared.paused.Paused.{Paused}
use Rattle.http_wire.specs.declared.paused.Paused.TheVariants as paused
use Rattle.serving.specs.declared.policy.Policy.{Policy}
use Rattle.machine.specs.Values.{SettingsValue}
use Rattle.router.specs.declared.naming.Naming.{Ghosts}
use Rattle.proxy_session.specs.declared.server.Server.{Server}
use Rattle.proxy_session.specs.Idle.{EndsIdle}
use Rattle.line_base.specs.declared.socket_address.SocketAddress.{SocketAddress}
use Rattle.line_base.specs.Dials.{Upstream}
use Rattle.line_base.specs.Lines.{Line}
use Rattle.client_stays.specs.Chains.{CameTo, Idle, came}
use Rattle.client_stays.specs.Recorded.{told_with}
use Rattle.client_stays.specs.Servers.{ServerValue, StaysWith, server_value}
use Rattle.workers.specs.Turns.{Begin, End, Turn, from_peer, from_stay, given_back, left}

-- what goes on from one turn to the next: the server, whether a stay ran out of memory, and what
-- is told of the connections and the exchanges
pub record Going (K : Type 0) : Type 0 where
  pub server : ServerValue
  pub lacked_memory : Bool
  pub recorder : K

abbrev pub going_with : {K : Type 0} → K → Going K → Going K
going_with recorder g = record {
  server = g.server;
  lacked_memory = g.lacked_memory;
  recorder = recorder;
}

-- a stay that ended so ran out of memory, or one before it
abbrev pub lacked_behind : Bool → Ended → Bool
lacked_behind before ended.OutOfMemory = true
lacked_behind before ended.PeerEnded = before
lacked_behind before ended.Cut = before
lacked_behind before ended.Closed = before
lacked_behind before ended.Spent = before
lacked_behind before ended.Drained = before
lacked_behind before ended.ReadFault = before
lacked_behind before ended.WriteFault = before
lacked_behind before ended.UpstreamCut = before

-- in a stay that came out so, or before it
abbrev pub lacked_in : Bool → Paused → Bool
lacked_in before paused.Quiet = before
lacked_in before (paused.Ended end) = lacked_behind before end

-- a server, by what its dialer and its clock tell of themselves, whether a stay ran out of memory
-- so far, and a recorder
module _ {J D C K : Type 0} {g : Ghosts J} (upstream_of : D → Upstream)
    (moments_of : C → Option (List ℕ)) where
  abbrev pub going_by : Server J D C g → Bool → K → Going K
  going_by s lacked_memory recorder = record {
    server = server_value upstream_of moments_of s;
    lacked_memory = lacked_memory;
    recorder = recorder;
  }

-- a server with a dialer that tells this
abbrev pub with_upstream : Upstream → ServerValue → ServerValue
with_upstream upstream s = record {
  upstream = upstream;
  caller = s.caller;
  moments = s.moments;
  words = s.words;
}

-- how a turn ends behind a stay that came out so: its connection waits as the stay left it, or its
-- client is given back
abbrev pub EndsAs : {P : Type 0} → (P → Line) → Idle → Paused → End P Idle → Type 0
EndsAs line_of behind paused.Quiet (left idle) = idle ≡ behind
EndsAs line_of behind paused.Quiet (given_back peer) = ⊥
EndsAs line_of behind (paused.Ended end) (left idle) = ⊥
EndsAs line_of behind (paused.Ended end) (given_back peer) = line_of peer ≡ behind.line

-- what a recorder is told of the connection with which a turn begins, and of what became of it
abbrev pub step_in : {P : Type 0} → Begin P Idle → ConnectionStep
step_in (from_peer peer) = connection.Came
step_in (from_stay idle) = connection.Taken

abbrev pub step_out : {P : Type 0} → End P Idle → ConnectionStep
step_out (left idle) = connection.Left
step_out (given_back peer) = connection.Finished

-- a turn was a stay of this connection, with what the turn before it left. The recorder was told of
-- its exchanges, and then of what became of the connection. Behind the stay connections to replicas
-- that were kept for too long are ended
pub record IsServed
    {K P : Type 0} (line_of : P → Line) (k : Recording K) (settings : SettingsValue)
    (policy : Policy) (idle : Idle) (old : Going K) (end : End P Idle) (new : Going K)
    : Type 0 where
  pub behind : Idle
  pub paused : Paused
  pub dialer : Upstream
  pub stay :
      StaysWith settings policy.rule idle old.server (with_upstream dialer new.server) behind paused
  pub ends_idle : EndsIdle dialer new.server.upstream
  pub ends : EndsAs line_of behind paused end
  pub lacked : new.lacked_memory ≡ lacked_in old.lacked_memory paused
  pub recorded : K
  pub records :
      Records k.begins k.ends old.recorder
      (told_with settings policy.rule idle old.server (with_upstream dialer new.server) behind
      paused stay)
      recorded
  pub settles : k.steps recorded (step_out end) new.recorder

module _ {P : Type 0} (line_of : P → Line) (address_of : P → Option SocketAddress) where
  -- the connection with which a turn begins: that of a client that came, with a budget of its own
  -- where requests may be tried again, or one that waited
  abbrev pub begun_by : {K : Type 0} → Policy → Going K → Begin P Idle → Idle
  begun_by policy old (from_peer peer) =
      came policy.retries (line_of peer) (address_of peer) old.server.caller.seen
  begun_by policy old (from_stay idle) = idle

module _ {K P : Type 0} (line_of : P → Line) (k : Recording K) where
  -- a connection that waited was ended, of which the recorder was told, and nothing else moved
  abbrev pub IsEnded : Begin P Idle → End P Idle → Going K → Going K → Type 0
  IsEnded (from_stay idle) (given_back peer) old new =
      (line_of peer ≡ idle.line) × k.steps old.recorder connection.Finished new.recorder
      × (new ≡ going_with new.recorder old)
  IsEnded (from_stay idle) (left after) old new = ⊥
  IsEnded (from_peer peer) end old new = ⊥

-- some stays led to a connection that waited from a client that came
abbrev pub HasCome : {P : Type 0} → SettingsValue → Policy → Begin P Idle → Type 0
HasCome settings policy (from_peer peer) = Unit {0}
HasCome settings policy (from_stay idle) = CameTo settings policy.rule policy.retries idle

-- one turn: the recorder was told that a client came, or that a connection was taken up that
-- waited. Then this had a stay; or it was ended, if it had waited
pub record Attends {K P : Type 0} (line_of : P → Line) (address_of : P → Option SocketAddress)
    (k : Recording K) (settings : SettingsValue) (policy : Policy) (old : Going K)
    (t : Turn P Idle) (new : Going K) : Type 0 where
  pub come : HasCome settings policy t.begin
  pub begun : K
  pub begins : k.steps old.recorder (step_in t.begin) begun
  pub turn :
      IsServed line_of k settings policy (begun_by line_of address_of policy old t.begin)
      (going_with begun old) t.end new
      ⊎ IsEnded line_of k t.begin t.end (going_with begun old) new
