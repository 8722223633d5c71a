-- A stay of a connection, as a server and the connection see it.
use Rattle.std.specs.Prelude.{◌≡◌, ℕ, List, Option}
use Rattle.http_wire.specs.declared.paused.Paused.{Paused}
use Rattle.http_wire.specs.declared.paused.Paused.TheVariants as paused
use Rattle.identifier.specs.declared.rule.Rule.{Rule}
use Rattle.line_base.specs.Dials.{Upstream}
use Rattle.line_base.specs.Lines.{Line}
use Rattle.machine.specs.Values.{SettingsValue}
use Rattle.rand_pcg.specs.Lcg.{Lcg}
use Rattle.router.specs.declared.naming.Naming.{Ghosts}
use Rattle.router_log.specs.Operation.{Operation}
use Rattle.snap_cell.specs.History.{longer}
use Rattle.proxy_session.specs.Callers.{Caller, caller_of}
use Rattle.proxy_session.specs.Exchange.{Standing}
use Rattle.proxy_session.specs.Session.{StaysTo}
use Rattle.proxy_session.specs.declared.server.Server.{Server}
use Rattle.client_stays.specs.declared.stayed.Stayed.{Stayed}
use Rattle.client_stays.specs.declared.stayed.Stayed.TheVariants as stayed
use Rattle.client_stays.specs.Chains.{GoesOn, Idle, Visit, idle_behind}

-- what a server has between two stays, and the next stay goes on with: the dialer, the pass, the
-- clock's moments to come, and the generator of words
pub record ServerValue : Type 0 where
  pub upstream : Upstream
  pub caller : Caller
  pub moments : Option (List ℕ)
  pub words : Lcg

module _ {J D C : Type 0} {g : Ghosts J} (upstream_of : D → Upstream)
    (moments_of : C → Option (List ℕ)) where
  abbrev pub server_value : Server J D C g → ServerValue
  server_value s = record {
    upstream = upstream_of s.way.dialer;
    caller = caller_of s.pass;
    moments = moments_of s.clock;
    words = s.words;
  }

-- the server in a stay
abbrev pub server_in : Standing → ServerValue
server_in s = record {
  upstream = s.upstream;
  caller = s.caller;
  moments = s.moments;
  words = s.words;
}

-- a caller that has seen these, and is as it was in all else
abbrev pub having_seen : List Operation → Caller → Caller
having_seen seen c = record {
  number = c.number;
  seen = seen;
  items = c.items;
  reads = c.reads;
  taken = c.taken;
  slot = c.slot;
}

-- a server that learned what had been seen for a connection: from then on it has seen that, or what
-- it had seen where that was more
abbrev pub having_learned : List Operation → ServerValue → ServerValue
having_learned told s = record {
  upstream = s.upstream;
  caller = having_seen (longer s.caller.seen told) s.caller;
  moments = s.moments;
  words = s.words;
}

-- One stay of a connection with a server: the server learns first what was seen for it, and then
-- goes on with it. Behind it the connection is such, and came out so
pub record StaysWith
    (settings : SettingsValue) (rule : Rule) (idle : Idle) (old new : ServerValue) (behind : Idle)
    (result : Paused)
    : Type 0 where
  pub visit : Visit
  pub learns : server_in visit.old ≡ having_learned idle.seen old
  pub goes_on : GoesOn idle visit
  pub stay :
      StaysTo settings rule visit.from visit.upto visit.before visit.behind visit.old visit.new
      result
  pub leaves : new ≡ server_in visit.new
  pub behind_is : behind ≡ idle_behind idle visit

-- so it came out: it waits, or it has ended, and its client tells so much
abbrev pub HasStayed : {P : Type 0} → (P → Line) → SettingsValue → Rule → Idle → ServerValue
    → ServerValue → Stayed Idle P → Type 0
HasStayed line_of settings rule idle old new (stayed.Waits behind) =
    StaysWith settings rule idle old new behind paused.Quiet
HasStayed line_of settings rule idle old new (stayed.Ends peer end) =
    (behind : Idle) × StaysWith settings rule idle old new behind (paused.Ended end)
    × (line_of peer ≡ behind.line)
