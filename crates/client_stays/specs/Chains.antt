-- The stays of a connection, one after another, with whichever servers.
use Rattle.std.specs.Prelude.{◌≡◌, ℕ, ◌+◌, ◌<◌, List, [], ◌∷◌, Option, option_map}
use mathlib.Core.List.{IsPrefix}
use Rattle.http_wire.specs.declared.paused.Paused.TheVariants as paused
use Rattle.identifier.specs.declared.rule.Rule.{Rule}
use Rattle.line_base.specs.declared.socket_address.SocketAddress.{SocketAddress}
use Rattle.line_base.specs.Lines.{Line}
use Rattle.machine.specs.Values.{SettingsValue}
use Rattle.retry_budget.specs.declared.tries.Tries.{Tries}
use Rattle.retry_budget.specs.Budget.{BudgetValue, opening}
use Rattle.router_log.specs.Operation.{Operation}
use Rattle.proxy_session.specs.Exchange.{Standing}
use Rattle.proxy_session.specs.Session.{StaysTo}

-- a connection between two of its stays: what its client told when it came and what it tells now,
-- where the client is, if it told that when it came, how many requests the connection has had, its
-- budget of retries, and the operations that were seen for it
pub record Idle : Type 0 where
  pub first : Line
  pub line : Line
  pub client : Option SocketAddress
  pub served : ℕ
  pub budget : Option BudgetValue
  pub seen : List Operation

abbrev pub idle_by : Line → Line → Option SocketAddress → ℕ → Option BudgetValue → List Operation
    → Idle
idle_by first line client served budget seen = record {
  first = first;
  line = line;
  client = client;
  served = served;
  budget = budget;
  seen = seen;
}

-- that of a client at this address that came to a server which had seen these
abbrev pub came : Option Tries → Line → Option SocketAddress → List Operation → Idle
came tries line client seen = idle_by line line client 0 (option_map opening tries) seen

-- one stay: how many requests the connection had had before it and behind it, its budget, and how
-- it stood with its server
pub record Visit : Type 0 where
  pub from : ℕ
  pub upto : ℕ
  pub before : Option BudgetValue
  pub behind : Option BudgetValue
  pub old : Standing
  pub new : Standing

-- a stay goes on from where the connection was, with a server that has seen all that had been seen
-- for it
pub record GoesOn (idle : Idle) (v : Visit) : Type 0 where
  pub line : v.old.line ≡ idle.line
  pub served : v.from ≡ idle.served
  pub budget : v.before ≡ idle.budget
  pub seen : IsPrefix idle.seen v.old.caller.seen

-- the connection behind a stay. Where its client is, and what that told when it came, does not
-- change
abbrev pub idle_behind : Idle → Visit → Idle
idle_behind idle v =
    idle_by idle.first v.new.line idle.client v.upto v.behind v.new.caller.seen

-- stays one after another, behind each of which the connection waits
abbrev pub HasStays : SettingsValue → Rule → List Visit → Idle → Idle → Type 0
HasStays settings rule [] first last = last ≡ first
HasStays settings rule (v ∷ vs) first last =
    GoesOn first v
    × StaysTo settings rule v.from v.upto v.before v.behind v.old v.new paused.Quiet
    × HasStays settings rule vs (idle_behind first v) last

module _ (settings : SettingsValue) (rule : Rule) where
  -- how many requests these stays had together
  abbrev pub requests_in : (vs : List Visit) (first last : Idle)
      → HasStays settings rule vs first last → ℕ
  requests_in [] first last same = 0
  requests_in (v ∷ vs) first last (goes, stay, rest) =
      stay.requests + requests_in vs (idle_behind first v) last rest

  -- and how many retries
  abbrev pub retries_in : (vs : List Visit) (first last : Idle)
      → HasStays settings rule vs first last → ℕ
  retries_in [] first last same = 0
  retries_in (v ∷ vs) first last (goes, stay, rest) =
      stay.retries + retries_in vs (idle_behind first v) last rest

-- some stays led there from a client that came
abbrev pub CameTo : SettingsValue → Rule → Option Tries → Idle → Type 0
CameTo settings rule tries idle =
    (seen : List Operation) × (vs : List Visit)
    × HasStays settings rule vs (came tries idle.first idle.client seen) idle

-- a connection that waits: it may have a further request, and some stays led to it
pub record IsWaiting (settings : SettingsValue) (rule : Rule) (tries : Option Tries) (idle : Idle)
    : Type 0 where
  pub few : idle.served < 10000
  pub chain : CameTo settings rule tries idle
