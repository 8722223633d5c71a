-- What a recorder is told of the exchanges of a connection: a function of the way that they went.
use Rattle.std.specs.Prelude.{◌≡◌, ℕ, zero, suc, ◌+◌, ◌==◌, ◌||◌, Bool, List, [], ◌∷◌, ◌++◌}
use Rattle.std.specs.Prelude.{Option, Some, None}
use mathlib.Core.Logic.{inl, inr}
use Rattle.exchange_record.specs.Told.{Told}
use Rattle.http_wire.specs.declared.ended.Ended.{Ended}
use Rattle.http_wire.specs.declared.head.Head.{Head}
use Rattle.http_wire.specs.declared.paused.Paused.{Paused}
use Rattle.http_wire.specs.declared.paused.Paused.TheVariants as paused
use Rattle.identifier.specs.declared.rule.Rule.{Rule}
use Rattle.line_base.specs.declared.socket_address.SocketAddress.{SocketAddress}
use Rattle.machine.specs.Values.{SettingsValue}
use Rattle.own_reply.specs.declared.error.OwnError.{OwnError}
use Rattle.retry_budget.specs.Budget.{BudgetValue}
use Rattle.proxy_session.specs.declared.served.Served.{Served as ServedRequest}
use Rattle.proxy_session.specs.Done.{unread_done}
use Rattle.proxy_session.specs.Exchange.{Standing}
use Rattle.proxy_session.specs.Session.{Served, Serves, ServesNext, ServesSo, Sessions, Stays}
use Rattle.own_reply.specs.Closing.{most_requests}
use Rattle.proxy_session.specs.Session.{StaysTo, Stops, begun, having_told}
use Rattle.proxy_session.specs.Session.{own_of_end}
use Rattle.proxy_session.specs.Ways.{request_done, request_name}

-- a request that was served, of a client at this address, by its head
abbrev pub told_by : Option SocketAddress → Head → ServedRequest → Told
told_by client head served = record {
  client = client;
  head = Some head;
  name = served.name;
  done = served.done;
}

-- bytes that are no head were refused; ones that ended, or could not be read, are no exchange
abbrev pub unread_refusal : Option SocketAddress → OwnError → Ended → Told
unread_refusal client err end = record {
  client = client;
  head = None;
  name = None;
  done = unread_done err end;
}

abbrev pub unread_told : Option SocketAddress → Option OwnError → Ended → List Told
unread_told client None end = []
unread_told client (Some err) end = unread_refusal client err end ∷ []

-- ---- a request

module _ (settings : SettingsValue) (rule : Rule) (client : Option SocketAddress) where
  abbrev pub serves_so_told : (spent closing : Bool) (retries : ℕ)
      (before behind : Option BudgetValue) (old new : Standing) (result : Option Ended)
      → ServesSo settings rule spent closing retries before behind old new result → Told
  serves_so_told spent closing retries before behind old new result x = record {
    client = client;
    head = Some x.head;
    name =
        request_name settings rule x.head (spent || closing) retries before behind
        (having_told closing x.mid) new x.end x.request;
    done =
        request_done settings rule x.head (spent || closing) retries before behind
        (having_told closing x.mid) new x.end x.request;
  }

  abbrev pub serves_told : (spent : Bool) (retries : ℕ) (before behind : Option BudgetValue)
      (old new : Standing) (result : Option Ended)
      → Serves settings rule spent retries before behind old new result → Told
  serves_told spent retries before behind old new result (closing, x) =
      serves_so_told spent closing retries before behind old new result x

  abbrev pub stops_told : (old new : Standing) (result : Ended) → Stops old new result → List Told
  stops_told old new result (inl without) = unread_told client (own_of_end without.end) result
  stops_told old new result (inr closing) = []

  abbrev pub next_told : (last : Bool) (retries : ℕ) (before behind : Option BudgetValue)
      (old new : Standing) (result : Option Paused)
      → ServesNext settings rule last retries before behind old new result → List Told
  next_told last retries before behind old new None serves =
      serves_told last retries before behind old new None serves ∷ []
  next_told last retries before behind old new (Some paused.Quiet) still = []
  next_told last retries before behind old new (Some (paused.Ended end)) (inl (stops, untried)) =
      stops_told old new end stops
  next_told last retries before behind old new (Some (paused.Ended end)) (inr serves) =
      serves_told last retries before behind old new (Some end) serves ∷ []

  -- ---- requests, one after another

  abbrev pub served_told : (from n retries : ℕ) (before behind : Option BudgetValue)
      (old new : Standing) (end : Option Ended)
      → Served settings rule from n retries before behind old new end → List Told
  served_told from zero retries before behind old new end none = []
  served_told from (suc n) retries before behind old new end
      (mid, between, earlier, more, served, serves, sum) =
      served_told from n earlier before between old mid None served
      ++ serves_told (from + n + 1 == most_requests) more between behind mid new end serves ∷ []

  abbrev pub sessions_told : (from requests retries : ℕ) (before behind : Option BudgetValue)
      (old new : Standing) (result : Ended)
      → Sessions settings rule from requests retries before behind old new result → List Told
  sessions_told from requests retries before behind old new result (inl (mid, served, stops)) =
      served_told from requests retries before behind old mid None served
      ++ stops_told mid new result stops
  sessions_told from requests retries before behind old new result (inr served) =
      served_told from requests retries before behind old new (Some result) served

  abbrev pub stays_told : (from requests retries : ℕ) (before behind : Option BudgetValue)
      (old new : Standing) (result : Paused)
      → Stays settings rule from requests retries before behind old new result → List Told
  stays_told from requests retries before behind old new paused.Quiet (mid, served, still) =
      served_told from requests retries before behind old mid None served
  stays_told from requests retries before behind old new (paused.Ended end) sessions =
      sessions_told from requests retries before behind old new end sessions

  abbrev pub stay_told : (from upto : ℕ) (before behind : Option BudgetValue)
      (old new : Standing) (result : Paused)
      → StaysTo settings rule from upto before behind old new result → List Told
  stay_told from upto before behind old new result x =
      stays_told from x.requests x.retries before behind (begun old) new result x.serves

-- ---- with what is told of it

abbrev pub ServesNextAs : SettingsValue → Rule → Option SocketAddress → Bool → ℕ
    → Option BudgetValue → Option BudgetValue → Standing → Standing → Option Paused → List Told
    → Type 0
ServesNextAs settings rule client last retries before behind old new result told =
    (way : ServesNext settings rule last retries before behind old new result)
    × (told ≡ next_told settings rule client last retries before behind old new result way)

-- a stay of a client at this address went in some way, and of each of its exchanges this is told,
-- in order
abbrev pub StaysToAs : SettingsValue → Rule → Option SocketAddress → ℕ → ℕ → Option BudgetValue
    → Option BudgetValue → Standing → Standing → Paused → List Told → Type 0
StaysToAs settings rule client from upto before behind old new result told =
    (way : StaysTo settings rule from upto before behind old new result)
    × (told ≡ stay_told settings rule client from upto before behind old new result way)
