-- A server that learns what had been seen for a connection.
use Rattle.std.proofs.Common.{◌≡◌, ℕ, List, subst}
use Rattle.std.specs.Prelude.{Option}
use Rattle.http_wire.specs.declared.paused.Paused.{Paused}
use Rattle.identifier.specs.declared.rule.Rule.{Rule}
use Rattle.line_base.specs.declared.socket_address.SocketAddress.{SocketAddress}
use Rattle.line_base.specs.Dials.{Upstream}
use Rattle.machine.specs.Values.{SettingsValue}
use Rattle.router.specs.declared.naming.Naming.{Ghosts}
use Rattle.router.specs.declared.pass.Pass.{Pass}
use Rattle.router.specs.Passes.{SawMore, number_in, seen_in}
use Rattle.router_log.specs.Operation.{Operation}
use Rattle.snap_cell.specs.History.{longer}
use Rattle.exchange_record.specs.Told.{Told}
use Rattle.proxy_session.specs.Callers.{caller_of}
use Rattle.proxy_session.specs.Recorded.{StaysToAs}
use Rattle.proxy_session.specs.Session.{StaysTo}
use Rattle.proxy_session.specs.declared.server.Server.{Server}
use Rattle.client_stays.specs.Chains.{Visit}
use Rattle.client_stays.specs.Servers.{having_learned, having_seen, server_value}

module _ {J : Type 0} {g : Ghosts J} where
  caller_learned : (old new : Pass J g) (told : List Operation) → number_in new ≡ number_in old
      → seen_in new ≡ longer (seen_in old) told → SawMore old new
      → caller_of new ≡ having_seen (longer (seen_in old) told) (caller_of old)
  caller_learned old new told number seen more = λ i. record {
    number = number i;
    seen = seen i;
    items = more.items i;
    reads = more.seat.reads i;
    taken = more.seat.taken i;
    slot = more.seat.slot i;
  }

module _ {J D C : Type 0} {g : Ghosts J} (upstream_of : D → Upstream)
    (moments_of : C → Option (List ℕ)) where
  pub server_learned : (old new : Server J D C g) (told : List Operation)
      → new.way ≡ old.way → new.clock ≡ old.clock → new.words ≡ old.words
      → number_in new.pass ≡ number_in old.pass
      → seen_in new.pass ≡ longer (seen_in old.pass) told → SawMore old.pass new.pass
      → server_value upstream_of moments_of new
      ≡ having_learned told (server_value upstream_of moments_of old)
  server_learned old new told way clock words number seen more =
      let caller = caller_learned old.pass new.pass told number seen more in λ i. record {
        upstream = upstream_of (way i).dialer;
        caller = caller i;
        moments = moments_of (clock i);
        words = words i;
      }

-- a stay by the rule that the router goes by, which came out so
pub stay_by : (settings : SettingsValue) (rule mine : Rule) (v : Visit) (result out : Paused)
    → rule ≡ mine → result ≡ out
    → StaysTo settings rule v.from v.upto v.before v.behind v.old v.new result
    → StaysTo settings mine v.from v.upto v.before v.behind v.old v.new out
stay_by settings rule mine v result out same is stay =
    let ruled = subst
    (λ (r : Rule). StaysTo settings r v.from v.upto v.before v.behind v.old v.new result) same stay
    in
    subst (λ (p : Paused). StaysTo settings mine v.from v.upto v.before v.behind v.old v.new p) is
    ruled

-- the same, with what is told of it
pub told_by_stay : (settings : SettingsValue) (rule mine : Rule) (v : Visit) (result out : Paused)
    (client : Option SocketAddress) (told : List Told) → rule ≡ mine → result ≡ out
    → StaysToAs settings rule client v.from v.upto v.before v.behind v.old v.new result told
    → StaysToAs settings mine client v.from v.upto v.before v.behind v.old v.new out told
told_by_stay settings rule mine v result out client told same is stay =
    let ruled = subst
    (λ (r : Rule). StaysToAs settings r client v.from v.upto v.before v.behind v.old v.new result
    told) same stay in
    subst
    (λ (p : Paused). StaysToAs settings mine client v.from v.upto v.before v.behind v.old v.new p
    told) is ruled
