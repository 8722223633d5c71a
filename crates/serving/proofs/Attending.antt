-- A turn of a connection is a stay with its worker.
use Rattle.std.proofs.Common.{◌≡◌, ℕ, List, Bool, refl, sym, subst, inl, inr}
use Rattle.std.specs.Prelude.{Option}
use Rattle.http_wire.specs.declared.ended.Ended.{Ended}
use Rattle.http_wire.specs.declared.paused.Paused.{Paused}
use Rattle.http_wire.specs.declared.paused.Paused.TheVariants as paused
use Rattle.identifier.specs.declared.rule.Rule.{Rule}
use Rattle.line_base.specs.declared.socket_address.SocketAddress.{SocketAddress}
use Rattle.line_base.specs.Dials.{Upstream}
use Rattle.line_base.specs.Lines.{Line}
use Rattle.machine.specs.Values.{SettingsValue}
use Rattle.retry_budget.specs.declared.tries.Tries.{Tries}
use Rattle.router.specs.declared.naming.Naming.{Ghosts}
use Rattle.proxy_session.specs.Callers.{caller_of}
use Rattle.proxy_session.specs.Idle.{EndsIdle}
use Rattle.proxy_session.specs.declared.server.Server.{Server}
use Rattle.client_stays.specs.Chains.{CameTo, Idle, came}
use Rattle.client_stays.specs.Recorded.{HasStayedAs, StaysWithAs}
use Rattle.client_stays.specs.Servers.{ServerValue, StaysWith, server_value}
use Rattle.client_stays.specs.declared.stayed.Stayed.{Stayed}
use Rattle.client_stays.specs.declared.stayed.Stayed.TheVariants as stayed
use Rattle.exchange_record.specs.declared.recorder.ConnectionStep.TheVariants as connection
use Rattle.exchange_record.specs.declared.recorder.Recorder.{Ghosts as Recording}
use Rattle.exchange_record.specs.Told.{Records, Told}
use Rattle.workers.specs.Turns.{End, from_peer, from_stay, given_back, left, turn}
use Rattle.serving.specs.declared.policy.Policy.{Policy}
use Rattle.serving.specs.Sessions.{Attends, Going, IsServed, going_by, going_with, lacked_behind}
use Rattle.serving.specs.Sessions.{step_out, with_upstream}

-- some stays led to a connection, by the policy that the router goes by
pub chain_by : (settings : SettingsValue) (policy : Policy) (rule : Rule) (tries : Option Tries)
    (idle : Idle) → policy.rule ≡ rule → policy.retries ≡ tries → CameTo settings rule tries idle
    → CameTo settings policy.rule policy.retries idle
chain_by settings policy rule tries idle ruled tried chain =
    let one = subst (λ (r : Rule). CameTo settings r tries idle) (sym ruled) chain in
    subst (λ (t : Option Tries). CameTo settings policy.rule t idle) (sym tried) one

module _ {J D C P K : Type 0} {g : Ghosts J} (upstream_of : D → Upstream)
    (moments_of : C → Option (List ℕ)) (line_of : P → Line) (k : Recording K)
    (settings : SettingsValue) (policy : Policy) (rule : Rule) (idle : Idle)
    (old mid new : Server J D C g) (begun recorded behind_all : K) (told : List Told) where
  -- it is the same server, but for the connections to replicas that were kept for too long
  mid_value : new.pass ≡ mid.pass → new.clock ≡ mid.clock → new.words ≡ mid.words
      → server_value upstream_of moments_of mid
      ≡ with_upstream (upstream_of mid.way.dialer) (server_value upstream_of moments_of new)
  mid_value pass clock words =
      let passes : mid.pass ≡ new.pass = sym pass in
      let clocks : mid.clock ≡ new.clock = sym clock in
      let generators : mid.words ≡ new.words = sym words in
      λ i. record {
        upstream = upstream_of mid.way.dialer;
        caller = caller_of (passes i);
        moments = moments_of (clocks i);
        words = generators i;
      }

  -- the stay, by the policy that the router goes by, and with what is told of it
  stay_of : (behind : Idle) (paused : Paused)
      → policy.rule ≡ rule → new.pass ≡ mid.pass → new.clock ≡ mid.clock → new.words ≡ mid.words
      → StaysWithAs settings rule idle (server_value upstream_of moments_of old)
      (server_value upstream_of moments_of mid) behind paused told
      → StaysWithAs settings policy.rule idle (server_value upstream_of moments_of old)
      (with_upstream (upstream_of mid.way.dialer) (server_value upstream_of moments_of new))
      behind paused told
  stay_of behind paused ruled pass clock words stays =
      let before = server_value upstream_of moments_of old in
      let after = server_value upstream_of moments_of mid in
      let by = subst
      (λ (r : Rule). StaysWithAs settings r idle before after behind paused told) (sym ruled)
      stays in
      subst
      (λ (s : ServerValue). StaysWithAs settings policy.rule idle before s behind paused told)
      (mid_value pass clock words) by

  pub waits_served : (behind : Idle) (result : Stayed Idle P) (lacked : Bool)
      → policy.rule ≡ rule → new.pass ≡ mid.pass → new.clock ≡ mid.clock → new.words ≡ mid.words
      → EndsIdle (upstream_of mid.way.dialer) (upstream_of new.way.dialer)
      → HasStayedAs line_of settings rule idle (server_value upstream_of moments_of old)
      (server_value upstream_of moments_of mid) result told
      → result ≡ stayed.Waits behind → Records k.begins k.ends begun told recorded
      → k.steps recorded connection.Left behind_all
      → IsServed line_of k settings policy idle (going_by upstream_of moments_of old lacked begun)
      (left behind) (going_by upstream_of moments_of new lacked behind_all)
  waits_served behind result lacked ruled pass clock words ends stays is records step =
      let before = server_value upstream_of moments_of old in
      let after = server_value upstream_of moments_of mid in
      let mine : StaysWithAs settings rule idle before after behind paused.Quiet told = subst
      (λ (r : Stayed Idle P). HasStayedAs line_of settings rule idle before after r told) is stays
      in
      let whole = stay_of behind paused.Quiet ruled pass clock words mine in
      record {
        behind = behind;
        paused = paused.Quiet;
        dialer = upstream_of mid.way.dialer;
        stay = whole.0;
        ends_idle = ends;
        ends = refl;
        lacked = refl;
        recorded = recorded;
        records = subst (λ (ts : List Told). Records k.begins k.ends begun ts recorded) whole.1
            records;
        settles = step;
      }

  pub ended_served : (peer : P) (end : Ended) (result : Stayed Idle P) (lacked after_all : Bool)
      → policy.rule ≡ rule → new.pass ≡ mid.pass → new.clock ≡ mid.clock → new.words ≡ mid.words
      → EndsIdle (upstream_of mid.way.dialer) (upstream_of new.way.dialer)
      → HasStayedAs line_of settings rule idle (server_value upstream_of moments_of old)
      (server_value upstream_of moments_of mid) result told
      → result ≡ stayed.Ends peer end → after_all ≡ lacked_behind lacked end
      → Records k.begins k.ends begun told recorded
      → k.steps recorded connection.Finished behind_all
      → IsServed line_of k settings policy idle (going_by upstream_of moments_of old lacked begun)
      (given_back peer) (going_by upstream_of moments_of new after_all behind_all)
  ended_served peer end result lacked after_all ruled pass clock words ends stays is all records
      step =
      let before = server_value upstream_of moments_of old in
      let after = server_value upstream_of moments_of mid in
      let mine = subst
      (λ (r : Stayed Idle P). HasStayedAs line_of settings rule idle before after r told) is stays
      in
      let way : StaysWithAs settings rule idle before after mine.0.0 (paused.Ended end) told =
      (mine.0.1, mine.1) in
      let whole = stay_of mine.0.0 (paused.Ended end) ruled pass clock words way in
      record {
        behind = mine.0.0;
        paused = paused.Ended end;
        dialer = upstream_of mid.way.dialer;
        stay = whole.0;
        ends_idle = ends;
        ends = mine.0.2;
        lacked = all;
        recorded = recorded;
        records = subst (λ (ts : List Told). Records k.begins k.ends begun ts recorded) whole.1
            records;
        settles = step;
      }

module _ {K P : Type 0} (line_of : P → Line) (address_of : P → Option SocketAddress)
    (k : Recording K) (settings : SettingsValue) (policy : Policy) (old new : Going K) (begun : K)
  where
    -- a turn of a client that came
    pub begins : (peer : P) (end : End P Idle) (idle : Idle)
        → k.steps old.recorder connection.Came begun
        → idle ≡ came policy.retries (line_of peer) (address_of peer) old.server.caller.seen
        → IsServed line_of k settings policy idle (going_with begun old) end new
        → Attends line_of address_of k settings policy old (turn (from_peer peer) end) new
    begins peer end idle step is served = record {
      come = tt;
      begun = begun;
      begins = step;
      turn = inl (subst (λ (i : Idle).
          IsServed line_of k settings policy i (going_with begun old) end new) is served);
    }

    -- a turn of a connection that waited
    pub goes_on : (idle : Idle) (end : End P Idle)
        → CameTo settings policy.rule policy.retries idle
        → k.steps old.recorder connection.Taken begun
        → IsServed line_of k settings policy idle (going_with begun old) end new
        → Attends line_of address_of k settings policy old (turn (from_stay idle) end) new
    goes_on idle end chain step served = record {
      come = chain;
      begun = begun;
      begins = step;
      turn = inl served;
    }

    -- the end of a connection that waited
    pub ends : (idle : Idle) (peer : P) → CameTo settings policy.rule policy.retries idle
        → k.steps old.recorder connection.Taken begun → line_of peer ≡ idle.line
        → k.steps begun connection.Finished new.recorder → new ≡ going_with new.recorder old
        → Attends line_of address_of k settings policy old
        (turn (from_stay idle) (given_back peer)) new
    ends idle peer chain step line last is = record {
      come = chain;
      begun = begun;
      begins = step;
      turn = inr (line, last, is);
    }
