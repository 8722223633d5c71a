-- What nets tell, and what their calls leave.
use Rattle.std.specs.Prelude.{◌≡◌, ℕ, ◌+◌, ◌-◌, ◌<◌, ◌≤◌, ◌==◌, nat_lt, Bool, if◌then◌else◌, List}
use Rattle.std.specs.Prelude.{[], ◌∷◌, ◌++◌, length, slice_index_or, Option, Some, None, IsSome}
use Rattle.std.specs.Prelude.{OnSome, IfSome, Result, Ok, Err, option_map}
use Rattle.line_base.specs.Accepts.{Listening, no_visits}
use Rattle.line_base.specs.Counts.{added, raised}
use Rattle.line_base.specs.Dials.{Upstream}
use Rattle.line_base.specs.declared.dialer.DialEvent.{DialEvent}
use Rattle.line_base.specs.declared.listener.Endpoint.{Endpoint}
use Rattle.line_base.specs.declared.net.NetFault.{NetFault}
use Rattle.line_base.specs.declared.net.NetFault.TheVariants.{Failed}

-- what came back together: the listener, the log of the dialer that came with it, where there was
-- one that tells it, and the number of calls of the stop
pub record Ended (P : Type 0) : Type 0 where
  pub listener : Listening P
  pub log : Option (List DialEvent)
  pub stops : ℕ

-- what a net tells: what came back, in order, and how much more it can tell when it comes back
pub record Returns (P : Type 0) : Type 0 where
  pub ended : List (Ended P)
  pub room : ℕ

-- a net: what came back, where it tells it, and five numbers: the listeners that came back clean,
-- how many peers those that came back had handed out, and how many came back to them; the stops
-- that it handed out, and those that came back. A number stands still at the last value of a `u64`
pub record Networking (P : Type 0) : Type 0 where
  pub told : Option (Returns P)
  pub clean : ℕ
  pub accepted : ℕ
  pub finished : ℕ
  pub stops_given : ℕ
  pub stops_returned : ℕ

-- a listener that came back clean: it answered that it is closed
abbrev pub is_clean : {P : Type 0} → Listening P → Bool
is_clean l = nat_lt 0 l.closes

-- there is room to tell so many listeners more when they come back
abbrev pub with_room : {P : Type 0} → ℕ → Returns P → Returns P
with_room copies r = record { ended = r.ended; room = r.room + copies }

-- one more came back: it is told where there is room
abbrev pub with_ended : {P : Type 0} → Ended P → Returns P → Returns P
with_ended e r = if r.room == 0 then r else record { ended = r.ended ++ e ∷ []; room = r.room - 1 }

-- a net behind a call that was to make so many listeners
abbrev pub after_listen : {P T E : Type 0} → Networking P → ℕ → Result T E → Networking P
after_listen n copies (Ok made) = record {
  told = option_map (with_room copies) n.told;
  clean = n.clean;
  accepted = n.accepted;
  finished = n.finished;
  stops_given = n.stops_given;
  stops_returned = n.stops_returned;
}
after_listen n copies (Err e) = n

-- a net that handed a stop out
abbrev pub after_stopper : {P : Type 0} → Networking P → Networking P
after_stopper n = record {
  told = n.told;
  clean = n.clean;
  accepted = n.accepted;
  finished = n.finished;
  stops_given = raised n.stops_given;
  stops_returned = n.stops_returned;
}

-- a net that took these back
abbrev pub after_end : {P : Type 0} → Networking P → Ended P → Networking P
after_end n e = record {
  told = option_map (with_ended e) n.told;
  clean = if is_clean e.listener then raised n.clean else n.clean;
  accepted = added n.accepted e.listener.accepted;
  finished = added n.finished e.listener.finished;
  stops_given = n.stops_given;
  stops_returned = raised n.stops_returned;
}

-- a new listener for this endpoint: its numbers are 0, it has no visits, and it tells both where
-- its net tells what comes back
pub record IsNew {P : Type 0} (told : Option (Returns P)) (endpoint : Endpoint)
    (l : Listening P) : Type 0 where
  pub none_yet : IfSome l.visits (λ v. v ≡ no_visits v.room)
  pub closes : l.closes ≡ 0
  pub accepted : l.accepted ≡ 0
  pub finished : l.finished ≡ 0
  pub run : l.run ≡ 0
  pub knows : OnSome told (l.endpoint ≡ Some endpoint)
  pub tells : OnSome told (IsSome l.visits)

-- these are new listeners for an address, each for its place
abbrev pub AreNew : {P L : Type 0} → (L → Listening P) → Option (Returns P) → ℕ → ℕ → List L
    → Type 0
AreNew state told ip port ls =
    (at : ℕ) (d : _) → at < length ls
    → IsNew told (record { ip = ip; port = port; place = at }) (state (slice_index_or ls at d))

-- the log of a new dialer: nothing, and told where its net tells what comes back
pub record IsNewLog {P : Type 0} (told : Option (Returns P)) (log : Option (List DialEvent)) : Type
    0 where
  pub nothing : IfSome log (λ events. events ≡ [])
  pub tells : OnSome told (IsSome log)

-- the log of a dialer that came back, if there was one
abbrev pub log_of : {D : Type 0} → (D → Upstream) → Option D → Option (List DialEvent)
log_of upstream None = None
log_of upstream (Some d) = (upstream d).log

-- a net's count of faults never falls: a call that fails raises it by one, and any other, want of
-- memory too, leaves it as it was
pub record HasNetCause {T : Type 0} (before now : ℕ) (result : Result T NetFault) : Type 0 where
  pub later : before ≤ now
  pub failed : result ≡ Err Failed → now ≡ raised before
  pub kept : (result ≡ Err Failed → ⊥) → now ≡ before
