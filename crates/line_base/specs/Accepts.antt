-- What listeners tell, and what their calls leave.
use Rattle.std.specs.Prelude.{ℕ, ◌-◌, ◌==◌, if◌then◌else◌, List, [], ◌∷◌, ◌++◌, Option, Some}
use Rattle.std.specs.Prelude.{Result, Ok, Err, option_map}
use Rattle.line_base.specs.Counts.{raised}
use Rattle.line_base.specs.declared.event.Event.{Event}
use Rattle.line_base.specs.declared.event.Event.TheVariants.{Came, Ready, Tick, Closed}
use Rattle.line_base.specs.declared.listener.Endpoint.{Endpoint}

-- the peers that a listener tells, in order: those that it handed out, as they were then, and those
-- that came back, as they were then; and how many more it can tell when they come back
pub record Visits (P : Type 0) : Type 0 where
  pub handed : List P
  pub returned : List P
  pub room : ℕ

-- one peer more was handed out
abbrev pub with_handed : {P : Type 0} → P → Visits P → Visits P
with_handed peer v = record {
  handed = v.handed ++ peer ∷ [];
  returned = v.returned;
  room = v.room;
}

-- one peer more came back: it is told where there is room
abbrev pub with_returned : {P : Type 0} → P → Visits P → Visits P
with_returned peer v =
    if v.room == 0 then v
    else record {
      handed = v.handed;
      returned = v.returned ++ peer ∷ [];
      room = v.room - 1;
    }

-- nobody came so far, and so many can be told when they come back
abbrev pub no_visits : {P : Type 0} → ℕ → Visits P
no_visits room = record { handed = []; returned = []; room = room }

-- a listener: what it was made for and the peers of its visits, where it tells them, and four
-- numbers: its waits that answered that it is closed, those that handed a peer out, the peers that
-- came back, and the waits that failed since the last that did not. A number stands still at the
-- last value of a `u64`
pub record Listening (P : Type 0) : Type 0 where
  pub endpoint : Option Endpoint
  pub visits : Option (Visits P)
  pub closes : ℕ
  pub accepted : ℕ
  pub finished : ℕ
  pub run : ℕ

-- a new listener that tells its visits, and has room for so many to come back
abbrev pub new_listening : {P : Type 0} → Option Endpoint → ℕ → Listening P
new_listening endpoint room = record {
  endpoint = endpoint;
  visits = Some (no_visits room);
  closes = 0;
  accepted = 0;
  finished = 0;
  run = 0;
}

-- a listener that handed this peer out
abbrev pub handing : {P : Type 0} → Listening P → P → Listening P
handing l peer = record {
  endpoint = l.endpoint;
  visits = option_map (with_handed peer) l.visits;
  closes = l.closes;
  accepted = raised l.accepted;
  finished = l.finished;
  run = 0;
}

-- a listener that answered that it is closed
abbrev pub closing : {P : Type 0} → Listening P → Listening P
closing l = record {
  endpoint = l.endpoint;
  visits = l.visits;
  closes = raised l.closes;
  accepted = l.accepted;
  finished = l.finished;
  run = 0;
}

-- a listener whose wait failed
abbrev pub failing : {P : Type 0} → Listening P → Listening P
failing l = record {
  endpoint = l.endpoint;
  visits = l.visits;
  closes = l.closes;
  accepted = l.accepted;
  finished = l.finished;
  run = raised l.run;
}

-- a listener that told of a peer that waits, or the time
abbrev pub telling : {P : Type 0} → Listening P → Listening P
telling l = record {
  endpoint = l.endpoint;
  visits = l.visits;
  closes = l.closes;
  accepted = l.accepted;
  finished = l.finished;
  run = 0;
}

-- a listener behind a wait that gave this
abbrev pub after_event : {P E : Type 0} → Listening P → Result (Event P) E → Listening P
after_event l (Ok (Came peer)) = handing l peer
after_event l (Ok (Ready number)) = telling l
after_event l (Ok (Tick count)) = telling l
after_event l (Ok Closed) = closing l
after_event l (Err e) = failing l

-- a listener that took this peer back
abbrev pub after_finish : {P : Type 0} → Listening P → P → Listening P
after_finish l peer = record {
  endpoint = l.endpoint;
  visits = option_map (with_returned peer) l.visits;
  closes = l.closes;
  accepted = l.accepted;
  finished = raised l.finished;
  run = l.run;
}
