-- What a net comes to where listeners are made, stops are handed out, and all of them come back.
use Rattle.std.specs.Prelude.{ℕ, zero, suc, ◌-◌, nat_le, Bool, List, [], ◌∷◌, ◌++◌, length}
use Rattle.std.specs.Prelude.{option_map}
use Rattle.line_base.specs.Accepts.{Listening, after_finish}
use Rattle.line_base.specs.Nets.{Ended, Networking, Returns, after_end, after_stopper, with_room}

-- so many listeners were made
abbrev pub listened : {P : Type 0} → ℕ → Networking P → Networking P
listened copies n = record {
  told = option_map (with_room copies) n.told;
  clean = n.clean;
  accepted = n.accepted;
  finished = n.finished;
  stops_given = n.stops_given;
  stops_returned = n.stops_returned;
}

-- so many stops were handed out
abbrev pub with_stops : {P : Type 0} → ℕ → Networking P → Networking P
with_stops zero n = n
with_stops (suc k) n = with_stops k (after_stopper n)

-- these came back, in order
abbrev pub all_ended : {P : Type 0} → List (Ended P) → Networking P → Networking P
all_ended [] n = n
all_ended (e ∷ es) n = all_ended es (after_end n e)

-- a listener that took these peers back
abbrev pub all_finished : {P : Type 0} → List P → Listening P → Listening P
all_finished [] l = l
all_finished (peer ∷ peers) l = all_finished peers (after_finish l peer)

abbrev pub having_finished : {P : Type 0} → List P → Ended P → Ended P
having_finished peers e = record {
  listener = all_finished peers e.listener;
  log = e.log;
  stops = e.stops;
}

-- the first of these took these peers back before it came back
abbrev pub with_left_over : {P : Type 0} → List P → List (Ended P) → List (Ended P)
with_left_over peers [] = []
with_left_over peers (e ∷ es) = having_finished peers e ∷ es

-- all of these are told, where there is room for them
abbrev pub with_all : {P : Type 0} → List (Ended P) → Returns P → Returns P
with_all es r = record { ended = r.ended ++ es; room = r.room - length es }

-- its waits failed a hundred times in a row
abbrev pub is_broken : {P : Type 0} → Ended P → Bool
is_broken e = nat_le 100 e.listener.run
