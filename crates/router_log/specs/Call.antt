-- What a router's callers ask, and what that publishes.
use Rattle.std.specs.Prelude.{ℕ, ◌-◌, ◌^◌, ◌==◌, ◌||◌, nat_lt, nat_le, Bool, not, if◌then◌else◌}
use Rattle.std.specs.Prelude.{List, Option, Some, None, is_some}
use Rattle.machine.specs.Values.{SettingsValue, ChangeValue, LookValue, AskValue}
use Rattle.machine.specs.State.{is_accepted}
use Rattle.bind_cache.specs.Kept.{Kept}
use Rattle.bind_cache.specs.Cache.{found_in, most_cost}
use Rattle.router_log.specs.Operation.{Operation, changed, kept, place_of, kept_count}
use Rattle.router_log.specs.Value.{value_of}

pub data Call : Type 0 where
  asked : AskValue → Call
  looked : LookValue → Call
  changing : ChangeValue → Call
  keeping : Kept → Call

-- the texts of a delegation that is kept have at most so many bytes
abbrev pub most_bytes : ℕ
most_bytes = 8192

-- it took too many lookups, or its texts are too long
abbrev pub is_large : Kept → Bool
is_large k = nat_lt most_cost k.cost || nat_lt most_bytes k.bytes

-- changes were accepted since it was worked out
abbrev pub is_late : List Operation → Kept → Bool
is_late ops k = not (place_of ops == k.place)

-- another one is kept for its path and table
abbrev pub is_had : SettingsValue → List Operation → Kept → Bool
is_had settings ops k = is_some (found_in (value_of settings ops).cache k.path k.local)

-- as many were kept as may be, or more
abbrev pub are_spent : List Operation → Bool
are_spent ops = nat_le (2 ^ 64 - 1) (kept_count ops)

-- whether a delegation is kept, where these operations were published before
abbrev pub is_kept : SettingsValue → List Operation → Kept → Bool
is_kept settings ops k =
    not (is_large k || (is_late ops k || (is_had settings ops k || are_spent ops)))

-- what a call publishes, by what was published before it: a change that the state accepts, a
-- delegation that is kept, and nothing else. It has the number of its caller, and its own among the
-- caller's changes, or kept delegations
abbrev pub publishes : SettingsValue → List Operation → ℕ → ℕ → ℕ → Call → Option Operation
publishes settings before caller changes others (asked ask) = None
publishes settings before caller changes others (looked look) = None
publishes settings before caller changes others (changing change) =
    if is_accepted (value_of settings before).state change then Some (changed caller changes change)
    else None
publishes settings before caller changes others (keeping k) =
    if is_kept settings before k then Some (kept caller others k) else None
