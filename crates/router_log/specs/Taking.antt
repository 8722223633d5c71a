-- What a copy of a router's value comes to that takes in a prepared change or a delegation, whether
-- or not that fits it.
use Rattle.std.specs.Prelude.{nat_le, ◌&&◌, Bool, if◌then◌else◌, List, is_none}
use Rattle.machine.specs.Values.{SettingsValue, ChangeValue}
use Rattle.machine.specs.Ready.{ReadyValue, absorbed}
use Rattle.bind_cache.specs.Kept.{Kept}
use Rattle.bind_cache.specs.Cache.{found_in, kept_in, most_cost}
use Rattle.router_log.specs.Value.{Value, untouched_by}

-- a prepared change: the state absorbs it, and what it touches goes
abbrev pub with_change : SettingsValue → Value → ChangeValue → ReadyValue → Value
with_change settings value change ready =
    let next = absorbed value.state ready in
    record { state = next; cache = untouched_by settings value.state next change value.cache }

-- whether a delegation may stand beside others: it is cheap, and has no like
abbrev pub may_stand : List Kept → Kept → Bool
may_stand ks k = nat_le k.cost most_cost && is_none (found_in ks k.path k.local)

-- a delegation is kept beside others, where it may stand
abbrev pub kept_beside : List Kept → Kept → List Kept
kept_beside ks k = if may_stand ks k then kept_in ks k else ks

-- so it is in a value
abbrev pub with_kept : Value → Kept → Value
with_kept value k = record { state = value.state; cache = kept_beside value.cache k }
