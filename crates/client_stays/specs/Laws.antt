-- What holds of a connection over all its stays. The last one may end the connection; behind each
-- other one it waits.
use Rattle.std.specs.Prelude.{◌≡◌, ℕ, ◌+◌, ◌≤◌, All, length, List, ◌∷◌, ◌++◌}
use mathlib.Core.List.{IsPrefix}
use Rattle.http_wire.specs.declared.paused.Paused.{Paused}
use Rattle.identifier.specs.declared.rule.Rule.{Rule}
use Rattle.machine.specs.Values.{SettingsValue}
use Rattle.router_log.specs.Call.{Call}
use Rattle.proxy_session.specs.Session.{StaysTo, most_retries}
use Rattle.client_stays.specs.Chains.{GoesOn, HasStays, Idle, Visit, requests_in, retries_in}

-- whenever a connection is taken up, its server has seen all that had been seen for it in each of
-- its earlier stays
abbrev pub NothingIsForgotten : Type 0
NothingIsForgotten =
    (settings : SettingsValue) (rule : Rule) (us vs : List Visit) (u v : Visit) (first mid : Idle)
    → HasStays settings rule (us ++ u ∷ vs) first mid → GoesOn mid v
    → IsPrefix u.new.caller.seen v.old.caller.seen

-- and the calls that are made for it in a stay, however that comes out, have points behind all that
-- had been seen for it: no request is answered from an older state than one before it
abbrev pub PointsNeverFall : Type 0
PointsNeverFall =
    (settings : SettingsValue) (rule : Rule) (us vs : List Visit) (u v : Visit) (first mid : Idle)
    (result : Paused)
    → HasStays settings rule (us ++ u ∷ vs) first mid → GoesOn mid v
    → StaysTo settings rule v.from v.upto v.before v.behind v.old v.new result
    → (made : List (Call × ℕ)) × (v.new.caller.items ≡ v.old.caller.items ++ made)
    × All (λ call. length u.new.caller.seen ≤ call.1) made

-- The requests of the stays that it waited behind are those that it counted. And over all its
-- stays, with a last one that comes out in any way, the attempts behind the first of each request
-- are no more than its budget had and these requests paid in
abbrev pub OneBudget : Type 0
OneBudget =
    (settings : SettingsValue) (rule : Rule) (vs : List Visit) (v : Visit) (first mid : Idle)
    (result : Paused)
    → (stays : HasStays settings rule vs first mid) → GoesOn mid v
    → (stay : StaysTo settings rule v.from v.upto v.before v.behind v.old v.new result)
    → (mid.served ≡ first.served + requests_in settings rule vs first mid stays)
    × (retries_in settings rule vs first mid stays + stay.retries
    ≤ most_retries first.budget (requests_in settings rule vs first mid stays + stay.requests))
