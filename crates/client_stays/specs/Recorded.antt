-- What a recorder is told of a stay, as a server and the connection see it.
use Rattle.std.specs.Prelude.{◌≡◌, List}
use Rattle.exchange_record.specs.Told.{Told}
use Rattle.http_wire.specs.declared.paused.Paused.{Paused}
use Rattle.http_wire.specs.declared.paused.Paused.TheVariants as paused
use Rattle.identifier.specs.declared.rule.Rule.{Rule}
use Rattle.line_base.specs.Lines.{Line}
use Rattle.machine.specs.Values.{SettingsValue}
use Rattle.proxy_session.specs.Recorded.{stay_told}
use Rattle.client_stays.specs.declared.stayed.Stayed.{Stayed}
use Rattle.client_stays.specs.declared.stayed.Stayed.TheVariants as stayed
use Rattle.client_stays.specs.Chains.{Idle}
use Rattle.client_stays.specs.Servers.{HasStayed, ServerValue, StaysWith}

-- what is told of it is what is told of the requests of the stay, of its client's address
abbrev pub told_with : (settings : SettingsValue) (rule : Rule) (idle : Idle)
    (old new : ServerValue) (behind : Idle) (result : Paused)
    → StaysWith settings rule idle old new behind result → List Told
told_with settings rule idle old new behind result x =
    stay_told settings rule idle.client x.visit.from x.visit.upto x.visit.before x.visit.behind
    x.visit.old x.visit.new result x.stay

abbrev pub StaysWithAs : SettingsValue → Rule → Idle → ServerValue → ServerValue → Idle → Paused
    → List Told → Type 0
StaysWithAs settings rule idle old new behind result told =
    (way : StaysWith settings rule idle old new behind result)
    × (told ≡ told_with settings rule idle old new behind result way)

abbrev pub stayed_told : {P : Type 0} (line_of : P → Line) (settings : SettingsValue) (rule : Rule)
    (idle : Idle) (old new : ServerValue) (result : Stayed Idle P)
    → HasStayed line_of settings rule idle old new result → List Told
stayed_told line_of settings rule idle old new (stayed.Waits behind) x =
    told_with settings rule idle old new behind paused.Quiet x
stayed_told line_of settings rule idle old new (stayed.Ends peer end) (behind, x, is) =
    told_with settings rule idle old new behind (paused.Ended end) x

-- a stay went in some way, and this is told of it
abbrev pub HasStayedAs : {P : Type 0} → (P → Line) → SettingsValue → Rule → Idle → ServerValue
    → ServerValue → Stayed Idle P → List Told → Type 0
HasStayedAs line_of settings rule idle old new result told =
    (way : HasStayed line_of settings rule idle old new result)
    × (told ≡ stayed_told line_of settings rule idle old new result way)
