-- On a value that it fits, what a copy takes in leaves what the operation leaves.
use Rattle.std.proofs.Common.{◌≡◌, ℕ, Bool, true, false, refl, arith}
use Rattle.std.specs.Prelude.{◌&&◌, nat_le, is_none}
use Rattle.std.proofs.lemmas.Bool.Decides.{nat_tests}
use Rattle.machine.specs.Values.{SettingsValue, ChangeValue}
use Rattle.machine.specs.State.{after, changed as changed_state}
use Rattle.machine.specs.Ready.{ReadyValue, absorbed, IsReadyFor}
use Rattle.machine.proofs.Absorbing.{absorbing_is_changing}
use Rattle.bind_cache.specs.Kept.{Kept}
use Rattle.bind_cache.specs.Cache.{found_in, most_cost}
use Rattle.router_log.specs.Operation.{changed, kept}
use Rattle.router_log.specs.Value.{Value, applied, Fits}
use Rattle.router_log.specs.Taking.{with_change, may_stand, with_kept}

pub change_taken : (settings : SettingsValue) (value : Value) (caller serial : ℕ)
    (change : ChangeValue) (ready : ReadyValue) → IsReadyFor settings value.state change ready
    → with_change settings value change ready
    ≡ applied settings value (changed caller serial change)
change_taken settings value caller serial change ready is =
    let accepted = is.accepted in
    let next : absorbed value.state ready ≡ after settings value.state change =
    absorbing_is_changing settings value.state change ready is in
    let state : after settings value.state change ≡ changed_state settings value.state change =
    rw accepted refl in
    rw (accepted, next, state) refl

pub kept_taken : (settings : SettingsValue) (value : Value) (caller serial : ℕ) (k : Kept)
    → Fits settings value (kept caller serial k)
    → with_kept value k ≡ applied settings value (kept caller serial k)
kept_taken settings value caller serial k fits =
    let stands : may_stand value.cache k ≡ true =
    stand_case (nat_le k.cost most_cost) (is_none (found_in value.cache k.path k.local))
    (let le = fits.1 in grind (arith, nat_tests)) (rw fits.2 refl) in
    rw stands refl
  where
    stand_case : (s t : Bool) → s ≡ true → t ≡ true → (s && t) ≡ true
    stand_case true true a b = refl
    stand_case true false a b = absurd cc
    stand_case false t a b = absurd cc
