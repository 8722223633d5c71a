-- When a replica counts as dead, and which connections to replicas are kept.
use Rattle.std.specs.Prelude.{ℕ, List, [], ◌∷◌, codes, None, Ok}
use Rattle.serde_json.specs.Data.{Data}
use Rattle.serde_json.specs.Find.{get}
use Rattle.choose_core.specs.declared.mark.Limits.{Limits}
use Rattle.linker_config.specs.Keys.{Told, and_then, keys_told}
use Rattle.linker_config.specs.Values.{exactly, if_there, needed_text, number_at, or_default}
use Rattle.linker_config.specs.Pool.{pool_told}
use Rattle.linker_config.specs.declared.client.ClientSettings.{ClientSettings}

-- after five failures in a row, for five seconds
abbrev pub usual_limits : Limits
usual_limits = record { failures = 5; backoff = 5000 }

-- and no connection is kept
abbrev pub usual_client : ClientSettings
usual_client = record { limits = usual_limits; pool = None }

abbrev pub client_place : List ℕ
client_place = codes "routers[0].client"

abbrev pub accrual_place : List ℕ
accrual_place = codes "routers[0].client.failureAccrual"

abbrev pub backoff_place : List ℕ
backoff_place = codes "routers[0].client.failureAccrual.backoff"

-- milliseconds
unfoldable pub backoff_told : Data → Told ℕ
backoff_told d =
    and_then (keys_told backoff_place (codes "kind" ∷ codes "ms" ∷ []) (codes "kind" ∷ []) d) (λ _.
    and_then (needed_text backoff_place (codes "kind") (exactly (codes "constant")) d) (λ _.
    number_at backoff_place (codes "ms") 5000 0 86400000 d))

abbrev pub accrual_keys : List (List ℕ)
accrual_keys = codes "kind" ∷ codes "failures" ∷ codes "backoff" ∷ []

unfoldable pub accrual_told : Data → Told Limits
accrual_told d =
    and_then (keys_told accrual_place accrual_keys (codes "kind" ∷ []) d) (λ _.
    and_then
    (needed_text accrual_place (codes "kind") (exactly (codes "io.l5d.consecutiveFailures")) d)
    (λ _.
    and_then (number_at accrual_place (codes "failures") 5 1 1000 d) (λ failures.
    and_then (or_default 5000 backoff_told (get (codes "backoff") d)) (λ backoff.
    Ok (record { failures = failures; backoff = backoff })))))

abbrev pub client_keys : List (List ℕ)
client_keys = codes "failureAccrual" ∷ codes "hostConnectionPool" ∷ []

unfoldable pub client_told : Data → Told ClientSettings
client_told d =
    and_then (keys_told client_place client_keys [] d) (λ _.
    and_then (or_default usual_limits accrual_told (get (codes "failureAccrual") d)) (λ limits.
    and_then (if_there pool_told (get (codes "hostConnectionPool") d)) (λ pool.
    Ok (record { limits = limits; pool = pool }))))
