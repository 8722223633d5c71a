-- How many connections to replicas are kept.
use Rattle.std.specs.Prelude.{ℕ, List, [], ◌∷◌, codes, Ok}
use Rattle.serde_json.specs.Data.{Data}
use Rattle.line_base.specs.declared.dialer.ConnectionPool.{ConnectionPool}
use Rattle.linker_config.specs.Keys.{Told, and_then, keys_told}
use Rattle.linker_config.specs.Values.{number_at}

abbrev pub pool_place : List ℕ
pool_place = codes "routers[0].client.hostConnectionPool"

abbrev pub pool_keys : List (List ℕ)
pool_keys = codes "maxSize" ∷ codes "idleTimeMs" ∷ []

unfoldable pub pool_told : Data → Told ConnectionPool
pool_told d =
    and_then (keys_told pool_place pool_keys [] d) (λ _.
    and_then (number_at pool_place (codes "maxSize") 16 0 64 d) (λ max_size.
    and_then (number_at pool_place (codes "idleTimeMs") 10000 0 3600000 d) (λ idle_ms.
    Ok (record { max_size = max_size; idle_ms = idle_ms }))))
