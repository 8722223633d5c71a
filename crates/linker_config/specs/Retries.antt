-- How often a request may be tried again.
use Rattle.std.specs.Prelude.{ℕ, List, [], ◌∷◌, codes, Ok}
use Rattle.serde_json.specs.Data.{Data}
use Rattle.retry_budget.specs.declared.tries.Tries.{Tries}
use Rattle.linker_config.specs.Keys.{Told, and_then, keys_told}
use Rattle.linker_config.specs.Values.{number_at}

abbrev pub retries_place : List ℕ
retries_place = codes "routers[0].retries"

abbrev pub retries_keys : List (List ℕ)
retries_keys = codes "percent" ∷ codes "reserve" ∷ codes "most" ∷ []

unfoldable pub retries_told : Data → Told Tries
retries_told d =
    and_then (keys_told retries_place retries_keys [] d) (λ _.
    and_then (number_at retries_place (codes "percent") 20 0 100 d) (λ percent.
    and_then (number_at retries_place (codes "reserve") 10 0 100 d) (λ reserve.
    and_then (number_at retries_place (codes "most") 3 0 10 d) (λ most.
    Ok (record { percent = percent; reserve = reserve; most = most })))))
