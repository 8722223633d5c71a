-- What a configuration says.
use Rattle.std.specs.Prelude.{◌≡◌, ℕ, ◌^◌, ◌-◌, Bool, false, List, [], ◌∷◌, codes, Option, None}
use Rattle.std.specs.Prelude.{Some}
use Rattle.std.specs.Prelude.{unwrap_or, Ok}
use Rattle.std.specs.Prelude.{IsUtf8}
use Rattle.serde_json.specs.Data.{Data}
use Rattle.serde_json.specs.Read.{read}
use Rattle.serde_json.specs.Find.{get}
use Rattle.dtab_table.specs.Dtab.{rules_of}
use Rattle.dtab_table.specs.Rules.{Rule as TableRule}
use Rattle.identifier.specs.declared.rule.Rule.{Rule}
use Rattle.choose_core.specs.declared.mark.Limits.{Limits}
use Rattle.line_base.specs.declared.dialer.ConnectionPool.{ConnectionPool}
use Rattle.retry_budget.specs.declared.tries.Tries.{Tries}
use Rattle.linker_config.specs.declared.config.Config.{Config}
use Rattle.linker_config.specs.declared.config.FeedAt.{FeedAt}
use Rattle.linker_config.specs.declared.config.Port.{Port}
use Rattle.linker_config.specs.declared.fault.ConfigFault.TheVariants.{Bad}
use Rattle.linker_config.specs.declared.reading.RunSettings.{RunSettings}
use Rattle.linker_config.specs.Keys.{Told, and_then, keys_told, or_fault}
use Rattle.linker_config.specs.Values.{if_there, number_at, or_default}
use Rattle.linker_config.specs.Feed.{feed_told}
use Rattle.linker_config.specs.Listening.{admin_told, namerd_told, usual_admin, usual_named}
use Rattle.linker_config.specs.Namers.{namers_told}
use Rattle.linker_config.specs.Router.{routers_told}

-- what a configuration says: where to listen, the folder of the services, how requests are named,
-- what is said of clearing their context, the router's settings, which connections to replicas are
-- kept, how often a request may be tried again, the file of the access log, the number of the
-- workers, the seed of the choices, and where the feed of the namespaces is served
pub record Configured : Type 0 where
  pub admin : Port
  pub namerd : Port
  pub server : Port
  pub root : Option (List ℕ)
  pub rule : Rule
  pub clear_context : Option Bool
  pub space : List ℕ
  pub base : List TableRule
  pub limits : Limits
  pub pool : Option ConnectionPool
  pub retries : Option Tries
  pub access_log : Option (List ℕ)
  pub workers : ℕ
  pub seed : ℕ
  pub feed : Option FeedAt

-- a configuration as a value
abbrev pub said_of : Config → Configured
said_of c = record {
  admin = c.admin;
  namerd = c.namerd;
  server = c.server;
  root = c.root;
  rule = c.rule;
  clear_context = c.clear_context;
  space = c.settings.space;
  base = rules_of c.settings.base;
  limits = c.settings.limits;
  pool = c.pool;
  retries = c.retries;
  access_log = c.access_log;
  workers = c.workers;
  seed = c.seed;
  feed = c.feed;
}

abbrev pub top_keys : List (List ℕ)
top_keys =
    codes "admin" ∷ codes "namerd" ∷ codes "namers" ∷ codes "routers" ∷ codes "workers"
    ∷ codes "seed" ∷ codes "feed"
    -- these two say nothing
    ∷ codes "telemetry" ∷ codes "usage" ∷ []

-- what the tree says of a whole run beside its routers: the last part of it
unfoldable pub run_told : Data → Told RunSettings
run_told d =
    and_then (number_at [] (codes "workers") 16 1 256 d) (λ workers.
    and_then (number_at [] (codes "seed") 0 0 (2 ^ 64 - 1) d) (λ seed.
    and_then (if_there feed_told (get (codes "feed") d)) (λ feed.
    Ok (record { workers = workers; seed = seed; feed = feed }))))

-- the value of the tree, or its first fault. The place of the whole is the empty text
unfoldable pub config_of : Data → Told Configured
config_of d =
    and_then (keys_told [] top_keys (codes "routers" ∷ []) d) (λ _.
    and_then (or_default usual_admin admin_told (get (codes "admin") d)) (λ admin.
    and_then (or_default usual_named namerd_told (get (codes "namerd") d)) (λ named.
    and_then (or_default None namers_told (get (codes "namers") d)) (λ root.
    and_then (and_then (or_fault (Bad (codes "routers")) (get (codes "routers") d)) routers_told)
    (λ routed.
    and_then (number_at [] (codes "workers") 16 1 256 d) (λ workers.
    and_then (number_at [] (codes "seed") 0 0 (2 ^ 64 - 1) d) (λ seed.
    and_then (if_there feed_told (get (codes "feed") d)) (λ feed.
    Ok (record {
      admin = admin;
      namerd = named.port;
      server = routed.server;
      root = root;
      rule = record {
        kind = routed.kind;
        prefix = routed.prefix;
        -- a context that nothing is said of is heard
        clears_context = unwrap_or routed.clear_context false;
      };
      clear_context = routed.clear_context;
      space = named.space;
      base = routed.base;
      limits = routed.limits;
      pool = routed.pool;
      retries = routed.retries;
      access_log = routed.access_log;
      workers = workers;
      seed = seed;
      feed = feed;
    })))))))))

-- the text is JSON
abbrev pub IsJson : List ℕ → Type 0
IsJson text = IsUtf8 text × (d : Data) × (read text ≡ Some d)
