-- A chain of steps, and the same chain in parts.
use Rattle.std.proofs.Common.{◌≡◌, ℕ, ◌^◌, ◌-◌, [], ◌∷◌, codes, List, Option, Ok, Err, refl}
use Rattle.std.specs.Prelude.{unwrap_or, false, None}
use Rattle.serde_json.specs.Data.{Data}
use Rattle.serde_json.specs.Find.{get}
use Rattle.name_tree.specs.Path.{Labels}
use Rattle.name_tree.specs.Computed.{path_of}
use Rattle.dtab_table.specs.Computed.{table_of}
use Rattle.dtab_table.specs.Rules.{Rule as TableRule}
use Rattle.identifier.specs.declared.rule.Kind.{Kind}
use Rattle.identifier.specs.declared.rule.Kind.TheVariants.{Token}
use Rattle.retry_budget.specs.declared.tries.Tries.{Tries}
use Rattle.linker_config.specs.declared.client.ClientSettings.{ClientSettings}
use Rattle.linker_config.specs.declared.config.FeedAt.{FeedAt}
use Rattle.linker_config.specs.declared.config.Port.{Port}
use Rattle.linker_config.specs.declared.reading.RunSettings.{RunSettings}
use Rattle.linker_config.specs.declared.router_settings.RouterSettings.{RouterSettings}
use Rattle.linker_config.specs.declared.server.ServerSettings.{ServerSettings}
use Rattle.linker_config.specs.Keys.{Told, and_then, keys_told}
use Rattle.linker_config.specs.Values.{exactly, if_there, needed_text, number_at, or_default}
use Rattle.linker_config.specs.Values.{text_at}
use Rattle.linker_config.specs.Client.{client_told, usual_client}
use Rattle.linker_config.specs.Config.{Configured, run_told}
use Rattle.linker_config.specs.Feed.{feed_told}
use Rattle.linker_config.specs.Identifier.{identifier_told}
use Rattle.linker_config.specs.Listening.{Named}
use Rattle.linker_config.specs.Logging.{log_of}
use Rattle.linker_config.specs.Retries.{retries_told}
use Rattle.linker_config.specs.Router.{NameRules, Routed, name_rules_told, router_keys}
use Rattle.linker_config.specs.Router.{router_place}
use Rattle.linker_config.specs.Router.{router_settings_told, router_told}
use Rattle.linker_config.specs.Server.{servers_told, usual_server}

-- three steps that do not hear of one another, and what is told after them
pub in_three : {A B C P V : Type 0} (a : Told A) (b : Told B) (c : Told C) (parts : A → B → C → P)
    (next : P → Told V)
    → and_then a (λ x. and_then b (λ y. and_then c (λ z. next (parts x y z))))
    ≡ and_then (and_then a (λ x. and_then b (λ y. and_then c (λ z. Ok (parts x y z))))) next
in_three (Ok x) (Ok y) (Ok z) parts next = refl
in_three (Ok x) (Ok y) (Err fault) parts next = refl
in_three (Ok x) (Err fault) c parts next = refl
in_three (Err fault) b c parts next = refl

-- six such steps
pub in_halves : {A B C D E F P Q V : Type 0} (a : Told A) (b : Told B) (c : Told C) (d : Told D)
    (e : Told E) (f : Told F) (first : A → B → C → P) (second : D → E → F → Q) (whole : P → Q → V)
    → and_then a (λ x. and_then b (λ y. and_then c (λ z.
    and_then d (λ u. and_then e (λ v. and_then f (λ w. Ok (whole (first x y z) (second u v w))))))))
    ≡ and_then (and_then a (λ x. and_then b (λ y. and_then c (λ z. Ok (first x y z))))) (λ p.
    and_then (and_then d (λ u. and_then e (λ v. and_then f (λ w. Ok (second u v w))))) (λ q.
    Ok (whole p q)))
in_halves (Ok x) (Ok y) (Ok z) d e f first second whole =
    in_three d e f second (λ q. Ok (whole (first x y z) q))
in_halves (Ok x) (Ok y) (Err fault) d e f first second whole = refl
in_halves (Ok x) (Err fault) c d e f first second whole = refl
in_halves (Err fault) b c d e f first second whole = refl

-- the halves of what a router says
abbrev pub rules_by : List TableRule → Labels → Kind → NameRules
rules_by base prefix kind = record { base = base; prefix = prefix; kind = kind }

abbrev pub settings_by : Option (List ℕ) → ServerSettings → ClientSettings → Option Tries
    → RouterSettings
settings_by log server client retries =
    record { server = server; client = client; retries = retries; access_log = log }

abbrev pub routed_by : NameRules → RouterSettings → Routed
routed_by rules settings =
    record {
      base = rules.base;
      prefix = rules.prefix;
      kind = rules.kind;
      server = settings.server.port;
      clear_context = settings.server.clear_context;
      limits = settings.client.limits;
      pool = settings.client.pool;
      retries = settings.retries;
      access_log = settings.access_log;
    }

-- a router of which the keys are known, and that speaks HTTP
pub router_halves : (d : Data) → keys_told router_place router_keys (codes "protocol" ∷ []) d
    ≡ Ok tt
    → needed_text router_place (codes "protocol") (exactly (codes "http")) d ≡ Ok tt
    → router_told d ≡ and_then (name_rules_told d) (λ rules. and_then (router_settings_told d)
    (λ settings. Ok (routed_by rules settings)))
unfolding router_told name_rules_told router_settings_told
router_halves d keys word =
    rw (keys, word) (in_halves
    (text_at router_place (codes "dtab") [] table_of d)
    (text_at router_place (codes "dstPrefix") (codes "svc" ∷ []) path_of d)
    (or_default (Token (codes "Host")) identifier_told (get (codes "identifier") d))
    (or_default usual_server servers_told (get (codes "servers") d))
    (or_default usual_client client_told (get (codes "client") d))
    (if_there retries_told (get (codes "retries") d))
    rules_by (settings_by (log_of d)) routed_by)

-- what is told of a whole run beside its routers
abbrev pub run_by : ℕ → ℕ → Option FeedAt → RunSettings
run_by workers seed feed = record { workers = workers; seed = seed; feed = feed }

pub run_last : {V : Type 0} (d : Data) (next : RunSettings → Told V)
    → and_then (number_at [] (codes "workers") 16 1 256 d) (λ workers.
    and_then (number_at [] (codes "seed") 0 0 (2 ^ 64 - 1) d) (λ seed.
    and_then (if_there feed_told (get (codes "feed") d)) (λ feed.
    next (run_by workers seed feed))))
    ≡ and_then (run_told d) next
unfolding run_told
run_last d next =
    in_three (number_at [] (codes "workers") 16 1 256 d)
    (number_at [] (codes "seed") 0 0 (2 ^ 64 - 1) d)
    (if_there feed_told (get (codes "feed") d)) run_by next

-- a configuration of its parts
abbrev pub config_by : Port → Named → Option (List ℕ) → Routed → RunSettings → Configured
config_by admin named root routed run =
    record {
      admin = admin;
      namerd = named.port;
      server = routed.server;
      root = root;
      rule = record {
        kind = routed.kind;
        prefix = routed.prefix;
        clears_context = unwrap_or routed.clear_context false;
      };
      clear_context = routed.clear_context;
      space = named.space;
      base = routed.base;
      limits = routed.limits;
      pool = routed.pool;
      retries = routed.retries;
      access_log = routed.access_log;
      workers = run.workers;
      seed = run.seed;
      feed = run.feed;
    }
