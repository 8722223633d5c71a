-- The router of a configuration.
use Rattle.std.specs.Prelude.{ℕ, Bool, List, [], ◌∷◌, codes, Option, Ok}
use Rattle.serde_json.specs.Data.{Data}
use Rattle.serde_json.specs.Find.{get}
use Rattle.name_tree.specs.Path.{Labels}
use Rattle.name_tree.specs.Computed.{path_of}
use Rattle.dtab_table.specs.Computed.{table_of}
use Rattle.dtab_table.specs.Dtab.{rules_of}
use Rattle.dtab_table.specs.Rules.{Rule as TableRule}
use Rattle.identifier.specs.declared.rule.Kind.{Kind}
use Rattle.identifier.specs.declared.rule.Kind.TheVariants.{Token}
use Rattle.choose_core.specs.declared.mark.Limits.{Limits}
use Rattle.line_base.specs.declared.dialer.ConnectionPool.{ConnectionPool}
use Rattle.retry_budget.specs.declared.tries.Tries.{Tries}
use Rattle.linker_config.specs.declared.config.Port.{Port}
use Rattle.linker_config.specs.declared.routed.Routed as code
use Rattle.linker_config.specs.declared.routed.NameRules as named
use Rattle.linker_config.specs.declared.router_settings.RouterSettings.{RouterSettings}
use Rattle.linker_config.specs.Keys.{Told, and_then, keys_told}
use Rattle.linker_config.specs.Values.{element, exactly, if_there, needed_text, or_default}
use Rattle.linker_config.specs.Values.{text_at}
use Rattle.linker_config.specs.Server.{servers_told, usual_server}
use Rattle.linker_config.specs.Identifier.{identifier_told}
use Rattle.linker_config.specs.Client.{client_told, usual_client}
use Rattle.linker_config.specs.Retries.{retries_told}
use Rattle.linker_config.specs.Logging.{log_of}

-- what a router says
pub record Routed : Type 0 where
  pub base : List TableRule
  pub prefix : Labels
  pub kind : Kind
  pub server : Port
  pub clear_context : Option Bool
  pub limits : Limits
  pub pool : Option ConnectionPool
  pub retries : Option Tries
  pub access_log : Option (List ℕ)

abbrev pub routed_of : code.Routed → Routed
routed_of r =
    record {
      base = rules_of r.base;
      prefix = r.prefix;
      kind = r.kind;
      server = r.server;
      clear_context = r.clear_context;
      limits = r.limits;
      pool = r.pool;
      retries = r.retries;
      access_log = r.access_log;
    }

abbrev pub router_place : List ℕ
router_place = codes "routers[0]"

abbrev pub router_keys : List (List ℕ)
router_keys =
    codes "protocol" ∷ codes "dtab" ∷ codes "dstPrefix" ∷ codes "identifier" ∷ codes "servers"
    ∷ codes "client" ∷ codes "retries"
    -- a label says nothing, and so may the last one
    ∷ codes "label" ∷ codes "httpAccessLog" ∷ []

-- how requests are named, and the router's own table: the first half of what a router says
pub record NameRules : Type 0 where
  pub base : List TableRule
  pub prefix : Labels
  pub kind : Kind

abbrev pub name_rules_of : named.NameRules → NameRules
name_rules_of r = record { base = rules_of r.base; prefix = r.prefix; kind = r.kind }

unfoldable pub name_rules_told : Data → Told NameRules
name_rules_told d =
    and_then (text_at router_place (codes "dtab") [] table_of d) (λ base.
    and_then (text_at router_place (codes "dstPrefix") (codes "svc" ∷ []) path_of d) (λ prefix.
    and_then (or_default (Token (codes "Host")) identifier_told (get (codes "identifier") d))
    (λ kind.
    Ok (record { base = base; prefix = prefix; kind = kind }))))

-- the other half
unfoldable pub router_settings_told : Data → Told RouterSettings
router_settings_told d =
    and_then (or_default usual_server servers_told (get (codes "servers") d)) (λ server.
    and_then (or_default usual_client client_told (get (codes "client") d)) (λ client.
    and_then (if_there retries_told (get (codes "retries") d)) (λ retries.
    Ok (record {
      server = server;
      client = client;
      retries = retries;
      access_log = log_of d;
    }))))

unfoldable pub router_told : Data → Told Routed
router_told d =
    and_then (keys_told router_place router_keys (codes "protocol" ∷ []) d) (λ _.
    and_then (needed_text router_place (codes "protocol") (exactly (codes "http")) d) (λ _.
    and_then (text_at router_place (codes "dtab") [] table_of d) (λ base.
    and_then (text_at router_place (codes "dstPrefix") (codes "svc" ∷ []) path_of d) (λ prefix.
    and_then (or_default (Token (codes "Host")) identifier_told (get (codes "identifier") d))
    (λ kind.
    and_then (or_default usual_server servers_told (get (codes "servers") d)) (λ server.
    and_then (or_default usual_client client_told (get (codes "client") d)) (λ client.
    and_then (if_there retries_told (get (codes "retries") d)) (λ retries.
    Ok (record {
      base = base;
      prefix = prefix;
      kind = kind;
      server = server.port;
      clear_context = server.clear_context;
      limits = client.limits;
      pool = client.pool;
      retries = retries;
      access_log = log_of d;
    })))))))))

unfoldable pub routers_told : Data → Told Routed
routers_told d = and_then (element (codes "routers") d) router_told
