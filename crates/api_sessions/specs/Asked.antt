-- What requests of the interfaces ask for.
use Rattle.std.specs.Prelude.{ℕ, List}
use Rattle.http_wire.specs.declared.head.Head.{Head}
use Rattle.api_wire.specs.Demand.{DemandValue, IsSoundDemand, answer, demand_value}
use Rattle.ns_api.specs.Demand.{ns_demand}
use Rattle.admin_api.specs.Demand as admins
use Rattle.admin_api.specs.Demand.{AdminValue, admin_demand}
use Rattle.follow_feed.specs.Demand as feeds
use Rattle.follow_feed.specs.Demand.{FeedDemandValue, feed_demand}
use Rattle.api_sessions.specs.declared.asked.Asked.{Asked}
use Rattle.api_sessions.specs.declared.asked.Asked.TheVariants as asks
use Rattle.api_sessions.specs.declared.which.Which.{Which}
use Rattle.api_sessions.specs.declared.which.Which.TheVariants.{Namerd, Admin, Feed}

-- what a request of an interface asks for
pub data AskedValue : Type 0 where
  -- what the router alone answers, or nobody
  demand : DemandValue → AskedValue
  -- the text of all metrics
  metrics : AskedValue
  -- the feed of a namespace, by the run of this number
  feed : ℕ → List ℕ → AskedValue

-- what the code's say
abbrev pub asked_value : Asked → AskedValue
asked_value (asks.Demand d) = demand (demand_value d)
asked_value asks.Metrics = metrics
asked_value (asks.Feed run name) = feed run name

-- the tables that it brings in are sound
abbrev pub IsSoundAsked : AskedValue → Type 0
IsSoundAsked (demand d) = IsSoundDemand d
IsSoundAsked metrics = Unit {0}
IsSoundAsked (feed run name) = Unit {0}

-- what a request of the admin interface asks for
abbrev pub of_admin : AdminValue → AskedValue
of_admin admins.metrics = metrics
of_admin (admins.other d) = demand d

-- what a request for a feed of this run asks for
abbrev pub of_feed : ℕ → FeedDemandValue → AskedValue
of_feed run (feeds.answer said) = demand (answer said)
of_feed run (feeds.show space) = feed run space

-- what a request of this interface asks for, by its head, the target that goes on, and its body
unfoldable pub asked_of : Which → Head → List ℕ → List ℕ → AskedValue
asked_of Namerd head line body = demand (ns_demand head line body)
asked_of (Admin ready) head line body = of_admin (admin_demand ready head line body)
asked_of (Feed run) head line body = of_feed run (feed_demand head line)
