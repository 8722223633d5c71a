-- What a request for a feed asks for: a response that stands at once, or the feed of a namespace.
use Rattle.std.specs.Prelude.{ℕ, List, codes, Option, Some, None}
use Rattle.http_wire.specs.declared.head.Head.{Head}
use Rattle.api_wire.specs.declared.verb.Methods.TheVariants.{Reads}
use Rattle.api_wire.specs.declared.verb.Verb.{Verb}
use Rattle.api_wire.specs.declared.verb.Verb.TheVariants as verbs
use Rattle.addr_book.specs.Name.{name_of}
use Rattle.api_wire.specs.Request.{path_in, segment_behind}
use Rattle.api_wire.specs.Response.{ResponseValue, bad_name, no_path, not_allowed}
use Rattle.api_wire.specs.Response.{response_value}
use Rattle.api_wire.specs.Verbs.{verb_of}
use Rattle.follow_feed.specs.declared.demand.FeedDemand.{FeedDemand}
use Rattle.follow_feed.specs.declared.demand.FeedDemand.TheVariants as demand

pub data FeedDemandValue : Type 0 where
  -- this response, whatever the state is
  answer : ResponseValue → FeedDemandValue
  -- the feed of a namespace
  show : List ℕ → FeedDemandValue

-- what the code's demands say
abbrev pub feed_demand_value : FeedDemand → FeedDemandValue
feed_demand_value (demand.Answer response) = answer (response_value response)
feed_demand_value (demand.Show name) = show name

abbrev pub name_demand : Option (List ℕ) → FeedDemandValue
name_demand None = answer bad_name
name_demand (Some name) = show name

-- the method is tested before the name
abbrev pub space_demand : Option Verb → List ℕ → FeedDemandValue
space_demand (Some verbs.Get) segment = name_demand (name_of segment)
space_demand (Some verbs.Head) segment = name_demand (name_of segment)
space_demand _ segment = answer (not_allowed Reads)

abbrev pub segment_demand : Option Verb → Option (List ℕ) → FeedDemandValue
segment_demand verb None = answer no_path
segment_demand verb (Some segment) = space_demand verb segment

-- What a request asks for, by its head and the target that goes on. The tests come in the order
-- path, method, name
abbrev pub feed_demand : Head → List ℕ → FeedDemandValue
feed_demand head line =
    segment_demand (verb_of head.method) (segment_behind (codes "/feed/") (path_in line))
