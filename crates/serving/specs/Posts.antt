-- Where the listeners of a router are, and what serves at each.
use Rattle.std.specs.Prelude.{ℕ, zero, suc, ◌+◌, ◌%◌, ◌^◌, true, List, [], ◌∷◌, ◌++◌, Option, None}
use Rattle.std.specs.Prelude.{Some}
use Rattle.line_base.specs.declared.listener.Endpoint.{Endpoint}
use Rattle.linker_config.specs.declared.config.Port.{Port}
use Rattle.api_sessions.specs.declared.which.Which.{Which}
use Rattle.api_sessions.specs.declared.which.Which.TheVariants.{Namerd, Admin, Feed}
use Rattle.serving.specs.declared.site.Feeding.{Feeding}
use Rattle.serving.specs.declared.site.Site.{Site}

-- what is served at a listener: connections of clients, with a generator of words that begins with
-- this seed, or those of an interface
pub data Post : Type 0 where
  clients : Endpoint → ℕ → Post
  interface : Which → Endpoint → Post

abbrev pub endpoint_at : Port → ℕ → Endpoint
endpoint_at port place = record { ip = port.ip; port = port.port; place = place }

-- the router's listeners have generators of their own: the first one's begins with the site's seed,
-- the next one's with one more
abbrev pub client_post : Site → ℕ → Post
client_post site place = clients (endpoint_at site.server place) ((site.seed + place) % 2 ^ 64)

abbrev pub interface_post : Which → Port → ℕ → Post
interface_post which port place = interface which (endpoint_at port place)

-- so many posts at an address, by their places
abbrev pub posts_at : (ℕ → Post) → ℕ → List Post
posts_at post zero = []
posts_at post (suc n) = posts_at post n ++ post n ∷ []

-- the posts of the listeners that every router has: its own, then two of the interface to the
-- namespaces, then two of the administrator's
abbrev pub main_posts : Site → List Post
main_posts site =
    posts_at (client_post site) site.workers ++ posts_at (interface_post Namerd site.namerd) 2
    ++ posts_at (interface_post (Admin true) site.admin) 2

-- how many listeners the feed has, where it is served
abbrev pub feed_jobs : Option Feeding → ℕ
feed_jobs None = 0
feed_jobs (Some f) = 1

-- and their posts
abbrev pub feed_posts : Option Feeding → List Post
feed_posts None = []
feed_posts (Some f) = posts_at (interface_post (Feed f.run) f.port) 1

-- the posts of all listeners: last that of the feed
abbrev pub posts_of : Site → List Post
posts_of site = main_posts site ++ feed_posts site.feed

-- how many listeners there are in all, and how many of them are those of the interfaces
abbrev pub jobs_of : Site → ℕ
jobs_of site = site.workers + 4 + feed_jobs site.feed

abbrev pub interface_jobs : Site → ℕ
interface_jobs site = 4 + feed_jobs site.feed
