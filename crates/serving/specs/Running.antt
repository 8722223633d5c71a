-- A router that is ready to serve, and how it ends.
use Rattle.std.specs.Prelude.{◌≡◌, ℕ, suc, ◌+◌, ◌≤◌, ◌<◌, ◌^◌, Bool, List, [], ◌∷◌, ◌++◌, length}
use Rattle.std.specs.Prelude.{map, Option, None, Some, IfSome}
use Rattle.std.specs.List.{AllZip, list_any}
use Rattle.one_history.specs.Order.{Distinct}
use Rattle.line_base.specs.declared.socket_address.SocketAddress.{SocketAddress}
use Rattle.line_base.specs.Accepts.{Listening}
use Rattle.line_base.specs.Nets.{IsNew, Networking, Returns}
use Rattle.exchange_record.specs.declared.recorder.Recorder.{Ghosts as Recording}
use Rattle.linker_config.specs.declared.config.Port.{Port}
use Rattle.scrape.specs.Scrapes.{Scraping}
use Rattle.router.specs.declared.naming.Naming.{Ghosts}
use Rattle.router.specs.declared.pass.Pass.{Pass}
use Rattle.router.specs.Closing.{numbers_of}
use Rattle.line_base.specs.Lines.{Line}
use Rattle.serving.specs.declared.bound.Bound.{Bound}
use Rattle.serving.specs.declared.running.Serving.{Serving}
use Rattle.serving.specs.declared.site.Feeding.{Feeding}
use Rattle.serving.specs.declared.site.Site.{Site}
use Rattle.serving.specs.Passes.{AreFree}
use Rattle.serving.specs.Posts.{endpoint_at, feed_jobs, jobs_of, posts_of}
use Rattle.serving.specs.LeftOver.{LeftOver}
use Rattle.serving.specs.Returning.{all_ended, with_left_over, with_stops}
use Rattle.serving.specs.Shifts.{ServesPost, Shift, admissions, recorders_before}
use Rattle.serving.specs.Shifts.{recorders_behind, returns, scrapers_before}

module _ {P L : Type 0} (state : L → Listening P) (told : Option (Returns P)) where
  -- new listeners at an address, for this place and those behind it
  abbrev pub AreNewFrom : Port → ℕ → List L → Type 0
  AreNewFrom port place [] = Unit {0}
  AreNewFrom port place (l ∷ ls) =
      IsNew told (endpoint_at port place) (state l) × AreNewFrom port (suc place) ls

  -- those of the feed, where it is served
  abbrev pub AreNewFeed : Option Feeding → List L → Type 0
  AreNewFeed None ls = Unit {0}
  AreNewFeed (Some f) ls = AreNewFrom f.port 0 ls

  -- there is a new listener for each post of a site, and the net can tell when they come back
  pub record Listens (site : Site) (b : Bound L) : Type 0 where
    pub server : AreNewFrom site.server 0 b.server.items
    pub namerd : AreNewFrom site.namerd 0 b.namerd.items
    pub admin : AreNewFrom site.admin 0 b.admin.items
    pub feed : AreNewFeed site.feed b.feed.items
    pub count : (length b.server.items ≡ site.workers) × (length b.namerd.items ≡ 2)
        × (length b.admin.items ≡ 2) × (length b.feed.items ≡ feed_jobs site.feed)
    pub few : site.workers < 2 ^ 32
    pub room : IfSome told (λ r. jobs_of site ≤ r.room)

module _ {J L : Type 0} {g : Ghosts J} where
  -- the passes of its router, and its listeners
  abbrev pub passes_of : Serving J L g → List (Pass J g)
  passes_of s = s.passes.items

  abbrev pub bound_of : Serving J L g → Bound L
  bound_of s = s.bound

  -- all passes of its router are there, none of them in use
  pub record IsReady (s : Serving J L g) : Type 0 where
    pub apart : Distinct (numbers_of s.passes.items)
    pub all : length s.passes.items ≡ g.seats
    pub free : AreFree s.passes.items

module _ {J P K : Type 0} {g : Ghosts J} where
  -- A job ran for each listener of a site, with a pass of its own, and one pass served nobody. Each
  -- job for clients had one of the recorders, in order, and they came back as their turns left
  -- them; each job for an interface had one of the scrapers. The connections that waited still were
  -- ended at the first listener: so as many were given back as had come. Then the listeners came
  -- back to the net, in their order, with the stops that it had handed out
  pub record HasRun (line_of : P → Line) (address_of : P → Option SocketAddress)
      (k : Recording K) (site : Site) (moments : Option (List ℕ))
      (passes passes_after : List (Pass J g)) (recorders recorders_after : List K)
      (scrapers : List Scraping) (net net_after : Networking P) (lacked_memory : Bool) : Type 0
    where
      pub shifts : List (Shift J P K g)
      pub rest : Pass J g
      pub before : passes ≡ map (λ s. s.before) shifts ++ rest ∷ []
      pub behind : passes_after ≡ map (λ s. s.behind) shifts ++ rest ∷ []
      pub given : recorders ≡ recorders_before shifts
      pub recorded : recorders_after ≡ recorders_behind shifts
      pub scraped : scrapers ≡ scrapers_before shifts
      pub served :
          AllZip (ServesPost line_of address_of k site.policy moments net.told) (posts_of site)
          shifts
      pub over : List P
      pub left_over : LeftOver line_of g site.policy.rule site.policy.retries over
      pub all_back : admissions shifts ≡ returns shifts + length over
      pub net_is :
          net_after ≡ all_ended (with_left_over over (map (λ s. s.ended) shifts))
          (with_stops (jobs_of site) net)
      pub lacked : lacked_memory ≡ list_any (λ s. s.lacked_memory) shifts
