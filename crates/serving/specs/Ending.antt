-- What a router that served did, from its first connection to its end.
use Rattle.std.specs.Prelude.{◌≡◌, ℕ, ◌≤◌, List, length, map, Option, option_map}
use Rattle.one_history.specs.Order.{Distinct}
use Rattle.line_base.specs.declared.socket_address.SocketAddress.{SocketAddress}
use Rattle.line_base.specs.Counts.{added}
use Rattle.line_base.specs.Nets.{Networking}
use Rattle.workers.specs.Turns.{raised_by}
use Rattle.exchange_record.specs.declared.recorder.Recorder.{Ghosts as Recording}
use Rattle.linker_config.specs.declared.loaded.LoadedItem.{LoadedItem}
use Rattle.router.specs.declared.naming.Naming.{Ghosts}
use Rattle.router.specs.declared.pass.Pass.{Pass}
use Rattle.router.specs.Closing.{IsClosed, numbers_of}
use Rattle.line_base.specs.Lines.{Line}
use Rattle.scrape.specs.Scrapes.{Scraping}
use Rattle.serving.specs.declared.running.Served.{Served}
use Rattle.serving.specs.declared.site.Site.{Site}
use Rattle.serving.specs.Services.{HaveSeen}
use Rattle.serving.specs.Returning.{with_all, with_left_over}
use Rattle.serving.specs.Shifts.{admissions}
use Rattle.serving.specs.Posts.{jobs_of}
use Rattle.serving.specs.Running.{HasRun}

module _ {J P K : Type 0} {g : Ghosts J} where
  -- Its passes were apart, and had seen the loaded services. A job ran for each listener, with one
  -- of the passes; and all passes, as they were then, ended with one history, of as many changes as
  -- it tells. So each listener came back clean, over all of them as many peers were finished as had
  -- been accepted, as many stops came back as were handed out, what came back is told in order
  -- where the net tells it, and each loaded service is a change. The recorders came back, each as
  -- the turns of its worker left it. The scrapers are those of the workers of the interfaces
  pub record HasServed (line_of : P → Line) (address_of : P → Option SocketAddress)
      (k : Recording K) (site : Site) (moments : Option (List ℕ)) (loaded : List LoadedItem)
      (passes : List (Pass J g)) (recorders recorders_after : List K) (scrapers : List Scraping)
      (net net_after : Networking P) (served : Served) : Type 0 where
    pub apart : Distinct (numbers_of passes)
    pub seen : HaveSeen loaded passes
    pub last : List (Pass J g)
    pub ran : HasRun line_of address_of k site moments passes last recorders recorders_after
        scrapers net net_after served.lacked_memory
    pub closed : IsClosed served.place last
    pub clean : net_after.clean ≡ raised_by (jobs_of site) net.clean
    pub accepted : net_after.accepted ≡ added net.accepted (admissions ran.shifts)
    pub finished : net_after.finished ≡ added net.finished (admissions ran.shifts)
    pub stops_given : net_after.stops_given ≡ raised_by (jobs_of site) net.stops_given
    pub stops_returned : net_after.stops_returned ≡ raised_by (jobs_of site) net.stops_returned
    pub told :
        net_after.told
        ≡ option_map (with_all (with_left_over ran.over (map (λ s. s.ended) ran.shifts))) net.told
    pub place : length loaded ≤ served.place
