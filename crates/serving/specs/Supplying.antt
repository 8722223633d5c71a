-- What all jobs of a router get.
use Rattle.std.specs.Prelude.{◌≡◌, ◌≤◌, length}
use Rattle.serving.specs.declared.instruments.Instruments.{Instruments}
use Rattle.serving.specs.declared.jobs.Supplies.{Supplies}
use Rattle.serving.specs.declared.site.Site.{Site}
use Rattle.serving.specs.Hands.{AreNewHands}
use Rattle.serving.specs.Posts.{interface_jobs}

-- a recorder for each worker that serves clients, and a scraper for each that serves the interfaces
pub record AreInstrumentsFor {K X : Type 0} (site : Site) (i : Instruments K X) : Type 0 where
  pub recorders : length i.recorders.items ≡ site.workers
  pub scrapers : length i.scrapers.items ≡ interface_jobs site

-- a room for each worker that serves clients, instruments for all, and a new hand for each worker
pub record AreSupplied {K X A B E F : Type 0} (site : Site) (s : Supplies K X A B E F) : Type 0
  where
    pub rooms : site.workers ≤ length s.rooms.items
    pub instruments : AreInstrumentsFor site s.instruments
    pub clients : site.workers ≤ length s.hands.clients.items
    pub callers : interface_jobs site ≤ length s.hands.callers.items
    pub new_clients : AreNewHands s.hands.clients.items
    pub new_callers : AreNewHands s.hands.callers.items
