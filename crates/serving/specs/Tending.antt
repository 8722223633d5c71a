-- What came of the jobs of a site, once they have ended and are taken apart.
use Rattle.std.specs.Prelude.{◌≡◌, ℕ, ◌+◌, ◌++◌, List, length, map, Option, sum_by}
use Rattle.std.specs.List.{AllZip, list_any}
use Rattle.line_base.specs.declared.socket_address.SocketAddress.{SocketAddress}
use Rattle.line_base.specs.Accepts.{Listening}
use Rattle.line_base.specs.Dials.{Upstream}
use Rattle.line_base.specs.Lines.{Line}
use Rattle.line_base.specs.Nets.{Returns}
use Rattle.exchange_record.specs.declared.recorder.Recorder.{Ghosts as Recording}
use Rattle.router.specs.declared.naming.Naming.{Ghosts}
use Rattle.router.specs.declared.pass.Pass.{Pass}
use Rattle.waiting.specs.Hands.{left_by, taken_by}
use Rattle.scrape.specs.Scrapes.{Scraping}
use Rattle.serving.specs.declared.parts.Apart.{Apart}
use Rattle.serving.specs.declared.site.Site.{Site}
use Rattle.serving.specs.Parts.{ended_by}
use Rattle.serving.specs.Posts.{interface_jobs, jobs_of, posts_of}
use Rattle.serving.specs.Shifts.{ServesPost, Shift, admissions, recorders_before}
use Rattle.serving.specs.Shifts.{recorders_behind, returns, scrapers_before}

module _ {J L D S K A B E F : Type 0} {g : Ghosts J} where
  -- the parts of a job for each listener of a site, and a hand at a lot for each worker
  pub record HasParts (site : Site) (a : Apart J L D S K A B E F g) : Type 0 where
    pub parts : length a.parts.items ≡ jobs_of site
    pub clients : length a.client_hands.items ≡ site.workers
    pub callers : length a.caller_hands.items ≡ interface_jobs site

  -- how many connections were left to wait with the hands of all workers, and how many were taken
  abbrev pub all_left : Apart J L D S K A B E F g → ℕ
  all_left a = sum_by left_by a.client_hands.items + sum_by left_by a.caller_hands.items

  abbrev pub all_taken : Apart J L D S K A B E F g → ℕ
  all_taken a = sum_by taken_by a.client_hands.items + sum_by taken_by a.caller_hands.items

-- A job ran for each listener of a site, with a pass of its own, and these passes are left. Those
-- for clients had these recorders, in order, and those for an interface these scrapers. What came
-- back is taken apart. Over all of them, the connections that came, or were taken where they
-- waited, are as many as those that were given back, or left to wait
module _ {P J L D S K A B E F : Type 0} {g : Ghosts J} (line_of : P → Line)
    (address_of : P → Option SocketAddress) (k : Recording K) (state : L → Listening P)
    (upstream : D → Upstream) (calls : S → ℕ) where
  pub record HaveTended (site : Site) (moments : Option (List ℕ)) (told : Option (Returns P))
      (passes rest : List (Pass J g)) (recorders : List K) (scrapers : List Scraping)
      (apart : Apart J L D S K A B E F g) : Type 0 where
    pub shifts : List (Shift J P K g)
    pub before : passes ≡ map (λ s. s.before) shifts ++ rest
    pub behind : apart.passes.items ≡ map (λ s. s.behind) shifts
    pub given : recorders ≡ recorders_before shifts
    pub recorded : apart.recorders.items ≡ recorders_behind shifts
    pub scraped : scrapers ≡ scrapers_before shifts
    pub served :
        AllZip (ServesPost line_of address_of k site.policy moments told) (posts_of site) shifts
    pub ended :
        map (ended_by state upstream calls) apart.parts.items ≡ map (λ s. s.ended) shifts
    pub even : admissions shifts + all_taken apart ≡ returns shifts + all_left apart
    pub lacked : apart.lacked_memory ≡ list_any (λ s. s.lacked_memory) shifts
