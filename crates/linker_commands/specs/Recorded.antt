-- What the workers of a router record while it serves.
use Rattle.std.specs.Prelude.{◌≡◌, ℕ, ◌*◌, ◌<◌, List, [], ◌∷◌, All, Option, None, Some, length}
use Rattle.std.specs.Prelude.{slice_index_or}
use Rattle.count_words.specs.Owning.{places}
use Rattle.count_words.specs.Seats.{WordsId, reads_of, size_of, words_of}
use Rattle.exchange_record.specs.declared.recorder.Recorder as recorder
use Rattle.line_base.specs.Clocks.{Begins}
use Rattle.line_base.specs.Lines.{Line}
use Rattle.line_base.specs.Nets.{Networking}
use Rattle.line_base.specs.declared.socket_address.SocketAddress.{SocketAddress}
use Rattle.line_log.specs.Logged.{HasNone, Logged, with_log}
use Rattle.linker_config.specs.declared.loaded.LoadedItem.{LoadedItem}
use Rattle.router.specs.declared.naming.Naming.{Ghosts}
use Rattle.router.specs.declared.pass.Pass.{Pass}
use Rattle.scrape.specs.declared.scraper.Scraper.{Scraper}
use Rattle.scrape.specs.Scrapes.{Scraping}
use Rattle.serving.specs.declared.running.Served.{Served}
use Rattle.serving.specs.declared.site.Site.{Site}
use Rattle.serving.specs.Ending.{HasServed}
use Rattle.worker_record.specs.Recording.{Begins as BeginsExchange, Ends, IsFresh, RecordValue}
use Rattle.worker_record.specs.Recording.{Steps}

-- what a worker's record makes of what it is told
abbrev pub recording : recorder.Ghosts RecordValue
recording = record { begins = BeginsExchange; ends = Ends; steps = Steps }

-- the log of a worker that has written nothing: there is one, over the path, where one is named
abbrev pub IsNewLog : Option (List ℕ) → Option Logged → Type 0
IsNewLog None None = Unit {0}
IsNewLog None (Some log) = ⊥
IsNewLog (Some path) None = ⊥
IsNewLog (Some path) (Some log) = (log.path ≡ path) × HasNone log

-- a worker that has recorded nothing: its clock is a fork of one with these moments, it has a log
-- over the path, where one is named, and publishes in these words
pub record IsNewRecord (moments : Option (List ℕ)) (path : Option (List ℕ)) (words : WordsId)
    (r : RecordValue) : Type 0 where
  pub clock : Option (List ℕ)
  pub forked : Begins moments clock
  pub log : Option Logged
  pub log_is : IsNewLog path log
  pub fresh : IsFresh clock log r
  pub words_are : r.words ≡ words

-- workers by their numbers: each publishes in the words behind those of the one before it
abbrev pub AreSeated : List RecordValue → Type 0
AreSeated workers =
    (at : ℕ) (d : RecordValue) → at < length workers
    → (slice_index_or workers at d).first ≡ places * at

-- what a scraper tells of itself, by what its clock tells
abbrev pub scraping_of : {C : Type 0} → (C → Option (List ℕ)) → Scraper C → Scraping
scraping_of to_come s = record {
  moments = to_come s.clock;
  words = Some (words_of s.counts.now);
  size = size_of s.counts.now;
  reads = reads_of s.reader;
}

-- a scraper of these words, of so many workers: its clock is a fork of one with these moments
pub record IsScraperOf (moments : Option (List ℕ)) (words : WordsId) (workers : ℕ) (s : Scraping)
    : Type 0 where
  pub forked : Begins moments s.moments
  pub words_are : s.words ≡ Some words
  pub size : s.size ≡ places * workers

-- the logs of these workers behind others, in order, where these are told
abbrev pub with_own : Option (List Logged) → Option Logged → Option (List Logged)
with_own logs None = logs
with_own logs (Some log) = with_log logs log

abbrev pub with_logs : Option (List Logged) → List RecordValue → Option (List Logged)
with_logs logs [] = logs
with_logs logs (r ∷ rs) = with_logs (with_own logs r.log) rs

module _ {J P : Type 0} {g : Ghosts J} where
  -- a router served, with workers that had recorded nothing when they began: what each of them came
  -- back with is what it made of what it was told, and all logs were given back. Whoever scraped it
  -- read the words in which these workers publish
  pub record HasRecorded (line_of : P → Line) (address_of : P → Option SocketAddress) (site : Site)
      (moments : Option (List ℕ)) (path : Option (List ℕ)) (loaded : List LoadedItem)
      (passes : List (Pass J g)) (net net_after : Networking P)
      (logs logs_after : Option (List Logged)) (served : Served) : Type 0 where
    pub words : WordsId
    pub first : List RecordValue
    pub new : All (IsNewRecord moments path words) first
    pub seats : AreSeated first
    pub last : List RecordValue
    pub scrapers : List Scraping
    pub scrape : All (IsScraperOf moments words site.workers) scrapers
    pub whole :
        HasServed line_of address_of recording site moments loaded passes first last scrapers net
        net_after served
    pub logs_are : logs_after ≡ with_logs logs last
