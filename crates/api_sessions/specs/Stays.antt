-- The stays of a caller's connection, one after another, with whichever workers.
use Rattle.std.specs.Prelude.{◌≡◌, ℕ, ◌<◌, Bool, List, [], ◌∷◌, Some}
use Rattle.std.specs.Io.KnownBytes.{Appends, Consumes}
use mathlib.Core.List.{IsPrefix}
use Rattle.line_base.specs.Lines.{Line}
use Rattle.http_wire.specs.declared.paused.Paused.{Paused}
use Rattle.http_wire.specs.declared.paused.Paused.TheVariants as paused
use Rattle.http_wire.specs.Paused.{quiets_behind}
use Rattle.router_log.specs.Operation.{Operation}
use Rattle.router.specs.declared.naming.Naming.{Ghosts}
use Rattle.router.specs.declared.pass.Pass.{Pass}
use Rattle.router.specs.Passes.{number_in, seen_in}
use Rattle.api_sessions.specs.declared.which.Which.{Which}
use Rattle.api_sessions.specs.declared.worker.ApiWorker.{ApiWorker}
use Rattle.scrape.specs.Scrapes.{Scraping}
use Rattle.api_sessions.specs.Answering.{Sources}
use Rattle.api_sessions.specs.Reading.{LeavesNone, raised_where}
use Rattle.own_reply.specs.Closing.{most_requests}
use Rattle.api_sessions.specs.Serving.{HasCauses, IsServing, calls_after, ended_in}

-- what a stay moves: what the caller's connection tells, the pass that serves it, how often the
-- worker's stop was called, and what its scraper tells of itself
pub record Standing (J : Type 0) (g : Ghosts J) : Type 0 where
  pub line : Line
  pub pass : Pass J g
  pub stops : ℕ
  pub told : Scraping

-- what it answers from
abbrev pub sources_in : {J : Type 0} {g : Ghosts J} → Standing J g → Sources J g
sources_in s = record { pass = s.pass; told = s.told }

abbrev pub sources_by : {J S X : Type 0} {g : Ghosts J} → (X → Scraping) → ApiWorker J S X g
    → Sources J g
sources_by told_of worker = record { pass = worker.pass; told = told_of worker.scraper }

-- a connection with a worker, by what its peer, its stop and its scraper tell of themselves
abbrev pub standing_by : {P J S X : Type 0} {g : Ghosts J} → (P → Line) → (S → ℕ)
    → (X → Scraping) → P → ApiWorker J S X g → Standing J g
standing_by line_of calls_of told_of peer worker = record {
  line = line_of peer;
  pass = worker.pass;
  stops = calls_of worker.stop;
  told = told_of worker.scraper;
}

-- A stay of a connection that had had `from` requests: these bytes came, and these were written;
-- the worker's stop was called where one of the requests asked for that; the closing of the
-- listeners was told where the connection ended by it; and that nothing came for a while was told
-- once where the connection waits behind the stay, and else not at all. Where it ended since its
-- bytes had ended, nothing of them is left. Behind the stay the connection has had `upto` requests,
-- but for one that ended it
pub record StaysTo {J : Type 0} {g : Ghosts J} (which : Which) (from upto : ℕ)
    (old new : Standing J g) (result : Paused) : Type 0 where
  pub came : List ℕ
  pub gave : List ℕ
  pub stopped : Bool
  pub closing : Bool
  pub left : Consumes old.line.left new.line.left came
  pub given : Appends old.line.given new.line.given gave
  pub stops : new.stops ≡ calls_after old.stops stopped
  pub closings : new.line.closings ≡ raised_where closing old.line.closings
  pub quiets : new.line.quiets ≡ quiets_behind (Some result) old.line.quiets
  pub serves :
      IsServing which from upto (sources_in old) (sources_in new) came gave stopped closing result
  pub causes :
      HasCauses old.line.ends new.line.ends old.line.read_faults new.line.read_faults
      old.line.write_faults new.line.write_faults (ended_in (Some result))
  pub none_left : LeavesNone new.line.left (ended_in (Some result))
  pub number : number_in new.pass ≡ number_in old.pass

-- a connection between two of its stays: what its peer told when it came and what it tells now,
-- which interface answers it, how many requests it has had, and the operations that were seen for
-- it
pub record Idle : Type 0 where
  pub first : Line
  pub line : Line
  pub which : Which
  pub served : ℕ
  pub seen : List Operation

abbrev pub idle_by : Line → Line → Which → ℕ → List Operation → Idle
idle_by first line which served seen =
    record { first = first; line = line; which = which; served = served; seen = seen }

-- that of a caller that came to a worker that had seen these
abbrev pub came : Which → Line → List Operation → Idle
came which line seen = idle_by line line which 0 seen

-- one stay: how many requests the connection had had before it and behind it, and how it stood with
-- its worker
pub record Visit (J : Type 0) (g : Ghosts J) : Type 0 where
  pub from : ℕ
  pub upto : ℕ
  pub old : Standing J g
  pub new : Standing J g

module _ {J : Type 0} {g : Ghosts J} where
  -- a stay goes on from where the connection was, with a worker that has seen all that had been
  -- seen for it
  pub record GoesOn (idle : Idle) (v : Visit J g) : Type 0 where
    pub line : v.old.line ≡ idle.line
    pub served : v.from ≡ idle.served
    pub seen : IsPrefix idle.seen (seen_in v.old.pass)

  -- the connection behind a stay of it
  abbrev pub idle_behind : Idle → Visit J g → Idle
  idle_behind idle v = idle_by idle.first v.new.line idle.which v.upto (seen_in v.new.pass)

  -- stays one after another, behind each of which the connection waits
  abbrev pub HasStays : List (Visit J g) → Idle → Idle → Type 0
  HasStays [] first last = last ≡ first
  HasStays (v ∷ vs) first last =
      GoesOn first v
      × StaysTo first.which v.from v.upto v.old v.new paused.Quiet
      × HasStays vs (idle_behind first v) last

-- some stays with workers of this router led there from a caller that came
abbrev pub CameTo : {J : Type 0} → Ghosts J → Idle → Type 0
CameTo {J} g idle =
    (seen : List Operation) × (vs : List (Visit J g))
    × HasStays vs (came idle.which idle.first seen) idle

-- a connection that waits: it may have a further request, and some stays led to it
pub record IsWaiting {J : Type 0} (g : Ghosts J) (idle : Idle) : Type 0 where
  pub few : idle.served < most_requests
  pub chain : CameTo g idle
