-- A stay of a caller's connection, as a worker and the connection see it.
use Rattle.std.specs.Prelude.{◌≡◌, ℕ, List}
use mathlib.Core.List.{IsPrefix}
use Rattle.line_base.specs.Lines.{Line}
use Rattle.http_wire.specs.declared.paused.Paused.{Paused}
use Rattle.http_wire.specs.declared.paused.Paused.TheVariants as paused
use Rattle.router_log.specs.Operation.{Operation}
use Rattle.router.specs.declared.naming.Naming.{Ghosts}
use Rattle.router.specs.declared.pass.Pass.{Pass}
use Rattle.router.specs.Passes.{SawMore, kept_in, made_in, number_in, seen_in}
use Rattle.snap_cell.specs.History.{longer}
use Rattle.scrape.specs.Scrapes.{Scraping}
use Rattle.api_sessions.specs.declared.stayed.Stayed.{Stayed}
use Rattle.api_sessions.specs.declared.stayed.Stayed.TheVariants as stayed
use Rattle.api_sessions.specs.declared.worker.ApiWorker.{ApiWorker}
use Rattle.api_sessions.specs.Stays.{GoesOn, Idle, Standing, StaysTo, Visit, idle_behind}

module _ {J : Type 0} {g : Ghosts J} where
  -- a pass learned what had been seen: from then on it has seen that, or what it had seen where
  -- that was more, and nothing was called
  pub record Learns (elsewhere : List Operation) (old new : Pass J g) : Type 0 where
    pub number : number_in new ≡ number_in old
    pub seen : seen_in new ≡ longer (seen_in old) elsewhere
    pub told : IsPrefix elsewhere (seen_in new)
    pub more : SawMore old new
    pub counts : (made_in new ≡ made_in old) × (kept_in new ≡ kept_in old)

-- what a worker has between two stays, and the next stay goes on with: its pass, how often its
-- stop was called, and what its scraper tells of itself
pub record WorkerValue (J : Type 0) (g : Ghosts J) : Type 0 where
  pub pass : Pass J g
  pub stops : ℕ
  pub told : Scraping

abbrev pub worker_value : {J S X : Type 0} {g : Ghosts J} → (S → ℕ) → (X → Scraping)
    → ApiWorker J S X g → WorkerValue J g
worker_value calls_of told_of worker = record {
  pass = worker.pass;
  stops = calls_of worker.stop;
  told = told_of worker.scraper;
}

module _ {J : Type 0} {g : Ghosts J} where
  -- the worker in a stay
  abbrev pub worker_in : Standing J g → WorkerValue J g
  worker_in s = record { pass = s.pass; stops = s.stops; told = s.told }

  -- One stay of a connection with a worker: its pass learns first what was seen for the connection,
  -- and then the worker goes on with it. Behind it the connection is such, and came out so
  pub record StaysWith (idle : Idle) (old new : WorkerValue J g) (behind : Idle) (result : Paused)
      : Type 0 where
    pub visit : Visit J g
    pub learns : Learns idle.seen old.pass visit.old.pass
    pub stops : visit.old.stops ≡ old.stops
    pub told : visit.old.told ≡ old.told
    pub goes_on : GoesOn idle visit
    pub stay : StaysTo idle.which visit.from visit.upto visit.old visit.new result
    pub leaves : new ≡ worker_in visit.new
    pub behind_is : behind ≡ idle_behind idle visit

  -- so it came out: it waits, or it has ended, and its peer tells so much
  abbrev pub HasStayed : {P : Type 0} → (P → Line) → Idle → WorkerValue J g → WorkerValue J g
      → Stayed Idle P → Type 0
  HasStayed line_of idle old new (stayed.Waits behind) =
      StaysWith idle old new behind paused.Quiet
  HasStayed line_of idle old new (stayed.Ends peer end) =
      (behind : Idle) × StaysWith idle old new behind (paused.Ended end)
      × (line_of peer ≡ behind.line)
