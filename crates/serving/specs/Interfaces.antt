-- What a worker does with the connections of the interfaces, a turn at a time.
use Rattle.std.specs.Prelude.{◌≡◌, ◌⊎◌, ℕ, Bool}
use Rattle.http_wire.specs.declared.paused.Paused.{Paused}
use Rattle.http_wire.specs.declared.paused.Paused.TheVariants as paused
use Rattle.router.specs.declared.naming.Naming.{Ghosts}
use Rattle.router.specs.declared.pass.Pass.{Pass}
use Rattle.router.specs.Passes.{seen_in}
use Rattle.line_base.specs.Lines.{Line}
use Rattle.api_sessions.specs.declared.which.Which.{Which}
use Rattle.api_sessions.specs.declared.worker.ApiWorker.{ApiWorker}
use Rattle.api_sessions.specs.Stays.{CameTo, Idle as Caller, came}
use Rattle.api_sessions.specs.Workers.{StaysWith, WorkerValue, worker_value}
use Rattle.scrape.specs.Scrapes.{Scraping}
use Rattle.workers.specs.Turns.{Begin, End, Turn, from_peer, from_stay, given_back, left}
use Rattle.serving.specs.Sessions.{lacked_in}

-- what goes on from one turn to the next: the pass, how often the stop was called, what was read
-- for those who scrape, and whether a stay ran out of memory
pub record Desk (J : Type 0) (g : Ghosts J) : Type 0 where
  pub worker : WorkerValue J g
  pub lacked_memory : Bool

-- how a turn ends behind a stay that came out so: its connection waits as the stay left it, or its
-- caller is given back
abbrev pub EndsAs : {P : Type 0} → (P → Line) → Caller → Paused → End P Caller → Type 0
EndsAs line_of behind paused.Quiet (left caller) = caller ≡ behind
EndsAs line_of behind paused.Quiet (given_back peer) = ⊥
EndsAs line_of behind (paused.Ended end) (left caller) = ⊥
EndsAs line_of behind (paused.Ended end) (given_back peer) = line_of peer ≡ behind.line

-- some stays led to a connection that waited from a caller that came
abbrev pub HasCome : {P J : Type 0} → Ghosts J → Begin P Caller → Type 0
HasCome g (from_peer peer) = Unit {0}
HasCome g (from_stay caller) = CameTo g caller

module _ {J : Type 0} {g : Ghosts J} where
  abbrev pub desk_by : Pass J g → ℕ → Scraping → Bool → Desk J g
  desk_by pass stops told lacked_memory = record {
    worker = record { pass = pass; stops = stops; told = told };
    lacked_memory = lacked_memory;
  }

  abbrev pub desk_of : {S X : Type 0} → (S → ℕ) → (X → Scraping) → ApiWorker J S X g → Bool
      → Desk J g
  desk_of calls told_of worker lacked_memory =
      record { worker = worker_value calls told_of worker; lacked_memory = lacked_memory }

  -- a turn was a stay of this connection, with what the turn before it left
  pub record IsAnswered {P : Type 0} (line_of : P → Line) (caller : Caller) (old : Desk J g)
      (end : End P Caller) (new : Desk J g) : Type 0 where
    pub behind : Caller
    pub paused : Paused
    pub stay : StaysWith caller old.worker new.worker behind paused
    pub ends : EndsAs line_of behind paused end
    pub lacked : new.lacked_memory ≡ lacked_in old.lacked_memory paused

  module _ {P : Type 0} (line_of : P → Line) where
    -- the connection with which a turn begins: that of a caller that came to this interface, or one
    -- that waited, of whichever interface
    abbrev pub begun_at : Which → Desk J g → Begin P Caller → Caller
    begun_at which old (from_peer peer) = came which (line_of peer) (seen_in old.worker.pass)
    begun_at which old (from_stay caller) = caller

    -- a connection that waited was ended, and nothing else moved
    abbrev pub IsEnded : Begin P Caller → End P Caller → Desk J g → Desk J g → Type 0
    IsEnded (from_stay caller) (given_back peer) old new =
        (line_of peer ≡ caller.line) × (new ≡ old)
    IsEnded (from_stay caller) (left after) old new = ⊥
    IsEnded (from_peer peer) end old new = ⊥

  -- one turn: a stay of a caller that came or of a connection that waited, or the end of one that
  -- waited
  abbrev pub AnswersTurn : {P : Type 0} → (P → Line) → Which → Desk J g → Turn P Caller
      → Desk J g → Type 0
  AnswersTurn line_of which old t new =
      HasCome g t.begin
      × (IsAnswered line_of (begun_at line_of which old t.begin) old t.end new
      ⊎ IsEnded line_of t.begin t.end old new)
