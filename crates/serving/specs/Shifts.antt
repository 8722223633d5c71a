-- What came of the connections of one listener.
use Rattle.std.specs.Prelude.{◌≡◌, ℕ, ◌+◌, ◌++◌, Bool, false, List, [], ◌∷◌, length}
use Rattle.std.specs.Prelude.{None, Option}
use Rattle.rand_core.specs.Pcg32Seed.{pcg32_seed}
use Rattle.rand_pcg.specs.Pcg.{pcg64_of_seed}
use Rattle.line_base.specs.declared.listener.Endpoint.{Endpoint}
use Rattle.line_base.specs.declared.socket_address.SocketAddress.{SocketAddress}
use Rattle.line_base.specs.Accepts.{Listening}
use Rattle.line_base.specs.Clocks.{Begins}
use Rattle.line_base.specs.Nets.{Ended, IsNew, IsNewLog, Returns}
use Rattle.workers.specs.Turns.{Lends, ServesTurns, Turn, admitted, returned}
use Rattle.exchange_record.specs.declared.recorder.Recorder.{Ghosts as Recording}
use Rattle.serving.specs.declared.policy.Policy.{Policy}
use Rattle.router.specs.declared.naming.Naming.{Ghosts}
use Rattle.router.specs.declared.pass.Pass.{Pass}
use Rattle.router.specs.Passes.{number_in}
use Rattle.proxy_session.specs.Callers.{caller_of, Caller as CallerValue}
use Rattle.line_base.specs.Dials.{Upstream}
use Rattle.line_base.specs.Lines.{Line}
use Rattle.api_sessions.specs.declared.which.Which.{Which}
use Rattle.api_sessions.specs.Stays.{Idle as Caller}
use Rattle.scrape.specs.Scrapes.{Scraping}
use Rattle.client_stays.specs.Chains.{Idle}
use Rattle.serving.specs.Interfaces.{AnswersTurn, desk_by}
use Rattle.serving.specs.Pools.{pool_by}
use Rattle.serving.specs.Posts.{Post, clients, interface}
use Rattle.serving.specs.Sessions.{Attends, Going}

-- the turns of a worker, in order: of connections of clients, or of those of the interfaces
pub data Turns (P : Type 0) : Type 0 where
  of_clients : List (Turn P Idle) → Turns P
  of_callers : List (Turn P Caller) → Turns P

module _ {P : Type 0} where
  -- the peers that began such turns, and those that were given back
  abbrev pub admitted_in : Turns P → List P
  admitted_in (of_clients turns) = admitted turns
  admitted_in (of_callers turns) = admitted turns

  abbrev pub returned_in : Turns P → List P
  returned_in (of_clients turns) = returned turns
  returned_in (of_callers turns) = returned turns

-- the pass that served at a listener, before the first turn and behind the last; the turns; what
-- came back to the net in the end, but for the connections that waited still; whether a stay ran
-- out of memory; the recorder, before the first turn and behind the last, of a worker that serves
-- clients; and the scraper, before the first turn, of one that serves an interface
pub record Shift (J P K : Type 0) (g : Ghosts J) : Type 0 where
  pub before : Pass J g
  pub behind : Pass J g
  pub turns : Turns P
  pub ended : Ended P
  pub lacked_memory : Bool
  pub recorder_before : List K
  pub recorder_behind : List K
  pub scraper_before : List Scraping

-- what the first turn begins with
abbrev pub beginning : {K : Type 0} → CallerValue → Upstream → Option (List ℕ) → ℕ → K → Going K
beginning caller dialer moments seed recorder = record {
  server = record {
    upstream = dialer;
    caller = caller;
    moments = moments;
    words = pcg64_of_seed (pcg32_seed 32 seed);
  };
  lacked_memory = false;
  recorder = recorder;
}

module _ {J P K : Type 0} {g : Ghosts J} where
  -- how many connections came, and how many were given back in turns
  abbrev pub admissions : List (Shift J P K g) → ℕ
  admissions [] = 0
  admissions (s ∷ ss) = length (admitted_in s.turns) + admissions ss

  abbrev pub returns : List (Shift J P K g) → ℕ
  returns [] = 0
  returns (s ∷ ss) = length (returned_in s.turns) + returns ss

  -- the recorders of the workers that serve clients, in order
  abbrev pub recorders_before : List (Shift J P K g) → List K
  recorders_before [] = []
  recorders_before (s ∷ ss) = s.recorder_before ++ recorders_before ss

  abbrev pub recorders_behind : List (Shift J P K g) → List K
  recorders_behind [] = []
  recorders_behind (s ∷ ss) = s.recorder_behind ++ recorders_behind ss

  -- the scrapers of the workers that serve the interfaces, in order
  abbrev pub scrapers_before : List (Shift J P K g) → List Scraping
  scrapers_before [] = []
  scrapers_before (s ∷ ss) = s.scraper_before ++ scrapers_before ss

  -- the listener was new, handed out the peers that began turns and took back those that ended
  -- them, and then answered once that it is closed. The pass keeps its number
  pub record IsTended (told : Option (Returns P)) (endpoint : Endpoint) (s : Shift J P K g) : Type 0
    where
      pub first : Listening P
      pub new : IsNew told endpoint first
      pub lends : Lends (admitted_in s.turns) (returned_in s.turns) first s.ended.listener
      pub closes : s.ended.listener.closes ≡ 1
      pub run : s.ended.listener.run ≡ 0
      pub number : number_in s.behind ≡ number_in s.before

  -- the turns of clients' connections were one after another, each with what the one before it
  -- left: the first one with a new dialer, which keeps connections as the policy says, a fork of a
  -- clock with these moments, a generator with this seed, and the recorder that was given. What the
  -- last one left of that came back. Its stop was never called
  pub record HasSessions (line_of : P → Line) (address_of : P → Option SocketAddress)
      (k : Recording K) (policy : Policy) (moments : Option (List ℕ))
      (told : Option (Returns P)) (endpoint : Endpoint) (seed : ℕ) (s : Shift J P K g) : Type 0
    where
      pub tended : IsTended told endpoint s
      pub dialer : Upstream
      pub new_dialer : IsNewLog told dialer.log × (dialer.open_to ≡ None)
      pub pool : dialer.pool ≡ pool_by policy.pool
      pub kept : dialer.kept ≡ []
      pub clock : Option (List ℕ)
      pub forked : Begins moments clock
      pub recorder : K
      pub given : s.recorder_before ≡ recorder ∷ []
      pub final : Going K
      pub turns : List (Turn P Idle)
      pub turns_are : s.turns ≡ of_clients turns
      pub serves : ServesTurns (Attends line_of address_of k g.settings policy)
          (beginning (caller_of s.before) dialer clock seed recorder) turns final
      pub caller : final.server.caller ≡ caller_of s.behind
      pub log : s.ended.log ≡ final.server.upstream.log
      pub lacked : s.lacked_memory ≡ final.lacked_memory
      pub recorded : s.recorder_behind ≡ final.recorder ∷ []
      pub scraped : s.scraper_before ≡ []
      pub stops : s.ended.stops ≡ 0

  -- the turns of the interfaces' connections were one after another: the requests of each were
  -- answered with the pass and the scraper that were given, by the interface that it came to. The
  -- stop was called where one of them asked for it
  pub record HasAnswers (line_of : P → Line) (told : Option (Returns P)) (which : Which)
      (endpoint : Endpoint) (s : Shift J P K g) : Type 0 where
    pub tended : IsTended told endpoint s
    pub turns : List (Turn P Caller)
    pub turns_are : s.turns ≡ of_callers turns
    pub first : Scraping
    pub last : Scraping
    pub scraped : s.scraper_before ≡ first ∷ []
    pub serves : ServesTurns (AnswersTurn line_of which) (desk_by s.before 0 first false) turns
        (desk_by s.behind s.ended.stops last s.lacked_memory)
    pub log : s.ended.log ≡ None
    pub given : s.recorder_before ≡ []
    pub recorded : s.recorder_behind ≡ []

  -- a listener's connections were served as its post says
  abbrev pub ServesPost : (P → Line) → (P → Option SocketAddress) → Recording K → Policy
      → Option (List ℕ) → Option (Returns P) → Post → Shift J P K g → Type 0
  ServesPost line_of address_of k policy moments told (clients endpoint seed) s =
      HasSessions line_of address_of k policy moments told endpoint seed s
  ServesPost line_of address_of k policy moments told (interface which endpoint) s =
      HasAnswers line_of told which endpoint s
