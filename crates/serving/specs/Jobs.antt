-- What a job has, how a new one is posted, and what a run of it does.
use Rattle.std.specs.Prelude.{◌≡◌, ℕ, Bool, false, List, [], ◌∷◌, ◌++◌, map, Option, None}
use Rattle.rand_core.specs.Pcg32Seed.{pcg32_seed}
use Rattle.rand_pcg.specs.Pcg.{pcg64_of_seed}
use Rattle.line_base.specs.declared.listener.Endpoint.{Endpoint}
use Rattle.line_base.specs.declared.socket_address.SocketAddress.{SocketAddress}
use Rattle.line_base.specs.Accepts.{Listening}
use Rattle.line_base.specs.Clocks.{Begins}
use Rattle.line_base.specs.Counts.{raised}
use Rattle.line_base.specs.Nets.{Ended, IsNew, IsNewLog, Returns}
use Rattle.waiting.specs.declared.hand.Hand.{Hand}
use Rattle.waiting.specs.Hands.{IsNew as IsNewHand}
use Rattle.workers.specs.declared.accepting.Accepting.{Accepting}
use Rattle.workers.specs.declared.accepting.Accepting.TheVariants.{Closed, Failing}
use Rattle.workers.specs.Ends.{Ends}
use Rattle.workers.specs.Turns.{Handles, Lends, ServesTurns, Turn, admitted, left_in, returned}
use Rattle.workers.specs.Turns.{taken_in}
use Rattle.client_stays.specs.declared.handling.Handling.{Ghosts as Handled}
use Rattle.exchange_record.specs.declared.recorder.Recorder.{Ghosts as Recording}
use Rattle.serving.specs.declared.policy.Policy.{Policy}
use Rattle.router.specs.declared.naming.Naming.{Ghosts}
use Rattle.router.specs.declared.pass.Pass.{Pass}
use Rattle.router.specs.Passes.{number_in}
use Rattle.line_base.specs.Dials.{Upstream}
use Rattle.line_base.specs.Lines.{Line}
use Rattle.api_sessions.specs.declared.which.Which.{Which}
use Rattle.api_sessions.specs.Stays.{Idle as Caller}
use Rattle.scrape.specs.Scrapes.{Scraping}
use Rattle.client_stays.specs.Chains.{Idle}
use Rattle.serving.specs.declared.job.ApiJob.{ApiJob}
use Rattle.serving.specs.declared.job.ProxyJob.{ProxyJob}
use Rattle.serving.specs.declared.job.ServingJob.{ServingJob}
use Rattle.serving.specs.declared.job.ServingJob.TheVariants as job
use Rattle.serving.specs.declared.proxy.ProxyServer.{ProxyServer}
use Rattle.serving.specs.Interfaces.{AnswersTurn, desk_by, desk_of}
use Rattle.serving.specs.Pools.{pool_by}
use Rattle.serving.specs.Posts.{Post, clients, interface}
use Rattle.serving.specs.Sessions.{Attends, Going, going_by}

-- a job of a router: one for clients or one for an interface
abbrev pub RouterJob : (P J L D C K S X A B E F : Type 0) → Handled J → Ghosts J → Type 0
RouterJob P J L D C K S X A B E F h g =
    ServingJob (ProxyJob P J L D C K S A B h g) (ApiJob P J L S X E F g)

module _ {P J L D C K S X A B E F : Type 0} {h : Handled J} {g : Ghosts J} where
  abbrev pub pass_of : RouterJob P J L D C K S X A B E F h g → Pass J g
  pass_of (job.Proxy j) = j.server.server.pass
  pass_of (job.Api j) = j.server.worker.pass

  abbrev pub passes_of_jobs : List (RouterJob P J L D C K S X A B E F h g) → List (Pass J g)
  passes_of_jobs js = map pass_of js

  abbrev pub lacked_of : RouterJob P J L D C K S X A B E F h g → Bool
  lacked_of (job.Proxy j) = j.server.lacked_memory
  lacked_of (job.Api j) = j.server.lacked_memory

  -- the recorder of a job for clients
  abbrev pub recorder_of : RouterJob P J L D C K S X A B E F h g → List K
  recorder_of (job.Proxy j) = j.server.recorder ∷ []
  recorder_of (job.Api j) = []

  abbrev pub recorders_of_jobs : List (RouterJob P J L D C K S X A B E F h g) → List K
  recorders_of_jobs [] = []
  recorders_of_jobs (j ∷ js) = recorder_of j ++ recorders_of_jobs js

  -- the scraper of a job for an interface
  abbrev pub scraper_of : RouterJob P J L D C K S X A B E F h g → List X
  scraper_of (job.Proxy j) = []
  scraper_of (job.Api j) = j.server.worker.scraper ∷ []

  abbrev pub scrapers_of_jobs : List (RouterJob P J L D C K S X A B E F h g) → List X
  scrapers_of_jobs [] = []
  scrapers_of_jobs (j ∷ js) = scraper_of j ++ scrapers_of_jobs js

  -- the hands at the clients' lot, and those at the callers'
  abbrev pub client_hand : RouterJob P J L D C K S X A B E F h g → List (Hand A B)
  client_hand (job.Proxy j) = j.hand ∷ []
  client_hand (job.Api j) = []

  abbrev pub caller_hand : RouterJob P J L D C K S X A B E F h g → List (Hand E F)
  caller_hand (job.Proxy j) = []
  caller_hand (job.Api j) = j.hand ∷ []

  abbrev pub client_hands : List (RouterJob P J L D C K S X A B E F h g) → List (Hand A B)
  client_hands [] = []
  client_hands (j ∷ js) = client_hand j ++ client_hands js

  abbrev pub caller_hands : List (RouterJob P J L D C K S X A B E F h g) → List (Hand E F)
  caller_hands [] = []
  caller_hands (j ∷ js) = caller_hand j ++ caller_hands js

-- what goes back to the net from a job
module _ {P J L D C K S X A B E F : Type 0} {h : Handled J} {g : Ghosts J}
    (state : L → Listening P) (upstream : D → Upstream) (calls : S → ℕ) where
  abbrev pub ended_of : RouterJob P J L D C K S X A B E F h g → Ended P
  ended_of (job.Proxy j) =
      record {
        listener = state j.listener;
        log = (upstream j.server.server.way.dialer).log;
        stops = calls j.stop;
      }
  ended_of (job.Api j) =
      record { listener = state j.listener; log = None; stops = calls j.server.worker.stop }

-- a new job for the connections of an interface
module _ {P J L S X E F : Type 0} {g : Ghosts J} (state : L → Listening P) (calls : S → ℕ)
    (told : Option (Returns P)) where
  pub record IsApiPosted (which : Which) (endpoint : Endpoint) (j : ApiJob P J L S X E F g)
      : Type 0 where
    pub listener : IsNew told endpoint (state j.listener)
    pub which_is : j.server.which ≡ which
    pub lacked : j.server.lacked_memory ≡ false
    pub stops : calls j.server.worker.stop ≡ 0
    pub hand : IsNewHand j.hand

module _ {P J L D C K S A B : Type 0} {h : Handled J} {g : Ghosts J} (state : L → Listening P)
    (upstream : D → Upstream) (to_come : C → Option (List ℕ)) (calls : S → ℕ) (policy : Policy)
    (moments : Option (List ℕ)) (told : Option (Returns P)) where
  -- a new job for the connections of clients
  pub record IsProxyPosted (endpoint : Endpoint) (seed : ℕ) (j : ProxyJob P J L D C K S A B h g)
      : Type 0 where
    pub listener : IsNew told endpoint (state j.listener)
    pub log : IsNewLog told (upstream j.server.server.way.dialer).log
    pub hung : (upstream j.server.server.way.dialer).open_to ≡ None
    pub none_kept : (upstream j.server.server.way.dialer).kept ≡ []
    pub pool : (upstream j.server.server.way.dialer).pool ≡ pool_by policy.pool
    pub clock : Begins moments (to_come j.server.server.clock)
    pub words : j.server.server.words ≡ pcg64_of_seed (pcg32_seed 32 seed)
    pub policy_is : j.server.policy.now ≡ policy
    pub lacked : j.server.lacked_memory ≡ false
    pub stops : calls j.stop ≡ 0
    pub hand : IsNewHand j.hand

module _ {P J L D C K S X A B E F : Type 0} {h : Handled J} {g : Ghosts J}
    (state : L → Listening P) (upstream : D → Upstream) (to_come : C → Option (List ℕ))
    (calls : S → ℕ) (policy : Policy) (moments : Option (List ℕ)) (told : Option (Returns P))
  where
    abbrev pub IsPosted : Post → RouterJob P J L D C K S X A B E F h g → Type 0
    IsPosted (clients endpoint seed) (job.Proxy j) =
        IsProxyPosted state upstream to_come calls policy moments told endpoint seed j
    IsPosted (clients endpoint seed) (job.Api j) = ⊥
    IsPosted (interface which endpoint) (job.Proxy j) = ⊥
    IsPosted (interface which endpoint) (job.Api j) =
        IsApiPosted state calls told which endpoint j

-- what goes on from one turn of a job to the next
module _ {J D C K : Type 0} {h : Handled J} {g : Ghosts J} (upstream : D → Upstream)
    (to_come : C → Option (List ℕ))
  where
    abbrev pub going_of : ProxyServer J D C K h g → Going K
    going_of s = going_by upstream to_come s.server s.lacked_memory s.recorder

-- how often a job's stop was called behind a run that ended so: once more where its listener broke,
-- so that the others close too
abbrev pub stops_behind : Accepting → ℕ → ℕ
stops_behind Closed calls = calls
stops_behind Failing calls = raised calls

-- a job ran that serves an interface: its turns were one after another, its listener handed out the
-- peers that they began with and took those back that they ended with, and its hand counts what
-- they left and took, until the listener was closed or broke. Its stop is the one that they call
module _ {P J L S X E F : Type 0} {g : Ghosts J} (line_of : P → Line) (state : L → Listening P)
    (calls : S → ℕ) (told_of : X → Scraping) where
  pub record RunsApi (old new : ApiJob P J L S X E F g) (end : Accepting) : Type 0 where
    pub turns : List (Turn P Caller)
    pub stopped : ℕ
    pub serves : ServesTurns (AnswersTurn line_of old.server.which)
        (desk_of calls told_of old.server.worker old.server.lacked_memory) turns
        (desk_by new.server.worker.pass stopped (told_of new.server.worker.scraper)
        new.server.lacked_memory)
    pub lends : Lends (admitted turns) (returned turns) (state old.listener) (state new.listener)
    pub hands : Handles (left_in turns) (taken_in turns) old.hand new.hand
    pub ends : Ends end (state old.listener) (state new.listener)
    pub stops : calls new.server.worker.stop ≡ stops_behind end stopped
    pub number : number_in new.server.worker.pass ≡ number_in old.server.worker.pass

module _ {P J L D C K S A B : Type 0} {h : Handled J} {g : Ghosts J} (line_of : P → Line)
    (address_of : P → Option SocketAddress) (k : Recording K) (state : L → Listening P)
    (upstream : D → Upstream) (to_come : C → Option (List ℕ)) (calls : S → ℕ) where
  -- a job ran that serves clients, in the same way
  pub record RunsProxy (old new : ProxyJob P J L D C K S A B h g) (end : Accepting) : Type 0 where
    pub turns : List (Turn P Idle)
    pub serves : ServesTurns (Attends line_of address_of k g.settings old.server.policy.now)
        (going_of upstream to_come old.server) turns (going_of upstream to_come new.server)
    pub lends : Lends (admitted turns) (returned turns) (state old.listener) (state new.listener)
    pub hands : Handles (left_in turns) (taken_in turns) old.hand new.hand
    pub ends : Ends end (state old.listener) (state new.listener)
    pub stops : calls new.stop ≡ stops_behind end (calls old.stop)
    pub number : number_in new.server.server.pass ≡ number_in old.server.server.pass

-- a job ran: what a run of one of its kind does
abbrev pub RunsAs : {M N : Type 0} → (M → M → Accepting → Type 0) → (N → N → Accepting → Type 0)
    → ServingJob M N → ServingJob M N → Accepting → Type 0
RunsAs runs_proxy runs_api (job.Proxy old) (job.Proxy new) end = runs_proxy old new end
RunsAs runs_proxy runs_api (job.Proxy old) (job.Api new) end = ⊥
RunsAs runs_proxy runs_api (job.Api old) (job.Proxy new) end = ⊥
RunsAs runs_proxy runs_api (job.Api old) (job.Api new) end = runs_api old new end

module _ {P J L D C K S X A B E F : Type 0} {h : Handled J} {g : Ghosts J} (line_of : P → Line)
    (address_of : P → Option SocketAddress) (k : Recording K) (state : L → Listening P)
    (upstream : D → Upstream) (to_come : C → Option (List ℕ)) (calls : S → ℕ)
    (told_of : X → Scraping) where
  abbrev pub Runs : RouterJob P J L D C K S X A B E F h g → RouterJob P J L D C K S X A B E F h g
      → Accepting → Type 0
  Runs = RunsAs (RunsProxy line_of address_of k state upstream to_come calls)
      (RunsApi line_of state calls told_of)
