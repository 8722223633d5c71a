-- What a request of an interface is answered, and what it moves.
use Rattle.std.specs.Prelude.{◌≡◌, ◌≢◌, ℕ, Bool, true, false, ◌⊎◌, List, codes}
use Rattle.http_wire.specs.declared.head.Head.{Head}
use Rattle.http_wire.specs.Target.{Form, IsServed}
use Rattle.machine.specs.Code.{reply_value}
use Rattle.machine.specs.declared.reply.Reply.{Reply}
use Rattle.machine.specs.Looking.{space_told}
use Rattle.machine.specs.Values.{ChangeValue, LookValue, get_table, services_at}
use Rattle.router_log.specs.Call.{looked}
use Rattle.router_log.specs.Operation.{place_of}
use Rattle.router.specs.Asking.{IsLooked}
use Rattle.router.specs.Changing.{IsChanged}
use Rattle.router.specs.declared.naming.Naming.{Ghosts}
use Rattle.router.specs.declared.pass.Pass.{Pass}
use Rattle.router.specs.Passes.{number_in, reads_in, seen_in, Entered, NotLetIn, Unanswered}
use Rattle.scrape.specs.declared.sums.Sums.{Sums}
use Rattle.scrape.specs.Scrapes.{IsMoment, Scraping, SumsUp}
use Rattle.api_wire.specs.declared.delivery.Delivery.{Delivery}
use Rattle.api_wire.specs.declared.reply.ApiReply.{ApiReply}
use Rattle.api_wire.specs.Delivery.{IsWritten, delivery_of}
use Rattle.api_wire.specs.Demand.{DemandValue, answer, stop, alter, ask}
use Rattle.api_wire.specs.Telling.{response_to}
use Rattle.admin_api.specs.Metrics.{IsMetricsBody, metrics_response}
use Rattle.follow_feed.specs.Feeds.{feed_of, run_of}
use Rattle.follow_feed.specs.Texts.{feed_response}
use Rattle.api_sessions.specs.declared.looking.Told.{Told}
use Rattle.api_sessions.specs.declared.which.Which.{Which}
use Rattle.api_sessions.specs.Asked.{AskedValue, asked_of, demand, metrics, feed}

-- the target of the head is one that is served, and the method is not CONNECT
pub record IsTaken (head : Head) : Type 0 where
  pub other : head.method ≢ codes "CONNECT"
  pub form : Form
  pub served : IsServed head.method head.target form

-- what a worker answers from: the router, by its pass, and what the workers count, by what its
-- scraper tells of itself
pub record Sources (J : Type 0) (g : Ghosts J) : Type 0 where
  pub pass : Pass J g
  pub told : Scraping

-- this is the reply with the text of the metrics, by what a look told and by these sums
pub record TellsMetrics (told : Told) (sums : Sums) (delivery : Delivery) (reply : ApiReply)
    : Type 0 where
  pub text : List ℕ
  pub body : IsMetricsBody (reply_value told.reply) told.kept sums text
  pub written : IsWritten (metrics_response text) delivery false reply

-- this is the reply with the feed of a run, by what a look at a namespace told
abbrev pub TellsFeed : ℕ → Told → Delivery → ApiReply → Type 0
TellsFeed run told delivery reply =
    IsWritten
    (feed_response (record {
      run = run;
      place = told.place;
      table = space_told (reply_value told.reply);
    })) delivery false reply

-- it was refused entry some times, one after the other, and nothing else was done
pub data Waited {J : Type 0} {g : Ghosts J} (old : Pass J g) : Pass J g → Type 0 where
  at_once : Waited old old
  again : {mid new : Pass J g} → Waited old mid → number_in new ≡ number_in mid → NotLetIn mid new
      → Waited old new

module _ {J : Type 0} {g : Ghosts J} where
  abbrev pub sources_of : Pass J g → Scraping → Sources J g
  sources_of pass told = record { pass = pass; told = told }

  -- a change was asked for, and its reply told
  pub record IsAltered (change : ChangeValue) (delivery : Delivery) (old new : Pass J g)
      (reply : ApiReply) : Type 0 where
    pub said : Reply
    pub changed : IsChanged old new change said
    pub written : IsWritten (response_to delivery.as_dtab (reply_value said)) delivery false reply

  -- a look was answered, once the pass was let in
  pub record IsSaid (look : LookValue) (old new : Pass J g) (told : Told) : Type 0 where
    pub mid : Pass J g
    pub waited : Waited old mid
    pub looked : IsLooked mid new look told.place told.reply told.kept

  -- and its reply told
  pub record IsAsked (look : LookValue) (delivery : Delivery) (old new : Pass J g)
      (reply : ApiReply) : Type 0 where
    pub told : Told
    pub answered : IsSaid look old new told
    pub written :
        IsWritten (response_to delivery.as_dtab (reply_value told.reply)) delivery false reply

  -- what was asked for was done, at one point, or nothing where nothing is to be done; and so it
  -- was answered
  abbrev pub IsCarriedOut : DemandValue → Delivery → Pass J g → Pass J g → ApiReply → Type 0
  IsCarriedOut (answer said) delivery old new reply =
      (new ≡ old) × IsWritten said delivery false reply
  IsCarriedOut (stop said) delivery old new reply = (new ≡ old) × IsWritten said delivery true reply
  IsCarriedOut (alter change) delivery old new reply = IsAltered change delivery old new reply
  IsCarriedOut (ask look) delivery old new reply = IsAsked look delivery old new reply

  -- a look that was made, or not, where memory was wanting
  pub record MayHaveLooked (look : LookValue) (old new : Pass J g) : Type 0 where
    pub mid : Pass J g
    pub waited : Waited old mid
    pub made : (new ≡ mid) ⊎ (Entered mid new (looked look) × (reads_in new ≡ reads_in mid))

  -- a change that was made, or not
  abbrev pub MayHaveChanged : ChangeValue → Pass J g → Pass J g → Type 0
  MayHaveChanged change old new =
      Unanswered old new ⊎ ((said : Reply) × IsChanged old new change said)

  -- what stands after want of memory: what was asked for was done, or nothing
  abbrev pub Leaves : DemandValue → Pass J g → Pass J g → Type 0
  Leaves (answer said) old new = new ≡ old
  Leaves (stop said) old new = new ≡ old
  Leaves (alter change) old new = MayHaveChanged change old new
  Leaves (ask look) old new = MayHaveLooked look old new

  -- A namespace was looked at, once the pass was let in, and its feed told: the one that it has in
  -- the router's history at the place of the look
  pub record IsShown
      (run : ℕ) (space : List ℕ) (delivery : Delivery) (old new : Pass J g) (reply : ApiReply)
      : Type 0 where
    pub mid : Pass J g
    pub waited : Waited old mid
    pub entered : Entered mid new (looked (get_table space))
    pub reads : reads_in new ≡ reads_in mid
    pub written :
        IsWritten
        (feed_response (feed_of (run_of run g.settings (seen_in new)) (place_of (seen_in new))
        space))
        delivery false reply

  -- The metrics were told: the scraper's clock gave a moment; the services were looked at as they
  -- are at that moment, once the pass was let in, at one point of the history; each word of the
  -- workers was read once; and the text of that state and of these sums was written
  pub record IsScraped (delivery : Delivery) (old new : Sources J g) (reply : ApiReply) : Type 0
    where
      pub moment : ℕ
      pub clocked : Scraping
      pub drawn : IsMoment old.told clocked moment
      pub told : Told
      pub looked : IsSaid (services_at moment) old.pass new.pass told
      pub sums : Sums
      pub summed : SumsUp clocked new.told sums
      pub tells : TellsMetrics told sums delivery reply

  -- or memory was wanting behind the moment: the services were looked at, or not, and the words
  -- were read, or not
  pub record MayHaveScraped (old new : Sources J g) : Type 0 where
    pub moment : ℕ
    pub clocked : Scraping
    pub drawn : IsMoment old.told clocked moment
    pub looked : MayHaveLooked (services_at moment) old.pass new.pass
    pub summed : (new.told ≡ clocked) ⊎ ((sums : Sums) × SumsUp clocked new.told sums)

  -- what was asked for was done, and so it was answered; but for the metrics nothing was scraped
  abbrev pub IsDone : AskedValue → Delivery → Sources J g → Sources J g → ApiReply → Type 0
  IsDone (demand d) delivery old new reply =
      IsCarriedOut d delivery old.pass new.pass reply × (new.told ≡ old.told)
  IsDone metrics delivery old new reply = IsScraped delivery old new reply
  IsDone (feed run space) delivery old new reply =
      IsShown run space delivery old.pass new.pass reply × (new.told ≡ old.told)

  -- what stands where there was no memory
  abbrev pub LeavesDone : AskedValue → Sources J g → Sources J g → Type 0
  LeavesDone (demand d) old new = Leaves d old.pass new.pass × (new.told ≡ old.told)
  LeavesDone metrics old new = (new ≡ old) ⊎ MayHaveScraped old new
  LeavesDone (feed run space) old new =
      MayHaveLooked (get_table space) old.pass new.pass × (new.told ≡ old.told)

  -- the same by the interface, and by the target that goes on
  abbrev pub AnswersAs : Which → Head → Bool → List ℕ → Sources J g → Sources J g → ApiReply
      → Type 0
  AnswersAs which head last body old new reply =
      (form : Form) → IsServed head.method head.target form
      → IsDone (asked_of which head form.line body) (delivery_of head last) old new reply

  abbrev pub LeavesAs : Which → Head → List ℕ → Sources J g → Sources J g → Type 0
  LeavesAs which head body old new =
      (form : Form) → IsServed head.method head.target form
      → LeavesDone (asked_of which head form.line body) old new
