-- What was done for what a request of an interface asked for.
use Rattle.std.proofs.Common.{◌≡◌, List, ℕ, Bool, Result, Ok, Err, refl, subst, inl, inr}
use Rattle.std.specs.Prelude.{IfOk, OnErr, false}
use Rattle.std.specs.declared.alloc.AllocError.{AllocError}
use Rattle.http_wire.specs.declared.head.Head.{Head}
use Rattle.http_wire.specs.Target.{Form, IsServed}
use Rattle.machine.specs.Code.{reply_value}
use Rattle.machine.specs.Values.{services_at}
use Rattle.router.specs.declared.naming.Naming.{Ghosts}
use Rattle.router.specs.declared.pass.Pass.{Pass}
use Rattle.scrape.specs.declared.sums.Sums.{Sums}
use Rattle.scrape.specs.Scrapes.{IsMoment, Scraping, SumsUp}
use Rattle.api_wire.specs.declared.delivery.Delivery.{Delivery}
use Rattle.api_wire.specs.declared.reply.ApiReply.{ApiReply}
use Rattle.api_wire.specs.Delivery.{IsWritten, delivery_of}
use Rattle.api_wire.specs.Response.{ResponseValue}
use Rattle.ns_api.proofs.Sounds.{ns_sound}
use Rattle.admin_api.proofs.Sounds.{admin_sound}
use Rattle.admin_api.specs.Demand as admins
use Rattle.admin_api.specs.Demand.{AdminValue, IsSoundAdmin, admin_demand}
use Rattle.admin_api.specs.Metrics.{TellsMetrics as TellsResponse, metrics_response}
use Rattle.follow_feed.specs.Demand as feeds
use Rattle.follow_feed.specs.Demand.{FeedDemandValue, feed_demand}
use Rattle.api_sessions.specs.declared.looking.Told.{Told}
use Rattle.api_sessions.specs.declared.which.Which.{Which}
use Rattle.api_sessions.specs.declared.which.Which.TheVariants.{Namerd, Admin, Feed}
use Rattle.api_sessions.specs.Answering.{AnswersAs, IsDone, IsSaid, IsScraped, LeavesAs, LeavesDone}
use Rattle.api_sessions.specs.Answering.{MayHaveScraped, Sources, TellsMetrics, at_once, sources_of}
use Rattle.api_sessions.specs.declared.asked.Asked.{Asked}
use Rattle.api_sessions.specs.Asked.{AskedValue, IsSoundAsked, asked_of, asked_value, demand, feed}
use Rattle.api_sessions.specs.Asked.{metrics, of_admin, of_feed}
use Rattle.api_sessions.proofs.Carrying.{leaves_all}
use Rattle.api_sessions.proofs.Forms.{one_form}

-- what is asked for in the form that was read is what is asked for in each form of the target
pub asked_in_each : (result : Result Asked AllocError) (which : Which) (head : Head)
    (line body : List ℕ) (form : Form) → IsServed head.method head.target form → line ≡ form.line
    → IfOk result (λ asked. asked_value asked ≡ asked_of which head line body)
    → IfOk result (λ asked. (any : Form) → IsServed head.method head.target any
    → asked_value asked ≡ asked_of which head any.line body)
asked_in_each (Ok asked) which head line body form served read known = λ any is.
    let P : List ℕ → Type 0 = λ l. asked_value asked ≡ asked_of which head l body in
    let Q : Form → Type 0 = λ f. P f.line in
    subst Q (one_form head.method head.target form any served is) (subst P read known)
asked_in_each (Err want) which head line body form served read known = tt

-- where nothing was scraped
pub unscraped : {A : Type 0} (P : A → Type 0) (told : Scraping) (result : Result A AllocError)
    → IfOk result P → IfOk result (λ x. P x × (told ≡ told))
unscraped P told (Ok x) h = (h, refl)
unscraped P told (Err want) h = tt

pub left_unscraped : {A : Type 0} (Q : Type 0) (told : Scraping) (result : Result A AllocError)
    → OnErr result Q → OnErr result (Q × (told ≡ told))
left_unscraped Q told (Ok x) h = tt
left_unscraped Q told (Err want) h = (h, refl)

-- ---- the tables that requests bring in are sound

admin_asked : (a : AdminValue) → IsSoundAdmin a → IsSoundAsked (of_admin a)
admin_asked admins.metrics h = tt
admin_asked (admins.other d) h = h

feed_asked : (run : ℕ) (d : FeedDemandValue) → IsSoundAsked (of_feed run d)
feed_asked run (feeds.answer said) = tt
feed_asked run (feeds.show space) = tt

pub asked_sound : (which : Which) (head : Head) (line body : List ℕ)
    → IsSoundAsked (asked_of which head line body)
unfolding asked_of
asked_sound Namerd head line body = ns_sound head line body
asked_sound (Admin ready) head line body =
    admin_asked (admin_demand ready head line body) (admin_sound ready head line body)
asked_sound (Feed run) head line body = feed_asked run (feed_demand head line)

module _ {J : Type 0} {g : Ghosts J} (old new : Sources J g) (result : Result ApiReply AllocError)
  where
    -- what is known of what the code was asked is known of what it says
    pub done_as : (a b : AskedValue) (x y : Delivery) → a ≡ b → x ≡ y
        → IfOk result (IsDone a x old new) → IfOk result (IsDone b y old new)
    done_as a b x y same alike h =
        let P : AskedValue → Type 0 = λ z. IfOk result (IsDone z x old new) in
        let Q : Delivery → Type 0 = λ z. IfOk result (IsDone b z old new) in
        subst Q alike (subst P same h)

    pub left_as : (a b : AskedValue) → a ≡ b → OnErr result (LeavesDone a old new)
        → OnErr result (LeavesDone b old new)
    left_as a b same h =
        let P : AskedValue → Type 0 = λ x. OnErr result (LeavesDone x old new) in subst P same h

    pub may_have : OnErr result (MayHaveScraped old new) → OnErr result (LeavesDone metrics old new)
    may_have h = by_case result h
      where
        by_case : (r : Result ApiReply AllocError) → OnErr r (MayHaveScraped old new)
            → OnErr r (LeavesDone metrics old new)
        by_case (Ok reply) known = tt
        by_case (Err want) known = inr known

    -- and what is known of it is known of what is asked for in each form of the target
    pub answers_by : (asked : AskedValue) (delivery : Delivery) (which : Which) (head : Head)
        (last : Bool) (body : List ℕ)
        → ((form : Form) → IsServed head.method head.target form
        → asked ≡ asked_of which head form.line body)
        → delivery ≡ delivery_of head last → IfOk result (IsDone asked delivery old new)
        → IfOk result (AnswersAs which head last body old new)
    answers_by asked delivery which head last body is alike h = by_case result h
      where
        by_case : (r : Result ApiReply AllocError) → IfOk r (IsDone asked delivery old new)
            → IfOk r (AnswersAs which head last body old new)
        by_case (Ok reply) known = λ form served.
            let P : AskedValue → Type 0 = λ a. IsDone a delivery old new reply in
            let Q : Delivery → Type 0 = λ d.
            IsDone (asked_of which head form.line body) d old new reply in
            subst Q alike (subst P (is form served) known)
        by_case (Err want) known = tt

    pub leaves_by : (asked : AskedValue) (which : Which) (head : Head) (body : List ℕ)
        → ((form : Form) → IsServed head.method head.target form
        → asked ≡ asked_of which head form.line body)
        → OnErr result (LeavesDone asked old new)
        → OnErr result (LeavesAs which head body old new)
    leaves_by asked which head body is h = by_case result h
      where
        by_case : (r : Result ApiReply AllocError) → OnErr r (LeavesDone asked old new)
            → OnErr r (LeavesAs which head body old new)
        by_case (Ok reply) known = tt
        by_case (Err want) known = λ form served.
            let P : AskedValue → Type 0 = λ a. LeavesDone a old new in
            subst P (is form served) known

-- nothing was done
pub leaves_nothing : {J : Type 0} {g : Ghosts J} (asked : AskedValue) (p : Sources J g)
    → LeavesDone asked p p
leaves_nothing metrics p = inl refl
leaves_nothing (demand d) p = (leaves_all d p.pass, refl)
leaves_nothing (feed run space) p =
    (record { mid = p.pass; waited = at_once; made = inl refl }, refl)

-- ---- the metrics

-- their text, as it goes out
pub told_metrics : (told : Told) (sums : Sums) (delivery : Delivery) (said : ResponseValue)
    (result : Result ApiReply AllocError)
    → TellsResponse (reply_value told.reply) told.kept sums said
    → IfOk result (IsWritten said delivery false) → IfOk result (TellsMetrics told sums delivery)
told_metrics told sums delivery said result tells written =
    by_case result (subst (λ (r : ResponseValue). IfOk result (IsWritten r delivery false))
    tells.is written)
  where
    by_case : (r : Result ApiReply AllocError)
        → IfOk r (IsWritten (metrics_response tells.text) delivery false)
        → IfOk r (TellsMetrics told sums delivery)
    by_case (Ok reply) known = record { text = tells.text; body = tells.body; written = known }
    by_case (Err want) known = tt

module _ {J : Type 0} {g : Ghosts J} (delivery : Delivery) (before after : Pass J g)
    (first second third : Scraping) (moment : ℕ) (drawn : IsMoment first second moment)
    (told : Told) (looked : IsSaid (services_at moment) before after told) (sums : Sums)
    (summed : SumsUp second third sums) (result : Result ApiReply AllocError) where
  -- they were told
  pub scraped : IfOk result (TellsMetrics told sums delivery)
      → IfOk result (IsScraped delivery (sources_of before first) (sources_of after third))
  scraped written = by_case result written
    where
      by_case : (r : Result ApiReply AllocError)
          → IfOk r (TellsMetrics told sums delivery)
          → IfOk r (IsScraped delivery (sources_of before first) (sources_of after third))
      by_case (Ok reply) known = record {
        moment = moment;
        clocked = second;
        drawn = drawn;
        told = told;
        looked = looked;
        sums = sums;
        summed = summed;
        tells = known;
      }
      by_case (Err want) known = tt

  -- or there was no memory for their text
  pub was_scraped : OnErr result (MayHaveScraped (sources_of before first) (sources_of after third))
  was_scraped = by_case result
    where
      by_case : (r : Result ApiReply AllocError)
          → OnErr r (MayHaveScraped (sources_of before first) (sources_of after third))
      by_case (Ok reply) = tt
      by_case (Err want) = record {
        moment = moment;
        clocked = second;
        drawn = drawn;
        looked = record {
          mid = looked.mid;
          waited = looked.waited;
          made = inr (looked.looked.entered, looked.looked.reads);
        };
        summed = inr (sums, summed);
      }
