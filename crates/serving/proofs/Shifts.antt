-- From the jobs that ran to what came of each listener.
use Rattle.std.proofs.Common.{◌≡◌, ℕ, ◌+◌, ◌||◌, Bool, true, false, List, [], ◌∷◌, ◌++◌, length}
use Rattle.std.proofs.Common.{length-append, map, refl, sym, ap, subst, ◌∙◌, arith, None, Some}
use Rattle.std.proofs.lemmas.Bool.Decides.{nat_tests}
use Rattle.std.proofs.lemmas.List.{map-append}
use Rattle.std.proofs.lemmas.List.Sums.{sum_by-append}
use Rattle.std.specs.Prelude.{Option, nat_le, sum_by}
use Rattle.std.specs.List.{AllZip, list_any}
use Rattle.rand_core.specs.Pcg32Seed.{pcg32_seed}
use Rattle.rand_pcg.specs.Lcg.{Lcg}
use Rattle.rand_pcg.specs.Pcg.{pcg64_of_seed}
use Rattle.line_base.specs.declared.listener.Endpoint.{Endpoint}
use Rattle.line_base.specs.declared.socket_address.SocketAddress.{SocketAddress}
use Rattle.line_base.specs.Accepts.{Listening}
use Rattle.line_base.specs.Counts.{raised}
use Rattle.line_base.specs.Nets.{Ended, IsNew, Networking, Returns}
use Rattle.workers.specs.declared.accepting.Accepting.{Accepting}
use Rattle.workers.specs.declared.accepting.Accepting.TheVariants as accepting
use Rattle.workers.specs.Runs.{ComesBack}
use Rattle.workers.specs.Ends.{Ends}
use Rattle.workers.specs.Turns.{Lends, ServesTurns}
use Rattle.api_sessions.specs.Stays.{Idle as Caller}
use Rattle.client_stays.specs.Chains.{Idle}
use Rattle.client_stays.specs.declared.handling.Handling.{Ghosts as Handled}
use Rattle.exchange_record.specs.declared.recorder.Recorder.{Ghosts as Recording}
use Rattle.scrape.specs.Scrapes.{Scraping}
use Rattle.serving.specs.declared.policy.Policy.{Policy}
use Rattle.router.specs.declared.naming.Naming.{Ghosts}
use Rattle.router.specs.declared.pass.Pass.{Pass}
use Rattle.router.specs.Passes.{number_in}
use Rattle.router.specs.Closing.{numbers_of}
use Rattle.proxy_session.specs.Callers.{caller_of}
use Rattle.line_base.specs.Dials.{Upstream}
use Rattle.line_base.specs.Lines.{Line}
use Rattle.api_sessions.specs.declared.which.Which.{Which}
use Rattle.api_sessions.specs.declared.which.Which.TheVariants.{Namerd, Admin}
use Rattle.identifier.specs.declared.rule.Rule.{Rule}
use Rattle.retry_budget.specs.declared.tries.Tries.{Tries}
use Rattle.waiting.specs.declared.hand.Hand.{Hand}
use Rattle.waiting.specs.Hands.{left_by, taken_by, IsNew as IsNewHand}
use Rattle.workers.specs.Turns.{Handles, Turn, admitted, left_in, returned, taken_in}
use Rattle.workers.proofs.Sums.{turns_add_up}
use Rattle.serving.specs.declared.parts.Apart.{Apart}
use Rattle.serving.specs.declared.parts.Part.{Part}
use Rattle.serving.specs.LeftOver.{LeftOver}
use Rattle.serving.specs.Parts.{ComeApart, EndsAll, IsEmpty, any_broken, ended_by}
use Rattle.serving.specs.Policies.{IsHandledBy}
use Rattle.serving.specs.declared.job.ApiJob.{ApiJob}
use Rattle.serving.specs.declared.job.ProxyJob.{ProxyJob}
use Rattle.serving.specs.declared.job.ServingJob.TheVariants as job
use Rattle.serving.specs.declared.site.Feeding.{Feeding}
use Rattle.serving.specs.declared.site.Site.{Site}
use Rattle.serving.specs.Interfaces.{AnswersTurn, desk_by}
use Rattle.serving.specs.Jobs.{IsApiPosted, IsPosted, IsProxyPosted, RouterJob, Runs, RunsApi}
use Rattle.serving.specs.Jobs.{RunsProxy}
use Rattle.serving.specs.Jobs.{caller_hand, caller_hands, client_hand, client_hands, ended_of}
use Rattle.serving.specs.Jobs.{going_of, lacked_of, pass_of, passes_of_jobs, recorder_of}
use Rattle.serving.specs.Jobs.{recorders_of_jobs, scraper_of, scrapers_of_jobs}
use Rattle.serving.specs.Jobs.{stops_behind}
use Rattle.serving.specs.Posts.{Post, clients, interface, client_post, feed_jobs, feed_posts}
use Rattle.serving.specs.Posts.{interface_post}
use Rattle.serving.specs.Posts.{jobs_of, main_posts, posts_at, posts_of}
use Rattle.serving.specs.Returning.{all_ended, is_broken, with_left_over, with_stops}
use Rattle.serving.specs.Running.{HasRun}
use Rattle.serving.specs.Sessions.{Attends, Going}
use Rattle.serving.specs.Shifts.{HasAnswers, HasSessions, IsTended, ServesPost, Shift}
use Rattle.serving.specs.Shifts.{admissions, admitted_in, of_callers, of_clients, returned_in}
use Rattle.serving.specs.Shifts.{recorders_before, recorders_behind, returns, scrapers_before}
use Rattle.serving.specs.Tending.{HaveTended}
use Rattle.serving.proofs.Zipping.{any_map, or_left, or_right, posts_count}

cons_same : {A : Type 0} {x y : A} {xs ys : List A} → x ≡ y → xs ≡ ys → x ∷ xs ≡ y ∷ ys
cons_same p q = λ i. p i ∷ q i

both_same : {A : Type 0} {xs ys zs ws : List A} → xs ≡ ys → zs ≡ ws → xs ++ zs ≡ ys ++ ws
both_same p q = λ i. p i ++ q i

or_same : (a b c d : Bool) → a ≡ b → c ≡ d → (a || c) ≡ (b || d)
or_same a b c d p q = λ i. p i || q i

-- a listener that did not break is closed
closed_end : {P : Type 0} (end : Accepting) (old new : Listening P) → Ends end old new
    → nat_le 100 new.run ≡ false → (end ≡ accepting.Closed) × Ends accepting.Closed old new
closed_end accepting.Closed old new ends whole = (refl, ends)
closed_end accepting.Failing old new ends whole = let no : ⊥ =
    grind (arith, nat_tests, ends.1, whole) in absurd no

-- the jobs that came back
abbrev jobs_in : {J E : Type 0} → List (J × E) → List J
jobs_in back = map (λ b. b.0) back

-- a new hand that left and took what turns left and took
hand_even : {P S A B : Type 0} (turns : List (Turn P S)) (old new : Hand A B) → IsNewHand old
    → Handles (left_in turns) (taken_in turns) old new
    → length (admitted turns) + taken_by new ≡ length (returned turns) + left_by new
hand_even turns old new is_new handles =
    let all = turns_add_up turns in
    let l = handles.left_is in
    let t = handles.taken_is in
    let l0 = is_new.left_is in
    let t0 = is_new.taken_is in
    omega (arith, all, l, t, l0, t0)

-- none of the parts is broken where none of the jobs is
any_parts : {P J L D C K S X A B E F : Type 0} {h : Handled J} {g : Ghosts J}
    (state : L → Listening P)
    (upstream : D → Upstream) (calls : S → ℕ) (parts : List (Part L D S))
    (jobs : List (RouterJob P J L D C K S X A B E F h g))
    → map (ended_by state upstream calls) parts ≡ map (ended_of state upstream calls) jobs
    → list_any (λ (p : Part L D S). is_broken (ended_by state upstream calls p)) parts ≡ false
    → list_any (λ (j : RouterJob P J L D C K S X A B E F h g). is_broken
    (ended_of state upstream calls j)) jobs ≡ false
any_parts state upstream calls parts jobs same whole =
    any_map (λ (j : RouterJob _ _ _ _ _ _ _ _ _ _ _ _ _ _). ended_of state upstream calls j)
    is_broken jobs
    ∙ (ap (λ (es : List (Ended _)). list_any is_broken es) (sym same)
    ∙ (sym (any_map (ended_by state upstream calls) is_broken parts) ∙ whole))

-- the connections that waited still were handled as the policy says
left_over_by : {J P : Type 0} (line_of : P → Line) (g : Ghosts J) (rule : Rule)
    (tries : Option Tries) (policy : Policy) (over : List P) → IsHandledBy rule tries policy
    → LeftOver line_of g rule tries over → LeftOver line_of g policy.rule policy.retries over
left_over_by line_of g rule tries policy over handled all =
    let ruled = subst (λ (r : Rule). LeftOver line_of g r tries over) (sym handled.rule_is) all in
    subst (λ (t : Option Tries). LeftOver line_of g policy.rule t over) (sym handled.tries_are)
    ruled

module _ {J P K : Type 0} {g : Ghosts J} where
  tended : (told : Option (Returns P)) (endpoint : Endpoint) (s : Shift J P K g)
      (first : Listening P)
      (end : Accepting) → IsNew told endpoint first
      → Lends (admitted_in s.turns) (returned_in s.turns) first s.ended.listener
      → Ends end first s.ended.listener → is_broken s.ended ≡ false → number_in s.behind
      ≡ number_in s.before → IsTended told endpoint s × (end ≡ accepting.Closed)
  tended told endpoint s first end new lends ends whole number =
      let closed = closed_end end first s.ended.listener ends whole in (
        record {
          first = first;
          new = new;
          lends = lends;
          closes = closed.1.0 ∙ ap raised new.closes;
          run = closed.1.1;
          number = number;
        },
        closed.0,
      )

module _ {P J L D C K S A B : Type 0} {h : Handled J} {g : Ghosts J} (state : L → Listening P)
    (upstream : D → Upstream) (calls : S → ℕ) where
  abbrev client_shift : List (Turn P Idle) → ProxyJob P J L D C K S A B h g
      → ProxyJob P J L D C K S A B h g → Shift J P K g
  client_shift turns old new = record {
    before = old.server.server.pass;
    behind = new.server.server.pass;
    turns = of_clients turns;
    ended = record {
      listener = state new.listener;
      log = (upstream new.server.server.way.dialer).log;
      stops = calls new.stop;
    };
    lacked_memory = new.server.lacked_memory;
    recorder_before = old.server.recorder ∷ [];
    recorder_behind = new.server.recorder ∷ [];
    scraper_before = [];
  }

module _ {P J L K S X E F : Type 0} {g : Ghosts J} (state : L → Listening P) (calls : S → ℕ)
    (told_of : X → Scraping) where
  abbrev caller_shift : List (Turn P Caller) → ApiJob P J L S X E F g → ApiJob P J L S X E F g
      → Shift J P K g
  caller_shift turns old new = record {
    before = old.server.worker.pass;
    behind = new.server.worker.pass;
    turns = of_callers turns;
    ended = record {
      listener = state new.listener;
      log = None;
      stops = calls new.server.worker.stop;
    };
    lacked_memory = new.server.lacked_memory;
    recorder_before = [];
    recorder_behind = [];
    scraper_before = told_of old.server.worker.scraper ∷ [];
  }

module _ {P J L D C K S A B : Type 0} {h : Handled J} {g : Ghosts J} (line_of : P → Line)
    (address_of : P → Option SocketAddress) (k : Recording K) (state : L → Listening P)
    (upstream : D → Upstream) (to_come : C → Option (List ℕ)) (calls : S → ℕ) (policy : Policy)
    (moments : Option (List ℕ)) (told : Option (Returns P)) where
  with_sessions : (endpoint : Endpoint) (seed : ℕ) (old new : ProxyJob P J L D C K S A B h g)
      (end : Accepting) → IsProxyPosted state upstream to_come calls policy moments told endpoint
      seed old
      → (runs : RunsProxy line_of address_of k state upstream to_come calls old new end)
      → nat_le 100 (state new.listener).run ≡ false
      → HasSessions line_of address_of k policy moments told endpoint seed
      (client_shift state upstream calls runs.turns old new)
  with_sessions endpoint seed old new end posted runs whole =
      let s : Shift J P K g =
      client_shift state upstream calls runs.turns old new in
      let closed = tended told endpoint s (state old.listener) end posted.listener runs.lends
      runs.ends whole runs.number in
      let final = going_of upstream to_come new.server in
      let By : Policy → Going K → Type 0 =
      λ r first. ServesTurns (Attends line_of address_of k g.settings r) first runs.turns final in
      let start : Lcg → Bool → Going K =
      λ w lacked. record {
        server = record {
          upstream = upstream old.server.server.way.dialer;
          caller = caller_of old.server.server.pass;
          moments = to_come old.server.server.clock;
          words = w;
        };
        lacked_memory = lacked;
        recorder = old.server.recorder;
      } in
      let ruled =
      subst (λ (r : Policy). By r (start old.server.server.words old.server.lacked_memory))
      posted.policy_is runs.serves in
      let worded = subst (λ (w : Lcg). By policy (start w old.server.lacked_memory)) posted.words
      ruled in
      let turns = subst (λ (b : Bool). By policy (start (pcg64_of_seed (pcg32_seed 32 seed)) b))
      posted.lacked worded in
      record {
        tended = closed.0;
        dialer = upstream old.server.server.way.dialer;
        new_dialer = (posted.log, posted.hung);
        pool = posted.pool;
        kept = posted.none_kept;
        clock = to_come old.server.server.clock;
        forked = posted.clock;
        recorder = old.server.recorder;
        given = refl;
        final = final;
        turns = runs.turns;
        turns_are = refl;
        serves = turns;
        caller = refl;
        log = refl;
        lacked = refl;
        recorded = refl;
        scraped = refl;
        stops = runs.stops ∙ (ap (λ (e : Accepting). stops_behind e (calls old.stop)) closed.1
            ∙ posted.stops);
      }

module _ {P J L K S X E F : Type 0} {g : Ghosts J} (line_of : P → Line) (state : L → Listening P)
    (calls : S → ℕ) (told_of : X → Scraping) (told : Option (Returns P)) where
  answered : (which : Which) (endpoint : Endpoint) (old new : ApiJob P J L S X E F g)
      (end : Accepting) → IsApiPosted state calls told which endpoint old
      → (runs : RunsApi line_of state calls told_of old new end)
      → nat_le 100 (state new.listener).run ≡ false
      → HasAnswers {K = K} line_of told which endpoint
      (caller_shift state calls told_of runs.turns old new)
  answered which endpoint old new end posted runs whole =
      let s : Shift J P K g = caller_shift state calls told_of runs.turns old new in
      let closed = tended told endpoint s (state old.listener) end posted.listener runs.lends
      runs.ends whole runs.number in
      let first = told_of old.server.worker.scraper in
      let By : Which → ℕ → Bool → ℕ → Type 0 = λ w stops lacked last.
      ServesTurns (AnswersTurn line_of w)
      (desk_by old.server.worker.pass stops first lacked) runs.turns
      (desk_by new.server.worker.pass last (told_of new.server.worker.scraper)
      new.server.lacked_memory) in
      let named =
      subst
      (λ (w : Which). By w (calls old.server.worker.stop) old.server.lacked_memory runs.stopped)
      posted.which_is runs.serves in
      let fresh = subst (λ (n : ℕ). By which n old.server.lacked_memory runs.stopped) posted.stops
      named in
      let free = subst (λ (b : Bool). By which 0 b runs.stopped) posted.lacked fresh in
      let whole_run = subst (λ (n : ℕ). By which 0 false n)
      (sym (runs.stops ∙ ap (λ (e : Accepting). stops_behind e runs.stopped) closed.1)) free in
      record {
        tended = closed.0;
        turns = runs.turns;
        turns_are = refl;
        first = first;
        last = told_of new.server.worker.scraper;
        scraped = refl;
        serves = whole_run;
        log = refl;
        given = refl;
        recorded = refl;
      }

module _ {P J L D C K S X A B E F : Type 0} {h : Handled J} {g : Ghosts J} (line_of : P → Line)
    (address_of : P → Option SocketAddress) (k : Recording K) (state : L → Listening P)
    (upstream : D → Upstream) (to_come : C → Option (List ℕ)) (calls : S → ℕ)
    (told_of : X → Scraping) (policy : Policy) (moments : Option (List ℕ))
    (told : Option (Returns P)) where
  -- the hands of a job count what its turns left and took
  abbrev Even : Shift J P K g → RouterJob P J L D C K S X A B E F h g → Type 0
  Even s j =
      length (admitted_in s.turns)
      + (sum_by taken_by (client_hand j) + sum_by taken_by (caller_hand j))
      ≡ length (returned_in s.turns)
      + (sum_by left_by (client_hand j) + sum_by left_by (caller_hand j))

  -- a job that was posted, and ran
  record One (post : Post) (old new : RouterJob P J L D C K S X A B E F h g) : Type 0 where
    shift : Shift J P K g
    keeps : ServesPost line_of address_of k policy moments told post shift
    before : shift.before ≡ pass_of old
    behind : shift.behind ≡ pass_of new
    ended : shift.ended ≡ ended_of state upstream calls new
    lacked : shift.lacked_memory ≡ lacked_of new
    given : shift.recorder_before ≡ recorder_of old
    recorded : shift.recorder_behind ≡ recorder_of new
    scraped : shift.scraper_before ≡ map told_of (scraper_of old)
    even : Even shift new

  one : (post : Post) (old new : RouterJob P J L D C K S X A B E F h g) (end : Accepting)
      → IsPosted state upstream to_come calls policy moments told post old
      → Runs line_of address_of k state upstream to_come calls told_of old new end
      → is_broken (ended_of state upstream calls new) ≡ false → One post old new
  one (clients endpoint seed) (job.Proxy old) (job.Proxy new) end posted runs whole = record {
    shift = client_shift state upstream calls runs.turns old new;
    keeps = with_sessions line_of address_of k state upstream to_come calls policy moments told
        endpoint
        seed old new end posted runs whole;
    before = refl;
    behind = refl;
    ended = refl;
    lacked = refl;
    given = refl;
    recorded = refl;
    scraped = refl;
    even =
        let e = hand_even runs.turns old.hand new.hand posted.hand runs.hands in omega (arith, e);
  }
  one (clients endpoint seed) (job.Proxy old) (job.Api new) end posted runs whole = absurd runs
  one (clients endpoint seed) (job.Api old) (job.Proxy new) end posted runs whole = absurd posted
  one (clients endpoint seed) (job.Api old) (job.Api new) end posted runs whole = absurd posted
  one (interface which endpoint) (job.Proxy old) (job.Proxy new) end posted runs whole =
      absurd posted
  one (interface which endpoint) (job.Proxy old) (job.Api new) end posted runs whole = absurd posted
  one (interface which endpoint) (job.Api old) (job.Proxy new) end posted runs whole = absurd runs
  one (interface which endpoint) (job.Api old) (job.Api new) end posted runs whole = record {
    shift = caller_shift state calls told_of runs.turns old new;
    keeps = answered line_of state calls told_of told which endpoint old new end posted runs whole;
    before = refl;
    behind = refl;
    ended = refl;
    lacked = refl;
    given = refl;
    recorded = refl;
    scraped = refl;
    even =
        let e = hand_even runs.turns old.hand new.hand posted.hand runs.hands in omega (arith, e);
  }

  -- all of them
  record Gathered (posts : List Post) (jobs : List (RouterJob P J L D C K S X A B E F h g))
      (back : List (RouterJob P J L D C K S X A B E F h g × Accepting)) : Type 0 where
    shifts : List (Shift J P K g)
    served : AllZip (ServesPost line_of address_of k policy moments told) posts shifts
    before : map (λ (s : Shift J P K g). s.before) shifts ≡ passes_of_jobs jobs
    behind : map (λ (s : Shift J P K g). s.behind) shifts ≡ map pass_of (jobs_in back)
    ended : map (λ (s : Shift J P K g). s.ended) shifts
        ≡ map (ended_of state upstream calls) (jobs_in back)
    lacked : list_any (λ (s : Shift J P K g). s.lacked_memory) shifts
        ≡ list_any lacked_of (jobs_in back)
    given : recorders_before shifts ≡ recorders_of_jobs jobs
    recorded : recorders_behind shifts ≡ recorders_of_jobs (jobs_in back)
    scraped : scrapers_before shifts ≡ map told_of (scrapers_of_jobs jobs)
    even : admissions shifts
        + (sum_by taken_by (client_hands (jobs_in back))
        + sum_by taken_by (caller_hands (jobs_in back)))
        ≡ returns shifts
        + (sum_by left_by (client_hands (jobs_in back))
        + sum_by left_by (caller_hands (jobs_in back)))

  gather : (posts : List Post) (jobs : List (RouterJob P J L D C K S X A B E F h g))
      (back : List (RouterJob P J L D C K S X A B E F h g × Accepting))
      → AllZip (IsPosted state upstream to_come calls policy moments told) posts jobs
      → AllZip (ComesBack (Runs line_of address_of k state upstream to_come calls told_of)) jobs
      back
      → list_any (λ (j : RouterJob P J L D C K S X A B E F h g).
      is_broken (ended_of state upstream calls j)) (jobs_in back)
      ≡ false → Gathered posts jobs back
  gather [] [] [] posted ran whole = record {
    shifts = [];
    served = tt;
    before = refl;
    behind = refl;
    ended = refl;
    lacked = refl;
    given = refl;
    recorded = refl;
    scraped = refl;
    even = refl;
  }
  gather [] [] (b ∷ bs) posted ran whole = absurd ran
  gather [] (j ∷ js) bs posted ran whole = absurd posted
  gather (p ∷ ps) [] bs posted ran whole = absurd posted
  gather (p ∷ ps) (j ∷ js) [] posted ran whole = absurd ran
  gather (p ∷ ps) (j ∷ js) (b ∷ bs) posted ran whole =
      let broken = λ (k : RouterJob P J L D C K S X A B E F h g). is_broken
      (ended_of state upstream calls k) in
      let this = one p j b.0 b.1 posted.0 ran.0
      (or_left (broken b.0) (list_any broken (jobs_in bs)) whole) in
      let others = gather ps js bs posted.1 ran.1
      (or_right (broken b.0) (list_any broken (jobs_in bs)) whole) in
      record {
        shifts = this.shift ∷ others.shifts;
        served = (this.keeps, others.served);
        before = cons_same this.before others.before;
        behind = cons_same this.behind others.behind;
        ended = cons_same this.ended others.ended;
        lacked = or_same _ _ _ _ this.lacked others.lacked;
        given = both_same this.given others.given;
        recorded = both_same this.recorded others.recorded;
        scraped = both_same this.scraped others.scraped
            ∙ sym (map-append told_of (scraper_of j) (scrapers_of_jobs js));
        even =
            let one_even = this.even in
            let rest_even = others.even in
            let a = sum_by-append taken_by (client_hand b.0) (client_hands (jobs_in bs)) in
            let c = sum_by-append taken_by (caller_hand b.0) (caller_hands (jobs_in bs)) in
            let d = sum_by-append left_by (client_hand b.0) (client_hands (jobs_in bs)) in
            let e = sum_by-append left_by (caller_hand b.0) (caller_hands (jobs_in bs)) in
            omega (arith, one_even, rest_even, a, c, d, e);
      }

module _ {P J L D C K S X A B E F : Type 0} {h : Handled J} {g : Ghosts J} (line_of : P → Line)
    (address_of : P → Option SocketAddress) (k : Recording K) (state : L → Listening P)
    (upstream : D → Upstream) (to_come : C → Option (List ℕ)) (calls : S → ℕ)
    (told_of : X → Scraping) where
  same_number : (old new : RouterJob P J L D C K S X A B E F h g) (end : Accepting)
      → Runs line_of address_of k state upstream to_come calls told_of old new end
      → number_in (pass_of new)
      ≡ number_in (pass_of old)
  same_number (job.Proxy old) (job.Proxy new) end runs = runs.number
  same_number (job.Proxy old) (job.Api new) end runs = absurd runs
  same_number (job.Api old) (job.Proxy new) end runs = absurd runs
  same_number (job.Api old) (job.Api new) end runs = runs.number

  -- each job has the number of its pass still
  pub same_numbers : (jobs : List (RouterJob P J L D C K S X A B E F h g))
      (back : List (RouterJob P J L D C K S X A B E F h g × Accepting))
      → AllZip (ComesBack (Runs line_of address_of k state upstream to_come calls told_of)) jobs
      back
      → numbers_of (map pass_of (jobs_in back)) ≡ numbers_of (passes_of_jobs jobs)
  same_numbers [] [] ran = refl
  same_numbers [] (b ∷ bs) ran = absurd ran
  same_numbers (j ∷ js) [] ran = absurd ran
  same_numbers (j ∷ js) (b ∷ bs) ran = cons_same (same_number j b.0 b.1 ran.0)
      (same_numbers js bs ran.1)

  same_hands : (old new : RouterJob P J L D C K S X A B E F h g) (end : Accepting)
      → Runs line_of address_of k state upstream to_come calls told_of old new end
      → (length (client_hand new) ≡ length (client_hand old))
      × (length (caller_hand new) ≡ length (caller_hand old))
  same_hands (job.Proxy old) (job.Proxy new) end runs = (refl, refl)
  same_hands (job.Proxy old) (job.Api new) end runs = absurd runs
  same_hands (job.Api old) (job.Proxy new) end runs = absurd runs
  same_hands (job.Api old) (job.Api new) end runs = (refl, refl)

  -- and as many hands come back as they had
  pub hands_back : (jobs : List (RouterJob P J L D C K S X A B E F h g))
      (back : List (RouterJob P J L D C K S X A B E F h g × Accepting))
      → AllZip (ComesBack (Runs line_of address_of k state upstream to_come calls told_of)) jobs
      back
      → (length (client_hands (jobs_in back)) ≡ length (client_hands jobs))
      × (length (caller_hands (jobs_in back)) ≡ length (caller_hands jobs))
  hands_back [] [] ran = (refl, refl)
  hands_back [] (b ∷ bs) ran = absurd ran
  hands_back (j ∷ js) [] ran = absurd ran
  hands_back (j ∷ js) (b ∷ bs) ran =
      let one = same_hands j b.0 b.1 ran.0 in
      let others = hands_back js bs ran.1 in
      let a = length-append (client_hand b.0) (client_hands (jobs_in bs)) in
      let c = length-append (client_hand j) (client_hands js) in
      let d = length-append (caller_hand b.0) (caller_hands (jobs_in bs)) in
      let e = length-append (caller_hand j) (caller_hands js) in
      (omega (arith, one.0, others.0, a, c), omega (arith, one.1, others.1, d, e))

single : {A : Type 0} (xs : List A) → length xs ≡ 1 → (x : A) × (xs ≡ x ∷ [])
single [] one = cc one
single (x ∷ []) one = (x, refl)
single (x ∷ y ∷ xs) one = let no : ⊥ = omega (arith, one) in absurd no

module _ {P J L D C K S X A B E F : Type 0} {h : Handled J} {g : Ghosts J} (line_of : P → Line)
    (address_of : P → Option SocketAddress) (k : Recording K) (state : L → Listening P)
    (upstream : D → Upstream) (to_come : C → Option (List ℕ)) (calls : S → ℕ)
    (told_of : X → Scraping) where
  -- the jobs of a site were posted, ran, and were taken apart
  pub have_tended : (site : Site) (moments : Option (List ℕ)) (told : Option (Returns P))
      (jobs : List (RouterJob P J L D C K S X A B E F h g)) (passes rest : List (Pass J g))
      (recorders : List K) (scrapers : List X) (empty apart : Apart J L D S K A B E F g)
      → AllZip (IsPosted state upstream to_come calls site.policy moments told) (posts_of site) jobs
      → passes_of_jobs jobs ++ rest ≡ passes → recorders_of_jobs jobs ≡ recorders
      → scrapers_of_jobs jobs ≡ scrapers → IsEmpty empty
      → ComeApart (Runs line_of address_of k state upstream to_come calls told_of) state upstream
      calls jobs
      empty apart
      → any_broken state upstream calls apart.parts.items ≡ false
      → HaveTended line_of address_of k state upstream calls site moments told passes rest
      recorders (map told_of scrapers) apart
  have_tended site moments told jobs passes rest recorders scrapers empty apart posted begun given
      scraped none came good =
      let back = jobs_in came.back in
      let by = came.apart in
      let parts : map (ended_by state upstream calls) apart.parts.items
      ≡ map (ended_of state upstream calls) back =
      by.parts ∙ ap (λ (ps : List (Part L D S)). map (ended_by state upstream calls) ps
      ++ map (ended_of state upstream calls) back) none.parts in
      let passes_are : apart.passes.items ≡ map pass_of back =
      by.passes ∙ ap (λ (ps : List (Pass J g)). ps ++ map pass_of back) none.passes in
      let clients_are : apart.client_hands.items ≡ client_hands back =
      by.clients ∙ ap (λ (hs : List (Hand A B)). hs ++ client_hands back) none.client_hands in
      let callers_are : apart.caller_hands.items ≡ caller_hands back =
      by.callers ∙ ap (λ (hs : List (Hand E F)). hs ++ caller_hands back) none.caller_hands in
      let recorders_are : apart.recorders.items ≡ recorders_of_jobs back =
      by.recorders ∙ ap (λ (ks : List K). ks ++ recorders_of_jobs back) none.recorders in
      let lacked_is : apart.lacked_memory ≡ list_any lacked_of back =
      by.lacked ∙ ap (λ (b : Bool). b || list_any lacked_of back) none.lacked in
      let whole = any_parts state upstream calls apart.parts.items back parts good in
      let g' = gather line_of address_of k state upstream to_come calls told_of site.policy moments
      told
      (posts_of site) jobs came.back posted came.ran whole in
      record {
        shifts = g'.shifts;
        before = sym begun ∙ ap (λ (ps : List (Pass J g)). ps ++ rest) (sym g'.before);
        behind = passes_are ∙ sym g'.behind;
        given = sym given ∙ sym g'.given;
        recorded = recorders_are ∙ sym g'.recorded;
        scraped = ap (map told_of) (sym scraped) ∙ sym g'.scraped;
        served = g'.served;
        ended = parts ∙ sym g'.ended;
        even =
            let even = g'.even in
            let a = ap (λ (hs : List (Hand A B)). sum_by taken_by hs) clients_are in
            let b = ap (λ (hs : List (Hand A B)). sum_by left_by hs) clients_are in
            let c = ap (λ (hs : List (Hand E F)). sum_by taken_by hs) callers_are in
            let d = ap (λ (hs : List (Hand E F)). sum_by left_by hs) callers_are in
            omega (arith, even, a, b, c, d);
        lacked = lacked_is ∙ sym g'.lacked;
      }

module _ {P J L D S K A B E F : Type 0} {g : Ghosts J} (line_of : P → Line)
    (address_of : P → Option SocketAddress) (k : Recording K) (state : L → Listening P)
    (upstream : D → Upstream) (calls : S → ℕ) where
  -- the jobs of a site ran, all was taken back, and one pass is left
  pub has_run : (site : Site) (moments : Option (List ℕ)) (passes rest all : List (Pass J g))
      (recorders recorders_after : List K) (scrapers : List Scraping)
      (apart : Apart J L D S K A B E F g) (net mid net_after : Networking P) (rule : Rule)
      (tries : Option Tries)
      → HaveTended line_of address_of k state upstream calls site moments net.told passes rest
      recorders scrapers apart
      → length rest ≡ 1 → mid ≡ with_stops (jobs_of site) net
      → EndsAll line_of state upstream calls rule tries apart mid net_after
      → IsHandledBy rule tries site.policy → all ≡ apart.passes.items ++ rest
      → recorders_after ≡ apart.recorders.items
      → HasRun line_of address_of k site moments passes all recorders recorders_after scrapers net
      net_after apart.lacked_memory
  has_run site moments passes rest all recorders recorders_after scrapers apart net mid net_after
      rule tries tended left handed ends handled ended kept =
      let last = single rest left in
      record {
        shifts = tended.shifts;
        rest = last.0;
        before = tended.before
            ∙ ap (λ (ps : List (Pass J g)). map (λ (s : Shift J P K g). s.before) tended.shifts
            ++ ps) last.1;
        behind = ended
            ∙ (ap (λ (ps : List (Pass J g)). apart.passes.items ++ ps) last.1
            ∙ ap (λ (ps : List (Pass J g)). ps ++ last.0 ∷ []) tended.behind);
        given = tended.given;
        recorded = kept ∙ tended.recorded;
        scraped = tended.scraped;
        served = tended.served;
        over = ends.over;
        left_over = left_over_by line_of g rule tries site.policy ends.over handled ends.left_over;
        all_back =
            let even = tended.even in
            let count = ends.count in
            let clients_left = ends.clients_left in
            let callers_left = ends.callers_left in
            omega (arith, even, count, clients_left, callers_left);
        net_is = ends.net_is ∙ (ap (λ (es : List (Ended P)). all_ended
            (with_left_over ends.over es) mid) tended.ended
            ∙ ap (λ (n : Networking P). all_ended
            (with_left_over ends.over (map (λ s. s.ended) tended.shifts)) n) handed);
        lacked = tended.lacked;
      }

-- as many posts as there are listeners
feed_count : (feed : Option Feeding) → length (feed_posts feed) ≡ feed_jobs feed
feed_count None = refl
feed_count (Some f) = refl

pub all_posts : (site : Site) → length (posts_of site) ≡ jobs_of site
all_posts site =
    let feed = feed_count site.feed in
    let whole = length-append (main_posts site) (feed_posts site.feed) in
    let proxies = posts_at (client_post site) site.workers in
    let namerd = posts_at (interface_post Namerd site.namerd) 2 in
    let admin = posts_at (interface_post (Admin true) site.admin) 2 in
    let outer = length-append (proxies ++ namerd) admin in
    let inner = length-append proxies namerd in
    let first = posts_count (client_post site) site.workers in
    let second = posts_count (interface_post Namerd site.namerd) 2 in
    let third = posts_count (interface_post (Admin true) site.admin) 2 in
    omega (arith, whole, feed, outer, inner, first, second, third)
