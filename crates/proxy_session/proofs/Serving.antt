-- The requests of a connection, one behind the other.
use Rattle.std.proofs.Common.{◌≡◌, ℕ, suc, ◌+◌, ◌<◌, ◌||◌, eqb, Bool, false, refl, sym, ap, ◌∙◌}
use Rattle.std.proofs.Common.{subst, inl, inr, Option, Some, None, Ok, arith, List, [], ◌∷◌, ◌++◌}
use Rattle.std.proofs.Common.{append-nil}
use Rattle.std.proofs.lemmas.Bool.Decides.{nat_tests}
use Rattle.http_wire.specs.declared.ended.Ended.{Ended}
use Rattle.http_wire.specs.Ended.{drained}
use Rattle.http_wire.specs.Next.{IsAsked}
use Rattle.http_wire.specs.declared.head.Head.{Head}
use Rattle.identifier.specs.declared.rule.Rule.{Rule}
use Rattle.identifier.specs.Context.{heard_by}
use Rattle.line_base.specs.declared.socket_address.SocketAddress.{SocketAddress}
use Rattle.machine.specs.Values.{SettingsValue}
use Rattle.retry_budget.specs.Budget.{BudgetValue}
use Rattle.proxy_session.specs.Exchange.{Standing}
use Rattle.http_wire.specs.declared.paused.Paused.{Paused}
use Rattle.http_wire.specs.declared.paused.Paused.TheVariants as paused
use Rattle.http_wire.specs.Paused.{paused_by}
use Rattle.exchange_record.specs.Told.{Told}
use Rattle.exchange_tally.specs.declared.done.Done.{Done}
use Rattle.name_tree.specs.Path.{Labels}
use Rattle.proxy_session.specs.declared.served.Served.{Served as ServedRequest}
use Rattle.proxy_session.specs.Recorded.{ServesNextAs, StaysToAs, serves_so_told, serves_told}
use Rattle.proxy_session.specs.Recorded.{served_told, told_by}
use Rattle.proxy_session.specs.Session.{Reads, Served, Serves, ServesNext, ServesSo, Sessions}
use Rattle.proxy_session.specs.Session.{Stays, begun, having_told}
use Rattle.proxy_session.specs.Ways.{RequestsAs, request_name}
use Rattle.proxy_session.proofs.Bounding.{stay_account}
use Rattle.proxy_session.proofs.Draining.{not_spent}

-- a request behind which the connection goes on is not the last one
not_last : (settings : SettingsValue) (rule : Rule) (last : Bool) (retries : ℕ)
    (before behind : Option BudgetValue) (old new : Standing)
    → Serves settings rule last retries before behind old new None → last ≡ false
not_last settings rule last retries before behind old new (closing, x) =
    not_spent settings rule last retries before behind old new closing x

fewer : (n : ℕ) → n < 10000 → eqb (n + 1) 10000 ≡ false → n + 1 < 10000
fewer n less other = grind (arith, nat_tests)

-- so many requests were served, and of each of them this is told
abbrev ServedAs : SettingsValue → Rule → Option SocketAddress → ℕ → ℕ → ℕ → Option BudgetValue
    → Option BudgetValue
    → Standing → Standing → List Told → Type 0
ServedAs settings rule client from n retries before behind old new told =
    (way : Served settings rule from n retries before behind old new None)
    × (told ≡ served_told settings rule client from n retries before behind old new None way)

-- a connection that had had `from` requests has had so many, with any number of retries
abbrev pub ServedSoFar : SettingsValue → Rule → Option SocketAddress → ℕ → ℕ → Option BudgetValue
    → Option BudgetValue
    → Standing → Standing → List Told → Type 0
ServedSoFar settings rule client from count before behind old new told =
    (n : ℕ) × (retries : ℕ) × (count ≡ from + n)
    × ServedAs settings rule client from n retries before behind old new told

-- the same of a client whose address is known as another's
pub for_client : (settings : SettingsValue) (rule : Rule) (here client : Option SocketAddress)
    (last : Bool) (more : ℕ) (between behind : Option BudgetValue) (mid new : Standing)
    (result : Option Paused) (told : List Told) → here ≡ client
    → ServesNextAs settings rule here last more between behind mid new result told
    → ServesNextAs settings rule client last more between behind mid new result told
for_client settings rule here client last more between behind mid new result told same next =
    subst
    (λ (c : Option SocketAddress). ServesNextAs settings rule c last more between behind mid new
    result told) same next

-- one request more was served
pub one_served : (settings : SettingsValue) (rule : Rule) (client : Option SocketAddress)
    (from count more : ℕ)
    (before between behind : Option BudgetValue) (old mid new : Standing) (told one : List Told)
    → ServedSoFar settings rule client from count before between old mid told
    → ServesNextAs settings rule client (eqb (count + 1) 10000) more between behind mid new None one
    → ServedSoFar settings rule client from (count + 1) before behind old new (told ++ one)
one_served settings rule client from count more before between behind old mid new told one
    (n, earlier, is, (served, told_is)) next =
    let last : ServesNextAs settings rule client (eqb (from + n + 1) 10000) more between behind mid
    new
    None one
    = subst
    (λ (k : ℕ). ServesNextAs settings rule client (eqb (k + 1) 10000) more between behind mid new
    None
    one) is next in (
      suc n,
      earlier + more,
      omega (arith, is),
      (
        (mid, between, earlier, more, served, last.0, refl),
        ap (λ (ts : List Told). ts ++ one) told_is
            ∙ ap
            (λ (ts : List Told). served_told settings rule client from n earlier before between old
            mid
            None served ++ ts)
            last.1,
      ),
    )

pub few_served : (settings : SettingsValue) (rule : Rule) (n : ℕ)
    (more : ℕ) (between behind : Option BudgetValue) (mid new : Standing) → n < 10000
    → ServesNext settings rule (eqb (n + 1) 10000) more between behind mid new None
    → n + 1 < 10000
few_served settings rule n more between behind mid new less next =
    fewer n less (not_last settings rule (eqb (n + 1) 10000) more between behind mid new next)

-- a request was served, and this is told of it
abbrev ServesAs : SettingsValue → Rule → Option SocketAddress → Bool → ℕ → Option BudgetValue
    → Option BudgetValue
    → Standing → Standing → Option Ended → Told → Type 0
ServesAs settings rule client last retries before behind old new r told =
    (way : Serves settings rule last retries before behind old new r)
    × (told ≡ serves_told settings rule client last retries before behind old new r way)

serves_next : (settings : SettingsValue) (rule : Rule) (client : Option SocketAddress) (last : Bool)
    (retries : ℕ)
    (before behind : Option BudgetValue) (old new : Standing) (r : Option Ended) (told : Told)
    → ServesAs settings rule client last retries before behind old new r told
    → ServesNextAs settings rule client last retries before behind old new (paused_by r) (told ∷ [])
serves_next settings rule client last retries before behind old new None told (serves, is) =
    (serves, ap (λ (t : Told). t ∷ []) is)
serves_next settings rule client last retries before behind old new (Some e) told (serves, is) =
    (inr serves, ap (λ (t : Told). t ∷ []) is)

-- a request does not make a connection wait
pub never_quiet : (r : Option Ended) (p : Option Paused) → p ≡ paused_by r
    → p ≡ Some paused.Quiet → ⊥
never_quiet None p is quiet = cc
never_quiet (Some e) p is quiet = cc

-- what is told, by its parts
abbrev told_of_parts : Option SocketAddress → Option Head → Option Labels → Done → Told
told_of_parts client head name done =
    record { client = client; head = head; name = name; done = done }

-- a request whose head was read is served, the last one by what the connection has carried and said
pub head_served : (settings : SettingsValue) (rule : Rule) (client : Option SocketAddress) (n m : ℕ)
    (budget before behind : Option BudgetValue) (old mid asked new : Standing)
    (received head : Head) (closing last : Bool) (request : ServedRequest) (r : Option Ended)
    (p : Option Paused)
    → m ≡ n → before ≡ budget
    → Reads old mid (Ok received) → head ≡ heard_by rule.clears_context received
    → IsAsked (eqb (m + 1) 10000) closing
    → asked ≡ having_told closing mid → last ≡ (eqb (m + 1) 10000 || closing)
    → ((retries : ℕ)
    × RequestsAs settings rule head last retries before behind asked new request.end request.name
    request.done)
    → r ≡ drained closing request.end → p ≡ paused_by r → (retries : ℕ)
    × ServesNextAs settings rule client (eqb (n + 1) 10000) retries budget behind old new p
    (told_by client head request ∷ [])
head_served settings rule client n m budget before behind old mid asked new received head closing
    last
    request r p count same reads heard is_asked told is_last (retries, by_it) is paused =
    let spent = eqb (m + 1) 10000 in
    let so : RequestsAs settings rule head (spent || closing) retries before behind
    (having_told closing mid) new request.end request.name request.done =
    subst
    (λ (s : Standing). RequestsAs settings rule head (spent || closing) retries before behind s new
    request.end request.name request.done) told
    (subst
    (λ (l : Bool). RequestsAs settings rule head l retries before behind asked new request.end
    request.name request.done) is_last by_it) in
    let served_so : ServesSo settings rule spent closing retries before behind old new r
    = record {
      mid = mid;
      received = received;
      reads = reads;
      head = head;
      heard = heard;
      asked = is_asked;
      end = request.end;
      request = so.0;
      is = is;
    } in
    let told_is : told_by client head request
    ≡ serves_so_told settings rule client spent closing retries before behind old new r served_so =
    ap (λ (name : Option Labels). told_of_parts client (Some head) name request.done) so.1
    ∙ ap
    (λ (done : Done). told_of_parts client (Some head)
    (request_name settings rule head (spent || closing) retries before behind
    (having_told closing mid) new request.end so.0) done) so.2 in
    let serves : ServesAs settings rule client spent retries before behind old new r
    (told_by client head request)
    = ((closing, served_so), told_is) in (
      retries,
      subst
          (λ (q : Option Paused). ServesNextAs settings rule client (eqb (n + 1) 10000) retries
          budget
          behind old new q (told_by client head request ∷ [])) (sym paused)
          (serves_next settings rule client (eqb (n + 1) 10000) retries budget behind old new r
          (told_by client head request)
          (subst
          (λ (b : Option BudgetValue). ServesAs settings rule client (eqb (n + 1) 10000) retries b
          behind
          old new r (told_by client head request)) same
          (subst
          (λ (k : ℕ). ServesAs settings rule client (eqb (k + 1) 10000) retries before behind old
          new r
          (told_by client head request)) count serves))),
    )

-- before its first request none was served
pub none_served : (settings : SettingsValue) (rule : Rule) (client : Option SocketAddress)
    (from : ℕ) (budget : Option BudgetValue)
    (old : Standing) → ServedSoFar settings rule client from from budget budget old old []
none_served settings rule client from budget old =
    (0, 0, omega arith, ((record { none = refl; same = refl }, refl, refl), refl))

ends_not_quiet : (e : Ended) → paused.Ended e ≡ paused.Quiet → ⊥
ends_not_quiet e is = cc

-- what a budget was paid is what its next owner begins with
served_with : (settings : SettingsValue) (rule : Rule) (client : Option SocketAddress)
    (from n retries : ℕ)
    (before between behind : Option BudgetValue) (old new : Standing) (told : List Told)
    → behind ≡ between → ServedAs settings rule client from n retries before between old new told
    → ServedAs settings rule client from n retries before behind old new told
served_with settings rule client from n retries before between behind old new told same served =
    subst
    (λ (b : Option BudgetValue). ServedAs settings rule client from n retries before b old new told)
    (sym same) served

-- the stay is at its end
pub stay_ends : (settings : SettingsValue) (rule : Rule) (client : Option SocketAddress)
    (from count upto more : ℕ)
    (before between behind : Option BudgetValue) (old mid new : Standing) (result : Paused)
    (told next : List Told)
    → ServedSoFar settings rule client from count before between (begun old) mid told
    → (result ≡ paused.Quiet → upto ≡ count)
    → ServesNextAs settings rule client (eqb (count + 1) 10000) more between behind mid new
    (Some result)
    next
    → StaysToAs settings rule client from upto before behind old new result (told ++ next)
stay_ends settings rule client from count upto more before between behind old mid new paused.Quiet
    told next (n, earlier, is, served) same (((kept, still), untried), none) =
    let all = served_with settings rule client from n earlier before between behind (begun old) mid
    told
    untried.same served in
    let stays : Stays settings rule from n earlier before behind (begun old) new paused.Quiet
    = (mid, all.0, (kept, still)) in (
      record {
        requests = n;
        retries = earlier;
        serves = stays;
        paid =
            stay_account settings rule from n earlier before behind (begun old) new paused.Quiet
            stays;
        count = λ quiet. same quiet ∙ is;
      },
      ap (λ (ts : List Told). told ++ ts) none ∙ (append-nil told ∙ all.1),
    )
stay_ends settings rule client from count upto more before between behind old mid new
    (paused.Ended end)
    told next (n, earlier, is, served) same (inl (without, untried), next_is) =
    let all = served_with settings rule client from n earlier before between behind (begun old) mid
    told
    untried.same served in
    let sessions : Sessions settings rule from n earlier before behind (begun old) new end
    = inl (mid, all.0, without) in (
      record {
        requests = n;
        retries = earlier;
        serves = sessions;
        paid =
            stay_account settings rule from n earlier before behind (begun old) new
            (paused.Ended end) sessions;
        count = λ quiet. absurd (ends_not_quiet end quiet);
      },
      ap (λ (ts : List Told). ts ++ next) all.1
          ∙ ap
          (λ (ts : List Told). served_told settings rule client from n earlier before behind
          (begun old)
          mid None all.0 ++ ts)
          next_is,
    )
stay_ends settings rule client from count upto more before between behind old mid new
    (paused.Ended end)
    told next (n, earlier, is, (served, told_is)) same (inr serves, next_is) =
    let one : ServesAs settings rule client (eqb (count + 1) 10000) more between behind mid new
    (Some end)
    (serves_told settings rule client (eqb (count + 1) 10000) more between behind mid new (Some end)
    serves) = (serves, refl) in
    let here : ServesAs settings rule client (eqb (from + n + 1) 10000) more between behind mid new
    (Some end)
    (serves_told settings rule client (eqb (count + 1) 10000) more between behind mid new (Some end)
    serves)
    = subst
    (λ (k : ℕ). ServesAs settings rule client (eqb (k + 1) 10000) more between behind mid new
    (Some end)
    (serves_told settings rule client (eqb (count + 1) 10000) more between behind mid new (Some end)
    serves)) is one in
    let sessions :
    Sessions settings rule from (suc n) (earlier + more) before behind (begun old) new end
    = inr (mid, between, earlier, more, served, here.0, refl) in (
      record {
        requests = suc n;
        retries = earlier + more;
        serves = sessions;
        paid =
            stay_account settings rule from (suc n) (earlier + more) before behind (begun old) new
            (paused.Ended end) sessions;
        count = λ quiet. absurd (ends_not_quiet end quiet);
      },
      ap (λ (ts : List Told). ts ++ next) told_is
          ∙ ap
          (λ (ts : List Told). served_told settings rule client from n earlier before between
          (begun old)
          mid None served ++ ts)
          (next_is ∙ ap (λ (t : Told). t ∷ []) here.1),
    )
