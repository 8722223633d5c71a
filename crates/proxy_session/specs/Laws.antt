-- What is read of a head that goes on to a replica, and what holds of a stay.
use Rattle.std.specs.Prelude.{◌≡◌, ◌⊎◌, ◌+◌, ◌<◌, ◌≤◌, ◌^◌, ℕ, zero, suc, Bool, true, List, []}
use Rattle.std.specs.Prelude.{◌∷◌, ◌++◌, length, drop, map, codes, All, IsSomeAnd, Option, Ok}
use Rattle.std.specs.List.{concat}
use mathlib.Core.List.{IsPrefix}
use Rattle.httparse.specs.Grammar.{trim_ows}
use Rattle.line_base.specs.declared.dialer.DialEvent.{DialEvent}
use Rattle.line_base.specs.declared.dialer.DialEvent.TheVariants.{Dialed, Resumed, Sent, Got}
use Rattle.line_base.specs.declared.dialer.DialEvent.TheVariants.{Hung, Kept}
use Rattle.name_tree.specs.Canon.{AreByteLabels}
use Rattle.http_wire.specs.declared.ended.Ended.{Ended}
use Rattle.http_wire.specs.declared.frames.Framing.{Framing}
use Rattle.http_wire.specs.declared.head.Head.{Head}
use Rattle.http_wire.specs.declared.head.ReplyHead.{ReplyHead}
use Rattle.http_wire.specs.Fields.{values_of}
use Rattle.http_wire.specs.Framing.{framing_of}
use Rattle.http_wire.specs.Heads.{most, BeginsWith}
use Rattle.identifier.specs.declared.rule.Kind.{Kind}
use Rattle.identifier.specs.declared.rule.Kind.TheVariants.{Token, MethodAndHost, Segments}
use Rattle.identifier.specs.declared.rule.Kind.TheVariants.{PathField, Static}
use Rattle.identifier.specs.declared.rule.Rule.{Rule}
use Rattle.identifier.specs.Context.{heard_by}
use Rattle.machine.specs.Values.{SettingsValue, Replica}
use Rattle.body_wire.specs.Bodies.{IsFrontBody, IsWholeBody}
use Rattle.body_wire.specs.Passing.{IsFrontOf, form_of, most_passed}
use Rattle.forward.specs.Laws.{table_texts}
use Rattle.http_wire.specs.declared.paused.Paused.{Paused}
use Rattle.proxy_session.specs.Callers.{Caller}
use Rattle.proxy_session.specs.Exchange.{Exchanges, Standing}
use Rattle.replica_try.specs.Heads.{Hears}
use Rattle.proxy_session.specs.Onward.{IsForwarded, host_for}
use Rattle.line_base.specs.Dials.{Grows, Upstream}
use Rattle.proxy_session.specs.Seeking.{Seeks, Sought}
use Rattle.proxy_session.specs.Requests.{Requests}
use Rattle.proxy_session.specs.Session.{Stays, StaysTo, most_retries}
use Rattle.replica_try.specs.Trying.{is_repeatable, is_reusable}
use Rattle.retry_budget.specs.Budget.{BudgetValue}
use Rattle.router_log.specs.Call.{Call}

-- a head that was read off some bytes, as it was heard: with its context or without
pub record WasRead (head : Head) : Type 0 where
  pub received : List ℕ
  pub bytes : All (λ b. b < 256) received
  pub len : ℕ
  pub read : Head
  pub begins : BeginsWith received read len
  pub clears : Bool
  pub heard : head ≡ heard_by clears read

-- a rule whose paths are of bytes
abbrev pub HasByteLabels : Kind → Type 0
HasByteLabels (Token name) = Unit {0}
HasByteLabels MethodAndHost = Unit {0}
HasByteLabels (Segments count) = Unit {0}
HasByteLabels (PathField name) = Unit {0}
HasByteLabels (Static path) = AreByteLabels path

pub record IsByteRule (rule : Rule) : Type 0 where
  pub prefix : AreByteLabels rule.prefix
  pub kind : HasByteLabels rule.kind

-- a replica that has an address, and names of bytes
pub record IsByteReplica (to : Replica) : Type 0 where
  pub ip : to.addr.ip < 2 ^ 32
  pub port : to.addr.port < 2 ^ 16
  pub client : AreByteLabels to.client
  pub residual : AreByteLabels to.residual

-- The bytes are one head and nothing behind it. It has the method of the request, the target, the
-- framing and the host of what the request seeks, no table of a client, and of the routers' tables
-- none but the request's own
pub record ReadsAs
    (head : Head) (sought : Sought) (to : Replica) (bytes : List ℕ) (read : Head)
    : Type 0 where
  pub whole : BeginsWith bytes read (length bytes)
  pub method : read.method ≡ head.method
  pub target : read.target ≡ sought.line
  pub version : read.version ≡ 1
  pub framing : framing_of read.version read.fields ≡ Ok sought.framing
  pub host : values_of (codes "host") read.fields ≡ host_for sought.host to.addr ∷ []
  pub no_table : values_of (codes "l5d-dtab") read.fields ≡ []
  pub table : values_of (codes "l5d-ctx-dtab") read.fields ≡ map trim_ows (table_texts sought.rules)

-- the head with which a request that was read goes on is read so, where it is no longer than a head
-- may be
abbrev pub HeadsReadBack : Type 0
HeadsReadBack =
    (rule : Rule) (head : Head) (sought : Sought) (closes : Bool) (to : Replica) (bytes : List ℕ)
    → IsByteRule rule → WasRead head → Seeks rule head (Ok sought) → IsByteReplica to
    → IsForwarded head sought closes to bytes → length bytes ≤ most
    → (read : Head) × ReadsAs head sought to bytes read

-- The pieces that were got are one whole reply to a request with this method, and nothing besides:
-- the heads of interim replies, the final head, and the body that it frames. It is a reply behind
-- which the connection may carry another request
pub record IsWholeReply (method : List ℕ) (got : List (List ℕ)) : Type 0 where
  pub reply : ReplyHead
  pub framing : Framing
  pub heads : List (List ℕ)
  pub behind : List (List ℕ)
  pub all : got ≡ heads ++ behind
  pub left : List ℕ
  pub faults : ℕ
  pub faults_now : ℕ
  pub heard : Hears method [] left heads faults faults_now (Ok (reply, framing))
  pub chunked : Bool
  pub passed : List ℕ
  pub count : ℕ
  pub body :
      IsWholeBody framing (form_of chunked) (left ++ concat behind) passed count []
  pub lasts : is_reusable reply framing [] ≡ true

-- all of a request was sent: this head, and what goes on behind it for the whole of its body; and
-- what was got is one whole reply to it
pub record IsAnsweredWhole
    (method : List ℕ) (framing : Framing) (onward taken behind : List ℕ) (count : ℕ)
    (sent : List ℕ) (got : List (List ℕ))
    : Type 0 where
  pub sent_is : sent ≡ onward ++ behind
  pub after : List ℕ
  pub body : IsWholeBody framing (form_of true) taken behind count after
  pub reply : IsWholeReply method got

-- One visit to a replica. A connection to it was opened; or, for a request that may be repeated,
-- one that was kept was taken up again. What was sent over it is the head with which the request
-- goes on to this replica, which is read so, and what goes on behind it for a front of a body that
-- is framed so, or a front of these; and what was got came behind that. Then the connection was
-- ended; or it was kept, where the request was answered whole.
--
-- So over one connection, from the event that opened it to its end, requests and replies alternate,
-- and none is sent before the reply to the one before it was got whole, with nothing behind it
pub record SendsHead (rule : Rule) (head : Head) (old new : Upstream) : Type 0 where
  pub sought : Sought
  pub seeks : Seeks rule head (Ok sought)
  pub to : Replica
  pub closes : Bool
  pub onward : List ℕ
  pub forwarded : IsForwarded head sought closes to onward
  pub reads : IsByteReplica to → length onward ≤ most → (read : Head)
      × ReadsAs head sought to onward read
  pub taken : List ℕ
  pub behind : List ℕ
  pub count : ℕ
  pub body : IsFrontBody sought.framing (form_of true) most_passed taken behind count
  pub start : DialEvent
  pub starts :
      (start ≡ Dialed to.addr.ip to.addr.port)
      ⊎ ((start ≡ Resumed to.addr.ip to.addr.port)
      × (is_repeatable head sought.framing ≡ true))
  pub sent : List (List ℕ)
  pub front : IsFrontOf (onward ++ behind) (concat sent)
  pub got : List (List ℕ)
  pub stop : DialEvent
  pub stops :
      (stop ≡ Hung)
      ⊎ ((stop ≡ Kept)
      × IsAnsweredWhole head.method sought.framing onward taken behind count (concat sent) got)
  pub log : Grows old.log new.log (start ∷ (map Sent sent ++ (map Got got ++ stop ∷ [])))

-- the dialer did nothing that its log shows, or just this
abbrev pub SendsOnce : Rule → Head → Upstream → Upstream → Type 0
SendsOnce rule head old new = Grows old.log new.log [] ⊎ SendsHead rule head old new

-- A visit over a connection that was kept, over which not a byte of a reply came and which was
-- ended; and behind it nothing, or one over a new connection to the same address, with the same
-- head
pub record SendsTwice (rule : Rule) (head : Head) (old new : Upstream) : Type 0 where
  pub mid : Upstream
  pub first : SendsHead rule head old mid
  pub resumed : first.start ≡ Resumed first.to.addr.ip first.to.addr.port
  pub silent : concat first.got ≡ []
  pub hung : first.stop ≡ Hung
  pub again :
      Grows mid.log new.log []
      ⊎ ((second : SendsHead rule head mid new)
      × (second.start ≡ Dialed first.to.addr.ip first.to.addr.port)
      × (second.onward ≡ first.onward))

-- a try: one visit at most, unless the first of two was silent over a kept connection
abbrev pub SendsTry : Rule → Head → Upstream → Upstream → Type 0
SendsTry rule head old new = SendsOnce rule head old new ⊎ SendsTwice rule head old new

-- in an exchange of a head that was read the dialer did just this
abbrev pub ExchangesReadBack : Type 0
ExchangesReadBack =
    (settings : SettingsValue) (rule : Rule) (head : Head) (last : Bool) (old new : Standing)
    (result : Option Ended)
    → IsByteRule rule → WasRead head → Exchanges settings rule head last old new result
    → SendsTry rule head old.upstream new.upstream

-- so often, for one head
abbrev pub SendsAgain : Rule → Head → ℕ → Upstream → Upstream → Type 0
SendsAgain rule head zero old new = Grows old.log new.log []
SendsAgain rule head (suc n) old new =
    (mid : Upstream) × SendsAgain rule head n old mid × SendsTry rule head mid new

-- in a request whose head was read the dialer did just this, at most once more than it has retries
abbrev pub RequestsReadBack : Type 0
RequestsReadBack =
    (settings : SettingsValue) (rule : Rule) (head : Head) (last : Bool) (retries : ℕ)
    (before behind : Option BudgetValue) (old new : Standing) (result : Option Ended)
    → IsByteRule rule → WasRead head
    → Requests settings rule head last retries before behind old new result
    → SendsAgain rule head (suc retries) old.upstream new.upstream

-- these are the bytes of a client that were read and not used yet, and behind them those that it
-- has yet to give, which are known
abbrev pub Gives : Standing → List ℕ → Type 0
Gives s bytes = IsSomeAnd s.line.left (λ left. s.kept ++ left ≡ bytes)

-- The bytes begin with a head, which the rule hears so, with its context or without. Behind it some
-- may have been taken for a body, and these follow
pub record BringsHead (rule : Rule) (bytes : List ℕ) (head : Head) (behind : List ℕ) : Type 0 where
  pub read : Head
  pub len : ℕ
  pub begins : BeginsWith bytes read len
  pub heard : head ≡ heard_by rule.clears_context read
  pub taken : List ℕ
  pub cut : drop len bytes ≡ taken ++ behind

-- the heads of so many requests stand in these bytes, one behind the other, and with so many
-- retries of them all the dialer did just this for each in turn
abbrev pub SendsHeads : Rule → ℕ → ℕ → List ℕ → List ℕ → Upstream → Upstream → Type 0
SendsHeads rule zero retries bytes behind old new =
    (retries ≡ 0) × (behind ≡ bytes) × Grows old.log new.log []
SendsHeads rule (suc n) retries bytes behind old new =
    (mid : Upstream) × (between : List ℕ) × (earlier : ℕ) × (more : ℕ) × (head : Head)
    × SendsHeads rule n earlier bytes between old mid × BringsHead rule between head behind
    × SendsAgain rule head (suc more) mid new × (retries ≡ earlier + more)

-- in a stay of a connection over the bytes of a client the dialer did nothing else
abbrev pub StaysReadBack : Type 0
StaysReadBack =
    (settings : SettingsValue) (rule : Rule) (from requests retries : ℕ)
    (before behind : Option BudgetValue) (old new : Standing) (result : Paused) (bytes : List ℕ)
    → IsByteRule rule → All (λ b. b < 256) bytes → Gives old bytes
    → Stays settings rule from requests retries before behind old new result
    → (left : List ℕ) × SendsHeads rule requests retries bytes left old.upstream new.upstream

-- what a pass had seen stays seen, and the calls that it has made since then have their points
-- behind all of that
pub record CallsLater (old new : Caller) : Type 0 where
  pub seen : IsPrefix old.seen new.seen
  pub made : List (Call × ℕ)
  pub items : new.items ≡ old.items ++ made
  pub late : All (λ call. length old.seen ≤ call.1) made

-- whatever a stay asks the router, it asks behind all that had been seen when it began
abbrev pub StaysComeLater : Type 0
StaysComeLater =
    (settings : SettingsValue) (rule : Rule) (from upto : ℕ)
    (before behind : Option BudgetValue) (old new : Standing) (result : Paused)
    → StaysTo settings rule from upto before behind old new result
    → CallsLater old.caller new.caller

-- in a stay the attempts behind the first of each request are no more than its budget had
abbrev pub StaysAreBounded : Type 0
StaysAreBounded =
    (settings : SettingsValue) (rule : Rule) (from upto : ℕ)
    (before behind : Option BudgetValue) (old new : Standing) (result : Paused)
    → (stay : StaysTo settings rule from upto before behind old new result)
    → stay.retries ≤ most_retries before stay.requests
