-- What the dialer does in a session.
use Rattle.std.proofs.Common.{◌≡◌, ◌⊎◌, ◌<◌, ℕ, zero, suc, ◌+◌, ◌||◌, eqb, Bool, List, [], ◌∷◌}
use Rattle.std.proofs.Common.{◌++◌, map, drop, append-nil, refl, subst, sym, inl, inr, All}
use Rattle.std.proofs.Common.{Option, Some, None}
use Rattle.std.proofs.lemmas.List.Elements.{All-drop}
use Rattle.http_wire.specs.declared.ended.Ended.{Ended}
use Rattle.http_wire.specs.declared.head.Head.{Head}
use Rattle.identifier.specs.declared.rule.Rule.{Rule}
use Rattle.line_base.specs.declared.dialer.DialEvent.{DialEvent}
use Rattle.line_base.specs.declared.dialer.DialEvent.TheVariants.{Sent, Got}
use Rattle.line_base.specs.Dials.{Grows, Upstream}
use Rattle.machine.specs.Values.{SettingsValue}
use Rattle.retry_budget.specs.Budget.{BudgetValue}
use Rattle.proxy_session.specs.Exchange.{Standing}
use Rattle.proxy_session.specs.Laws.{BringsHead, Gives, IsByteRule, SendsAgain, SendsHead}
use Rattle.proxy_session.specs.Laws.{SendsHeads, SendsOnce, SendsTry, StaysReadBack, WasRead}
use Rattle.http_wire.specs.declared.paused.Paused.TheVariants as paused
use Rattle.proxy_session.specs.Session.{Served, Serves, Sessions, having_told}
use Rattle.own_reply.specs.Closing.{most_requests}
use Rattle.replica_try.proofs.Growing.{grows_nothing, grows_on}
use Rattle.proxy_session.proofs.FieldTexts.{back}
use Rattle.proxy_session.proofs.ReadingBack.{requests_read_back}
use Rattle.proxy_session.proofs.Supplying.{gives_behind, head_begins, request_leaves, told_leaves}

module _ (settings : SettingsValue) (rule : Rule) (of_bytes : IsByteRule rule) where
  -- a visit, by what a log that begins or ends elsewhere shows of it
  abbrev shown_so : (head : Head) (old new first last : Upstream) (s : SendsHead rule head old new)
      → Grows first.log last.log
      (s.start ∷ (map Sent s.sent ++ (map Got s.got ++ s.stop ∷ [])))
      → SendsHead rule head first last
  shown_so head old new first last s log = record {
    sought = s.sought;
    seeks = s.seeks;
    to = s.to;
    closes = s.closes;
    onward = s.onward;
    forwarded = s.forwarded;
    reads = s.reads;
    taken = s.taken;
    behind = s.behind;
    count = s.count;
    body = s.body;
    start = s.start;
    starts = s.starts;
    sent = s.sent;
    front = s.front;
    got = s.got;
    stop = s.stop;
    stops = s.stops;
    log = log;
  }

  -- behind calls that the log does not show
  once_behind : (head : Head) (old mid new : Upstream) → Grows old.log mid.log []
      → SendsOnce rule head mid new → SendsOnce rule head old new
  once_behind head old mid new quiet (inl nothing) =
      inl (grows_on old.log mid.log new.log [] [] quiet nothing)
  once_behind head old mid new quiet (inr sends) =
      inr (shown_so head mid new old new sends
      (grows_on old.log mid.log new.log [] _ quiet sends.log))

  try_behind : (head : Head) (old mid new : Upstream) → Grows old.log mid.log []
      → SendsTry rule head mid new → SendsTry rule head old new
  try_behind head old mid new quiet (inl once) = inl (once_behind head old mid new quiet once)
  try_behind head old mid new quiet (inr t) =
      inr (record {
        mid = t.mid;
        first =
            shown_so head mid t.mid old t.mid t.first
            (grows_on old.log mid.log t.mid.log [] _ quiet t.first.log);
        resumed = t.resumed;
        silent = t.silent;
        hung = t.hung;
        again = t.again;
      })

  again_behind : (n : ℕ) (head : Head) (old mid new : Upstream) → Grows old.log mid.log []
      → SendsAgain rule head n mid new → SendsAgain rule head n old new
  again_behind zero head old mid new quiet none =
      grows_on old.log mid.log new.log [] [] quiet none
  again_behind (suc zero) head old mid new quiet (between, none, sends) = (
    old,
    grows_nothing old.log,
    try_behind head old between new (grows_on old.log mid.log between.log [] [] quiet none)
        sends,
  )
  again_behind (suc (suc n)) head old mid new quiet (between, first, sends) =
      (between, again_behind (suc n) head old mid between quiet first, sends)

  -- before calls that the log does not show
  abbrev shown_before : (head : Head) (old mid new : Upstream) → SendsHead rule head old mid
      → Grows mid.log new.log [] → SendsHead rule head old new
  shown_before head old mid new sends quiet =
      shown_so head old mid old new sends
      (subst (λ (events : List DialEvent). Grows old.log new.log events) (append-nil _)
      (grows_on old.log mid.log new.log _ [] sends.log quiet))

  once_before : (head : Head) (old mid new : Upstream) → SendsOnce rule head old mid
      → Grows mid.log new.log [] → SendsOnce rule head old new
  once_before head old mid new (inl nothing) quiet =
      inl (grows_on old.log mid.log new.log [] [] nothing quiet)
  once_before head old mid new (inr sends) quiet = inr (shown_before head old mid new sends quiet)

  second_before : (head : Head) (old mid new : Upstream) (start : DialEvent) (onward : List ℕ)
      → Grows old.log mid.log []
      ⊎ ((second : SendsHead rule head old mid) × (second.start ≡ start)
      × (second.onward ≡ onward))
      → Grows mid.log new.log []
      → Grows old.log new.log []
      ⊎ ((second : SendsHead rule head old new) × (second.start ≡ start)
      × (second.onward ≡ onward))
  second_before head old mid new start onward (inl nothing) quiet =
      inl (grows_on old.log mid.log new.log [] [] nothing quiet)
  second_before head old mid new start onward (inr (second, is, same)) quiet =
      inr (shown_before head old mid new second quiet, is, same)

  try_before : (head : Head) (old mid new : Upstream) → SendsTry rule head old mid
      → Grows mid.log new.log [] → SendsTry rule head old new
  try_before head old mid new (inl once) quiet = inl (once_before head old mid new once quiet)
  try_before head old mid new (inr t) quiet =
      inr (record {
        mid = t.mid;
        first = t.first;
        resumed = t.resumed;
        silent = t.silent;
        hung = t.hung;
        again = second_before head t.mid mid new _ _ t.again quiet;
      })

  again_before : (n : ℕ) (head : Head) (old mid new : Upstream) → SendsAgain rule head n old mid
      → Grows mid.log new.log [] → SendsAgain rule head n old new
  again_before zero head old mid new none quiet =
      grows_on old.log mid.log new.log [] [] none quiet
  again_before (suc n) head old mid new (between, first, sends) quiet =
      (between, first, try_before head between mid new sends quiet)

  sends_before : (n retries : ℕ) (bytes behind : List ℕ) (old mid new : Upstream)
      → SendsHeads rule n retries bytes behind old mid → Grows mid.log new.log []
      → SendsHeads rule n retries bytes behind old new
  sends_before zero retries bytes behind old mid new (untried, same, none) quiet =
      (untried, same, grows_on old.log mid.log new.log [] [] none quiet)
  sends_before (suc n) retries bytes behind old mid new
      (at, between, earlier, more, head, first, brings, again, all) quiet = (
        at,
        between,
        earlier,
        more,
        head,
        first,
        brings,
        again_before (suc more) head at mid new again quiet,
        all,
      )

  -- what a request brings of these bytes, what it leaves of them, and what the dialer did in it
  serves : (last : Bool) (n : ℕ) (before behind : Option BudgetValue) (old new : Standing)
      (result : Option Ended) (bytes : List ℕ) → All (λ b. b < 256) bytes → Gives old bytes
      → Serves settings rule last n before behind old new result
      → (left : List ℕ) × All (λ b. b < 256) left × Gives new left
      × ((head : Head) × BringsHead rule bytes head left
      × SendsAgain rule head (suc n) old.upstream new.upstream)
  serves last n before behind old new result bytes are gives (closing, x) =
      let at = head_begins bytes old x.mid x.received gives x.reads in
      let others = drop at.len bytes in
      let asked = having_told closing x.mid in
      let after = gives_behind others new
      (request_leaves others settings rule x.head (last || closing) n before behind asked new x.end
      (told_leaves others closing x.mid at.left) x.request) in
      let of_others : All (λ b. b < 256) (after.0 ++ after.1) =
      subst (All (λ b. b < 256)) after.2 (All-drop (λ b. b < 256) at.len bytes are) in
      let was : WasRead x.head = record {
        received = bytes;
        bytes = are;
        len = at.len;
        read = x.received;
        begins = at.begins;
        clears = rule.clears_context;
        heard = x.heard;
      } in
      let brings : BringsHead rule bytes x.head after.1 = record {
        read = x.received;
        len = at.len;
        begins = at.begins;
        heard = x.heard;
        taken = after.0;
        cut = after.2;
      } in
      let again = again_behind (suc n) x.head old.upstream x.mid.upstream new.upstream
      x.reads.upstream.log
      (requests_read_back settings rule x.head (last || closing) n before behind asked new x.end
      of_bytes was x.request) in (
        after.1,
        back (λ b. b < 256) after.0 after.1 of_others,
        after.3,
        (x.head, brings, again),
      )

  served : (from n retries : ℕ) (before behind : Option BudgetValue) (old new : Standing)
      (result : Option Ended) (bytes : List ℕ) → All (λ b. b < 256) bytes → Gives old bytes
      → Served settings rule from n retries before behind old new result
      → (left : List ℕ) × All (λ b. b < 256) left × Gives new left
      × SendsHeads rule n retries bytes left old.upstream new.upstream
  served from zero retries before behind old new result bytes are gives (untried, is, none) =
      subst (λ (s : Standing). (left : List ℕ) × All (λ b. b < 256) left × Gives s left
      × SendsHeads rule zero retries bytes left old.upstream s.upstream) (sym is)
      (bytes, are, gives, (untried.none, refl, grows_nothing old.upstream.log))
  served from (suc n) retries before behind old new result bytes are gives
      (mid, between, earlier, more, before_it, next, all) =
      let first = served from n earlier before between old mid None bytes are gives before_it in
      let second = serves (eqb (from + n + 1) most_requests) more between behind mid new result
      first.0 first.1 first.2 next in
      let of_it = second.3 in (
        second.0,
        second.1,
        second.2,
        (
          mid.upstream,
          first.0,
          earlier,
          more,
          of_it.0,
          first.3,
          of_it.1,
          of_it.2,
          all,
        ),
      )

  -- and behind them nothing more
  served_then : (from requests retries : ℕ) (before behind : Option BudgetValue)
      (old mid : Standing) (new : Upstream) (bytes : List ℕ) → All (λ b. b < 256) bytes
      → Gives old bytes → Served settings rule from requests retries before behind old mid None
      → Grows mid.upstream.log new.log []
      → (left : List ℕ) × SendsHeads rule requests retries bytes left old.upstream new
  served_then from requests retries before behind old mid new bytes are gives all quiet =
      let done = served from requests retries before behind old mid None bytes are gives all in (
        done.0,
        sends_before requests retries bytes done.0 old.upstream mid.upstream new done.3 quiet,
      )

  session : (from requests retries : ℕ) (before behind : Option BudgetValue) (old new : Standing)
      (end : Ended) (bytes : List ℕ) → All (λ b. b < 256) bytes → Gives old bytes
      → Sessions settings rule from requests retries before behind old new end
      → (left : List ℕ) × SendsHeads rule requests retries bytes left old.upstream new.upstream
  session from requests retries before behind old new end bytes are gives (inl (mid, all, inr x)) =
      served_then from requests retries before behind old mid new.upstream bytes are gives all
      (subst (λ (s : Standing). Grows mid.upstream.log s.upstream.log []) (sym x.closing)
      (grows_nothing mid.upstream.log))
  session from requests retries before behind old new end bytes are gives
      (inl (mid, all, inl without)) =
      served_then from requests retries before behind old mid new.upstream bytes are gives all
      (grows_on mid.upstream.log without.mid.upstream.log new.upstream.log [] []
      without.reads.upstream.log without.nothing.away.upstream.log)
  session from requests retries before behind old new end bytes are gives (inr all) =
      let done = served from requests retries before behind old new (Some end) bytes are gives all
      in (done.0, done.3)

pub stays_read_back : StaysReadBack
stays_read_back settings rule from requests retries before behind old new paused.Quiet bytes
    of_bytes are gives (mid, all, (kept, still)) =
    served_then settings rule of_bytes from requests retries before behind old mid new.upstream
    bytes are gives all
    (subst (λ (s : Standing). Grows mid.upstream.log s.upstream.log []) (sym still)
    (grows_nothing mid.upstream.log))
stays_read_back settings rule from requests retries before behind old new (paused.Ended end) bytes
    of_bytes are gives sessions =
    session settings rule of_bytes from requests retries before behind old new end bytes are gives
    sessions
