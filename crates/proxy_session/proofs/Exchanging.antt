-- How the parts of an exchange make it up.
use Rattle.std.proofs.Common.{◌≡◌, ℕ, Bool, not, List, refl, sym, subst, ap, ◌∙◌, inl, inr, Option}
use Rattle.std.proofs.Common.{None, Err}
use Rattle.std.specs.Prelude.{IfSome, ◌<◌}
use Rattle.addr_book.specs.declared.addr.Addr.{Addr}
use Rattle.http_wire.specs.declared.ended.Ended.{Ended}
use Rattle.http_wire.specs.declared.head.Head.{Head}
use Rattle.identifier.specs.declared.rule.Rule.{Rule}
use Rattle.exchange_tally.specs.declared.done.Done.{Done}
use Rattle.line_base.specs.Lines.{Line}
use Rattle.line_base.specs.Dials.{has_room}
use Rattle.machine.specs.declared.chosen.Why.{Why}
use Rattle.machine.specs.Code.{ask_of}
use Rattle.machine.specs.Values.{SettingsValue, AskValue, PickValue, Replica, replica, none}
use Rattle.router.specs.Chosen.{HasWord as IsWord}
use Rattle.router.specs.declared.answer.Choice.{Choice}
use Rattle.router.specs.declared.names.Names.{Names}
use Rattle.replica_try.specs.declared.tried.Tried.{Tried}
use Rattle.proxy_session.specs.declared.attempt.Attempt.{Attempt}
use Rattle.proxy_session.specs.declared.attempt.Attempt.TheVariants as attempt
use Rattle.proxy_session.specs.declared.asking.ReplicaPick.{ReplicaPick}
use Rattle.proxy_session.specs.declared.asking.ReplicaPick.TheVariants as pick
use Rattle.proxy_session.specs.declared.asking.Texts.{Texts}
use Rattle.proxy_session.specs.declared.onward.Onward.{Onward}
use Rattle.own_reply.specs.declared.request.Refusal.{Refusal}
use Rattle.own_reply.specs.declared.request.Refusal.TheVariants as refusal
use Rattle.proxy_session.specs.Answering.{Refuses, own_of_why}
use Rattle.proxy_session.specs.Asking.{Finding}
use Rattle.proxy_session.specs.Callers.{Caller}
use Rattle.proxy_session.specs.Attempts.{IsLast, IsSentInVain}
use Rattle.proxy_session.specs.Done.{stopped_done, tried_done, unbound_done, vain_done}
use Rattle.proxy_session.specs.Exchange.{AsksNothing, IsSent, Settles, Standing, having_asked}
use Rattle.proxy_session.specs.Requests.{TriesAgain}
use Rattle.retry_budget.specs.Budget.{BudgetValue}
use Rattle.proxy_session.specs.AskAnswers.{IsReplica, Says, client_in, residual_in}
use Rattle.proxy_session.specs.Onward.{IsForwarded, host_for}
use Rattle.proxy_session.specs.Seeking.{Sought}
use Rattle.proxy_session.specs.Sending.{HasWord, IsHeadOf, RefusesAs}
use Rattle.proxy_session.specs.Sought.{SeeksAs}
use Rattle.proxy_session.specs.Ways.{AsksAs, FoundAs, is_first, refusal_done, tries_done}
use Rattle.proxy_session.specs.Ways.{tries_name}
use Rattle.name_tree.specs.Path.{Labels}
use Rattle.proxy_session.proofs.Along.{same_along}

-- a request was tried in some way, and this is the path that it named, and what it was
abbrev pub TriesAs : SettingsValue → Rule → Head → Bool → ℕ → Option BudgetValue
    → Option BudgetValue → Standing → Standing → Option Ended → Option Labels → Done → Type 0
TriesAs settings rule head last n before behind old new result name done =
    (way : TriesAgain settings rule head last n before behind old new result)
    × (name ≡ tries_name settings rule head last n before behind old new result way)
    × (done ≡ tries_done settings rule head last n before behind old new result way)

-- a request that is not routed
pub refused_so : (settings : SettingsValue) (rule : Rule) (head : Head) (last : Bool)
    (budget : Option BudgetValue) (old new : Standing) (result : Option Ended)
    (name : Option Labels) (done : Done)
    (r : Refusal) → SeeksAs rule head (Err r)
    → AsksNothing old new → RefusesAs r head last old.line new.line result
    → name ≡ None → done ≡ refusal_done r head result
    → TriesAs settings rule head last 0 budget budget old new result name done
refused_so settings rule head last budget old new result name done (refusal.Own err) seeks nothing
    refuses unnamed is = (
      inl (
        inl (record { err = err; seeks = seeks; nothing = nothing; refuses = refuses }),
        record { none = refl; same = refl },
      ),
      unnamed,
      is,
    )
refused_so settings rule head last budget old new result name done refusal.OutOfMemory seeks nothing
    refuses unnamed is = (
      inl (
        inr (record { nothing = nothing; line = refuses.0; ends = refuses.1 }),
        record { none = refl; same = refl },
      ),
      unnamed,
      is,
    )

-- the slot of a replica that was said is that of the one that was found
pub word_found : (said : PickValue) (names : Names) (f : ReplicaPick) → Says said names f
    → IsWord said
    → HasWord f
word_found (replica r) names (pick.Replica choice texts) says word =
    subst (λ (o : Option ℕ). IfSome o (λ slot. slot < 8192)) (sym says.slot) word
word_found (replica r) names (pick.None why) says word = absurd says
word_found (none why) names (pick.Replica choice texts) says word = absurd says
word_found (none why) names (pick.None other) says word = tt

-- a request goes on as one that seeks this
pub record IsFor (sought : Sought) (keeps : Bool) (going : Onward) : Type 0 where
  pub host : going.host.now ≡ sought.host
  pub line : going.target.now ≡ sought.line
  pub framing : going.framing ≡ sought.framing
  pub closes : going.closes ≡ not keeps

module _ (sought : Sought) (keeps : Bool) (going : Onward) (is_for : IsFor sought keeps going)
    (path : (ask_of going.ask.now).path ≡ sought.path) (rules : (ask_of going.ask.now).own
    ≡ sought.rules) where
  -- its head to a replica that was found is that of its request
  forwarded_so : (r : Replica) (choice : Choice) (names : Names) (texts : Texts)
      → IsReplica r choice (client_in names texts) (residual_in names texts)
      → (bytes : List ℕ) → IsHeadOf going choice.addr names texts bytes
      → IsForwarded going.head.now sought (not keeps) r bytes
  forwarded_so r choice names texts is bytes h = record {
    to = h.to;
    host_is =
        h.host_is ∙ (ap (λ (host : List ℕ). host_for host choice.addr) is_for.host ∙ ap
        (λ (a : Addr). host_for sought.host a) is.addr);
    line_is = h.line_is ∙ is_for.line;
    framing_is = h.framing_is ∙ is_for.framing;
    rules_are = h.rules_are ∙ rules;
    service_is = h.service_is ∙ path;
    client_is = h.client_is ∙ is.client_is;
    residual_is = h.residual_is ∙ is.residual_is;
    closes_is = h.closes_is ∙ is_for.closes;
    bytes_are = h.bytes_are;
  }

module _
    (settings : SettingsValue) (sought : Sought) (going : Onward) (old new : Standing)
    (is_for : IsFor sought (has_room old.upstream.pool) going) (found_by : Caller)
    (before behind : Option BudgetValue)
    (path : (ask_of going.ask.now).path ≡ sought.path)
    (rules : (ask_of going.ask.now).own ≡ sought.rules)
  where
    abbrev mid : Standing
    mid = having_asked old found_by old.moments old.words

    abbrev ask : AskValue
    ask = ask_of going.ask.now

    -- how it was settled, by the address of the replica
    abbrev Settled : (result : Option Ended) (how : Tried) (held : Caller) (between : Line)
        → Addr → Type 0
    Settled result how held between addr =
        Settles settings going.head.now going.last addr how held new.caller old.moments new.moments
        between new.line result

    -- the replica that was found is the one that is tried
    resent : (result : Option Ended) (r : Replica) (choice : Choice) (names : Names) (texts : Texts)
        → IsReplica r choice (client_in names texts) (residual_in names texts)
        → IsSent settings going.head.now going.last going.framing choice.addr choice.slot
        (IsHeadOf going choice.addr names texts) mid new result
        → IsSent settings going.head.now going.last sought.framing r.addr r.slot
        (IsForwarded going.head.now sought (not (has_room old.upstream.pool)) r)
        (having_asked old found_by old.moments new.words) new result
    resent result r choice names texts is s = record {
      onward = s.onward;
      is_head =
          forwarded_so sought (has_room old.upstream.pool) going is_for path rules r choice names
          texts is
          s.onward s.is_head;
      how = s.how;
      between = s.between;
      tries = rw (sym is_for.framing, sym is.addr) s.tries;
      held = s.held;
      holds = rw (sym is.slot) s.holds;
      settles = subst (Settled result s.how s.held s.between) is.addr s.settles;
      words_are = refl;
    }

    resent_done : (result : Option Ended) (r : Replica) (choice : Choice) (names : Names)
        (texts : Texts) (is : IsReplica r choice (client_in names texts) (residual_in names texts))
        → (s : IsSent settings going.head.now going.last going.framing choice.addr choice.slot
        (IsHeadOf going choice.addr names texts) mid new result) (hit : Bool)
        → tried_done hit choice.addr s.how (is_first s.settles) going.head.now result
        ≡ tried_done hit r.addr s.how
        (is_first (resent result r choice names texts is s).settles) going.head.now result
    unfolding resent
    resent_done result r choice names texts is s hit =
        same_along (Settled result s.how s.held s.between)
        (λ (a : Addr) (x : Settled result s.how s.held s.between a).
        tried_done hit a s.how (is_first x) going.head.now result)
        is.addr s.settles

    resent_in_vain : (r : Replica) (choice : Choice) (names : Names) (texts : Texts)
        → IsReplica r choice (client_in names texts) (residual_in names texts)
        → IsSentInVain settings going.head.now going.last going.framing choice.addr choice.slot
        (IsHeadOf going choice.addr names texts) going.fewer before mid new
        → IsSentInVain settings going.head.now going.last sought.framing r.addr r.slot
        (IsForwarded going.head.now sought (not (has_room old.upstream.pool)) r) going.fewer before
        (having_asked old found_by old.moments new.words) new
    resent_in_vain r choice names texts is s = record {
      onward = s.onward;
      is_head =
          forwarded_so sought (has_room old.upstream.pool) going is_for path rules r choice names
          texts is
          s.onward s.is_head;
      how = s.how;
      followed = rw (sym is_for.framing) s.followed;
      tries = rw (sym is_for.framing, sym is.addr) s.tries;
      held = s.held;
      holds = rw (sym is.slot) s.holds;
      reported = rw (sym is.addr) s.reported;
      words_are = refl;
      line = s.line;
      kept_is = s.kept_is;
    }

    -- what was found for an ask, by what is seen then
    abbrev FoundThen : PickValue → Caller → Type 0
    FoundThen said seen = Finding settings old.caller seen ask said

    abbrev seen_later : (said : PickValue) → new.caller ≡ found_by → FoundThen said found_by
        → FoundThen said new.caller
    seen_later said same finds = subst (FoundThen said) (sym same) finds

    hit_later : (said : PickValue) (same : new.caller ≡ found_by) (finds : FoundThen said found_by)
        → is_first finds ≡ is_first (seen_later said same finds)
    hit_later said same finds =
        same_along (FoundThen said) (λ (c : Caller) (x : FoundThen said c). is_first x) (sym same)
        finds

    -- what was found for the request's ask was tried, or there was none
    pub asks_sent : (said : PickValue) (names : Names) (f : ReplicaPick) (how : Attempt)
        (done : Done)
        (finds : FoundThen said found_by) → Says said names f → going.hit ≡ is_first finds
        → new.words ≡ old.words
        → FoundAs settings going names f before behind mid new how done
        → AsksAs settings going.head.now going.last sought ask going.fewer before behind old new
        how done
    unfolding resent resent_in_vain
    asks_sent (replica r) names (pick.Replica choice texts) (attempt.Last result) done finds says
        hit same ((kept, inl x), is) = (
          (
            same,
            kept,
            inl (record {
              asks = inr (replica r, seen_later (replica r) x.nothing.caller finds);
              moments_are = x.nothing.moments;
              away = record { kept = x.nothing.away.kept; upstream = x.nothing.away.upstream };
              line = x.line;
              ends = x.ends;
            }),
          ),
          is
              ∙ ap (λ (h : Bool). stopped_done h result)
              (hit ∙ hit_later (replica r) x.nothing.caller finds),
        )
    asks_sent (replica r) names (pick.Replica choice texts) (attempt.Last result) done finds says
        hit same ((kept, inr (s, last)), is) =
        let to = resent result r choice names texts says s in (
          (
            same,
            kept,
            inr (inr (
              record { to = r; found = found_by; finds = finds; sent = to },
              subst (λ fr. IsLast going.head.now fr going.fewer before s.how result) is_for.framing
                  last,
            )),
          ),
          is
              ∙ (resent_done result r choice names texts says s going.hit
              ∙ ap (λ (h : Bool). tried_done h r.addr s.how (is_first to.settles) going.head.now
              result) hit),
        )
    asks_sent (replica r) names (pick.Replica choice texts) attempt.Failed done finds says hit same
        ((charged, s), is) = (
          (
            same,
            charged,
            record {
              to = r;
              found = found_by;
              finds = finds;
              sent = resent_in_vain r choice names texts says s;
            },
          ),
          is
              ∙ (ap (λ (a : Addr). vain_done going.hit a s.how) says.addr
              ∙ ap (λ (h : Bool). vain_done h r.addr s.how) hit),
        )
    asks_sent (replica r) names (pick.None why) how done finds says hit same sends = absurd says
    asks_sent (none why) names (pick.Replica choice texts) how done finds says hit same sends =
        absurd says
    asks_sent (none why) names (pick.None other) (attempt.Last result) done finds says hit same
        ((kept, alone), is) =
        let later = seen_later (none why) alone.nothing.caller finds in (
          (
            same,
            kept,
            inr (inl (record {
              why = why;
              finds = later;
              moments_are = alone.nothing.moments;
              away = record {
                kept = alone.nothing.away.kept;
                upstream = alone.nothing.away.upstream;
              };
              refuses =
                  subst (λ v. Refuses (own_of_why v) going.head.now going.last old.line new.line
                  result) says alone.refuses;
            })),
          ),
          is
              ∙ (ap (λ (h : Bool). unbound_done h (own_of_why other) going.head.now result)
              (hit ∙ hit_later (none why) alone.nothing.caller finds)
              ∙ ap (λ (w : Why). unbound_done (is_first later) (own_of_why w) going.head.now result)
              says),
        )
    asks_sent (none why) names (pick.None other) attempt.Failed done finds says hit same
        (never, is) = absurd never
