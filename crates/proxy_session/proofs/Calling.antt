-- What the router's calls do to a pass, over plain lists.
use Rattle.std.proofs.Common.{◌≡◌, ℕ, Bool, true, false, refl, sym, subst, ◌∙◌, inl, inr, Option}
use Rattle.std.proofs.Common.{Some, None, length}
use Rattle.std.specs.Prelude.{IfSome, ◌<◌}
use Rattle.bind_cache.specs.Stored.{kept_of}
use Rattle.bind_cache.specs.Kept.{Kept}
use Rattle.bind_cache.specs.declared.binding.Binding.{Binding}
use Rattle.addr_book.specs.declared.addr.Addr.{Addr}
use Rattle.machine.specs.Choosing.{offer_of, pick_of}
use Rattle.machine.specs.Values.{SettingsValue, AskValue, PickValue, replica, none, report}
use Rattle.machine.specs.declared.chosen.Why.{Why}
use Rattle.machine.specs.declared.reply.Reply.{Reply}
use Rattle.router_log.specs.Call.{asked}
use Rattle.router_log.specs.Value.{value_of}
use Rattle.router.specs.declared.answer.Answer.{Answer}
use Rattle.router.specs.declared.answer.Answer.TheVariants as answer
use Rattle.router.specs.declared.answer.Choice.{Choice}
use Rattle.router.specs.declared.answer.Peek.TheVariants as peek
use Rattle.router.specs.declared.answer.Remembered.{Remembered}
use Rattle.router.specs.declared.names.Names.{Names}
use Rattle.router.specs.declared.naming.Naming.{Ghosts}
use Rattle.router.specs.declared.pass.Pass.{Pass}
use Rattle.router.specs.Chosen.{HasWord}
use Rattle.router.specs.Asking.{IsPeeked, IsPicked, Picks as PicksOf}
use Rattle.router.specs.Changing.{IsChanged, IsRemembered}
use Rattle.router.specs.Loads.{MayHaveRead}
use Rattle.router.specs.Passes.{Entered, NotLetIn, SawMore, Unanswered, number_in, seen_in}
use Rattle.router.specs.Passes.{reads_in}
use Rattle.router.specs.Peeked.{IsSaid}
use Rattle.router.specs.Picked.{IsFresh, is_kept_for, loads_by, said_by, fresh_by}
use Rattle.proxy_session.specs.declared.asking.AdmittedAnswer.{AdmittedAnswer}
use Rattle.proxy_session.specs.declared.asking.AdmittedAnswer.TheVariants as admitted
use Rattle.proxy_session.specs.declared.asking.AdmittedPeek.TheVariants as peeked
use Rattle.proxy_session.specs.Asking.{FindingAnew, StopsAnew}
use Rattle.proxy_session.specs.Callers.{Caller, Asks, Finds, Misses, Reports, Returns, SeesMore}
use Rattle.proxy_session.specs.Callers.{caller_of}
use Rattle.proxy_session.specs.AskAnswers.{Picks, PicksOnce, ReturnsSome, Sees, StopsPick, fresh_in}
use Rattle.proxy_session.specs.AskAnswers.{picked_of, said_in}

-- two views of a pass that agree are one
pub same_caller : (a b : Caller) → a.number ≡ b.number → a.seen ≡ b.seen → a.items ≡ b.items
    → a.reads ≡ b.reads → a.taken ≡ b.taken → a.slot ≡ b.slot → a ≡ b
same_caller a b n s i r t l =
    λ k. record { number = n k; seen = s k; items = i k; reads = r k; taken = t k; slot = l k }

-- the slot of a replica that was said is that of a load word, where the one that was chosen is
hit_word : (said : PickValue) (choice : Choice) (names : Names)
    → IsSaid said (peek.Hit choice) names → IfSome choice.slot (λ slot. slot < 8192) → HasWord said
hit_word (replica r) choice names is word =
    subst (λ (o : Option ℕ). IfSome o (λ slot. slot < 8192)) is.1 word
hit_word (none why) choice names is word = absurd is

none_word : (said : PickValue) (why : Why) (place : ℕ) (names : Names)
    → IsSaid said (peek.HitNone why place) names → HasWord said
none_word (replica r) why place names is = absurd is
none_word (none w) why place names is = tt

module _ (settings : SettingsValue) (old new : Caller) (ask : AskValue) (names : Names) where
  hit_says : (choice : Choice) (said : PickValue) → Finds settings old new ask true said
      → IsSaid said (peek.Hit choice) names → Sees settings old new ask names (peeked.Hit choice)
  hit_says choice (replica r) finds is =
      (r, finds, record { addr = is.0; slot = is.1; client_is = is.2; residual_is = is.3 })
  hit_says choice (none why) finds is = absurd is

  none_says : (why : Why) (place : ℕ) (said : PickValue) → Finds settings old new ask true said
      → IsSaid said (peek.HitNone why place) names
      → Sees settings old new ask names (peeked.None why)
  none_says why place (replica r) finds is = absurd is
  none_says why place (none w) finds is =
      subst (λ (v : Why). Finds settings old new ask true (none v)) (sym is.0) finds

module _ {J : Type 0} {g : Ghosts J} where
  asks_by : (old new : Pass J g) (ask : AskValue) → number_in new ≡ number_in old
      → Entered old new (asked ask) → Asks g.settings (caller_of old) (caller_of new) ask
  asks_by old new ask same entered = record {
    number = same;
    called = entered.called;
    slots = record {
      taken = entered.taken;
      slot = entered.slot;
    };
  }

  module _ (before : Caller) (mid new : Pass J g) (ask : AskValue) (names : Names)
      (since : caller_of mid ≡ before) (same : number_in new ≡ number_in mid) where
    pub sees_hit : (choice : Choice) → IsPeeked mid new ask names (peek.Hit choice)
        → Sees g.settings before (caller_of new) ask names (peeked.Hit choice)
    sees_hit choice p =
        let h = p.answer.0 in
        let value = value_of g.settings (seen_in new) in
        let finds : Finds g.settings (caller_of mid) (caller_of new) ask true
        (pick_of g.settings value.state ask choice.first choice.second) = record {
          asks = asks_by mid new ask same p.entered;
          is_kept = h.is_kept;
          loads = (choice.first, choice.second);
          permitted = record {
            permitted = refl;
            reads = h.reads;
            loads_are = h.loads_are;
            word = hit_word _ choice names h.said h.word;
          };
        } in
        subst (λ (b : Caller). Sees g.settings b (caller_of new) ask names (peeked.Hit choice))
        since
        (hit_says g.settings (caller_of mid) (caller_of new) ask names choice _ finds h.said)

    pub sees_none : (why : Why) (place : ℕ) → IsPeeked mid new ask names (peek.HitNone why place)
        → Sees g.settings before (caller_of new) ask names (peeked.None why)
    sees_none why place p =
        let h = p.answer.0 in
        let value = value_of g.settings (seen_in new) in
        let finds : Finds g.settings (caller_of mid) (caller_of new) ask true
        (pick_of g.settings value.state ask 0 0) = record {
          asks = asks_by mid new ask same p.entered;
          is_kept = h.is_kept;
          loads = (0, 0);
          permitted = record {
            permitted = refl;
            reads = h.reads;
            loads_are = h.loads_are;
            word = none_word _ why place names h.said;
          };
        } in
        subst (λ (b : Caller). Sees g.settings b (caller_of new) ask names (peeked.None why)) since
        (none_says g.settings (caller_of mid) (caller_of new) ask names why place _ finds h.said)

    pub sees_nothing : (place : ℕ) → IsPeeked mid new ask names (peek.Miss place)
        → Sees g.settings before (caller_of new) ask names peeked.Miss
    sees_nothing place p =
        subst (λ (b : Caller). Misses g.settings b (caller_of new) ask) since
        (record {
          asks = asks_by mid new ask same p.entered;
          nothing = p.answer.0;
          reads = p.answer.1;
        })

    pub not_let_in : NotLetIn mid new → caller_of new ≡ before
    not_let_in refused =
        same_caller (caller_of new) (caller_of mid) same refused.seen refused.items
        refused.seat.reads refused.seat.taken refused.seat.slot ∙ since

  module _ (old new : Pass J g) (ask : AskValue) (same : number_in new ≡ number_in old) where
    picks_by : (a : Answer) (p : AdmittedAnswer) → IsPicked old new ask a → said_by a ≡ said_in p
        → fresh_by a ≡ fresh_in p → Picks g.settings (caller_of old) (caller_of new) ask p
    picks_by a p is said fresh =
        let value = value_of g.settings (seen_in new) in
        record {
          asks = asks_by old new ask same is.entered;
          loads = loads_by a;
          permitted = record {
            permitted = sym said ∙ is.answer.permitted.permitted;
            reads = is.answer.permitted.reads;
            loads_are = is.answer.permitted.loads_are;
            word = subst HasWord said is.answer.permitted.word;
          };
          fresh = subst (IsFresh g.settings value ask) fresh is.answer.fresh;
        }

    -- what one pick was answered
    pub picks_once : (a : Answer) → PicksOf old new ask a
        → PicksOnce g.settings (caller_of old) (caller_of new) ask (picked_of a)
    picks_once (answer.Picked choice client residual fresh) is =
        picks_by (answer.Picked choice client residual fresh)
        (admitted.Replica choice client residual fresh) is refl refl
    picks_once (answer.None why place fresh) is =
        picks_by (answer.None why place fresh) (admitted.None why fresh) is refl refl
    picks_once answer.NoEntry refused =
        same_caller (caller_of new) (caller_of old) same refused.seen refused.items
        refused.seat.reads refused.seat.taken refused.seat.slot

    -- there was no memory for the answer
    pub stops_pick : Entered old new (asked ask)
        → MayHaveRead (offer_of g.settings (value_of g.settings (seen_in new)).state ask)
        (reads_in old) (reads_in new)
        → StopsPick g.settings (caller_of old) (caller_of new) ask
    stops_pick entered reads = (asks_by old new ask same entered, reads)

  module _ (old new : Pass J g) (same : number_in new ≡ number_in old) where
    pub saw_more : SawMore old new → SeesMore (caller_of old) (caller_of new)
    saw_more more = record {
      number = same;
      seen = more.seen;
      items = more.items;
      reads = more.seat.reads;
      slots = record { taken = more.seat.taken; slot = more.seat.slot };
    }

    pub saw_unanswered : Unanswered old new → SeesMore (caller_of old) (caller_of new)
    saw_unanswered more = record {
      number = same;
      seen = more.seen;
      items = more.items;
      reads = more.seat.reads;
      slots = record { taken = more.seat.taken; slot = more.seat.slot };
    }

    pub returns_it : (k : Kept) (said : Remembered) → IsRemembered old new k said
        → Returns g.settings (caller_of old) (caller_of new) k
    returns_it k said is = record {
      at = length is.before;
      number = same;
      called = is.called;
      reads = is.seat.reads;
      slots = record { taken = is.seat.taken; slot = is.seat.slot };
    }

    pub reports_it : (addr : Addr) (good : Bool) (moment : ℕ) (reply : Reply)
        → IsChanged old new (report addr good moment) reply
        → Reports g.settings (caller_of old) (caller_of new) addr good moment
    reports_it addr good moment reply is = record {
      at = length is.before;
      number = same;
      called = is.called;
      reads = is.seat.reads;
      slots = record { taken = is.seat.taken; slot = is.seat.slot };
    }

-- what was picked since the views of the pass were one
pub picks_since : (settings : SettingsValue) (before mid new : Caller) (ask : AskValue)
    (p : AdmittedAnswer)
    → mid ≡ before → Picks settings mid new ask p → Picks settings before new ask p
picks_since settings before mid new ask p since picks =
    subst (λ (b : Caller). Picks settings b new ask p) since picks

pub stops_since : (settings : SettingsValue) (before mid new : Caller) (ask : AskValue) → mid
    ≡ before → StopsPick settings mid new ask → StopsPick settings before new ask
stops_since settings before mid new ask since stops =
    subst (λ (b : Caller). StopsPick settings b new ask) since stops

module _ (settings : SettingsValue) (old mid new : Caller) (ask : AskValue) (p : AdmittedAnswer)
    (picks : Picks settings old mid ask p) where
  finds_as : (kept : Bool) → is_kept_for (value_of settings mid.seen) ask ≡ kept
      → Finds settings old mid ask kept (said_in p)
  finds_as kept is = record {
    asks = picks.asks;
    is_kept = is;
    loads = picks.loads;
    permitted = picks.permitted;
  }

  anew_by : (fresh : Option Binding) → IsFresh settings (value_of settings mid.seen) ask fresh
      → ReturnsSome settings mid new fresh
      → FindingAnew settings old new ask (said_in p)
  anew_by None kept same =
      inl (subst (λ (n : Caller). Finds settings old n ask true (said_in p)) (sym same)
      (finds_as true kept))
  anew_by (Some b) nothing returns =
      inr (
        mid,
        finds_as false nothing.0,
        record {
          binding = kept_of b;
          is_asked = nothing.1;
          worked_out = nothing.2;
          returns = returns;
        },
      )

  -- a second ask found this, and gave back what was worked out
  pub finds_anew : ReturnsSome settings mid new (fresh_in p)
      → FindingAnew settings old new ask (said_in p)
  finds_anew returns = anew_by (fresh_in p) picks.fresh returns

  stops_by : (fresh : Option Binding) → IsFresh settings (value_of settings mid.seen) ask fresh
      → SeesMore mid new → StopsAnew settings old new ask
  stops_by None kept more = inr (mid, true, said_in p, finds_as true kept, more)
  stops_by (Some b) nothing more = inr (mid, false, said_in p, finds_as false nothing.0, more)

  -- or there was no memory for that
  pub stops_anew : SeesMore mid new → StopsAnew settings old new ask
  stops_anew more = stops_by (fresh_in p) picks.fresh more
