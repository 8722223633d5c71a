-- A request that is its connection's last since the listeners are closing, and others.
use Rattle.std.proofs.Common.{◌≡◌, ℕ, zero, suc, ◌||◌, Bool, true, false, refl, sym, subst, ap, ◌∙◌}
use Rattle.std.proofs.Common.{Option, Some, None, Result, Ok}
use Rattle.line_base.specs.Counts.{Rose, raised}
use Rattle.line_base.specs.Lines.{Line}
use Rattle.http_wire.specs.declared.ended.Ended.{Ended}
use Rattle.http_wire.specs.Ended.{drained}
use Rattle.http_wire.specs.declared.head.Head.{Head}
use Rattle.http_wire.specs.declared.reading.HeadEnd.{HeadEnd}
use Rattle.http_wire.specs.declared.ended.Ended.TheVariants as ended
use Rattle.identifier.specs.declared.rule.Rule.{Rule}
use Rattle.machine.specs.Values.{SettingsValue}
use Rattle.retry_budget.specs.Budget.{BudgetValue}
use Rattle.proxy_session.specs.Causes.{CauseOf, FitsLast, HasCauseOf}
use Rattle.proxy_session.specs.Exchange.{Standing}
use Rattle.proxy_session.specs.Session.{Reads, Served, ServesSo, having_told}
use Rattle.http_wire.proofs.Endings.{goes_on, spends}
use Rattle.proxy_session.proofs.Closings.{SaysNeither, neither_on, request_quiet}
use Rattle.proxy_session.proofs.Splitting.{request_cause, request_fits}

-- ---- two reasons to be the last

left_false : (a b : Bool) → (a || b) ≡ false → a ≡ false
left_false true b is = is
left_false false b is = refl

right_false : (a b : Bool) → (a || b) ≡ false → b ≡ false
right_false true b is = absurd (cc)
right_false false b is = is

pub left_true : (a b : Bool) → b ≡ false → (a || b) ≡ true → a ≡ true
left_true true b none is = refl
left_true false b none is = absurd (cc)

-- ---- how a request ends

some_none : (e : Ended) → Some e ≡ None → ⊥
some_none e is = cc

some_is : (a b : Ended) → Some a ≡ Some b → b ≡ a
some_is a b is = cc

cause_as : (e f : Ended) (old new : Line) → Some e ≡ Some f → CauseOf f old new
    → CauseOf e old new
cause_as e f old new is cause = subst (λ (x : Ended). CauseOf x old new) (some_is e f is) cause

cause_some : (e : Ended) (old new : Line) → HasCauseOf (Some e) old new → CauseOf e old new
cause_some ended.PeerEnded old new x = absurd x
cause_some ended.Cut old new x = x
cause_some ended.Closed old new x = x
cause_some ended.Spent old new x = x
cause_some ended.Drained old new x = absurd x
cause_some ended.ReadFault old new x = x
cause_some ended.WriteFault old new x = x
cause_some ended.UpstreamCut old new x = x
cause_some ended.OutOfMemory old new x = x

-- why a connection ends behind a request
pub drained_cause : (closing : Bool) (end : Option Ended) (e : Ended) (old new : Line)
    → (closing ≡ true → Rose old.closings new.closings) → HasCauseOf end old new
    → Some e ≡ drained closing end → CauseOf e old new
drained_cause false None e old new rose cause is = absurd (some_none e is)
drained_cause false (Some f) e old new rose cause is =
    cause_as e f old new is (cause_some f old new cause)
drained_cause true None e old new rose cause is = absurd (some_none e is)
drained_cause true (Some ended.PeerEnded) e old new rose cause is = absurd cause
drained_cause true (Some ended.Drained) e old new rose cause is = absurd cause
drained_cause true (Some ended.Spent) e old new rose cause is =
    cause_as e ended.Drained old new is (rose refl)
drained_cause true (Some ended.Cut) e old new rose cause is =
    cause_as e ended.Cut old new is cause
drained_cause true (Some ended.Closed) e old new rose cause is =
    cause_as e ended.Closed old new is tt
drained_cause true (Some ended.ReadFault) e old new rose cause is =
    cause_as e ended.ReadFault old new is cause
drained_cause true (Some ended.WriteFault) e old new rose cause is =
    cause_as e ended.WriteFault old new is cause
drained_cause true (Some ended.UpstreamCut) e old new rose cause is =
    cause_as e ended.UpstreamCut old new is tt
drained_cause true (Some ended.OutOfMemory) e old new rose cause is =
    cause_as e ended.OutOfMemory old new is tt

-- ---- what the connection said

told_neither : (closing : Bool) (s : Standing) → closing ≡ false
    → SaysNeither s.line (having_told closing s).line
told_neither false s is = record { closings = refl; quiets = refl }
told_neither true s is = absurd (cc)

told_quiets : (closing : Bool) (s : Standing)
    → (having_told closing s).line.quiets ≡ s.line.quiets
told_quiets false s = refl
told_quiets true s = refl

reads_neither : (old mid : Standing) (r : Result Head HeadEnd) → Reads old mid r
    → SaysNeither old.line mid.line
reads_neither old mid r x = record { closings = x.closings; quiets = x.quiets }

module _ (settings : SettingsValue) (rule : Rule) (spent : Bool) (n : ℕ)
    (before behind : Option BudgetValue) (old new : Standing) where
  still : (closing : Bool) (result : Option Ended)
      → (x : ServesSo settings rule spent closing n before behind old new result)
      → SaysNeither (having_told closing x.mid).line new.line
  still closing result x =
      request_quiet settings rule x.head (spent || closing) n before behind
      (having_told closing x.mid) new x.end x.request

  -- nothing, where they stay open
  pub serves_quiet : (closing : Bool) (result : Option Ended) → closing ≡ false
      → ServesSo settings rule spent closing n before behind old new result
      → SaysNeither old.line new.line
  serves_quiet closing result off x =
      neither_on old.line x.mid.line new.line
      (reads_neither old x.mid (Ok x.received) x.reads)
      (neither_on x.mid.line (having_told closing x.mid).line new.line
      (told_neither closing x.mid off) (still closing result x))

  -- that nothing came for a while is never said in a request
  pub serves_quiets : (closing : Bool) (result : Option Ended)
      → ServesSo settings rule spent closing n before behind old new result
      → new.line.quiets ≡ old.line.quiets
  serves_quiets closing result x =
      (still closing result x).quiets ∙ (told_quiets closing x.mid ∙ x.reads.quiets)

  -- and else once that they are closing
  pub serves_rose : (result : Option Ended)
      → ServesSo settings rule spent true n before behind old new result
      → new.line.closings ≡ raised old.line.closings
  serves_rose result x = (still true result x).closings ∙ ap raised x.reads.closings

  fits : (closing : Bool) (result : Option Ended)
      → (x : ServesSo settings rule spent closing n before behind old new result)
      → FitsLast (spent || closing) x.end
  fits closing result x =
      request_fits settings rule x.head (spent || closing) n before behind
      (having_told closing x.mid) new x.end x.request

  going : (closing : Bool) → ServesSo settings rule spent closing n before behind old new None
      → (spent || closing) ≡ false
  going closing x =
      subst (λ (e : Option Ended). FitsLast (spent || closing) e) (goes_on closing x.end x.is)
      (fits closing None x)

  -- a request behind which the connection goes on is not its last
  pub not_spent : (closing : Bool)
      → ServesSo settings rule spent closing n before behind old new None → spent ≡ false
  not_spent closing x = left_false spent closing (going closing x)

  pub not_closing : (closing : Bool)
      → ServesSo settings rule spent closing n before behind old new None → closing ≡ false
  not_closing closing x = right_false spent closing (going closing x)

  -- one that spends it is the last that it may carry
  pub is_spent : (closing : Bool) (result : Ended) → result ≡ ended.Spent
      → ServesSo settings rule spent closing n before behind old new (Some result)
      → spent ≡ true
  is_spent closing result is x =
      let so = spends closing x.end (sym (ap Some is) ∙ x.is) in
      left_true spent closing so.0
      (subst (λ (e : Option Ended). FitsLast (spent || closing) e) so.1
      (fits closing (Some result) x))

  -- one that does not hear it does not end by it
  pub never_drained : (result : Ended)
      → ServesSo settings rule spent false n before behind old new (Some result)
      → result ≡ ended.Drained → ⊥
  never_drained result x is =
      let cause = request_cause settings rule x.head (spent || false) n before behind
      (having_told false x.mid) new x.end x.request in
      subst
      (λ (e : Option Ended). HasCauseOf e (having_told false x.mid).line new.line)
      (sym x.is ∙ ap Some is) cause

pub served_quiet : (settings : SettingsValue) (rule : Rule) (from n retries : ℕ)
    (before behind : Option BudgetValue) (old new : Standing)
    → Served settings rule from n retries before behind old new None
    → SaysNeither old.line new.line
served_quiet settings rule from zero retries before behind old new served =
    record {
      closings = ap (λ (s : Standing). s.line.closings) served.1;
      quiets = ap (λ (s : Standing). s.line.quiets) served.1;
    }
served_quiet settings rule from (suc n) retries before behind old new
    (mid, between, earlier, more, served, (closing, x), all) =
    neither_on old.line mid.line new.line
    (served_quiet settings rule from n earlier before between old mid served)
    (serves_quiet settings rule _ more between behind mid new closing None
    (not_closing settings rule _ more between behind mid new closing x) x)

pub served_quiets : (settings : SettingsValue) (rule : Rule) (from n retries : ℕ)
    (before behind : Option BudgetValue) (old new : Standing) (result : Option Ended)
    → Served settings rule from n retries before behind old new result
    → new.line.quiets ≡ old.line.quiets
served_quiets settings rule from zero retries before behind old new result served =
    ap (λ (s : Standing). s.line.quiets) served.1
served_quiets settings rule from (suc n) retries before behind old new result
    (mid, between, earlier, more, served, (closing, x), all) =
    serves_quiets settings rule _ more between behind mid new closing result x
    ∙ served_quiets settings rule from n earlier before between old mid None served
