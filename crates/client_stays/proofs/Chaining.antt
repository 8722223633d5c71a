-- Stays one after another.
use Rattle.std.proofs.Common.{◌≡◌, ℕ, ◌+◌, ◌<◌, ◌≤◌, List, [], ◌∷◌, ◌++◌, refl, sym, ap, subst}
use Rattle.std.proofs.Common.{◌∙◌, arith, append_assoc, Option, length, length-append}
use Rattle.std.proofs.lemmas.List.{append-nil}
use Rattle.std.proofs.lemmas.List.Elements.{All-weaker}
use Rattle.std.specs.Prelude.{option_map}
use mathlib.Core.List.{IsPrefix}
use Rattle.http_wire.specs.declared.paused.Paused.{Paused}
use Rattle.http_wire.specs.declared.paused.Paused.TheVariants as paused
use Rattle.identifier.specs.declared.rule.Rule.{Rule}
use Rattle.line_base.specs.declared.socket_address.SocketAddress.{SocketAddress}
use Rattle.line_base.specs.Lines.{Line}
use Rattle.machine.specs.Values.{SettingsValue}
use Rattle.retry_budget.specs.Budget.{BudgetValue, opening}
use Rattle.retry_budget.specs.declared.tries.Tries.{Tries}
use Rattle.router_log.specs.Call.{Call}
use Rattle.router_log.specs.Operation.{Operation}
use Rattle.proxy_session.specs.Session.{Accounts, StaysTo}
use Rattle.proxy_session.proofs.Bounding.{account_same, accounts_on, bounded_by}
use Rattle.proxy_session.proofs.Seeing.{stay_later, stay_saw}
use Rattle.client_stays.specs.Chains.{CameTo, GoesOn, HasStays, Idle, IsWaiting, Visit, came}
use Rattle.client_stays.specs.Chains.{idle_behind, idle_by, requests_in, retries_in}
use Rattle.client_stays.specs.Laws.{NothingIsForgotten, OneBudget, PointsNeverFall}

prefix_on : (xs ys zs : List Operation) → IsPrefix xs ys → IsPrefix ys zs → IsPrefix xs zs
prefix_on xs ys zs p q =
    (p.0 ++ q.0, sym (append_assoc xs p.0 q.0) ∙ (ap (λ w. w ++ q.0) p.1 ∙ q.1))

module _ (settings : SettingsValue) (rule : Rule) where
  -- a stay more
  pub stays_more : (vs : List Visit) (first last : Idle) (v : Visit)
      → HasStays settings rule vs first last → GoesOn last v
      → StaysTo settings rule v.from v.upto v.before v.behind v.old v.new paused.Quiet
      → HasStays settings rule (vs ++ v ∷ []) first (idle_behind last v)
  stays_more [] first last v same goes stay = (
    subst (λ (i : Idle). GoesOn i v) same goes,
    stay,
    ap (λ (i : Idle). idle_behind i v) same,
  )
  stays_more (w ∷ ws) first last v chain goes stay =
      (chain.0, chain.1, stays_more ws (idle_behind first w) last v chain.2 goes stay)

  -- behind any stays the client told the same when it came
  pub stays_first : (vs : List Visit) (first last : Idle) → HasStays settings rule vs first last
      → last.first ≡ first.first
  stays_first [] first last same = ap (λ (i : Idle). i.first) same
  stays_first (v ∷ vs) first last chain = stays_first vs (idle_behind first v) last chain.2

  -- the first of them, and those behind them
  stays_split : (us vs : List Visit) (first last : Idle)
      → HasStays settings rule (us ++ vs) first last
      → (mid : Idle) × HasStays settings rule us first mid × HasStays settings rule vs mid last
  stays_split [] vs first last chain = (first, refl, chain)
  stays_split (u ∷ us) vs first last chain =
      let rest = stays_split us vs (idle_behind first u) last chain.2 in
      (rest.0, (chain.0, chain.1, rest.1), rest.2)

  -- nothing that was seen is forgotten
  stays_saw : (vs : List Visit) (first last : Idle) → HasStays settings rule vs first last
      → IsPrefix first.seen last.seen
  stays_saw [] first last same =
      ([], append-nil first.seen ∙ sym (ap (λ (i : Idle). i.seen) same))
  stays_saw (v ∷ vs) first last chain =
      prefix_on first.seen v.old.caller.seen last.seen chain.0.seen
      (prefix_on v.old.caller.seen v.new.caller.seen last.seen
      (stay_saw settings rule v.from v.upto v.before v.behind v.old v.new paused.Quiet chain.1)
      (stays_saw vs (idle_behind first v) last chain.2))

  -- their requests were counted
  stays_count : (vs : List Visit) (first last : Idle)
      → (stays : HasStays settings rule vs first last)
      → last.served ≡ first.served + requests_in settings rule vs first last stays
  stays_count [] first last same = omega (arith, ap (λ (i : Idle). i.served) same)
  stays_count (v ∷ vs) first last (goes, stay, rest) =
      let count : v.upto ≡ v.from + stay.requests = stay.count refl in
      let others = stays_count vs (idle_behind first v) last rest in
      omega (arith, others, count, goes.served)

  -- what a stay paid in and took out, from the budget that the connection had
  stay_account : (idle : Idle) (v : Visit) (result : Paused) → GoesOn idle v
      → (stay : StaysTo settings rule v.from v.upto v.before v.behind v.old v.new result)
      → Accounts idle.budget v.behind stay.requests stay.retries
  stay_account idle v result goes stay =
      subst (λ (b : Option BudgetValue). Accounts b v.behind stay.requests stay.retries)
      goes.budget stay.paid

  -- the same of all of them
  stays_account : (vs : List Visit) (first last : Idle)
      → (stays : HasStays settings rule vs first last)
      → Accounts first.budget last.budget (requests_in settings rule vs first last stays)
      (retries_in settings rule vs first last stays)
  stays_account [] first last same =
      account_same first.budget last.budget 0 refl (ap (λ (i : Idle). i.budget) same)
  stays_account (v ∷ vs) first last (goes, stay, rest) =
      let behind = idle_behind first v in
      accounts_on first.budget v.behind last.budget stay.requests
      (requests_in settings rule vs behind last rest) stay.retries
      (retries_in settings rule vs behind last rest)
      (stay_account first v paused.Quiet goes stay) (stays_account vs behind last rest)

  -- and of all of them with one more, which may be the last
  last_account : (vs : List Visit) (v : Visit) (first mid : Idle) (result : Paused)
      → (stays : HasStays settings rule vs first mid) → GoesOn mid v
      → (stay : StaysTo settings rule v.from v.upto v.before v.behind v.old v.new result)
      → Accounts first.budget v.behind
      (requests_in settings rule vs first mid stays + stay.requests)
      (retries_in settings rule vs first mid stays + stay.retries)
  last_account vs v first mid result stays goes stay =
      accounts_on first.budget mid.budget v.behind (requests_in settings rule vs first mid stays)
      stay.requests (retries_in settings rule vs first mid stays) stay.retries
      (stays_account vs first mid stays) (stay_account mid v result goes stay)

pub nothing_is_forgotten : NothingIsForgotten
nothing_is_forgotten settings rule us vs u v first mid chain goes =
    let at_u = stays_split settings rule us (u ∷ vs) first mid chain in
    prefix_on u.new.caller.seen mid.seen v.old.caller.seen
    (stays_saw settings rule vs (idle_behind at_u.0 u) mid at_u.2.2) goes.seen

prefix_longer : {A : Type 0} (xs ys : List A) → IsPrefix xs ys → length xs ≤ length ys
prefix_longer xs ys p =
    let whole = ap length p.1 in let sum = length-append xs p.0 in omega (arith, whole, sum)

pub points_never_fall : PointsNeverFall
points_never_fall settings rule us vs u v first mid result chain goes stay =
    let seen = nothing_is_forgotten settings rule us vs u v first mid chain goes in
    let later = stay_later settings rule v.from v.upto v.before v.behind v.old v.new result stay in
    let more = prefix_longer u.new.caller.seen v.old.caller.seen seen in
    let behind = λ (call : Call × ℕ) (n : length v.old.caller.seen ≤ call.1).
    let m : length u.new.caller.seen ≤ call.1 = omega (arith, more, n) in m in (
      later.made,
      later.items,
      All-weaker (λ (call : Call × ℕ). length v.old.caller.seen ≤ call.1)
          (λ (call : Call × ℕ). length u.new.caller.seen ≤ call.1) behind later.made later.late,
    )

-- a connection behind one more stay is one that some stays led to
pub came_on : (settings : SettingsValue) (rule : Rule) (tries : Option Tries) (idle : Idle)
    (v : Visit) → CameTo settings rule tries idle → GoesOn idle v
    → StaysTo settings rule v.from v.upto v.before v.behind v.old v.new paused.Quiet
    → CameTo settings rule tries (idle_behind idle v)
came_on settings rule tries idle v (seen, vs, chain) goes stay = (
  seen,
  vs ++ v ∷ [],
  stays_more settings rule vs (came tries idle.first idle.client seen) idle v chain goes stay,
)

-- so the connection waits behind one more stay
pub waits_on : (settings : SettingsValue) (rule : Rule) (tries : Option Tries) (idle : Idle)
    (v : Visit) (seen : List Operation) → CameTo settings rule tries idle → GoesOn idle v
    → StaysTo settings rule v.from v.upto v.before v.behind v.old v.new paused.Quiet
    → v.upto < 10000 → seen ≡ v.new.caller.seen
    → IsWaiting settings rule tries (idle_by idle.first v.new.line idle.client v.upto v.behind
    seen)
waits_on settings rule tries idle v seen chain goes stay few same =
    let By : List Operation → Type 0 =
    λ ops. IsWaiting settings rule tries (idle_by idle.first v.new.line idle.client v.upto v.behind
    ops) in
    let here : By v.new.caller.seen = record {
      few = few;
      chain = came_on settings rule tries idle v chain goes stay;
    } in
    subst By (sym same) here

-- a client that came waits, before its first request
pub new_waits : (settings : SettingsValue) (rule : Rule) (tries mine : Option Tries)
    (first line : Line) (client : Option SocketAddress) (served : ℕ) (budget : Option BudgetValue)
    (seen : List Operation) → line ≡ first → served ≡ 0 → budget ≡ option_map opening mine
    → mine ≡ tries → IsWaiting settings rule tries (idle_by first line client served budget seen)
new_waits settings rule tries mine first line client served budget seen same none opened tried =
    record {
      few = omega (arith, none);
      chain = (seen, [], λ i. idle_by first (same i) client (none i) (path i) seen);
    }
  where
    path : budget ≡ option_map opening tries
    path = opened ∙ ap (λ (t : Option Tries). option_map opening t) tried

pub one_budget : OneBudget
one_budget settings rule vs v first mid result stays goes stay = (
  stays_count settings rule vs first mid stays,
  bounded_by first.budget v.behind (requests_in settings rule vs first mid stays + stay.requests)
      (retries_in settings rule vs first mid stays + stay.retries)
      (last_account settings rule vs v first mid result stays goes stay),
)
