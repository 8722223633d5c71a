-- The retries of a session are no more than its budget had.
use Rattle.std.proofs.Common.{◌≡◌, ℕ, zero, suc, ◌+◌, ◌*◌, ◌/◌, ◌≤◌, ◌||◌, Bool, true, refl, sym}
use Rattle.std.proofs.Common.{subst, ◌∙◌, inl, inr, Option, Some, None, zero-add, arith}
use Rattle.http_wire.specs.declared.ended.Ended.{Ended}
use Rattle.http_wire.specs.declared.head.Head.{Head}
use Rattle.identifier.specs.declared.rule.Rule.{Rule}
use Rattle.machine.specs.Values.{SettingsValue}
use Rattle.retry_budget.specs.declared.tries.Tries.{Tries}
use Rattle.retry_budget.specs.Budget.{BudgetValue, behind_request, behind_spend}
use Rattle.retry_budget.proofs.Bounding.{request_pays, spend_takes}
use Rattle.proxy_session.specs.Attempts.{Failed, has_retry, may_repeat, paid, spent}
use Rattle.proxy_session.specs.Exchange.{Standing}
use Rattle.proxy_session.specs.Requests.{Requests, TriesAgain}
use Rattle.proxy_session.specs.Seeking.{Sought}
use Rattle.http_wire.specs.declared.paused.Paused.{Paused}
use Rattle.http_wire.specs.declared.paused.Paused.TheVariants as paused
use Rattle.proxy_session.specs.Session.{Accounts, Pays, Served, Serves, Sessions, Stays}
use Rattle.proxy_session.specs.Session.{having_told, most_retries}
use Rattle.proxy_session.specs.Laws.{StaysAreBounded}
use Rattle.replica_try.proofs.BothHold.{and_right}

add_one_more : (n : ℕ) → suc n ≡ n + 1
add_one_more n = omega arith

one_paid : (percent : ℕ) → percent * 1 ≡ percent
one_paid percent = omega arith

no_more : (percent : ℕ) → percent * 0 ≡ 0
no_more percent = omega arith

pays_nothing : (b : BudgetValue) (behind : Option BudgetValue) (n : ℕ) → n ≡ 0 → behind ≡ Some b
    → Pays b behind 0 n
pays_nothing b behind n none is = record {
  left = b;
  is = is;
  tries = refl;
  paid = omega (arith, none, no_more b.tries.percent);
}

pub account_same : (budget behind : Option BudgetValue) (n : ℕ) → n ≡ 0 → behind ≡ budget
    → Accounts budget behind 0 n
account_same None behind n none is = (is, none)
account_same (Some b) behind n none is = pays_nothing b behind n none is

sum_paid : (percent m n : ℕ) → percent * (m + n) ≡ percent * m + percent * n
sum_paid percent m n = grind arith

paid_on : (total first balance mid left percent m n r s : ℕ) → 100 * r + mid ≤ balance + first
    → 100 * s + left ≤ mid + percent → total ≡ first + percent
    → 100 * (r + s) + left ≤ balance + total
paid_on total first balance mid left percent m n r s p q is = omega (arith, p, q, is)

pays_on : (b : BudgetValue) (between behind : Option BudgetValue) (m n r s : ℕ)
    → Pays b between m r → Accounts between behind n s → Pays b behind (m + n) (r + s)
pays_on b between behind m n r s p q =
    let q' : Pays p.left behind n s = subst (λ (o : Option BudgetValue). Accounts o behind n s) p.is
    q in
    record {
      left = q'.left;
      is = q'.is;
      tries = q'.tries ∙ p.tries;
      paid =
          paid_on (b.tries.percent * (m + n)) (b.tries.percent * m) b.balance p.left.balance
          q'.left.balance (b.tries.percent * n) m n r s p.paid
          (subst
          (λ (t : Tries). 100 * s + q'.left.balance ≤ p.left.balance + t.percent * n) p.tries
          q'.paid)
          (sum_paid b.tries.percent m n);
    }

pub accounts_on : (budget between behind : Option BudgetValue) (m n r s : ℕ)
    → Accounts budget between m r → Accounts between behind n s
    → Accounts budget behind (m + n) (r + s)
accounts_on None between behind m n r s p q =
    let q' : Accounts None behind n s
    = subst (λ (o : Option BudgetValue). Accounts o behind n s) p.0 q in
    (q'.0, omega (arith, p.1, q'.1))
accounts_on (Some b) between behind m n r s p q = pays_on b between behind m n r s p q

-- ---- a request

spends_one : (budget behind : Option BudgetValue) → has_retry budget ≡ true
    → behind ≡ spent budget → Accounts budget behind 0 1
spends_one None behind has charged = absurd (cc)
spends_one (Some b) behind has charged = record {
  left = behind_spend true b;
  is = charged;
  tries = refl;
  paid = omega (arith, spend_takes b true has, no_more b.tries.percent);
}

module _ (settings : SettingsValue) (head : Head) (last : Bool) (sought : Sought) where
  failed_spends : (n : ℕ) (before behind : Option BudgetValue) (old new : Standing)
      → Failed settings head last sought n before behind old new → Accounts before behind 0 n
  failed_spends zero before behind old new failed = account_same before behind 0 refl failed.0
  failed_spends (suc n) before behind old new
      (mid, between, failed, (moment, moments, draws, vain), charged) =
      let has : has_retry between ≡ true = and_right _ (has_retry between)
      (and_right (may_repeat head sought.framing vain.sent.how) _ vain.sent.followed) in
      subst (λ (k : ℕ). Accounts before behind 0 k) (sym (add_one_more n))
      (accounts_on before between behind 0 0 n 1 (failed_spends n before between old mid failed)
      (spends_one between behind has charged))

pays_in : (b : BudgetValue) → Accounts (Some b) (paid (Some b)) 1 0
pays_in b = record {
  left = behind_request b;
  is = refl;
  tries = refl;
  paid = omega (arith, request_pays b, one_paid b.tries.percent);
}

tries_account : (settings : SettingsValue) (rule : Rule) (head : Head) (last : Bool) (n : ℕ)
    (before behind : Option BudgetValue) (old new : Standing) (result : Option Ended)
    → TriesAgain settings rule head last n before behind old new result
    → Accounts before behind 0 n
tries_account settings rule head last n before behind old new result (inl (x, untried)) =
    account_same before behind n untried.none untried.same
tries_account settings rule head last n before behind old new result
    (inr (sought, seeks, (mid, failed, way))) =
    failed_spends settings head last sought n before behind old mid failed

request_account : (settings : SettingsValue) (rule : Rule) (head : Head) (last : Bool) (n : ℕ)
    (before behind : Option BudgetValue) (old new : Standing) (result : Option Ended)
    → Requests settings rule head last n before behind old new result
    → Accounts before behind 1 n
request_account settings rule head last n None behind old new result (untried, exchange) =
    (untried.same, untried.none)
request_account settings rule head last n (Some b) behind old new result tries =
    subst (λ (k : ℕ). Accounts (Some b) behind 1 k) (zero-add n)
    (accounts_on (Some b) (paid (Some b)) behind 1 0 0 n (pays_in b)
    (tries_account settings rule head last n (paid (Some b)) behind old new result tries))

-- ---- a session

module _ (settings : SettingsValue) (rule : Rule) where
  serves_account : (last : Bool) (n : ℕ) (before behind : Option BudgetValue) (old new : Standing)
      (result : Option Ended) → Serves settings rule last n before behind old new result
      → Accounts before behind 1 n
  serves_account last n before behind old new result (closing, x) =
      request_account settings rule x.head (last || closing) n before behind
      (having_told closing x.mid) new x.end x.request

  served_account : (from n retries : ℕ) (before behind : Option BudgetValue) (old new : Standing)
      (result : Option Ended) → Served settings rule from n retries before behind old new result
      → Accounts before behind n retries
  served_account from zero retries before behind old new result served =
      account_same before behind retries served.0.none served.0.same
  served_account from (suc n) retries before behind old new result
      (mid, between, earlier, more, served, next, all) =
      subst (λ (k : ℕ). Accounts before behind k retries) (sym (add_one_more n))
      (subst (λ (k : ℕ). Accounts before behind (n + 1) k) (sym all)
      (accounts_on before between behind n 1 earlier more
      (served_account from n earlier before between old mid None served)
      (serves_account _ more between behind mid new result next)))

  session_account : (from requests retries : ℕ) (before behind : Option BudgetValue)
      (old new : Standing) (result : Ended)
      → Sessions settings rule from requests retries before behind old new result
      → Accounts before behind requests retries
  session_account from requests retries before behind old new result (inl (mid, served, without)) =
      served_account from requests retries before behind old mid None served
  session_account from requests retries before behind old new result (inr served) =
      served_account from requests retries before behind old new (Some result) served

  pub stay_account : (from requests retries : ℕ) (before behind : Option BudgetValue)
      (old new : Standing) (result : Paused)
      → Stays settings rule from requests retries before behind old new result
      → Accounts before behind requests retries
  stay_account from requests retries before behind old new paused.Quiet (mid, served, still) =
      served_account from requests retries before behind old mid None served
  stay_account from requests retries before behind old new (paused.Ended end) sessions =
      session_account from requests retries before behind old new end sessions

whole : (n all : ℕ) → 100 * n ≤ all → n ≤ all / 100
whole n all few = omega (arith, few)

-- so no more were taken out than it had
pub bounded_by : (before behind : Option BudgetValue) (requests retries : ℕ)
    → Accounts before behind requests retries → retries ≤ most_retries before requests
bounded_by None behind requests retries a = omega (arith, a.1)
bounded_by (Some b) behind requests retries a =
    whole retries (b.balance + b.tries.percent * requests) (omega (arith, a.paid))

pub stays_bounded : StaysAreBounded
stays_bounded settings rule from upto before behind old new result stay =
    bounded_by before behind stay.requests stay.retries stay.paid
