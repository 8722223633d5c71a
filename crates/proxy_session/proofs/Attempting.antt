-- The attempts of a request, one behind the other.
use Rattle.std.proofs.Common.{◌≡◌, ℕ, zero, suc, ◌+◌, ◌-◌, ◌≤◌, nat_lt, Bool, true, List, refl, sym}
use Rattle.std.proofs.Common.{subst, ap, ◌∙◌, inl, inr, Option, Some, None, Ok, arith, zero-add}
use Rattle.std.proofs.lemmas.Bool.Decides.{nat_tests}
use Rattle.rand_pcg.specs.Lcg.{Lcg}
use Rattle.dtab_table.specs.Rules.{Rule as DtabRule}
use Rattle.name_tree.specs.Path.{Labels}
use Rattle.addr_book.specs.declared.addr.Addr.{Addr}
use Rattle.exchange_tally.specs.declared.done.Done.{Done}
use Rattle.http_wire.specs.declared.ended.Ended.{Ended}
use Rattle.http_wire.specs.declared.frames.Framing.{Framing}
use Rattle.http_wire.specs.declared.head.Head.{Head}
use Rattle.identifier.specs.declared.rule.Rule.{Rule}
use Rattle.machine.specs.Values.{SettingsValue, AskValue}
use Rattle.retry_budget.specs.Budget.{BudgetValue}
use Rattle.proxy_session.specs.declared.attempt.Attempt.{Attempt}
use Rattle.proxy_session.specs.declared.attempt.Attempt.TheVariants as attempt
use Rattle.replica_try.specs.declared.tried.Tried.{Tried}
use Rattle.proxy_session.specs.Asking.{drawn}
use Rattle.proxy_session.specs.Attempts.{Failed, FailedAttempt, IsTriedInVain}
use Rattle.proxy_session.specs.Attempts.{LastAttempt, LastWays, has_retry, is_followed, may_repeat}
use Rattle.proxy_session.specs.Attempts.{most_of, paid, spent}
use Rattle.proxy_session.specs.Done.{CountsUpTo, followed_by, last_replica, nothing_done}
use Rattle.proxy_session.specs.Done.{vain_done}
use Rattle.proxy_session.specs.Exchange.{Draws, IsAway, Routes, Standing}
use Rattle.proxy_session.specs.Seeking.{Seeks, Sought}
use Rattle.proxy_session.specs.Ways.{AsksAs, AttemptsAs, RequestsAs, failed_done, is_first}
use Rattle.proxy_session.specs.Ways.{last_done, routes_done, ways_done}
use Rattle.proxy_session.proofs.Along.{same_along}
use Rattle.proxy_session.proofs.Exchanging.{TriesAs}
use Rattle.replica_try.proofs.BothHold.{and_left, and_right}

-- so many attempts failed, and this is what they were
abbrev pub FailedAs : SettingsValue → Head → Bool → Sought → ℕ → Option BudgetValue
    → Option BudgetValue → Standing → Standing → Done → Type 0
FailedAs settings head last sought n before behind old new done =
    (way : Failed settings head last sought n before behind old new)
    × (done ≡ failed_done settings head last sought n before behind old new way)

-- their numbers are no more than their number
pub counts_more : (n m : ℕ) (done : Done) → CountsUpTo n done → n ≤ m → CountsUpTo m done
counts_more n m done few more = record {
  tries = omega (arith, few.tries, more);
  failures = omega (arith, few.failures, more);
  hits = omega (arith, few.hits, more);
  misses = omega (arith, few.misses, more);
}

pub counts_followed : (n : ℕ) (earlier later : Done) → CountsUpTo n earlier → CountsUpTo 1 later
    → CountsUpTo (suc n) (followed_by earlier later)
counts_followed n earlier later few one = record {
  tries = omega (arith, few.tries, one.tries);
  failures = omega (arith, few.failures, one.failures);
  hits = omega (arith, few.hits, one.hits);
  misses = omega (arith, few.misses, one.misses);
}

-- ---- the loop

-- the clock and the generator have moved on
abbrev pub having_drawn : Standing → Option (List ℕ) → Lcg → Standing
having_drawn s moments words = record {
  line = s.line;
  kept = s.kept;
  upstream = s.upstream;
  caller = s.caller;
  moments = moments;
  words = words;
}

-- a draw leaves what is sought as it is
pub same_sought : (s : Sought) (path : Labels) (rules : List DtabRule) → path ≡ s.path
    → rules ≡ s.rules
    → record {
      path = path;
      rules = rules;
      framing = s.framing;
      host = s.host;
      line = s.line;
    }
    ≡ s
same_sought s path rules named own =
    ap
    (λ (p : Labels). record {
      path = p;
      rules = rules;
      framing = s.framing;
      host = s.host;
      line = s.line;
    })
    named
    ∙ ap
    (λ (r : List DtabRule). record {
      path = s.path;
      rules = r;
      framing = s.framing;
      host = s.host;
      line = s.line;
    })
    own

-- the settings of a budget stay
pub most_behind : (b : Option BudgetValue) → most_of (spent b) ≡ most_of b
most_behind None = refl
most_behind (Some b) = refl

fewer_same : (n left most : ℕ) → n + left ≡ most → nat_lt 0 left ≡ nat_lt n most
fewer_same n left most all = grind (arith, nat_tests)

above : (n : ℕ) → nat_lt 0 n ≡ true → 1 ≤ n
above n is = grind (arith, nat_tests)

-- a retry that is granted was left
pub left_behind : (head : Head) (framing : Framing) (left : ℕ) (budget : Option BudgetValue)
    (how : Tried) → is_followed head framing (nat_lt 0 left) budget how ≡ true → 1 ≤ left
left_behind head framing left budget how is =
    above left
    (and_left (nat_lt 0 left) (has_retry budget) (and_right (may_repeat head framing how) _ is))

pub count_behind : (n left most after : ℕ) → n + left ≡ most → after ≡ most → 1 ≤ left
    → suc n + (left - 1) ≡ after
count_behind n left most after all same some = omega (arith, all, same, some)

module _
    (settings : SettingsValue) (head : Head) (last : Bool) (sought : Sought) (n : ℕ)
    (before budget behind : Option BudgetValue) (old mid new : Standing)
    (failed : Failed settings head last sought n before budget old mid) (so_far : Done)
    (so_far_is : so_far ≡ failed_done settings head last sought n before budget old mid failed)
    (moment : ℕ) (moments : Option (List ℕ)) (words : Lcg)
    (draws : Draws mid.moments moments mid.words words moment)
    (ask : AskValue) (ask_is : ask ≡ drawn sought.path sought.rules moment mid.words)
    (left : ℕ) (all : n + left ≡ most_of budget)
  where
    abbrev from : Standing
    from = having_drawn mid moments words

    drew : new.words ≡ words → Draws mid.moments moments mid.words new.words moment
    drew same = record { told = draws.told; words_are = same ∙ draws.words_are }

    away : IsAway from new → IsAway mid new
    away x = record { kept = x.kept; upstream = x.upstream }

    moved : (result : Option Ended)
        → LastWays settings head last sought ask (nat_lt 0 left) budget moments from new result
        → LastWays settings head last sought ask (nat_lt 0 left) budget moments mid new result
    moved result (inl x) =
        inl (record {
          asks = x.asks;
          moments_are = x.moments_are;
          away = away x.away;
          line = x.line;
          ends = x.ends;
        })
    moved result (inr (inl x)) =
        inr (inl (record {
          why = x.why;
          finds = x.finds;
          moments_are = x.moments_are;
          away = away x.away;
          refuses = x.refuses;
        }))
    moved result (inr (inr (x, is))) =
        inr (inr (record { to = x.to; found = x.found; finds = x.finds; sent = x.sent }, is))

    moved_done : (result : Option Ended)
        (ways : LastWays settings head last sought ask (nat_lt 0 left) budget moments from new
        result)
        → ways_done settings head last sought ask (nat_lt 0 left) budget moments from new result
        ways
        ≡ ways_done settings head last sought ask (nat_lt 0 left) budget moments mid new result
        (moved result ways)
    unfolding moved
    moved_done result (inl x) = refl
    moved_done result (inr (inl x)) = refl
    moved_done result (inr (inr (x, is))) = refl

    fewer_is : nat_lt 0 left ≡ nat_lt n (most_of budget)
    fewer_is = fewer_same n left (most_of budget) all

    -- the last attempt, by each thing that the code has in other words
    abbrev ByFewer : Option Ended → Bool → Type 0
    ByFewer result f = LastWays settings head last sought ask f budget moments mid new result

    abbrev ByAsk : Option Ended → AskValue → Type 0
    ByAsk result a =
        LastWays settings head last sought a (nat_lt n (most_of budget)) budget moments mid new
        result

    abbrev ByBudget : Option Ended → Option BudgetValue → Type 0
    ByBudget result b =
        LastAttempt settings head last sought (nat_lt n (most_of b)) b mid new result

    abbrev FailedBy : Option BudgetValue → Type 0
    FailedBy b = Failed settings head last sought n before b old mid

    -- the attempt by this draw is the last one
    pub attempts_end : (result : Option Ended) (one : Done)
        → AsksAs settings head last sought ask (nat_lt 0 left) budget behind from new
        (attempt.Last result) one
        → (retries : ℕ)
        × AttemptsAs settings head last sought retries before behind old new result
        (followed_by so_far one)
    attempts_end result one ((same, kept, ways), is) =
        let back = sym kept in
        let here = moved result ways in
        let fewer = subst (ByFewer result) fewer_is here in
        let asked = subst (ByAsk result) ask_is fewer in
        let drawn_so : ByBudget result budget = (moment, moments, drew same, asked) in
        let way = subst (ByBudget result) back drawn_so in
        let before_it = subst FailedBy back failed in
        let first : so_far ≡ failed_done settings head last sought n before behind old mid before_it
        =
        so_far_is
        ∙ same_along FailedBy
        (λ (b : Option BudgetValue) (x : FailedBy b).
        failed_done settings head last sought n before b old mid x) back failed in
        let last_one : one
        ≡ last_done settings head last sought (nat_lt n (most_of behind)) behind mid new result way
        =
        is
        ∙ (moved_done result ways
        ∙ (same_along (ByFewer result)
        (λ (f : Bool) (x : ByFewer result f).
        ways_done settings head last sought ask f budget moments mid new result x) fewer_is here
        ∙ (same_along (ByAsk result)
        (λ (a : AskValue) (x : ByAsk result a).
        ways_done settings head last sought a (nat_lt n (most_of budget)) budget moments mid new
        result x) ask_is fewer
        ∙ same_along (ByBudget result)
        (λ (b : Option BudgetValue) (x : ByBudget result b).
        last_done settings head last sought (nat_lt n (most_of b)) b mid new result x) back
        drawn_so))) in (
          n,
          (
            (mid, before_it, way),
            ap (λ (d : Done). followed_by d one) first
                ∙ ap
                (λ (d : Done). followed_by
                (failed_done settings head last sought n before behind old mid before_it) d)
                last_one,
          ),
        )

    -- an attempt in vain, in the same way
    abbrev VainByFewer : Bool → Type 0
    VainByFewer f = IsTriedInVain settings head last sought ask f budget moments mid new

    abbrev VainByAsk : AskValue → Type 0
    VainByAsk a =
        IsTriedInVain settings head last sought a (nat_lt n (most_of budget)) budget moments mid new

    -- or another one follows
    pub attempts_go_on : (one : Done)
        → AsksAs settings head last sought ask (nat_lt 0 left) budget behind from new
        attempt.Failed one
        → FailedAs settings head last sought (suc n) before behind old new (followed_by so_far one)
        × (suc n + (left - 1) ≡ most_of behind) × (1 ≤ left)
    attempts_go_on one ((same, charged, vain), is) =
        let some : 1 ≤ left = left_behind head sought.framing left budget vain.sent.how
        vain.sent.followed in
        let here : VainByFewer (nat_lt 0 left)
        = record { to = vain.to; found = vain.found; finds = vain.finds; sent = vain.sent } in
        let fewer = subst VainByFewer fewer_is here in
        let asked = subst VainByAsk ask_is fewer in
        let vain_one : one ≡ vain_done (is_first asked.finds) asked.to.addr asked.sent.how =
        is
        ∙ (same_along VainByFewer
        (λ (f : Bool) (x : VainByFewer f). vain_done (is_first x.finds) x.to.addr x.sent.how)
        fewer_is here
        ∙ same_along VainByAsk
        (λ (a : AskValue) (x : VainByAsk a). vain_done (is_first x.finds) x.to.addr x.sent.how)
        ask_is fewer) in (
          (
            (mid, budget, failed, (moment, moments, drew same, asked), charged),
            ap (λ (d : Done). followed_by d one) so_far_is
                ∙ ap
                (λ (d : Done). followed_by
                (failed_done settings head last sought n before budget old mid failed) d)
                vain_one,
          ),
          count_behind n left (most_of budget) (most_of behind) all
              (ap most_of charged ∙ most_behind budget) some,
          some,
        )

-- the same, by a draw for what is sought, as the code has it
module _
    (settings : SettingsValue) (head : Head) (last : Bool) (sought : Sought) (n : ℕ)
    (before budget behind : Option BudgetValue) (old mid new : Standing)
    (failed : Failed settings head last sought n before budget old mid) (so_far : Done)
    (so_far_is : so_far ≡ failed_done settings head last sought n before budget old mid failed)
    (moment : ℕ) (moments : Option (List ℕ)) (words : Lcg)
    (draws : Draws mid.moments moments mid.words words moment)
    (here : Sought) (seeks : here ≡ sought)
    (path : Labels) (rules : List DtabRule) (named : path ≡ here.path) (own : rules ≡ here.rules)
    (ask : AskValue) (ask_is : ask ≡ drawn here.path here.rules moment mid.words)
    (left : ℕ) (all : n + left ≡ most_of budget)
  where
    -- what is sought behind the draw
    abbrev pub drawn_for : Sought
    drawn_for = record {
      path = path;
      rules = rules;
      framing = here.framing;
      host = here.host;
      line = here.line;
    }

    pub drawn_same : drawn_for ≡ sought
    drawn_same = same_sought here path rules named own ∙ seeks

    drawn_is : ask ≡ drawn sought.path sought.rules moment mid.words
    drawn_is = ask_is ∙ ap (λ (s : Sought). drawn s.path s.rules moment mid.words) seeks

    -- what an attempt was for, how it ended, and what it was
    abbrev AskedAs : Sought → Attempt → Done → Type 0
    AskedAs what how one =
        AsksAs settings head last what ask (nat_lt 0 left) budget behind
        (having_drawn mid moments words) new how one

    for_same : (how ended : Attempt) (one : Done) → how ≡ ended → AskedAs drawn_for how one
        → AskedAs sought ended one
    for_same how ended one is asks =
        subst (λ (s : Sought). AskedAs s ended one) drawn_same
        (subst (λ (h : Attempt). AskedAs drawn_for h one) is asks)

    pub redrawn_end : (result : Option Ended) (how : Attempt) (one : Done)
        → how ≡ attempt.Last result → AskedAs drawn_for how one
        → (retries : ℕ)
        × AttemptsAs settings head last sought retries before behind old new result
        (followed_by so_far one)
    redrawn_end result how one is asks =
        attempts_end settings head last sought n before budget behind old mid new failed so_far
        so_far_is moment moments words draws ask drawn_is left all result one
        (for_same how (attempt.Last result) one is asks)

    pub redrawn_go_on : (how : Attempt) (one : Done) → how ≡ attempt.Failed
        → AskedAs drawn_for how one
        → FailedAs settings head last sought (suc n) before behind old new (followed_by so_far one)
        × (suc n + (left - 1) ≡ most_of behind) × (1 ≤ left)
    redrawn_go_on how one is asks =
        attempts_go_on settings head last sought n before budget behind old mid new failed so_far
        so_far_is moment moments words draws ask drawn_is left all one
        (for_same how attempt.Failed one is asks)

-- ---- without a budget

module _ (settings : SettingsValue) (head : Head) (last : Bool) (sought : Sought) where
  never_granted : (fewer : Bool) (old new : Standing)
      → FailedAttempt settings head last sought fewer None old new → ⊥
  never_granted fewer old new (moment, moments, draws, vain) =
      let never : has_retry None ≡ true = and_right fewer (has_retry None)
      (and_right (may_repeat head sought.framing vain.sent.how) _ vain.sent.followed) in cc

  failed_none : (n : ℕ) (behind : Option BudgetValue) (old new : Standing)
      → Failed settings head last sought n None behind old new
      → (n ≡ 0) × (behind ≡ None) × (new ≡ old)
  failed_none zero behind old new failed = (refl, failed.0, failed.1)
  failed_none (suc n) behind old new (mid, between, before, attempt, charged) =
      let none = (failed_none n between old mid before).1 in
      absurd
      (never_granted (nat_lt n (most_of None)) mid new
      (subst
      (λ (b : Option BudgetValue). FailedAttempt settings head last sought (nat_lt n (most_of b)) b
      mid new)
      none attempt))

  -- before the first attempt nothing was done
  failed_nothing : (n : ℕ) (behind : Option BudgetValue) (old new : Standing)
      (failed : Failed settings head last sought n None behind old new) → n ≡ 0
      → failed_done settings head last sought n None behind old new failed ≡ nothing_done None
  failed_nothing zero behind old new failed none = refl
  failed_nothing (suc n) behind old new failed none = absurd (omega (arith, none))

  -- a last attempt is as an exchange
  pub last_routes : (fewer : Bool) (budget : Option BudgetValue) (old new : Standing)
      (result : Option Ended) → LastAttempt settings head last sought fewer budget old new result
      → Routes settings head last sought old new result
  last_routes fewer budget old new result (moment, moments, draws, inl x) =
      (moment, moments, draws, inl x)
  last_routes fewer budget old new result (moment, moments, draws, inr (inl x)) =
      (moment, moments, draws, inr (inl x))
  last_routes fewer budget old new result (moment, moments, draws, inr (inr (x, is))) =
      (moment, moments, draws, inr (inr x))

  routed_done : (fewer : Bool) (budget : Option BudgetValue) (old new : Standing)
      (result : Option Ended)
      (way : LastAttempt settings head last sought fewer budget old new result)
      → last_done settings head last sought fewer budget old new result way
      ≡ routes_done settings head last sought old new result
      (last_routes fewer budget old new result way)
  unfolding last_routes
  routed_done fewer budget old new result (moment, moments, draws, inl x) = refl
  routed_done fewer budget old new result (moment, moments, draws, inr (inl x)) = refl
  routed_done fewer budget old new result (moment, moments, draws, inr (inr (x, is))) = refl

none_earlier : (later : Option Addr) → last_replica None later ≡ later
none_earlier None = refl
none_earlier (Some addr) = refl

-- nothing before it, and an attempt, is the attempt
followed_nothing : (d : Done) → followed_by (nothing_done None) d ≡ d
followed_nothing d = λ i. record {
  answer = d.answer;
  replica = none_earlier d.replica i;
  tries = zero-add d.tries i;
  failures = zero-add d.failures i;
  request_bytes = d.request_bytes;
  reply_bytes = d.reply_bytes;
  hits = zero-add d.hits i;
  misses = zero-add d.misses i;
  broken = d.broken;
}

-- a request is served by its connection's budget, if there is one
pub requests_by : (settings : SettingsValue) (rule : Rule) (head : Head) (last : Bool) (n : ℕ)
    (budget behind : Option BudgetValue) (old new : Standing) (result : Option Ended)
    (name : Option Labels) (done : Done)
    → TriesAs settings rule head last n (paid budget) behind old new result name done
    → RequestsAs settings rule head last n budget behind old new result name done
requests_by settings rule head last n (Some b) behind old new result name done tries = tries
requests_by settings rule head last n None behind old new result name done
    (inl (inl x, untried), named, is) =
    ((untried, inl x), named, is)
requests_by settings rule head last n None behind old new result name done
    (inl (inr x, untried), named, is) =
    ((untried, inr (inl x)), named, is)
requests_by settings rule head last n None behind old new result name done
    (inr (sought, seeks, (mid, failed, way)), named, is) =
    let none = failed_none settings head last sought n behind old mid failed in
    let fewer = nat_lt n (most_of behind) in
    let one = last_done settings head last sought fewer behind mid new result way in
    let ways = last_routes settings head last sought fewer behind mid new result way in (
      (
        record { none = none.0; same = none.1 },
        inr (inr (
          sought,
          seeks,
          subst (λ (s : Standing). Routes settings head last sought s new result) none.2 ways,
        )),
      ),
      named,
      is
          ∙ (ap (λ (d : Done). followed_by d one)
          (failed_nothing settings head last sought n behind old mid failed none.0)
          ∙ (followed_nothing one
          ∙ (routed_done settings head last sought fewer behind mid new result way
          ∙ same_along (λ (s : Standing). Routes settings head last sought s new result)
          (λ (s : Standing) (x : Routes settings head last sought s new result).
          routes_done settings head last sought s new result x) none.2 ways))),
    )

-- a request pays in, and is routed
pub routed_request : (settings : SettingsValue) (rule : Rule) (head : Head) (last : Bool)
    (budget before behind : Option BudgetValue) (old new : Standing) (result : Option Ended)
    (name : Option Labels) (done : Done) (sought : Sought) → before ≡ paid budget
    → Seeks rule head (Ok sought) → name ≡ Some sought.path
    → ((n : ℕ) × AttemptsAs settings head last sought n before behind old new result done)
    → (n : ℕ) × RequestsAs settings rule head last n budget behind old new result name done
routed_request settings rule head last budget before behind old new result name done sought is seeks
    named (n, (attempts, so)) = (
      n,
      requests_by settings rule head last n budget behind old new result name done
          (subst
          (λ (b : Option BudgetValue). TriesAs settings rule head last n b behind old new
          result name done)
          is (inr (sought, seeks, attempts), named, so)),
    )

-- or it pays in, and is refused
pub refused_request : (settings : SettingsValue) (rule : Rule) (head : Head) (last : Bool)
    (budget before : Option BudgetValue) (old new : Standing) (result : Option Ended)
    (name : Option Labels) (done : Done)
    → before ≡ paid budget
    → TriesAs settings rule head last 0 before before old new result name done
    → (n : ℕ) × RequestsAs settings rule head last n budget before old new result name done
refused_request settings rule head last budget before old new result name done is tries = (
  0,
  requests_by settings rule head last 0 budget before old new result name done
      (subst
      (λ (b : Option BudgetValue). TriesAs settings rule head last 0 b before old new result
      name done)
      is tries),
)
