-- What is left of a client's bytes, while its requests are served.
use Rattle.std.proofs.Common.{◌≡◌, ◌≤◌, ℕ, Bool, true, false, List, [], ◌++◌, length, drop, refl}
use Rattle.std.proofs.Common.{sym, ap, subst, ◌∙◌, append_assoc, append-nil, inl, inr}
use Rattle.std.proofs.Common.{Option, Some, None, IsSomeAnd, Result, Ok, Err}
use Rattle.std.specs.List.{concat}
use Rattle.std.specs.Io.KnownBytes.{Consumes, Keeps}
use Rattle.std.proofs.lemmas.List.{drop-append-le}
use Rattle.addr_book.specs.declared.addr.Addr.{Addr}
use Rattle.body_wire.specs.declared.end.BodyEnd.{BodyEnd}
use Rattle.http_wire.specs.declared.ended.Ended.{Ended}
use Rattle.http_wire.specs.declared.ended.Ended.TheVariants as ended
use Rattle.http_wire.specs.declared.frames.Framing.{Framing}
use Rattle.http_wire.specs.declared.head.Head.{Head}
use Rattle.http_wire.specs.Heads.{BeginsWith}
use Rattle.http_wire.proofs.Turning.{begins_within}
use Rattle.identifier.specs.declared.rule.Rule.{Rule}
use Rattle.machine.specs.Values.{SettingsValue}
use Rattle.own_reply.specs.declared.error.OwnError.{OwnError}
use Rattle.replica_try.specs.declared.tried.Tried.{Tried}
use Rattle.replica_try.specs.declared.tried.Tried.TheVariants as tried
use Rattle.proxy_session.specs.Answering.{Ends, Refuses, Writes}
use Rattle.proxy_session.specs.Callers.{Caller}
use Rattle.proxy_session.specs.Exchange.{Exchanges, Settles, Standing}
use Rattle.proxy_session.specs.Laws.{Gives}
use Rattle.line_base.specs.Dials.{Upstream}
use Rattle.line_base.specs.Lines.{Line}
use Rattle.proxy_session.specs.Session.{Reads, having_told}
use Rattle.replica_try.specs.Trying.{Converses, GoesOn, Replies, Tries, TriesAnew}
use Rattle.proxy_session.specs.Requests.{Requests}
use Rattle.retry_budget.specs.Budget.{BudgetValue}
use Rattle.proxy_session.proofs.Splitting.{request_split}

-- these are left of the bytes of a client: first those that were read and not used yet
abbrev Leaves : List ℕ → Option (List ℕ) → List ℕ → Type 0
Leaves bytes left kept =
    IsSomeAnd left (λ more. (spent : List ℕ) × (spent ++ (kept ++ more) ≡ bytes))

left_kept : (bytes kept : List ℕ) (old new : Option (List ℕ)) → Leaves bytes old kept
    → Keeps old new → Leaves bytes new kept
left_kept bytes kept None new all keeps = absurd all
left_kept bytes kept (Some xs) None all keeps = absurd keeps
left_kept bytes kept (Some xs) (Some ys) all keeps =
    subst (λ (more : List ℕ). (spent : List ℕ) × (spent ++ (kept ++ more) ≡ bytes)) (sym keeps) all

-- some of the bytes that came were taken, and the others are kept
regrouped : (spent taken kept_after ys kept came : List ℕ) → kept ++ came ≡ taken ++ kept_after
    → (spent ++ taken) ++ (kept_after ++ ys) ≡ spent ++ (kept ++ (came ++ ys))
regrouped spent taken kept_after ys kept came cut =
    append_assoc spent taken (kept_after ++ ys)
    ∙ ap (λ (l : List ℕ). spent ++ l)
    (sym (append_assoc taken kept_after ys) ∙ ap (λ (l : List ℕ). l ++ ys) (sym cut)
    ∙ append_assoc kept came ys)

left_behind : (bytes kept kept_after taken came : List ℕ) (old new : Option (List ℕ))
    → Leaves bytes old kept → Consumes old new came → kept ++ came ≡ taken ++ kept_after
    → Leaves bytes new kept_after
left_behind bytes kept kept_after taken came None new all took cut = absurd all
left_behind bytes kept kept_after taken came (Some xs) None all took cut = absurd took
left_behind bytes kept kept_after taken came (Some xs) (Some ys) all took cut = (
  all.0 ++ taken,
  regrouped all.0 taken kept_after ys kept came cut
      ∙ ap (λ (l : List ℕ). all.0 ++ (kept ++ l)) (sym took) ∙ all.1,
)

-- ---- answers

-- none of them read a byte
writes : (old new : Line) (reply : List ℕ) (told : Result (Unit {0}) Ended)
    → Writes old new reply told → Keeps old.left new.left
writes old new reply (Ok x) done = done.0.left
writes old new reply (Err ended.WriteFault) (sent, gives, fits, fault) = gives.left
writes old new reply (Err ended.OutOfMemory) rests = rests.left
writes old new reply (Err ended.PeerEnded) never = absurd never
writes old new reply (Err ended.Cut) never = absurd never
writes old new reply (Err ended.Closed) never = absurd never
writes old new reply (Err ended.Spent) never = absurd never
writes old new reply (Err ended.Drained) never = absurd never
writes old new reply (Err ended.ReadFault) never = absurd never
writes old new reply (Err ended.UpstreamCut) never = absurd never

refuses : (err : OwnError) (head : Head) (last : Bool) (old new : Line) (result : Option Ended)
    → Refuses err head last old new result → Keeps old.left new.left
refuses err head last old new result (told, wrote, is) = writes old new _ told wrote

ends : (how : Tried) (head : Head) (last : Bool) (old new : Line) (result : Option Ended)
    → Ends how head last old new result → Keeps old.left new.left
ends tried.NotDialed head last old new result done = refuses _ head last old new result done
ends (tried.NotSent moved) head last old new result done =
    refuses _ head last old new result done
ends (tried.Silent moved) head last old new result done = refuses _ head last old new result done
ends (tried.NoReply moved) head last old new result done =
    refuses _ head last old new result done
ends (tried.BadBody moved) head last old new result done =
    refuses _ head last old new result done
ends (tried.LongBody moved) head last old new result done =
    refuses _ head last old new result done
ends (tried.BodyCut moved) head last old new result done = done.0.left
ends (tried.BodyFault moved) head last old new result done = done.0.left
ends (tried.ReplyCut moved status) head last old new result done = done.0.left
ends (tried.WrittenShort moved status) head last old new result done = done.0.left
ends (tried.OutOfMemory moved status) head last old new result done = done.0.left
ends (tried.Whole moved status closes reusable) head last old new result done = done.0.left

settles : (settings : SettingsValue) (head : Head) (last : Bool) (addr : Addr) (how : Tried)
    (c d : Caller) (m n : Option (List ℕ)) (old new : Line) (result : Option Ended)
    → Settles settings head last addr how c d m n old new result → Keeps old.left new.left
settles settings head last addr how c d m n old new result (inl done) =
    ends how head last old new result done.1
settles settings head last addr how c d m n old new result (inr fails) = fails.1.left

replies : (head : Head) (last : Bool) (n : ℕ) (old new : Line) (faults faults_now : ℕ)
    (got : List (List ℕ)) (how : Tried)
    → Replies head last n old new faults faults_now got how → Keeps old.left new.left
replies head last n old new faults faults_now got how (inl (fault, kept, hears, same, is)) =
    same.left
replies head last n old new faults faults_now got how
    (inr (reply, framing, kept, between, before, behind, hears, inl stops, is)) = stops.0.left
replies head last n old new faults faults_now got how
    (inr (
      reply,
      framing,
      kept,
      between,
      before,
      behind,
      hears,
      inr (kept_after, result, goes, way),
      is,
    )) =
    goes.left

module _ (bytes : List ℕ) where
  -- ---- tries

  goes_on : (head : List ℕ) (framing : Framing) (old new : Line) (kept kept_after : List ℕ)
      (faults faults_now : ℕ) (sent : List ℕ) (result : Result ℕ BodyEnd)
      → Leaves bytes old.left kept
      → GoesOn head framing old new kept kept_after faults faults_now sent result
      → Leaves bytes new.left kept_after
  goes_on head framing old new kept kept_after faults faults_now sent result all goes =
      left_behind bytes kept kept_after goes.passes.taken (concat goes.came) old.left new.left all
      goes.taken goes.passes.bytes

  converses : (head : Head) (onward : List ℕ) (framing : Framing) (last : Bool) (old new : Line)
      (kept kept_after : List ℕ) (faults faults_now : ℕ) (sent : List ℕ) (got : List (List ℕ))
      (how : Tried)
      → Leaves bytes old.left kept
      → Converses head onward framing last old new kept kept_after faults faults_now sent got how
      → Leaves bytes new.left kept_after
  converses head onward framing last old new kept kept_after faults faults_now sent got how all
      (inl (end, goes, nothing, is)) =
      goes_on onward framing old new kept kept_after faults faults_now sent (Err end) all goes
  converses head onward framing last old new kept kept_after faults faults_now sent got how all
      (inr (n, mid, between, goes, came)) =
      left_kept bytes kept_after mid.left new.left
      (goes_on onward framing old mid kept kept_after faults between sent (Ok n) all goes)
      (replies head last n mid new between faults_now got how came)

  tries_anew : (head : Head) (onward : List ℕ) (framing : Framing) (last : Bool) (addr : Addr)
      (old new : Line) (kept kept_after : List ℕ) (before now : Upstream) (how : Tried)
      → Leaves bytes old.left kept
      → TriesAnew head onward framing last addr old new kept kept_after before now how
      → Leaves bytes new.left kept_after
  tries_anew head onward framing last addr old new kept kept_after before now how all (inl none) =
      subst (λ (k : List ℕ). Leaves bytes new.left k) (sym none.kept_is)
      (left_kept bytes kept old.left new.left all none.line.left)
  tries_anew head onward framing last addr old new kept kept_after before now how all
      (inr visit) =
      converses head onward framing last old new kept kept_after before.faults now.faults
      (concat visit.sent) visit.got how all visit.spoke

  tries : (head : Head) (onward : List ℕ) (framing : Framing) (last : Bool) (addr : Addr)
      (old new : Line) (kept kept_after : List ℕ) (before now : Upstream) (how : Tried)
      → Leaves bytes old.left kept
      → Tries head onward framing last addr old new kept kept_after before now how
      → Leaves bytes new.left kept_after
  tries head onward framing last addr old new kept kept_after before now how all (inl anew) =
      tries_anew head onward framing last addr old new kept kept_after before now how all anew
  tries head onward framing last addr old new kept kept_after before now how all
      (inr (any, again, inl answered)) =
      converses head onward framing last old new kept kept_after before.faults now.faults
      (concat answered.visit.sent) answered.visit.got how all answered.visit.spoke
  tries head onward framing last addr old new kept kept_after before now how all
      (inr (any, again, inr t)) =
      tries_anew head onward framing last addr t.line new t.left kept_after t.mid now how
      (converses head onward framing last old t.line kept t.left before.faults t.mid.faults
      (concat t.visit.sent) t.visit.got t.first all t.visit.spoke) t.anew

  -- ---- exchanges

  -- what is left of the bytes, as a server and a connection stand
  abbrev pub LeavesSo : Standing → Type 0
  LeavesSo s = Leaves bytes s.line.left s.kept

  stays : (old new : Standing) → LeavesSo old → Keeps old.line.left new.line.left
      → new.kept ≡ old.kept → LeavesSo new
  stays old new all keeps is =
      subst (λ (k : List ℕ). Leaves bytes new.line.left k) (sym is)
      (left_kept bytes old.kept old.line.left new.line.left all keeps)

  exchange_leaves : (settings : SettingsValue) (rule : Rule) (head : Head) (last : Bool)
      (old new : Standing) (result : Option Ended) → LeavesSo old
      → Exchanges settings rule head last old new result → LeavesSo new
  exchange_leaves settings rule head last old new result all (inl x) =
      stays old new all (refuses x.err head last old.line new.line result x.refuses)
      x.nothing.away.kept
  exchange_leaves settings rule head last old new result all (inr (inl x)) =
      stays old new all x.line.left x.nothing.away.kept
  exchange_leaves settings rule head last old new result all
      (inr (inr (sought, seeks, (moment, moments, draws, inl x)))) =
      stays old new all x.line.left x.away.kept
  exchange_leaves settings rule head last old new result all
      (inr (inr (sought, seeks, (moment, moments, draws, inr (inl x))))) =
      stays old new all (refuses _ head last old.line new.line result x.refuses) x.away.kept
  exchange_leaves settings rule head last old new result all
      (inr (inr (sought, seeks, (moment, moments, draws, inr (inr x))))) =
      let s = x.sent in
      left_kept bytes new.kept s.between.left new.line.left
      (tries head s.onward sought.framing last x.to.addr old.line s.between old.kept new.kept
      old.upstream new.upstream s.how all s.tries)
      (settles settings head last x.to.addr s.how s.held new.caller moments new.moments s.between
      new.line result s.settles)

  -- ---- requests

  pub request_leaves : (settings : SettingsValue) (rule : Rule) (head : Head) (last : Bool) (n : ℕ)
      (before behind : Option BudgetValue) (old new : Standing) (result : Option Ended)
      → LeavesSo old → Requests settings rule head last n before behind old new result
      → LeavesSo new
  request_leaves settings rule head last n before behind old new result all request =
      let split = request_split settings rule head last n before behind old new result request in
      exchange_leaves settings rule head last split.0 new result
      (stays old split.0 all split.1.line.left split.1.kept) split.2

  -- ---- what the connection says

  pub told_leaves : (closing : Bool) (s : Standing) → LeavesSo s → LeavesSo (having_told closing s)
  told_leaves false s all = all
  told_leaves true s all = all

-- ---- heads

-- the bytes of a client begin with the head that was read, and the others are left
pub record BeginsSo (bytes : List ℕ) (head : Head) (mid : Standing) : Type 0 where
  pub len : ℕ
  pub begins : BeginsWith bytes head len
  pub left : LeavesSo (drop len bytes) mid

head_cut : (bytes kept kept_after taken ys : List ℕ) (len : ℕ) → len ≤ length (kept ++ taken)
    → (kept ++ taken) ++ ys ≡ bytes → kept_after ≡ drop len (kept ++ taken)
    → kept_after ++ ys ≡ drop len bytes
head_cut bytes kept kept_after taken ys len within all is =
    ap (λ (l : List ℕ). l ++ ys) is ∙ sym (drop-append-le len (kept ++ taken) ys within)
    ∙ ap (λ (l : List ℕ). drop len l) all

head_at : (bytes kept kept_after taken : List ℕ) (head : Head) (len : ℕ)
    (old new : Option (List ℕ))
    → IsSomeAnd old (λ more. kept ++ more ≡ bytes) → Consumes old new taken
    → ((more : List ℕ) → BeginsWith ((kept ++ taken) ++ more) head len)
    → kept_after ≡ drop len (kept ++ taken)
    → BeginsWith bytes head len × Leaves (drop len bytes) new kept_after
head_at bytes kept kept_after taken head len None new all took begins is = absurd all
head_at bytes kept kept_after taken head len (Some xs) None all took begins is = absurd took
head_at bytes kept kept_after taken head len (Some xs) (Some ys) all took begins is =
    let whole : (kept ++ taken) ++ ys ≡ bytes = append_assoc kept taken ys
    ∙ ap (λ (l : List ℕ). kept ++ l) (sym took) ∙ all in
    let none : (kept ++ taken) ++ [] ≡ kept ++ taken = append-nil (kept ++ taken) in
    let within : len ≤ length (kept ++ taken) = begins_within (kept ++ taken) head len
    (subst (λ (l : List ℕ). BeginsWith l head len) none (begins [])) in (
      subst (λ (l : List ℕ). BeginsWith l head len) whole (begins ys),
      ([], head_cut bytes kept kept_after taken ys len within whole is),
    )

pub head_begins : (bytes : List ℕ) (old new : Standing) (head : Head) → Gives old bytes
    → Reads old new (Ok head) → BeginsSo bytes head new
head_begins bytes old new head gives reads =
    let r = reads.head in
    let found = head_at bytes old.kept new.kept r.taken head r.answers.0 old.line.left
    new.line.left gives r.given r.answers.1 r.answers.2 in
    record { len = r.answers.0; begins = found.0; left = found.1 }

-- what is left is given behind that
given_behind : (bytes kept : List ℕ) (left : Option (List ℕ)) → Leaves bytes left kept
    → (spent : List ℕ) × (behind : List ℕ) × (bytes ≡ spent ++ behind)
    × IsSomeAnd left (λ more. kept ++ more ≡ behind)
given_behind bytes kept None all = absurd all
given_behind bytes kept (Some more) all = (all.0, kept ++ more, sym all.1, refl)

pub gives_behind : (bytes : List ℕ) (s : Standing) → LeavesSo bytes s
    → (spent : List ℕ) × (behind : List ℕ) × (bytes ≡ spent ++ behind) × Gives s behind
gives_behind bytes s all = given_behind bytes s.kept s.line.left all
