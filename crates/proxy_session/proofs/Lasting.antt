-- What each exchange and each session leaves as it was.
use Rattle.std.proofs.Common.{◌≡◌, ℕ, Bool, List, ap, ◌∙◌, inl, inr, ◌⊎◌, Option, Some, None}
use Rattle.addr_book.specs.declared.addr.Addr.{Addr}
use Rattle.http_wire.specs.declared.ended.Ended.{Ended}
use Rattle.http_wire.specs.declared.head.Head.{Head}
use Rattle.identifier.specs.declared.rule.Rule.{Rule}
use Rattle.machine.specs.Values.{SettingsValue, AskValue, PickValue, none, replica}
use Rattle.replica_try.proofs.Closed.{tries_closed, tries_pool}
use Rattle.replica_try.specs.declared.tried.Tried.{Tried}
use Rattle.proxy_session.specs.Answering.{report_of}
use Rattle.proxy_session.specs.Asking.{Finding, StopsAsking}
use Rattle.proxy_session.specs.Callers.{Caller}
use Rattle.proxy_session.specs.Exchange.{Exchanges, ReportDone, ReportFails, Settles, Standing}
use Rattle.line_base.specs.Lines.{Line}

module _ (settings : SettingsValue) (old new : Caller) where
  pub finding_number : (ask : AskValue) (said : PickValue) → Finding settings old new ask said
      → new.number ≡ old.number
  finding_number ask said (inl finds) = finds.asks.number
  finding_number ask said (inr (mid, misses, inl finds)) = finds.asks.number ∙ misses.asks.number
  finding_number ask said (inr (mid, misses, inr (late, finds, keeps))) =
      keeps.returns.number ∙ (finds.asks.number ∙ misses.asks.number)

  stopping_number : (ask : AskValue) → StopsAsking settings old new ask → new.number ≡ old.number
  stopping_number ask (mid, misses, inl asks) = asks.0.number ∙ misses.asks.number
  stopping_number ask (mid, misses, inr (late, kept, said, finds, more)) =
      more.number ∙ (finds.asks.number ∙ misses.asks.number)

  asked_number : (ask : AskValue) → StopsAsking settings old new ask
      ⊎ ((said : PickValue) × Finding settings old new ask said) → new.number ≡ old.number
  asked_number ask (inl stops) = stopping_number ask stops
  asked_number ask (inr (said, finds)) = finding_number ask said finds

  pub done_number : (r : Option Bool) (addr : Addr) (m n : Option (List ℕ))
      → ReportDone settings r addr old new m n → new.number ≡ old.number
  done_number None addr m n done = ap (λ (c : Caller). c.number) done.0
  done_number (Some good) addr m n done = done.2.number

  fails_number : (r : Option Bool) (m n : Option (List ℕ)) → ReportFails r old new m n → new.number
      ≡ old.number
  fails_number None m n fails = absurd fails
  fails_number (Some good) m n fails = fails.2.number

  settling_number : (head : Head) (last : Bool) (addr : Addr) (how : Tried) (m n : Option (List ℕ))
      (line line_after : Line) (result : Option Ended)
      → Settles settings head last addr how old new m n line line_after result → new.number
      ≡ old.number
  settling_number head last addr how m n line line_after result (inl done) =
      done_number (report_of how) addr m n done.0
  settling_number head last addr how m n line line_after result (inr fails) =
      fails_number (report_of how) m n fails.0

module _ (settings : SettingsValue) (rule : Rule) (head : Head) (last : Bool) (old new : Standing)
    (r : Option Ended) where
  -- the pass is that of the same caller
  pub exchange_number : Exchanges settings rule head last old new r → new.caller.number
      ≡ old.caller.number
  exchange_number (inl x) = ap (λ (c : Caller). c.number) x.nothing.caller
  exchange_number (inr (inl x)) = ap (λ (c : Caller). c.number) x.nothing.caller
  exchange_number (inr (inr (sought, seeks, (moment, moments, draws, inl x)))) =
      asked_number settings old.caller new.caller _ x.asks
  exchange_number (inr (inr (sought, seeks, (moment, moments, draws, inr (inl x))))) =
      finding_number settings old.caller new.caller _ (none x.why) x.finds
  exchange_number (inr (inr (sought, seeks, (moment, moments, draws, inr (inr x))))) =
      let s = x.sent in
      settling_number settings s.held new.caller head last x.to.addr s.how moments new.moments
      s.between new.line r s.settles
      ∙ (s.holds.number ∙ finding_number settings old.caller x.found _ (replica x.to) x.finds)

  -- where no connection to a replica was open, none is
  pub exchange_closed : Exchanges settings rule head last old new r → old.upstream.open_to ≡ None
      → new.upstream.open_to ≡ None
  exchange_closed (inl x) closed = x.nothing.away.upstream.links.open_to ∙ closed
  exchange_closed (inr (inl x)) closed = x.nothing.away.upstream.links.open_to ∙ closed
  exchange_closed (inr (inr (sought, seeks, (moment, moments, draws, inl x)))) closed =
      x.away.upstream.links.open_to ∙ closed
  exchange_closed (inr (inr (sought, seeks, (moment, moments, draws, inr (inl x))))) closed =
      x.away.upstream.links.open_to ∙ closed
  exchange_closed (inr (inr (sought, seeks, (moment, moments, draws, inr (inr x))))) closed =
      tries_closed head x.sent.onward sought.framing last x.to.addr x.sent.between new.kept
      new.upstream x.sent.how old.line old.kept old.upstream x.sent.tries

  -- the dialer has the pool that it had
  pub exchange_pool : Exchanges settings rule head last old new r
      → new.upstream.pool ≡ old.upstream.pool
  exchange_pool (inl x) = x.nothing.away.upstream.links.pool
  exchange_pool (inr (inl x)) = x.nothing.away.upstream.links.pool
  exchange_pool (inr (inr (sought, seeks, (moment, moments, draws, inl x)))) =
      x.away.upstream.links.pool
  exchange_pool (inr (inr (sought, seeks, (moment, moments, draws, inr (inl x))))) =
      x.away.upstream.links.pool
  exchange_pool (inr (inr (sought, seeks, (moment, moments, draws, inr (inr x))))) =
      tries_pool head x.sent.onward sought.framing last x.to.addr x.sent.between new.kept
      new.upstream x.sent.how old.line old.kept old.upstream x.sent.tries
