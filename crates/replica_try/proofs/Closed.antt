-- No connection is open behind a try, and the dialer has the pool that it had.
use Rattle.std.proofs.Common.{◌≡◌, ◌∙◌, ℕ, Bool, List, inl, inr, None}
use Rattle.addr_book.specs.declared.addr.Addr.{Addr}
use Rattle.http_wire.specs.declared.frames.Framing.{Framing}
use Rattle.http_wire.specs.declared.head.Head.{Head}
use Rattle.line_base.specs.Dials.{Upstream}
use Rattle.line_base.specs.Lines.{Line}
use Rattle.replica_try.specs.declared.tried.Tried.{Tried}
use Rattle.replica_try.specs.Trying.{Tries, TriesAnew}

module _ (head : Head) (onward : List ℕ) (framing : Framing) (last : Bool) (addr : Addr)
    (new : Line) (kept_after : List ℕ) (now : Upstream) (how : Tried) where
  anew_closed : (old : Line) (kept : List ℕ) (before : Upstream)
      → TriesAnew head onward framing last addr old new kept kept_after before now how
      → now.open_to ≡ None
  anew_closed old kept before (inl none) = none.closed
  anew_closed old kept before (inr visit) = visit.closed

  pub tries_closed : (old : Line) (kept : List ℕ) (before : Upstream)
      → Tries head onward framing last addr old new kept kept_after before now how
      → now.open_to ≡ None
  tries_closed old kept before (inl anew) = anew_closed old kept before anew
  tries_closed old kept before (inr (any, again, inl answered)) = answered.visit.closed
  tries_closed old kept before (inr (any, again, inr t)) = anew_closed t.line t.left t.mid t.anew

  anew_pool : (old : Line) (kept : List ℕ) (before : Upstream)
      → TriesAnew head onward framing last addr old new kept kept_after before now how
      → now.pool ≡ before.pool
  anew_pool old kept before (inl none) = none.pool
  anew_pool old kept before (inr visit) = visit.pool

  pub tries_pool : (old : Line) (kept : List ℕ) (before : Upstream)
      → Tries head onward framing last addr old new kept kept_after before now how
      → now.pool ≡ before.pool
  tries_pool old kept before (inl anew) = anew_pool old kept before anew
  tries_pool old kept before (inr (any, again, inl answered)) = answered.visit.pool
  tries_pool old kept before (inr (any, again, inr t)) =
      anew_pool t.line t.left t.mid t.anew ∙ t.visit.pool
