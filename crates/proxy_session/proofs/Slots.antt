-- No slot is held behind an exchange.
use Rattle.std.proofs.Common.{◌≡◌, ℕ, Bool, List, ap, ◌∙◌, inl, inr, Option, Some, None}
use Rattle.addr_book.specs.declared.addr.Addr.{Addr}
use Rattle.http_wire.specs.declared.ended.Ended.{Ended}
use Rattle.http_wire.specs.declared.head.Head.{Head}
use Rattle.machine.specs.Values.{SettingsValue, AskValue, PickValue}
use Rattle.router.specs.Chosen.{HasWord}
use Rattle.replica_try.specs.declared.tried.Tried.{Tried}
use Rattle.proxy_session.specs.Answering.{report_of}
use Rattle.proxy_session.specs.Asking.{Finding, StopsAsking}
use Rattle.proxy_session.specs.Callers.{Caller}
use Rattle.proxy_session.specs.Exchange.{ReportDone, ReportFails, Settles}
use Rattle.line_base.specs.Lines.{Line}

module _ (settings : SettingsValue) (old new : Caller) where
  pub finding_slot : (ask : AskValue) (said : PickValue) → Finding settings old new ask said
      → new.slot ≡ old.slot
  finding_slot ask said (inl finds) = finds.asks.slots.slot
  finding_slot ask said (inr (mid, misses, inl finds)) =
      finds.asks.slots.slot ∙ misses.asks.slots.slot
  finding_slot ask said (inr (mid, misses, inr (late, finds, keeps))) =
      keeps.returns.slots.slot ∙ (finds.asks.slots.slot ∙ misses.asks.slots.slot)

  -- the slot of what was found is that of a load word
  pub finding_word : (ask : AskValue) (said : PickValue) → Finding settings old new ask said
      → HasWord said
  finding_word ask said (inl finds) = finds.permitted.word
  finding_word ask said (inr (mid, misses, inl finds)) = finds.permitted.word
  finding_word ask said (inr (mid, misses, inr (late, finds, keeps))) = finds.permitted.word

  pub stopping_slot : (ask : AskValue) → StopsAsking settings old new ask → new.slot ≡ old.slot
  stopping_slot ask (mid, misses, inl asks) = asks.0.slots.slot ∙ misses.asks.slots.slot
  stopping_slot ask (mid, misses, inr (late, kept, said, finds, more)) =
      more.slots.slot ∙ (finds.asks.slots.slot ∙ misses.asks.slots.slot)

  done_slot : (r : Option Bool) (addr : Addr) (m n : Option (List ℕ))
      → ReportDone settings r addr old new m n → new.slot ≡ old.slot
  done_slot None addr m n done = ap (λ (c : Caller). c.slot) done.0
  done_slot (Some good) addr m n done = done.2.slots.slot

  fails_slot : (r : Option Bool) (m n : Option (List ℕ)) → ReportFails r old new m n → new.slot
      ≡ old.slot
  fails_slot None m n fails = absurd fails
  fails_slot (Some good) m n fails = fails.2.slots.slot

  pub settling_slot :
      (head : Head) (last : Bool) (addr : Addr) (how : Tried) (m n : Option (List ℕ))
      (line line_after : Line) (result : Option Ended)
      → Settles settings head last addr how old new m n line line_after result → new.slot ≡ old.slot
  settling_slot head last addr how m n line line_after result (inl done) =
      done_slot (report_of how) addr m n done.0
  settling_slot head last addr how m n line line_after result (inr fails) =
      fails_slot (report_of how) m n fails.0
