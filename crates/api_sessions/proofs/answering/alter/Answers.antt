use Rattle.std.proofs.Common.{inl}
use Rattle.api_sessions.proofs.Carrying.{altered, was_altered}
use Rattle.api_sessions.proofs.answering.alter.Goals as goal

pub returns-in-Ok-clause-altered : goal.returns-in-Ok-clause-altered
returns-in-Ok-clause-altered g c =
    altered _ _ _ _ c.in-Ok.said c.tell.result c.in-Ok.ensures.changed c.tell.ensures

pub returns-in-Ok-clause-want : goal.returns-in-Ok-clause-want
returns-in-Ok-clause-want g c = was_altered _ _ _ c.in-Ok.said c.tell.result c.in-Ok.ensures.changed

pub returns-in-Err-clause-want : goal.returns-in-Err-clause-want
returns-in-Err-clause-want g c = inl c.in-Err.ensures.want
