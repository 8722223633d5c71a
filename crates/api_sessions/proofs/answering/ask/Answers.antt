use Rattle.api_sessions.proofs.Carrying.{asked, was_looked}
use Rattle.api_sessions.proofs.answering.ask.Goals as goal

pub returns-in-Ok-clause-asked : goal.returns-in-Ok-clause-asked
returns-in-Ok-clause-asked g c =
    asked _ _ _ _ c.in-Ok.told c.tell_look.result c.in-Ok.ensures.said c.tell_look.ensures

pub returns-in-Ok-clause-want : goal.returns-in-Ok-clause-want
returns-in-Ok-clause-want g c =
    was_looked _ _ _ c.in-Ok.told c.tell_look.result c.in-Ok.ensures.said
