use Rattle.api_sessions.proofs.Carrying.{was_looked}
use Rattle.api_sessions.proofs.Feeding.{shows_told}
use Rattle.api_sessions.proofs.answering.show.Goals as goal

pub returns-in-Ok-clause-shown : goal.returns-in-Ok-clause-shown
returns-in-Ok-clause-shown g c =
    shows_told c.args.run c.args.name c.args.delivery _ _ c.in-Ok.told c.write_feed.result
    c.in-Ok.ensures.said c.write_feed.ensures

pub returns-in-Ok-clause-want : goal.returns-in-Ok-clause-want
returns-in-Ok-clause-want g c =
    was_looked _ _ _ c.in-Ok.told c.write_feed.result c.in-Ok.ensures.said
