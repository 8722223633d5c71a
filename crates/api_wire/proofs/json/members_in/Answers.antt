use Rattle.api_wire.proofs.JsonValues.{members_are}
use Rattle.api_wire.proofs.json.members_in.Goals as goal

pub returns-in-Some : goal.returns-in-Some
returns-in-Some c =
    members_are _ c.in-Some.members.now.entries _ c.in-Some.ensures c.len.ensures.len
