use Rattle.std.proofs.Common.{◌∙◌}
use Rattle.api_wire.proofs.Segments.{behind_front, other_front}
use Rattle.api_wire.proofs.request.segment_behind.Goals as goal

pub returns-in-Some : goal.returns-in-Some
returns-in-Some c =
    c.one_segment.ensures ∙ behind_front c.args.front.now c.args.path.now c.in-Some.rest.now
    c.in-Some.ensures.cases.0 c.in-Some.ensures.cases.1

pub returns-in-None : goal.returns-in-None
returns-in-None c = other_front c.args.front.now c.args.path.now c.in-None.ensures.cases
