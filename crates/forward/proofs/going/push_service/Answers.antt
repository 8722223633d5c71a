use Rattle.forward.proofs.Joined.{line_put}
use Rattle.forward.proofs.going.push_service.Goals as goal

pub returns : goal.returns
returns c = line_put _ _ _ _ _ _ _ c.in_ok-extend_from_slice.ensures.items
    c.in_ok-append_path.ensures.ok c.in_ok-end_line.ensures
