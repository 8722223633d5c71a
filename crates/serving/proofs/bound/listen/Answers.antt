use Rattle.serving.proofs.Posting.{new_from}
use Rattle.serving.proofs.bound.listen.Goals as goal

pub returns-clause-new : goal.returns-clause-new
returns-clause-new g c =
    rw c.into_items.ensures
    (new_from g.N.L.Listener.state _ c.args.port _ c.in_ok-listeners.ensures.new)
