use Rattle.std.proofs.Common.{Bool, ◌||◌, ap}
use Rattle.http_wire.proofs.Following.{one_more}
use Rattle.http_wire.proofs.watch.Watch.step.Goals as goal

pub returns : goal.returns
returns c before now follows =
    one_more before now c.args.self.now c.args.byte c.after-next.result _ c.requires
    c.after-next.ensures (ap (λ (news : Bool). c.args.self.now.due || news) c.is_news.ensures)
    follows
