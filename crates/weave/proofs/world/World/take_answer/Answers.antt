use Rattle.std.proofs.Common.{refl}
use Rattle.weave.specs.Code.{told_value}
use Rattle.weave.proofs.Asking.{answers}
use Rattle.weave.proofs.world.World.take_answer.Goals as goal

pub returns : goal.returns
returns c = λ p here.
    let e = c.take_answer.ensures in
    answers c.args.self.now _ c.args.number p c.index_mut.result.now c.take_answer.new.self
    (told_value c.take_answer.result) c.requires.holds here c.index_mut.ensures.value e.seen
    e.items e.changes e.keeps e.flight e.told
    e.fresh refl refl refl refl refl
