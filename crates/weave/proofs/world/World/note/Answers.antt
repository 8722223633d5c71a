use Rattle.std.proofs.Common.{refl, sym, ◌∙◌}
use Rattle.weave.specs.Listed.{call_value}
use Rattle.weave.proofs.Moving.{noted, steady}
use Rattle.weave.proofs.Results.{on_ok, on_err}
use Rattle.weave.proofs.world.World.note.Goals as goal

pub returns-clause-ok : goal.returns-clause-ok
returns-clause-ok c =
    on_ok c.call.result c.call.ensures.pass
    (λ pass p here.
    noted c.args.self.now _ c.args.number c.args.self.now.operations.len p c.index_mut.result.now
    c.call.new.self (call_value c.args.call) c.requires.holds here c.index_mut.ensures.value
    c.args.self.now.operations.counted pass c.call.ensures.flight c.call.ensures.changes
    c.call.ensures.keeps
    (c.requires.nothing p here) refl refl refl refl refl)

pub returns-clause-err : goal.returns-clause-err
returns-clause-err c =
    on_err c.call.result c.call.ensures.err
    (λ pass.
    steady c.args.self.now _ c.args.number c.index_mut.result.now c.call.new.self c.requires.holds
    c.requires.there c.index_mut.ensures.value pass c.call.ensures.flight c.call.ensures.changes
    c.call.ensures.keeps
    refl refl refl refl refl)
