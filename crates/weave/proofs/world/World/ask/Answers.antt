use Rattle.std.proofs.Common.{Some, refl, ap, ◌∙◌}
use Rattle.weave.specs.Listed.{question_of}
use Rattle.weave.specs.declared.step.Asked.{Asked}
use Rattle.weave.specs.World.{call_of}
use Rattle.weave.proofs.Moving.{steady, pass_with}
use Rattle.weave.proofs.Asking.{asks}
use Rattle.weave.proofs.world.World.ask.Goals as goal

pub returns-clause-ok : goal.returns-clause-ok
returns-clause-ok c = λ p here.
    let old = c.args.self.now in
    let x = c.index_mut-pass.result.now in
    asks old _ c.args.number c.args.self.now.operations.len p x c.call.new.self
    (record c.call.new.self
    { flight = Some (record { item = x.items.len; told = c.args.told; fresh = c.args.fresh }) })
    (question_of c.args.asked.now)
    (record { item = x.items.len; told = c.args.told; fresh = c.args.fresh }) c.requires.holds here
    c.index_mut-pass.ensures.value
    old.operations.counted
    (c.in-Ok.ensures.pass
    ∙ ap (λ (k : Asked). pass_with x (call_of (question_of k)) old.operations.len
    old.operations.len) c.of.ensures) c.in-Ok.ensures.changes c.in-Ok.ensures.keeps refl refl refl
    refl refl refl x.items.counted c.requires.told c.requires.fresh refl refl refl refl refl

pub returns-in-Err-clause-err : goal.returns-in-Err-clause-err
returns-in-Err-clause-err c =
    steady c.args.self.now _ c.args.number c.index_mut-pass.result.now c.call.new.self
    c.requires.holds c.requires.there c.index_mut-pass.ensures.value c.in-Err.ensures.err
    c.in-Err.ensures.flight
    c.in-Err.ensures.changes c.in-Err.ensures.keeps refl refl refl refl refl
