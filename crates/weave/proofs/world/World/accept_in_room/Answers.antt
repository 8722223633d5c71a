use Rattle.std.proofs.Common.{refl, sym, ap, ◌∙◌, ◌+◌, ◌++◌, ◌∷◌, [], arith}
use Rattle.machine.specs.declared.change.Change.{Change}
use Rattle.machine.specs.Code.{settings_of, state_of, change_of, ready_of}
use Rattle.machine.specs.Ready.{absorbed}
use Rattle.bind_cache.specs.Bindings.{bindings_of}
use Rattle.router_log.specs.Operation.{changed}
use Rattle.router_log.specs.Call.{changing}
use Rattle.router_log.specs.Value.{untouched_by}
use Rattle.weave.specs.Held.{ops_of}
use Rattle.weave.proofs.Moving.{accepted, changes_few, standing, pass_with}
use Rattle.weave.proofs.world.World.accept_in_room.Goals as goal

pub overflow_add-pass : goal.overflow_add-pass
overflow_add-pass c =
    let x = c.index_mut-pass.result.now in
    let few = changes_few c.args.self.now c.args.number x c.requires.holds c.requires.there
    c.index_mut-pass.ensures.value in
    let room = c.requires.items x
    (standing c.args.self.now.passes.items c.args.number x c.requires.there
    c.index_mut-pass.ensures.value) in
    omega (arith, few, room)

pub call_in_room-requires : goal.call_in_room-requires
call_in_room-requires c =
    let x = c.index_mut-pass.result.now in
    c.requires.items x (standing c.args.self.now.passes.items c.args.number x c.requires.there
    c.index_mut-pass.ensures.value)

pub returns-clause-ok : goal.returns-clause-ok
returns-clause-ok c = λ p here.
    let old = c.args.self.now in
    accepted old _ c.args.number c.args.self.now.operations.len c.index_mut-pass.result.now.changes
    p c.index_mut-pass.result.now
    (record c.call_in_room.new.self { changes = c.index_mut-pass.result.now.changes + 1 })
    (change_of c.args.change.now) (ready_of c.args.ready.now) c.requires.holds here
    c.index_mut-pass.ensures.value
    old.operations.counted
    refl c.requires.ready
    (c.call_in_room.ensures.pass
    ∙ ap (λ (k : Change). pass_with c.index_mut-pass.result.now
    (changing (change_of k)) old.operations.len (old.operations.len + 1)) c.of.ensures)
    c.call_in_room.ensures.flight refl c.call_in_room.ensures.keeps refl
    (c.push.ensures ∙ ap (λ (k : Change). ops_of old
    ++ changed c.args.number c.index_mut-pass.result.now.changes (change_of k) ∷ []) c.of-2.ensures)
    refl c.in_ok-take_change.ensures.state c.in_ok-take_change.ensures.cache refl
