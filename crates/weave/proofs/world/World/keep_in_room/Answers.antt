use Rattle.std.proofs.Common.{refl, sym, ap, ◌∙◌, ◌+◌, ◌++◌, ◌∷◌, [], map, arith}
use Rattle.bind_cache.specs.Stored.{kept_of}
use Rattle.bind_cache.specs.declared.binding.Binding.{Binding}
use Rattle.std.specs.Arc.{arc_value}
use Rattle.std.specs.declared.sync.Arc.{Arc}
use Rattle.std.specs.declared.alloc.Global.{Global}
use Rattle.router_log.specs.Operation.{kept}
use Rattle.router_log.specs.Call.{keeping}
use Rattle.weave.specs.Held.{ops_of}
use Rattle.weave.proofs.Moving.{standing, present_value, pass_with}
use Rattle.weave.proofs.Keeping.{keeps_it, keeps_few, none_like, is_cheap, kept_few}
use Rattle.weave.proofs.world.World.keep_in_room.Goals as goal

pub keep-requires-clause-alone : goal.keep-requires-clause-alone
keep-requires-clause-alone c =
    let old = c.args.self.now in
    let x = present_value old.passes.items c.args.number c.requires.there in
    none_like old c.args.number x.0 (kept_of (arc_value c.args.binding)) c.requires.holds x.1
    (c.requires.fresh x.0 x.1) c.requires.kept

pub keep-requires-clause-cheap : goal.keep-requires-clause-cheap
keep-requires-clause-cheap c =
    let old = c.args.self.now in
    let x = present_value old.passes.items c.args.number c.requires.there in
    is_cheap old c.args.number x.0 (kept_of (arc_value c.args.binding)) c.requires.holds x.1
    (c.requires.fresh x.0 x.1) c.requires.kept

pub overflow_add-self : goal.overflow_add-self
overflow_add-self c =
    let old = c.args.self.now in
    omega (arith, kept_few old c.requires.holds, c.requires.operations)

pub overflow_add-pass : goal.overflow_add-pass
overflow_add-pass c =
    let x = c.index_mut-pass.result.now in
    let few = keeps_few c.args.self.now c.args.number x c.requires.holds c.requires.there
    c.index_mut-pass.ensures.value in
    let room = c.requires.items x
    (standing c.args.self.now.passes.items c.args.number x c.requires.there
    c.index_mut-pass.ensures.value) in
    omega (arith, few, room)

pub call_in_room-requires : goal.call_in_room-requires
call_in_room-requires c =
    let x = c.index_mut-pass.result.now in
    c.requires.items x (standing c.args.self.now.passes.items c.args.number x c.requires.there
    c.index_mut-pass.ensures.value)

pub returns-clause-ok : goal.returns-clause-ok
returns-clause-ok c = λ p here.
    let old = c.args.self.now in
    let k = kept_of (arc_value c.args.binding) in
    keeps_it old _ c.args.number c.args.self.now.operations.len c.index_mut-pass.result.now.keeps p
    c.index_mut-pass.result.now
    (record c.call_in_room.new.self { keeps = c.index_mut-pass.result.now.keeps + 1 }) k
    c.requires.holds here c.index_mut-pass.ensures.value
    old.operations.counted
    refl (c.requires.fresh p here) c.requires.kept
    (c.call_in_room.ensures.pass
    ∙ ap (λ (b : Arc Binding Global). pass_with c.index_mut-pass.result.now
    (keeping (kept_of (arc_value b))) old.operations.len (old.operations.len + 1))
    c.of-called.ensures)
    c.call_in_room.ensures.flight c.call_in_room.ensures.changes refl refl
    (c.push.ensures ∙ ap (λ (b : Arc Binding Global). ops_of old
    ++ kept c.args.number c.index_mut-pass.result.now.keeps (kept_of (arc_value b)) ∷ [])
    c.of-published.ensures)
    refl refl c.keep.ensures refl
