use Rattle.std.proofs.Common.{◌≡◌, ◌∙◌, sym, ap, subst}
use Rattle.std.specs.Arc.{arc_value}
use Rattle.machine.specs.Code.{settings_of}
use Rattle.bind_cache.specs.declared.binding.Binding.{Binding}
use Rattle.bind_cache.specs.Stored.{kept_of}
use Rattle.std.specs.declared.sync.Arc.{Arc}
use Rattle.std.specs.declared.alloc.Global.{Global}
use Rattle.router_log.specs.Call.{is_kept, keeping}
use Rattle.weave.specs.Code.{pass_of}
use Rattle.weave.specs.Held.{ops_of, world_of, Becomes}
use Rattle.weave.specs.World.{publishes_now, called}
use Rattle.weave.proofs.Keeping.{keeping_none, kept_so, not_kept_so}
use Rattle.weave.proofs.world.World.offer.Goals as goal

pub keep-requires-clause-kept : goal.keep-requires-clause-kept
keep-requires-clause-kept c =
    ap (λ (b : Binding). is_kept (settings_of c.args.self.now.settings) (ops_of c.args.self.now)
    (kept_of b)) (sym c.deref.ensures) ∙ (sym c.may_keep.ensures ∙ c.if-may_keep.true)

pub note-requires-clause-nothing : goal.note-requires-clause-nothing
note-requires-clause-nothing c = λ p here.
    ap (λ (b : Arc Binding Global). publishes_now (settings_of c.args.self.now.settings)
    c.args.number (ops_of c.args.self.now) (pass_of p) (keeping (kept_of (arc_value b))))
    c.of.ensures
    ∙ keeping_none (settings_of c.args.self.now.settings) c.args.number (ops_of c.args.self.now)
    (pass_of p) (kept_of (arc_value c.args.binding))
    (ap (λ (b : Binding). is_kept (settings_of c.args.self.now.settings) (ops_of c.args.self.now)
    (kept_of b)) (sym c.deref.ensures) ∙ (sym c.may_keep.ensures ∙ c.if-may_keep.false))

pub returns-then-may_keep-clause-ok : goal.returns-then-may_keep-clause-ok
returns-then-may_keep-clause-ok c = λ p here. (
  c.in_ok-keep.ensures.ok p here,
  kept_so (settings_of c.args.self.now.settings) c.args.number (ops_of c.args.self.now) (pass_of p)
      (kept_of (arc_value c.args.binding))
      (ap (λ (b : Binding). is_kept (settings_of c.args.self.now.settings) (ops_of c.args.self.now)
      (kept_of b)) (sym c.deref.ensures) ∙ (sym c.may_keep.ensures ∙ c.if-may_keep.true)),
)

pub returns-clause-ok : goal.returns-clause-ok
returns-clause-ok c = λ p here. (
  subst (λ (b : Arc Binding Global). Becomes c.args.self.now c.note.new.self
      (called (settings_of c.args.self.now.settings) (world_of c.args.self.now) c.args.number
      (pass_of p) (keeping (kept_of (arc_value b))))) c.of.ensures (c.in_ok-note.ensures.ok p here),
  not_kept_so (settings_of c.args.self.now.settings) c.args.number (ops_of c.args.self.now)
      (pass_of p) (kept_of (arc_value c.args.binding))
      (ap (λ (b : Binding). is_kept (settings_of c.args.self.now.settings) (ops_of c.args.self.now)
      (kept_of b)) (sym c.deref.ensures) ∙ (sym c.may_keep.ensures ∙ c.if-may_keep.false)),
)
