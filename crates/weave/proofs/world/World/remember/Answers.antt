use Rattle.std.proofs.Common.{◌≡◌, ◌∙◌, sym, ap, refl, arith, Option, Some, None}
use Rattle.std.specs.Prelude.{option_map, slice_get}
use Rattle.std.specs.Arc.{arc_value}
use Rattle.machine.specs.Code.{settings_of}
use Rattle.bind_cache.specs.Stored.{kept_of}
use Rattle.weave.specs.declared.pass.Pass.{Pass}
use Rattle.weave.specs.declared.step.Told.{Told}
use Rattle.weave.specs.declared.step.Told.TheVariants as told
use Rattle.weave.specs.Code.{pass_of, kept_in_arc, told_value}
use Rattle.weave.specs.World.{PassValue, remember, remembering, remembered}
use Rattle.weave.specs.Held.{world_of, IsMade, IsStep}
use Rattle.weave.proofs.Moving.{present_value}
use Rattle.weave.proofs.Results.{if_ok}
use Rattle.weave.proofs.Steps.{lacking, remembers}
use Rattle.weave.proofs.world.World.remember.Goals as goal

pub returns-then-number-len-clause-ok : goal.returns-then-number-len-clause-ok
returns-then-number-len-clause-ok c =
    let old = c.args.self.now in
    lacking old (remember c.args.number) c.args.number
    (λ (r : Option PassValue). remembering (settings_of old.settings)
    (world_of old) c.args.number r) c.requires
    (omega (arith, c.if-number-len.true, c.len.ensures, old.passes.ok.0)) refl refl

pub returns-in-Some-clause-ok : goal.returns-in-Some-clause-ok
returns-in-Some-clause-ok c =
    let old = c.args.self.now in
    let new = c.offer.new.self in
    let k = kept_of (arc_value c.in-Some.binding) in
    let x = present_value old.passes.items c.args.number
    (omega (arith, c.if-number-len.false, c.len.ensures, old.passes.ok.0)) in
    if_ok (λ (t : Told). (p : Pass) → slice_get old.passes.items c.args.number ≡ Some p
    → IsMade old new (remembered (settings_of old.settings) (world_of old) c.args.number
    (pass_of p) (Some k)) (told_value t))
    (λ (t : Told). IsStep old new (remember c.args.number) t) c.offer.result c.offer.ensures.ok
    (λ t made. remembers old new c.args.number x.0 (Some k) t x.1
    (sym (c.in_ok-binding.ensures x.0 x.1) ∙ ap (option_map kept_in_arc) c.in-Some.is)
    (made x.0 x.1))

pub returns-in-None-clause-ok : goal.returns-in-None-clause-ok
returns-in-None-clause-ok c =
    let old = c.args.self.now in
    let x = present_value old.passes.items c.args.number
    (omega (arith, c.if-number-len.false, c.len.ensures, old.passes.ok.0)) in
    remembers old c.see.new.self c.args.number x.0 None told.Nothing x.1
    (sym (c.in_ok-binding.ensures x.0 x.1) ∙ ap (option_map kept_in_arc) c.in-None.is)
    (c.see.ensures.sees x.0 x.1, refl)
