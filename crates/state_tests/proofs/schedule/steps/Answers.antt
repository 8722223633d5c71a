use Rattle.std.proofs.Common.{◌∙◌, ◌∷◌, [], map, ap, sym, subst}
use Rattle.std.specs.Prelude.{All}
use Rattle.std.proofs.lemmas.List.{map-append}
use Rattle.std.proofs.lemmas.List.Elements.{All-push}
use Rattle.weave.specs.Code.{step_of}
use Rattle.weave.specs.Held.{IsSoundStep}
use Rattle.state_tests.proofs.schedule.steps.Goals as goal

pub loop-row-preserved : goal.loop-row-preserved
loop-row-preserved c = record {
  sound = subst (All IsSoundStep)
      (sym (ap (map step_of) c.in_ok-push.ensures.items
      ∙ map-append step_of c.loop-row.steps.items (c.in_ok-made.made ∷ [])))
      (All-push IsSoundStep (map step_of c.loop-row.steps.items)
      (step_of c.in_ok-made.made) c.loop-row.invariant.sound c.in_ok-made.ensures);
}
