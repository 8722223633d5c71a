use Rattle.std.proofs.Common.{◌≡◌, ◌+◌, ◌∙◌, ap, arith, Vec, Global, ℕ}
use Rattle.machine.specs.Code.{settings_of}
use Rattle.weave.specs.Code.{step_of}
use Rattle.weave.specs.World.{opening_world}
use Rattle.weave.specs.Generated.{steps_of_seed, weave_line, weave_of}
use Rattle.weave.proofs.Results.{if_ok}
use Rattle.weave.proofs.Weaving.{first_turn, turn_made, summed_up}
use Rattle.weave.proofs.generated.weave.Goals as goal

pub loop-turn-init : goal.loop-turn-init
loop-turn-init g c = (
  first_turn (settings_of c.args.settings) c.args.turns c.args.seed c.in_ok-world.world
      c.seed_from_u64-words.result c.in_ok-world.ensures.holds c.in_ok-world.ensures.settings
      c.in_ok-world.ensures.world
      c.seed_from_u64-words.ensures,
  omega arith,
)

pub step-requires-clause-holds : goal.step-requires-clause-holds
step-requires-clause-holds g c = c.loop-turn.invariant.0.holds

pub loop-turn-preserved : goal.loop-turn-preserved
loop-turn-preserved g c = (
  turn_made (settings_of c.args.settings) (steps_of_seed c.args.turns c.args.seed)
      (opening_world 4) c.loop-turn.world c.step.new.self c.loop-turn.looks
      (c.loop-turn.looks + c.given_by-looks.result) c.args.turns c.loop-turn._turn
      c.loop-turn.words c.turn_step.new.words (step_of c.in-Ok.step) c.in-Ok-step.told
      c.loop-turn-test.true c.in-Ok.ensures.step c.loop-turn.invariant.0 c.in-Ok-step.ensures.ok
      (ap (λ n. c.loop-turn.looks + n) c.given_by-looks.ensures.given),
  omega (arith, c.loop-turn.invariant.1, c.given_by-looks.ensures.few),
)

pub overflow_add-looks : goal.overflow_add-looks
overflow_add-looks g c =
    omega (
      arith,
      c.loop-turn.invariant.1,
      c.loop-turn-test.true,
      c.given_by-looks.ensures.few,
      c.ranges.turns.fits,
    )

pub returns : goal.returns
returns g c =
    if_ok (λ (t : Vec ℕ Global). t.items
    ≡ weave_line c.place.result c.loop-turn.looks c.kept.result)
    (λ (t : Vec ℕ Global). t.items ≡ weave_of (settings_of c.args.settings) c.args.turns
    c.args.seed) c.line-summed.result c.line-summed.ensures
    (λ t is. is ∙ summed_up (settings_of c.args.settings) c.args.turns c.loop-turn._turn
    c.args.seed c.loop-turn.world c.loop-turn.looks c.place.result c.kept.result c.loop-turn.words
    c.loop-turn-test.false
    c.loop-turn.invariant.0 c.place.ensures c.kept.ensures)
