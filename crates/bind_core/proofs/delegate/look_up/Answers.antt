use Rattle.std.proofs.Common.{◌+◌, arith, refl}
use Rattle.bind_core.specs.Rewritten.{labels_of}
use Rattle.bind_core.specs.Stack.{rules_at, names_at}
use Rattle.bind_core.proofs.Stepping.{long_path, short_path, lookup-zero, lookup-long, deep_step}
use Rattle.bind_core.proofs.Stepping.{wide_step, looked_up}
use Rattle.bind_core.proofs.Paying.{deep_look, wide_look, made_look}
use Rattle.bind_core.proofs.Turns.{on_ok}
use Rattle.bind_core.proofs.delegate.look_up.Goals as goal
use Rattle.bind_core.proofs.delegate.look_up.Goals.{then-left-eq0-via-then-left-eq0}
use Rattle.bind_core.proofs.delegate.look_up.Goals.{then-left-eq0-via-else-left-eq0+then-not-text_fits}

pub returns-then-left-eq0-clause-step : goal.returns-then-left-eq0-clause-step
returns-then-left-eq0-clause-step g c =
    elim c.then-left-eq0.branch [
      | then-left-eq0-via-then-left-eq0 w ↦
          deep_step (rules_at c.args.scene.now) (names_at c.args.scene.now) (labels_of c.args.path)
          _ c.args.left _ c.requires
          (lookup-zero (rules_at c.args.scene.now) (names_at c.args.scene.now)
          (labels_of c.args.path) c.args.left w.if-left-eq0.true)
      | then-left-eq0-via-else-left-eq0+then-not-text_fits w ↦
          deep_step (rules_at c.args.scene.now) (names_at c.args.scene.now) (labels_of c.args.path)
          _ c.args.left _ c.requires
          (lookup-long (rules_at c.args.scene.now) (names_at c.args.scene.now)
          (labels_of c.args.path) c.args.left
          (long_path w.text_fits.result c.as_path-looked_up.result.now (labels_of c.args.path)
          c.as_path-looked_up.ensures w.text_fits.ensures w.if-not-text_fits.true))
    ]

pub returns-then-work-ge-MOST_WIDE-clause-step : goal.returns-then-work-ge-MOST_WIDE-clause-step
returns-then-work-ge-MOST_WIDE-clause-step g c =
    wide_step (rules_at c.args.scene.now) (names_at c.args.scene.now) (labels_of c.args.path) _
    c.args.left _ _ c.if-work-ge-MOST_WIDE.true (omega arith)
    (short_path c.as_path-looked_up.result.now (labels_of c.args.path) c.as_path-looked_up.ensures
    (c.if-not-text_fits.ensures.0 refl)) refl refl c.clear.ensures.items

pub returns-clause-step : goal.returns-clause-step
returns-clause-step g c =
    on_ok c.first_tree.result
    (λ next. looked_up (rules_at c.args.scene.now) (names_at c.args.scene.now)
    c.as_path-looked_up.result.now (labels_of c.args.path) c.args.left c.args.work.now
    (record {
      stack = c.args.work.now.stack;
      count = c.args.work.now.count + 1;
      visits = c.begin.new.self;
    }) c.first_tree.new.work next c.in_ok-entries.entries.items _
    c.in-Ok.named
    c.as_path-looked_up.ensures c.into_iter.ensures.rest (omega arith)
    (c.if-not-text_fits.ensures.0 refl) c.in_ok-entries.ensures.trees c.in-Ok.ensures.leaf
    refl refl c.begin.ensures.most (rw c.saturating_sub-depth.ensures at
    c.in_ok-begin.ensures.items))
    (c.first_tree.ensures.step (rules_at c.args.scene.now) (names_at c.args.scene.now))

pub returns-then-left-eq0-clause-paid : goal.returns-then-left-eq0-clause-paid
returns-then-left-eq0-clause-paid g c = λ depth start less can. deep_look depth start _ _ _ can

pub returns-then-work-ge-MOST_WIDE-clause-paid : goal.returns-then-work-ge-MOST_WIDE-clause-paid
returns-then-work-ge-MOST_WIDE-clause-paid g c =
    λ depth start less can. wide_look depth start _ _ _ can 10001
    (omega (arith, c.if-work-ge-MOST_WIDE.true, c.requires))

pub returns-clause-paid : goal.returns-clause-paid
returns-clause-paid g c =
    λ depth start less can. on_ok c.first_tree.result
    (λ next first. made_look depth start _ _ _ can (rules_at c.args.scene.now)
    c.as_path-looked_up.result.now (labels_of c.args.path) c.in_ok-entries.entries.items _ _ _ _
    next less c.as_path-looked_up.ensures
    c.into_iter.ensures.rest c.in_ok-entries.ensures.trees c.in_ok-entries.ensures.few_ticks
    c.first_tree.ensures.count first)
    c.first_tree.ensures.moves
