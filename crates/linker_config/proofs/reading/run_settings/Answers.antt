use Rattle.serde_json.specs.View.{view}
use Rattle.linker_config.specs.Config.{run_told}
use Rattle.linker_config.proofs.Chains.{told_on}
use Rattle.linker_config.proofs.reading.run_settings.Goals as goal

pub returns-in_err-workers-clause-told : goal.returns-in_err-workers-clause-told
unfolding run_told
returns-in_err-workers-clause-told c =
    told_on (run_told (view c.args.tree.now)) c.in_err-workers.field-0.0
    c.from_residual.result c.from_residual.ensures.1 c.in_err-workers.ensures.number.0
    (λ some. rw (c.in_err-workers.ensures.number.1 some))

pub returns-in_err-seed-clause-told : goal.returns-in_err-seed-clause-told
unfolding run_told
returns-in_err-seed-clause-told c =
    told_on (run_told (view c.args.tree.now)) c.in_err-seed.field-0.0
    c.from_residual-in_err-seed.result c.from_residual-in_err-seed.ensures.1
    c.in_err-seed.ensures.number.0
    (λ some. rw (c.in_ok-workers.ensures.number, c.in_err-seed.ensures.number.1 some))

pub returns-in_err-feed-clause-told : goal.returns-in_err-feed-clause-told
unfolding run_told
returns-in_err-feed-clause-told c =
    told_on (run_told (view c.args.tree.now)) c.in_err-feed.field-0.0
    c.from_residual-in_err-feed.result c.from_residual-in_err-feed.ensures.1
    c.in_err-feed.ensures.0
    (λ some. rw (
      c.in_ok-workers.ensures.number,
      c.in_ok-seed.ensures.number,
      c.in_err-feed.ensures.1 some,
    ))

pub returns-clause-told : goal.returns-clause-told
unfolding run_told
returns-clause-told c =
    rw (c.in_ok-workers.ensures.number, c.in_ok-seed.ensures.number, c.in_ok-feed.ensures)
