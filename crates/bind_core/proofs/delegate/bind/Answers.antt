use Rattle.std.proofs.Common.{refl, ap, ◌∙◌}
use Rattle.bind_core.specs.declared.visits.Visits.{Visits}
use Rattle.bind_core.specs.Outcome.{paths_for, items_for}
use Rattle.bind_core.specs.Tables.{rules_in}
use Rattle.addr_book.specs.Namer.{named_in}
use Rattle.bind_core.proofs.Bounded.{bounded_outcome}
use Rattle.bind_core.proofs.Filled.{filled_outcome}
use Rattle.bind_core.proofs.Telling.{delegated}
use Rattle.bind_core.proofs.Widths.{width}
use Rattle.bind_core.proofs.delegate.bind.Goals as goal

pub returns-clause-delegated : goal.returns-clause-delegated
returns-clause-delegated g c =
    delegated (rules_in c.args.tables.now) (named_in c.args.book.now) c.args.path.now c.args.wanted
    _ c.evaluate.new.work _ (c.new-work.ensures.fits.most_is ∙ c.most_kept.ensures)
    c.in_ok-outcome.ensures.answer refl
    (c.in-Ok.ensures.asked
    ∙ ap (λ (v : Visits). paths_for c.args.wanted v.items.items) c.into_visits.ensures)
    (c.in-Ok.ensures.trace
    ∙ ap (λ (v : Visits). items_for c.args.wanted v.items.items) c.into_visits.ensures)

pub returns-clause-width : goal.returns-clause-width
returns-clause-width g c = width (rules_in c.args.tables.now) (named_in c.args.book.now) 100
    c.args.path.now _ _ c.in_ok-outcome.ensures.answer.outcome c.in_ok-outcome.ensures.answer.count

pub returns-clause-filled : goal.returns-clause-filled
returns-clause-filled g c = filled_outcome (rules_in c.args.tables.now) (named_in c.args.book.now)
    c.args.path.now _ c.in_ok-outcome.ensures.answer.outcome

pub returns-clause-bounded : goal.returns-clause-bounded
returns-clause-bounded g c = bounded_outcome (rules_in c.args.tables.now) (named_in c.args.book.now)
    c.args.path.now _ c.in_ok-outcome.ensures.answer.outcome
