use Rattle.std.proofs.Common.{rules, nat_eq, ◌==◌, tests}
use Rattle.std.specs.List.{starts_with}
use Rattle.std.proofs.lemmas.Iterator.Search.{find_from_yields_List}
use Rattle.std.proofs.lemmas.Iterator.Splits.{YieldsList-from_slice_split}
use Rattle.signal_watch.proofs.status.line_at.Goals as goal

pub returns : goal.returns
returns c =
    find_from_yields_List (λ line. starts_with nat_eq line c.args.name.now) _ _ c.find.result
    c.find.ensures.ran
    (YieldsList-from_slice_split _ (λ b. b == 10) c.args.status.now c.split.ensures.rest
    c.split.ensures.done c.split.ensures.closure (λ x b q k. search (rules, tests)))
    (λ x b q k. search (rules, tests))
