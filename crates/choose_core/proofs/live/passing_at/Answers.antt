use Rattle.std.proofs.Common.{sym, ◌∙◌, ap, subst, length, ◌<◌, List}
use Rattle.std.specs.Prelude.{slice_get}
use Rattle.addr_book.specs.declared.addr.Weighted.{Weighted}
use Rattle.choose_core.proofs.Passing.{has_place, whole}
use Rattle.choose_core.proofs.live.passing_at.Goals as goal

pub item_at-requires : goal.item_at-requires
item_at-requires c =
    subst (λ (xs : List Weighted). c.args.at < length xs)
    (whole c.args.sieve.now c.args.list.now (sym c.takes_all.ensures ∙ c.if-takes_all.true))
    c.requires.within

pub returns-then-takes_all : goal.returns-then-takes_all
returns-then-takes_all c =
    ap (λ xs. slice_get xs c.args.at)
    (whole c.args.sieve.now c.args.list.now (sym c.takes_all.ensures ∙ c.if-takes_all.true))
    ∙ c.item_at.ensures

pub unreachable-requires : goal.unreachable-requires
unreachable-requires c = has_place _ c.args.at c.requires.within
    (sym c.nth_passing.ensures ∙ c.in-None.is)
