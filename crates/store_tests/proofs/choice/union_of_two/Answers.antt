use Rattle.std.proofs.Common.{◌∙◌, ap, ◌∷◌, [], ◌++◌, List, arith}
use Rattle.addr_book.specs.declared.bound.BoundItem.{BoundItem}
use Rattle.addr_book.specs.Bound.{listed_items}
use Rattle.choose_core.proofs.Branches.{union_good}
use Rattle.store_tests.proofs.choice.union_of_two.Goals as goal

pub returns : goal.returns
returns c =
    let item : BoundItem = record { weight = c.args.weight; bound = c.args.bound } in
    let other : BoundItem = record { weight = c.args.other_weight; bound = c.args.other } in
    let one = c.in_ok-push.ensures.items
    ∙ ap (λ (xs : List BoundItem). xs ++ item ∷ []) c.new-items.ensures.items in
    let items = c.in_ok-push-2.ensures.items ∙ ap (λ (xs : List BoundItem). xs ++ other ∷ []) one in
    union_good _ (item ∷ other ∷ []) (c.of.ensures ∙ ap listed_items items) (omega arith)
    (omega arith) (
      c.requires.weight.0,
      c.requires.good.filled,
      (c.requires.other_weight.0, c.requires.other_good.filled, tt),
    ) (
      c.requires.weight.1,
      c.requires.good.bounded,
      (c.requires.other_weight.1, c.requires.other_good.bounded, tt),
    )
