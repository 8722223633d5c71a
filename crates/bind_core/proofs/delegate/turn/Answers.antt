use Rattle.bind_core.specs.declared.frame.Frame.TheVariants.{FirstOf, Union}
use Rattle.bind_core.proofs.Turns.{told_choice, told_union, turn_of}
use Rattle.bind_core.proofs.delegate.turn.Goals as goal

pub returns-in-FirstOf-clause-step : goal.returns-in-FirstOf-clause-step
returns-in-FirstOf-clause-step c = λ rules names. told_choice rules names _ c.in-FirstOf.choice
    c.args.frame c.args.told _ _ c.next_tree.result c.in-FirstOf.is
    (c.next_tree.ensures.step rules names)

pub returns-in-Union-clause-step : goal.returns-in-Union-clause-step
returns-in-Union-clause-step c = λ rules names. told_union rules names _ c.in-Union.union
    c.args.frame c.args.told _ _ c.next_branch.result c.in-Union.is
    (c.next_branch.ensures.step rules names)

pub returns-in-FirstOf-clause-moves : goal.returns-in-FirstOf-clause-moves
returns-in-FirstOf-clause-moves c = turn_of (FirstOf c.in-FirstOf.choice) c.args.frame _ _ _
    c.next_tree.result c.in-FirstOf.is c.next_tree.ensures.moves

pub returns-in-Union-clause-moves : goal.returns-in-Union-clause-moves
returns-in-Union-clause-moves c = turn_of (Union c.in-Union.union) c.args.frame _ _ _
    c.next_branch.result c.in-Union.is c.next_branch.ensures.moves
