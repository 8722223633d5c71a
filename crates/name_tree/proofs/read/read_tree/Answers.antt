use Rattle.name_tree.specs.Grammar.{TreeText}
use Rattle.name_tree.specs.TreeReading.{next_state, ended_state}
use Rattle.name_tree.specs.Tree.{value_of}
use Rattle.name_tree.specs.Computed.{tree_of}
use Rattle.name_tree.proofs.Computing.{computes_trees, computed}
use Rattle.name_tree.proofs.Only.{only, sound_tree}
use Rattle.name_tree.proofs.Recognisers.{one_value}
use Rattle.name_tree.proofs.TreeLaws.{tree_laws, tree_start}
use Rattle.name_tree.proofs.read.read_tree.Goals as goal

pub returns-clause-only : goal.returns-clause-only
returns-clause-only c name is =
    only TreeText value_of
    (λ text v w p q. one_value next_state ended_state tree_start TreeText tree_laws text v w p q)
    c.args.text.now _ c.tree_in.ensures name is

pub returns-clause-sound : goal.returns-clause-sound
returns-clause-sound c = sound_tree value_of c.args.text.now _ c.tree_in.ensures

pub returns-clause-computed : goal.returns-clause-computed
returns-clause-computed c = computed tree_of TreeText computes_trees value_of c.args.text.now _
    c.tree_in.ensures
