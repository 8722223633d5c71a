use Rattle.name_tree.specs.Grammar.{PathText, TreeText}
use Rattle.name_tree.specs.PathReading.{before, next_path, end_path}
use Rattle.name_tree.specs.TreeReading.{next_state, ended_state}
use Rattle.name_tree.proofs.Recognisers.{one_value}
use Rattle.name_tree.proofs.PathLaws.{path_laws}
use Rattle.name_tree.proofs.TreeLaws.{tree_laws, tree_start}
use Rattle.name_tree.proofs.laws.texts_have_one_value.Goals as goal

pub returns : goal.returns
returns c = record {
  paths = λ text v w p q. one_value next_path end_path before PathText path_laws text v w p q;
  trees = λ text v w p q. one_value next_state ended_state tree_start TreeText tree_laws text v w p
      q;
}
