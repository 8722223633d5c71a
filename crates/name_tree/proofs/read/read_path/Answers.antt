use Rattle.name_tree.specs.Grammar.{PathText}
use Rattle.name_tree.specs.PathReading.{before, next_path, end_path}
use Rattle.name_tree.specs.Computed.{path_of}
use Rattle.name_tree.proofs.Computing.{computes_paths, computed}
use Rattle.name_tree.proofs.Only.{only, labelled_path}
use Rattle.name_tree.proofs.Recognisers.{one_value}
use Rattle.name_tree.proofs.PathLaws.{path_laws}
use Rattle.name_tree.proofs.read.read_path.Goals as goal

pub returns-clause-only : goal.returns-clause-only
returns-clause-only c path is = only PathText (λ p. p)
    (λ text v w p q. one_value next_path end_path before PathText path_laws text v w p q)
    c.args.text.now _ c.path_in.ensures path is

pub returns-clause-labels : goal.returns-clause-labels
returns-clause-labels c = labelled_path (λ p. p) c.args.text.now _ c.path_in.ensures

pub returns-clause-computed : goal.returns-clause-computed
returns-clause-computed c = computed path_of PathText computes_paths
    (λ p. p) c.args.text.now _ c.path_in.ensures
