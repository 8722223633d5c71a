-- What the reader of tables of the code stands for.
use Rattle.std.specs.Prelude.{ℕ, List, map}
use Rattle.name_tree.specs.TreeReading.{State as TreeState}
use Rattle.name_tree.specs.TreeReaders.{state_of as tree_state_of}
use Rattle.dtab_table.specs.declared.table_reader.Mode.{Mode as ReaderMode}
use Rattle.dtab_table.specs.declared.table_reader.Mode.TheVariants as reader
use Rattle.dtab_table.specs.declared.table_reader.TableReader.{TableReader}
use Rattle.dtab_table.specs.Pattern.{Pattern}
use Rattle.dtab_table.specs.Rules.{Rule, rule_of}
use Rattle.dtab_table.specs.PrefixReading.{Walk}
use Rattle.dtab_table.specs.Readers.{walk_of}
use Rattle.dtab_table.specs.TableReading.{Mode, State, table_depth}

abbrev pub rules_in : TableReader → List Rule
rules_in r = map rule_of r.entries.items

abbrev pub walk_in : TableReader → Walk
walk_in r = walk_of r.walk

abbrev pub prefix_in : TableReader → List Pattern
prefix_in r = r.prefix

abbrev pub tree_in : TableReader → TreeState
tree_in r = tree_state_of r.tree

abbrev pub mode_of : ReaderMode → Walk → List Pattern → TreeState → Mode
mode_of reader.Start at ps q = Mode.start
mode_of reader.Walk at ps q = Mode.walk at
mode_of reader.Behind at ps q = Mode.behind ps
mode_of reader.Arrow at ps q = Mode.arrow ps
mode_of reader.Tree at ps q = Mode.tree ps q

abbrev pub state_of : TableReader → State
state_of r = (rules_in r, mode_of r.mode (walk_in r) (prefix_in r) (tree_in r))

abbrev pub depth_of : TableReader → ℕ
depth_of r = table_depth (state_of r)
