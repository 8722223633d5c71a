-- What the reader of trees of the code stands for.
use Rattle.std.specs.Prelude.{◌*◌, List, [], ◌∷◌, ◌++◌, map}
use Rattle.name_tree.specs.declared.tree_text.Frame.{Frame as OpenFrame}
use Rattle.name_tree.specs.declared.tree_text.Mode.{Mode as ReaderMode}
use Rattle.name_tree.specs.declared.tree_text.Mode.TheVariants as reader
use Rattle.name_tree.specs.declared.tree_text.TreeReader.{TreeReader}
use Rattle.name_tree.specs.Tree.{value_of}
use Rattle.name_tree.specs.Parts.{part_of}
use Rattle.name_tree.specs.PathReading.{Walk}
use Rattle.name_tree.specs.TreeReading.{Frame, Place, Mode, State}
use Rattle.name_tree.specs.Readers.{walk_of}

abbrev pub frame_of : OpenFrame → Frame
frame_of f =
    record {
      alts = map value_of f.alts.items;
      parts = map part_of f.parts.items;
      weight = f.weight;
    }

-- the last parenthesis is the innermost
abbrev pub frames_of : List OpenFrame → List Frame
frames_of [] = []
frames_of (f ∷ fs) = frames_of fs ++ frame_of f ∷ []

abbrev pub place_of : TreeReader → Place
place_of r =
    record {
      outer = frames_of r.outer.items;
      alts = map value_of r.alts.items;
      parts = map part_of r.parts.items;
    }

abbrev pub mode_of : ReaderMode → Walk → Mode
mode_of reader.Start at = Mode.start
mode_of (reader.Whole w) at = Mode.whole w.value w.digits
mode_of (reader.Point w) at = Mode.point (w.value * 1000000)
mode_of (reader.Decimals d) at = Mode.decimals d.millionths d.unit
mode_of (reader.Weight n) at = Mode.weight n
mode_of (reader.Star n) at = Mode.star n
mode_of (reader.Walk w) at = Mode.walk w at
mode_of reader.Behind at = Mode.behind

-- the path that is read
abbrev pub walk_in : TreeReader → Walk
walk_in r = walk_of r.path

abbrev pub state_of : TreeReader → State
state_of r = (place_of r, mode_of r.mode (walk_in r))
