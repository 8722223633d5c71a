-- What the readers of the code stand for.
use Rattle.name_tree.specs.Path.{Label, Labels}
use Rattle.name_tree.specs.declared.label.InLabel.{InLabel}
use Rattle.name_tree.specs.declared.label.InLabel.TheVariants.{Bytes, Escape, Hex, Digit}
use Rattle.name_tree.specs.declared.label.LabelReader.{LabelReader}
use Rattle.name_tree.specs.declared.walk.PathReader.{PathReader}
use Rattle.name_tree.specs.declared.path_text.PathPlace.{PathPlace}
use Rattle.name_tree.specs.declared.path_text.PathPlace.TheVariants.{Before, Inside, Behind}
use Rattle.name_tree.specs.declared.path_text.PathTextReader.{PathTextReader}
use Rattle.name_tree.specs.LabelReading.{Spelling, bytes, escape, hex, digit}
use Rattle.name_tree.specs.PathReading.{Walk, PathAt, before, inside, behind}

abbrev pub spelling_at : InLabel → Label → Spelling
spelling_at Bytes l = bytes l
spelling_at Escape l = escape l
spelling_at Hex l = hex l
spelling_at (Digit high) l = digit l high.value

abbrev pub spelling_of : LabelReader → Spelling
spelling_of reader = spelling_at reader.place reader.bytes.items

abbrev pub walk_of : PathReader → Walk
walk_of reader = record { before = reader.path; label = spelling_of reader.label }

abbrev pub path_at : PathPlace → Walk → Labels → PathAt
path_at Before at ls = before
path_at Inside at ls = inside at
path_at Behind at ls = behind ls

abbrev pub path_at_of : PathTextReader → PathAt
path_at_of reader = path_at reader.place (walk_of reader.reader) reader.path
