-- What the readers of prefixes of the code stand for.
use Rattle.std.specs.Prelude.{List, if◌then◌else◌}
use Rattle.name_tree.specs.Readers.{spelling_of}
use Rattle.dtab_table.specs.declared.prefix_reader.PrefixReader.{PrefixReader}
use Rattle.dtab_table.specs.Pattern.{Pattern}
use Rattle.dtab_table.specs.declared.prefix_text.PrefixPlace.{PrefixPlace}
use Rattle.dtab_table.specs.declared.prefix_text.PrefixPlace.TheVariants.{Before, Inside, Behind}
use Rattle.dtab_table.specs.declared.prefix_text.PrefixTextReader.{PrefixTextReader}
use Rattle.dtab_table.specs.PrefixReading.{label, star, Walk, PrefixAt, before, inside, behind}

abbrev pub walk_of : PrefixReader → Walk
walk_of reader =
    record {
      before = reader.prefix;
      part = if reader.is_star then star else label (spelling_of reader.label);
    }

abbrev pub prefix_at : PrefixPlace → Walk → List Pattern → PrefixAt
prefix_at Before at ps = before
prefix_at Inside at ps = inside at
prefix_at Behind at ps = behind ps

abbrev pub prefix_at_of : PrefixTextReader → PrefixAt
prefix_at_of reader = prefix_at reader.place (walk_of reader.reader) reader.prefix
