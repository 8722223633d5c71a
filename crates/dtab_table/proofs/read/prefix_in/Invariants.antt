use Rattle.std.proofs.Common.{◌≡◌, take, Some}
use Rattle.name_tree.specs.Recogniser.{run}
use Rattle.dtab_table.specs.PrefixReading.{before, next_prefix}
use Rattle.dtab_table.specs.Readers.{prefix_at_of}
use Rattle.dtab_table.proofs.read.prefix_in.Given as goal

abbrev pub invariant-loop-byte : goal.invariant-loop-byte
invariant-loop-byte l = run next_prefix before (take l.byte-index l.text)
    ≡ Some (prefix_at_of l.reader)
