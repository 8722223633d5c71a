use Rattle.std.proofs.Common.{List}
use Rattle.dtab_table.specs.Pattern.{Pattern}
use Rattle.dtab_table.proofs.PrefixSounds.{only, sound_prefix}
use Rattle.dtab_table.proofs.read.read_prefix.Goals as goal

pub returns-clause-only : goal.returns-clause-only
returns-clause-only c labels is = only (λ (prefix : List Pattern). prefix) c.args.text.now _
    c.prefix_in.ensures labels is

pub returns-clause-labels : goal.returns-clause-labels
returns-clause-labels c = sound_prefix (λ (prefix : List Pattern). prefix) c.args.text.now _
    c.prefix_in.ensures
