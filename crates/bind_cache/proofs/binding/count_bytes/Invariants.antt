use Rattle.std.proofs.Common.{◌≡◌, length, take}
use Rattle.dtab_table.specs.Dtab.{rules_of}
use Rattle.bind_cache.specs.Sizes.{text_bytes}
use Rattle.bind_cache.proofs.binding.count_bytes.Given as goal

abbrev pub invariant-loop-looked_up : goal.invariant-loop-looked_up
invariant-loop-looked_up l = length l.text.items
    ≡ text_bytes l.path (rules_of l.local) (take l.looked_up-index l.asked)
