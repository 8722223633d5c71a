use Rattle.std.proofs.lemmas.List.{map-append}
use Rattle.dtab_table.proofs.Matches.{filled_more}
use Rattle.dtab_table.proofs.prefix.Prefix.push.Goals as goal

pub invariant_of-self-2 : goal.invariant_of-self-2
invariant_of-self-2 c = rw c.in_ok-push.ensures.items
    (rw map-append (filled_more _ _ c.self.invariant c.requires))
