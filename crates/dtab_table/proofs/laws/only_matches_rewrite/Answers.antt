use Rattle.dtab_table.proofs.Matches.{in_turn, nothing, unchanged}
use Rattle.dtab_table.proofs.laws.only_matches_rewrite.Goals as goal

pub returns : goal.returns
returns c = record { joined = in_turn; unmatched = nothing; changed = unchanged }
