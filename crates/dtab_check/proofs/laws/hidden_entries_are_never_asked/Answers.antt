use Rattle.dtab_check.proofs.Replacing.{may_replace}
use Rattle.dtab_check.proofs.laws.hidden_entries_are_never_asked.Goals as goal

pub returns : goal.returns
returns c = may_replace
