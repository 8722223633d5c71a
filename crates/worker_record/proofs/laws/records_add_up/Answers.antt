use Rattle.worker_record.proofs.Adding.{records_add_up}
use Rattle.worker_record.proofs.laws.records_add_up.Goals as goal

pub returns : goal.returns
returns c = records_add_up
