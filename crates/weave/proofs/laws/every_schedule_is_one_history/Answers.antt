use Rattle.weave.proofs.Schedules.{every_schedule_is_one_history}
use Rattle.weave.proofs.laws.every_schedule_is_one_history.Goals as goal

pub returns : goal.returns
returns c = every_schedule_is_one_history
