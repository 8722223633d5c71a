use Rattle.http_wire.proofs.Excluding.{readings_exclude, reply_readings_exclude}
use Rattle.http_wire.proofs.laws.readings_exclude_one_another.Goals as goal

pub returns-clause-requests : goal.returns-clause-requests
returns-clause-requests c = readings_exclude

pub returns-clause-replies : goal.returns-clause-replies
returns-clause-replies c = reply_readings_exclude
