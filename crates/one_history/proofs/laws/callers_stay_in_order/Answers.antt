use Rattle.one_history.proofs.Turning.{others_leave_order, call_keeps_order}
use Rattle.one_history.proofs.laws.callers_stay_in_order.Goals as goal

pub returns : goal.returns
returns g c = record {
  others = λ is_change publishes caller_of. others_leave_order is_change publishes caller_of;
  own = λ is_change publishes caller_of. call_keeps_order is_change publishes caller_of;
}
