use Rattle.std.proofs.Common.{◌≤◌, ◌-◌, vec_len}
use Rattle.serving.proofs.jobs.make_rooms.Given as goal

abbrev pub invariant-rooms : goal.invariant-rooms
invariant-rooms l = vec_len l.rooms ≤ l.count

abbrev pub decreases-rooms : goal.decreases-rooms
decreases-rooms l = l.count - vec_len l.rooms
