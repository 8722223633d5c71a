use Rattle.std.proofs.Common.{◌≡◌, ◌<◌, ℕ, length, Some, slice_index_or}
use Rattle.line_base.specs.Accepts.{new_listening}
use Rattle.line_doubles.proofs.net.listeners_at.Given as goal

abbrev pub invariant-loop-place : goal.invariant-loop-place
invariant-loop-place g l = record {
  count : length l.listeners.items ≡ l.place;
  new : (at : ℕ) (d : _) → at < length l.listeners.items
      → (slice_index_or l.listeners.items at d).state
      ≡ new_listening (Some (record { ip = l.ip; port = l.port; place = at })) l.room;
}
