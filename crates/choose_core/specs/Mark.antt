-- Marks, what a report leaves of one, and when an address is dead.
use Rattle.std.specs.Prelude.{ℕ, ◌+◌, ◌-◌, ◌^◌, ◌==◌, ◌&&◌, nat_lt, min, Bool, if◌then◌else◌}
use Rattle.choose_core.specs.declared.mark.Mark.{Mark}
use Rattle.choose_core.specs.declared.mark.Limits.{Limits}

-- of an address without failures
abbrev pub no_mark : Mark
no_mark = record { count = 0; until = 0 }

-- one failure more, up to the limit; once it is reached, the address is left out until the moment
-- plus the backoff
abbrev pub after_failure : Mark → ℕ → Limits → Mark
after_failure mark moment limits =
    let count = min (mark.count + 1) limits.failures in
    record {
      count = count;
      until = if count == limits.failures then min (moment + limits.backoff) (2 ^ 64 - 1)
          else mark.until;
    }

-- what a report leaves, which is of a success or of a failure
abbrev pub marked : Mark → Bool → ℕ → Limits → Mark
marked mark good moment limits = if good then no_mark else after_failure mark moment limits

-- the failures have reached the limit, and the moment has not come
abbrev pub is_dead_mark : Mark → ℕ → Limits → Bool
is_dead_mark mark moment limits = mark.count == limits.failures && nat_lt moment mark.until
