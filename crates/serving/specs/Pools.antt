-- Which connections to replicas are kept.
use Rattle.std.specs.Prelude.{Option, None, Some}
use Rattle.line_base.specs.declared.dialer.ConnectionPool.{ConnectionPool}

-- the pool of a worker: one that has no room for any connection, where none is configured
abbrev pub pool_by : Option ConnectionPool → ConnectionPool
pool_by None = record { max_size = 0; idle_ms = 0 }
pool_by (Some pool) = pool
