-- What the code's caches say.
use Rattle.std.specs.Prelude.{List}
use Rattle.bind_cache.specs.declared.cache.Cache.{Cache}
use Rattle.bind_cache.specs.Kept.{Kept}
use Rattle.bind_cache.specs.Stored.{all_kept}

-- the bindings of a cache, the oldest first
abbrev pub bindings_of : Cache → List Kept
bindings_of cache = all_kept cache.bindings.items
