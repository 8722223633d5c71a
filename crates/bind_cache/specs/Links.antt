-- What the code's chains say, and when they are right.
use Rattle.std.specs.Prelude.{◌≡◌, ◌≢◌, ℕ, ◌+◌, ◌-◌, ◌^◌, ◌<◌, ◌≤◌, List, length, map, slice_index}
use Rattle.bind_cache.specs.declared.chains.Link.{Link}
use Rattle.bind_cache.specs.declared.chains.Chains.TheInside.{Inside}
use Rattle.bind_cache.specs.Chain.{Chained, bucket_of, buckets}

abbrev pub hashes_in : List Link → List ℕ
hashes_in links = map (λ l. l.hash) links

abbrev pub befores_in : List Link → List ℕ
befores_in links = map (λ l. l.before) links

abbrev pub chained_in : Inside → Chained
chained_in c = record { first = c.first; hashes = hashes_in c.links.items }

-- a number of the last before a place that is in a bucket, where hashes are numbered from the first
-- on. It is less than the first where there is none
pub record IsLast (first : ℕ) (hashes : List ℕ) (bucket top number : ℕ) : Type 0 where
  pub below : number < first + top
  pub here : first ≤ number → bucket_of (slice_index hashes (number - first)) ≡ bucket
  pub none : (k : ℕ) → k < top → number < first + k → bucket_of (slice_index hashes k) ≢ bucket

-- each bucket leads to its last hash, and each hash to the last before it in its bucket
pub record AreLinked (first : ℕ) (newest : List ℕ) (links : List Link) : Type 0 where
  pub newest_is : (bucket : ℕ) → bucket < buckets
      → IsLast first (hashes_in links) bucket (length links) (slice_index newest bucket)
  pub before_is : (k : ℕ) → k < length links
      → IsLast first (hashes_in links) (bucket_of (slice_index (hashes_in links) k)) k
      (slice_index (befores_in links) k)

pub record AreChained (c : Inside) : Type 0 where
  pub room : c.links.capacity ≡ 1024
  pub few : length c.links.items ≤ 1024
  pub buckets_are : length c.newest.items ≡ buckets
  pub some : 1 ≤ c.first
  pub numbers : c.first + length c.links.items < 2 ^ 64
  pub linked : AreLinked c.first c.newest.items c.links.items
