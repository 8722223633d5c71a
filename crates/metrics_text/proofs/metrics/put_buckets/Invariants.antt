use Rattle.std.proofs.Common.{◌≡◌, ◌++◌, ◌*◌, ◌≤◌, ◌^◌, drop, sum, take}
use Rattle.metrics_text.specs.Metrics.{bucket_lines}
use Rattle.metrics_text.proofs.metrics.put_buckets.Given as goal

abbrev pub invariant-loop-at : goal.invariant-loop-at
invariant-loop-at l = record {
  lines :
      l.out.items ++ bucket_lines l.at (drop l.at l.buckets) l.requests
      ≡ l.fn.out.items ++ bucket_lines 0 l.buckets 0;
  total : l.requests ≡ sum (take l.at l.buckets);
  small : l.requests ≤ l.at * 2 ^ 64;
}
