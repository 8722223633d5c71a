use Rattle.std.proofs.Common.{◌≡◌, ◌<◌, ◌++◌, ◌∙◌, ℕ, arith, get_or, length, rules}
use Rattle.std.proofs.lemmas.List.Sums.{sum_by_more}
use Rattle.metrics_text.specs.Metrics.{bucket_lines}
use Rattle.metrics_text.proofs.Lines.{one_more_bucket}
use Rattle.metrics_text.proofs.metrics.put_buckets.Goals as goal

pub loop-at-preserved : goal.loop-at-preserved
loop-at-preserved c =
    let within : c.loop-at.at < length c.args.buckets.now = search rules in
    let count : c.from-requests.result ≡ get_or c.args.buckets.now c.loop-at.at 0 =
    c.from-requests.ensures ∙ c.bucket_at-count.ensures in
    let more = sum_by_more (λ (x : ℕ). x) c.args.buckets.now c.loop-at.at 0 within in
    record {
      lines =
          one_more_bucket (c.args.out.now.items ++ bucket_lines 0 c.args.buckets.now 0)
          c.loop-at.out.items c.put_bucket.new.out.items c.args.buckets.now c.loop-at.at
          c.bound_at.result.now c.from-requests.result c.loop-at.requests within
          c.bound_at.ensures count c.in_ok-put_bucket.ensures c.loop-at.invariant.lines;
      total = omega (arith, more, count);
      small = omega arith;
    }
