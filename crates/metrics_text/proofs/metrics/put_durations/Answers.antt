use Rattle.std.proofs.Common.{◌≡◌, ℕ, ◌++◌, codes, subst}
use Rattle.std.specs.Fmt.{decimal}
use Rattle.std.specs.Result.{OnOk}
use Rattle.metrics_text.specs.declared.format.Kind.TheVariants.{Histogram}
use Rattle.metrics_text.specs.Format.{head_lines, value_line}
use Rattle.metrics_text.specs.Metrics.{bucket_lines, durations_text, seconds_text}
use Rattle.metrics_text.proofs.Joins.{last, more}
use Rattle.metrics_text.proofs.metrics.put_durations.Goals as goal

pub returns : goal.returns
unfolding durations_text
returns c =
    let e2 = more _ _ _ _ _ c.in_ok-put_head.ensures c.in_ok-requests.ensures.1 in
    let e3 = more _ _ _ _ _ e2 c.in_ok-extend_from_slice.ensures.items in
    let e4 = more _ _ _ _ _ e3 c.in_ok-put_seconds.ensures in
    let e5 = more _ _ _ _ _ e4 c.in_ok-extend_from_slice-2.ensures.items in
    let whole = last _ _ _ _ _ _ e5 c.put_value.ensures in
    subst
    (λ (n : ℕ). OnOk c.put_value.result (c.put_value.new.out.items ≡ c.args.out.now.items
    ++ (head_lines (codes "linker_request_duration_seconds") Histogram
    (codes "How long requests took, until the end of their reply.")
    ++ bucket_lines 0 c.args.durations.now.buckets 0
    ++ codes "linker_request_duration_seconds_sum "
    ++ seconds_text c.args.durations.now.milliseconds
    ++ codes "\nlinker_request_duration_seconds_count" ++ value_line (decimal n))))
    c.in_ok-requests.ensures.0 whole
