-- Samples of buckets by their place.
use Rattle.std.proofs.Common.{◌≡◌, ℕ, suc, ◌+◌, ◌<◌, List, ◌++◌, length, get_or, drop, sym, ap, ◌∙◌}
use Rattle.std.proofs.Common.{add-one, append_assoc, drop-cons}
use Rattle.metrics_text.specs.Metrics.{bound_at, bucket_line, bucket_lines}

-- one more bucket
pub one_more_bucket : (before out new : List ℕ) (ns : List ℕ) (at : ℕ) (b : List ℕ) (n all : ℕ)
    → at < length ns → b ≡ bound_at at → n ≡ get_or ns at 0
    → new ≡ out ++ bucket_line b (all + n)
    → out ++ bucket_lines at (drop at ns) all ≡ before
    → new ++ bucket_lines (at + 1) (drop (at + 1) ns) (all + n) ≡ before
one_more_bucket before out new ns at b n all within is_b is_n is so_far =
    let rest : List ℕ = bucket_lines (at + 1) (drop (suc at) ns) (all + n) in
    let first : bucket_lines at (drop at ns) all ≡ bucket_line b (all + n) ++ rest =
    ap (λ (l : List ℕ). bucket_lines at l all) (drop-cons ns at 0 within)
    ∙ (ap (λ (k : ℕ). bucket_line (bound_at at) (all + k)
    ++ bucket_lines (at + 1) (drop (suc at) ns) (all + k)) (sym is_n)
    ∙ ap (λ (t : List ℕ). bucket_line t (all + n) ++ rest) (sym is_b)) in
    let later : bucket_lines (at + 1) (drop (at + 1) ns) (all + n) ≡ rest =
    ap (λ (k : ℕ). bucket_lines (at + 1) (drop k ns) (all + n)) (add-one at) in
    ap (λ (ls : List ℕ). new ++ ls) later
    ∙ (ap (λ (o : List ℕ). o ++ rest) is
    ∙ (append_assoc out (bucket_line b (all + n)) rest
    ∙ (ap (λ (ls : List ℕ). out ++ ls) (sym first) ∙ so_far)))
