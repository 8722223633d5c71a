-- The text of the metrics.
use Rattle.std.proofs.Common.{◌≡◌, List, ℕ, Result, length, sym, subst}
use Rattle.std.specs.Prelude.{IfOk}
use Rattle.std.specs.declared.alloc.AllocError.{AllocError}
use Rattle.std.specs.declared.alloc.Global.{Global}
use Rattle.std.specs.declared.vec.Vec.{Vec}
use Rattle.machine.specs.Code.{reply_value}
use Rattle.machine.specs.declared.reply.Reply.{Reply}
use Rattle.machine.specs.declared.reply.ServiceState.{ServiceState}
use Rattle.machine.specs.Values.{ReplyValue, services}
use Rattle.metrics_text.specs.declared.counts.Counts.{Counts}
use Rattle.scrape.specs.Counts.{counts_by}
use Rattle.scrape.specs.declared.sums.Sums.{Sums}
use Rattle.admin_api.specs.Metrics.{IsMetricsBody, IsTextOf, state_of, sum_at}

-- it is that of what the state replied
pub body_as : (said : Reply) (sums : Sums) (changes marks spaces written : ℕ)
    (list : List ServiceState) (kept : ℕ)
    (counts : Counts) (shown : List ServiceState) (result : Result (Vec ℕ Global) AllocError)
    → reply_value said ≡ services changes marks spaces written list
    → counts ≡ counts_by (sum_at sums) (state_of changes marks spaces written (length list) kept)
    → shown ≡ list → IfOk result (λ text. IsTextOf counts shown text.items)
    → IfOk result (λ text. IsMetricsBody (reply_value said) kept sums text.items)
body_as said sums changes marks spaces written list kept counts shown result is these same h =
    subst (λ (v : ReplyValue). IfOk result (λ text. IsMetricsBody v kept sums text.items)) (sym is)
    (subst (λ (l : List ServiceState). IfOk result (λ text. IsTextOf
    (counts_by (sum_at sums) (state_of changes marks spaces written (length list) kept)) l
    text.items)) same
    (subst (λ (n : Counts). IfOk result (λ text. IsTextOf n shown text.items)) these h))
