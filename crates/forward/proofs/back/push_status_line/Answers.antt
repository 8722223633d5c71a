use Rattle.std.proofs.Common.{◌≡◌, List, ℕ, ◌++◌, OnOk, subst, ap, ◌∙◌}
use Rattle.forward.proofs.Joined.{status_put}
use Rattle.forward.proofs.back.push_status_line.Goals as goal

pub returns : goal.returns
returns c =
    let digits = ap (λ (t : List ℕ). c.extend_from_slice.new.self.items ++ t)
    c.three_digits-digits.ensures in
    subst (λ (t : List ℕ). OnOk c.end_line.result (c.end_line.new.head.items ≡ t))
    (status_put _ _ _ _ _ _ _ _ _ c.in_ok-extend_from_slice.ensures.items
    (c.in_ok-extend_from_slice-2.ensures.items ∙ digits) c.in_ok-extend_from_slice-3.ensures.items
    c.in_ok-extend_from_slice-4.ensures.items) c.end_line.ensures
