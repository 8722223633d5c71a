use Rattle.std.proofs.Common.{◌≡◌, ℕ, List, ◌++◌, OnOk, map, refl, subst}
use Rattle.forward.proofs.Joined.{left_kept}
use Rattle.forward.proofs.dropped.push_kept.Goals as goal

pub returns : goal.returns
returns c =
    subst (λ (lines : List ℕ). OnOk c.push_left-pushed.result
    (c.push_left-pushed.new.head.items ≡ c.args.head.now.items ++ lines))
    (left_kept (map (λ n. n.now) c.args.never.now) c.in_ok-listed.listed c.args.fields.now
    c.args.fields.now refl c.in_ok-listed.ensures)
    c.push_left-pushed.ensures
