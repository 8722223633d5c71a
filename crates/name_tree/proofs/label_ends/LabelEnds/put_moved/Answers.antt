use Rattle.std.proofs.Common.{◌≡◌, ◌<◌, ◌+◌, ◌-◌, ◌++◌, ◌∷◌, [], ℕ, List, get_or, length, take}
use Rattle.std.proofs.Common.{drop, length-drop, get_or-drop, sym, ap, ◌∙◌, append_assoc, arith}
use Rattle.name_tree.specs.FlatPath.{moved}
use Rattle.name_tree.proofs.FlatPaths.{moved_more, sum_is}
use Rattle.name_tree.proofs.label_ends.LabelEnds.put_moved.Goals as goal

pub loop-at-preserved : goal.loop-at-preserved
loop-at-preserved c =
    let at : ℕ = c.loop-at.at in
    let others : List ℕ = drop c.args.from c.args.others.now in
    let here : at < length others = omega (
      arith,
      c.loop-at-test.true,
      c.requires.order,
      c.requires.within,
      length-drop c.args.from c.args.others.now,
    ) in
    let before : List ℕ = moved c.args.old c.args.new (take at others) in
    let end : c.end.result ≡ get_or others at 0 = c.end.ensures
    ∙ sym (get_or-drop c.args.from c.args.others.now at 0) in
    let one : c.in_ok-ok_or.field-0 ≡ get_or others at 0 - c.args.old + c.args.new =
    sum_is c.checked_add.result c.in_ok-ok_or.field-0 (c.saturating_sub-end.result + c.args.new)
    (c.saturating_sub-end.result + c.args.new < 4294967296) c.checked_add.ensures
    c.in_ok-ok_or.ensures.ok_part
    ∙ (ap (λ (n : ℕ). n + c.args.new) c.saturating_sub-end.ensures
    ∙ ap (λ (n : ℕ). n - c.args.old + c.args.new) end) in
    c.in_ok-push.ensures.ok
    ∙ (ap (λ (xs : List ℕ). xs ++ c.in_ok-ok_or.field-0 ∷ []) c.loop-at.invariant
    ∙ (append_assoc c.args.self.now before (c.in_ok-ok_or.field-0 ∷ [])
    ∙ ap (λ (xs : List ℕ). c.args.self.now ++ xs)
    (ap (λ (n : ℕ). before ++ n ∷ []) one ∙ sym (moved_more c.args.old c.args.new others at here))))
