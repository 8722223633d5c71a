use Rattle.std.proofs.Common.{◌≡◌, ◌+◌, ℕ, List, length, take, ap, ◌∙◌}
use Rattle.name_tree.specs.FlatPath.{start_at}
use Rattle.name_tree.proofs.FlatPaths.{label_pushed, label_kept}
use Rattle.name_tree.proofs.flat_labels.FlatLabels.push.Goals as goal

pub invariant_of-self-in-Ok : goal.invariant_of-self-in-Ok
invariant_of-self-in-Ok c =
    let ends : List ℕ = c.self.inside.ends in
    let bytes : List ℕ = c.self.inside.bytes.items in
    let start : c.start-start.result ≡ start_at 0 ends (length ends) =
    c.start-start.ensures ∙ ap (start_at 0 ends) c.len.ensures in
    let end : c.in_ok-end.end ≡ c.start-start.result + length c.args.label.now =
    c.in_ok-end.ensures in
    let all = label_pushed ends bytes c.push.new.self c.extend_from_slice.new.self.items
    c.args.self.now c.args.label.now c.start-start.result c.in_ok-end.end c.self.invariant
    c.self.view_is start end c.requires c.in-Ok.ensures.ok
    c.in_ok-extend_from_slice.ensures.items in
    all.1

pub invariant_of-self-in-Err : goal.invariant_of-self-in-Err
invariant_of-self-in-Err c =
    let ends : List ℕ = c.self.inside.ends in
    let bytes : List ℕ = c.self.inside.bytes.items in
    let start : c.start-start.result ≡ start_at 0 ends (length ends) =
    c.start-start.ensures ∙ ap (start_at 0 ends) c.len.ensures in
    let all = label_kept ends bytes c.push.new.self c.truncate.new.self.items c.args.self.now
    c.args.label.now c.start-start.result c.self.invariant c.self.view_is start c.in-Err.ensures.err
    (c.truncate.ensures.items ∙ ap (take c.start-start.result)
    c.in_ok-extend_from_slice.ensures.items) in
    all.1

pub returns-in-Ok-clause-ok : goal.returns-in-Ok-clause-ok
returns-in-Ok-clause-ok c =
    let ends : List ℕ = c.self.inside.ends in
    let bytes : List ℕ = c.self.inside.bytes.items in
    let start : c.start-start.result ≡ start_at 0 ends (length ends) =
    c.start-start.ensures ∙ ap (start_at 0 ends) c.len.ensures in
    let end : c.in_ok-end.end ≡ c.start-start.result + length c.args.label.now =
    c.in_ok-end.ensures in
    let all = label_pushed ends bytes c.push.new.self c.extend_from_slice.new.self.items
    c.args.self.now c.args.label.now c.start-start.result c.in_ok-end.end c.self.invariant
    c.self.view_is start end c.requires c.in-Ok.ensures.ok
    c.in_ok-extend_from_slice.ensures.items in
    all.0

pub returns-in-Err-clause-err : goal.returns-in-Err-clause-err
returns-in-Err-clause-err c =
    let ends : List ℕ = c.self.inside.ends in
    let bytes : List ℕ = c.self.inside.bytes.items in
    let start : c.start-start.result ≡ start_at 0 ends (length ends) =
    c.start-start.ensures ∙ ap (start_at 0 ends) c.len.ensures in
    let all = label_kept ends bytes c.push.new.self c.truncate.new.self.items c.args.self.now
    c.args.label.now c.start-start.result c.self.invariant c.self.view_is start c.in-Err.ensures.err
    (c.truncate.ensures.items ∙ ap (take c.start-start.result)
    c.in_ok-extend_from_slice.ensures.items) in
    all.0
