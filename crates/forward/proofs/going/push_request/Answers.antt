use Rattle.std.proofs.Common.{◌≡◌, List, ◌++◌, map, subst}
use Rattle.http_wire.specs.declared.head.Field.{Field}
use Rattle.http_wire.specs.Lines.{ended, field_line}
use Rattle.forward.specs.Dropped.{kept_but, never_kept}
use Rattle.forward.proofs.Joined.{request_joined}
use Rattle.forward.proofs.going.push_request.Goals as goal

pub returns : goal.returns
returns c =
    let kept : c.push_kept.new.head.items ≡ c.push_line.new.head.items
    ++ ended (map field_line (kept_but never_kept c.args.head.now.fields)) =
    subst (λ (fs : List Field). c.push_kept.new.head.items
    ≡ c.push_line.new.head.items ++ ended (map field_line (kept_but never_kept fs)))
    c.items.ensures c.in_ok-push_kept.ensures in
    request_joined c.args.head.now c.args.to.now c.as_str.result.now c.args.out.now.items
    c.push_request_line.new.head.items
    c.push_line.new.head.items c.push_kept.new.head.items c.push_framing.new.head.items
    c.as_str.ensures.value c.in_ok-push_request_line.ensures c.in_ok-push_line.ensures kept
    c.in_ok-push_framing.ensures
